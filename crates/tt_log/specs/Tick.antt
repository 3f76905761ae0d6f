-- A tick: nine steps in order.
use Rattle.std.specs.Prelude.{ℕ, zero, suc, ◌+◌, ◌-◌, ◌*◌, ◌%◌, Bool, true, false, not, ◌&&◌, ◌||◌, ◌==◌, nat_lt, List, [], ◌∷◌, ◌++◌, map}
use Rattle.std.specs.Prelude.{flat_map, length, take, drop, Option, Some, None}
use Rattle.tt_world.specs.declared.command.Code.{Code}
use Rattle.tt_world.specs.declared.command.Code.TheVariants.{NewCompany}
use Rattle.tt_world.specs.declared.command.Command.{Command}
use Rattle.tt_world.specs.declared.command.Entry.{Entry}
use Rattle.tt_world.specs.declared.setup.Setup.{Setup}
use Rattle.tt_world.specs.World.{WorldState}
use Rattle.tt_map.specs.Layout.{map_of}
use Rattle.tt_rules.specs.declared.status.Status.{Status}
use Rattle.tt_rules.specs.declared.status.Status.TheVariants.{Inactive, NewgrfsCheck, AuthGame, AuthCompany, Authorized, MapWait, Map}
use Rattle.tt_rules.specs.declared.status.Status.TheVariants.{DoneMap, PreActive, Active}
use Rattle.tt_rules.specs.Codes.{timeout_password, timeout_computer, timeout_map, timeout_join}
use Rattle.tt_rules.specs.Companies.{least_free, founded, living}
use Rattle.tt_rules.specs.Verdict.{spectator}
use Rattle.tt_rules.specs.Reasons.{◌⇒◌}
use Rattle.tt_log.specs.declared.deed.What.TheVariants.{Stamp, Sync, MapPieces}
use Rattle.tt_log.specs.Member.{Member}
use Rattle.tt_log.specs.Origin.{Origin, at_frame, world_at}
use Rattle.tt_log.specs.Table.{playing, Table, member_of, member_with, with_member, world_of, downloader}
use Rattle.tt_log.specs.Deed.{tells_what, Deed, ◌▹◌, where_, where_some, becomes}
use Rattle.tt_log.specs.Frames.{frames_told}
use Rattle.tt_log.specs.Ending.{ends}
use Rattle.tt_log.specs.PacketRules.{moves}
use Rattle.tt_log.specs.Watching.{sees_stamp, sees_frame}
use Rattle.tt_log.specs.Desk.{admins_limited}
use Rattle.tt_log.specs.Polls.{admins_told}

-- ---- 1. Stamping

-- the server's own commands are its own as sender 1, for no company
abbrev pub own_entry : ℕ → Command → Entry
own_entry frame c = record { frame = frame; sender = 1; company = spectator; command = c }

abbrev pub entry_of : ℕ → Member → ℕ × Command → Entry
entry_of frame m c = record { frame = frame; sender = m.client; company = c.0; command = c.1 }

-- what is stamped: the server's own list, whole, then up to two waiting commands of each member
abbrev pub stamps : Table → List Entry
stamps t = map (own_entry (t.top + 1)) t.own ++ flat_map (λ m. map (entry_of (t.top + 1) m) (take 2 m.waiting)) t.members

-- a member without its two oldest commands
abbrev pub drawn : Member → Member
drawn m = record m { waiting = drop 2 m.waiting }

-- each of them is told to all that play
abbrev pub tells_entries : List Entry → Table → Deed
tells_entries [] t = becomes t
tells_entries (e ∷ es) t = tells_what (playing t) (Stamp e) t ▹ sees_stamp e ▹ tells_entries es

abbrev pub stamped : Table → Deed
stamped t = tells_entries (stamps t) (record t { members = map drawn t.members; own = []; journal = t.journal ++ stamps t })

-- ---- 2 and 3. The frame, and how far it may be run. The world is that of the journal at the table's frame

-- one frame more; where it would pass the greatest permitted one, this is raised, and all that play are told
abbrev pub frame_runs_by : Bool → Origin → Table → Deed
frame_runs_by true o t = frames_told t.members (record t { frame = t.frame + 1; top = t.frame + 1 + o.setup.frame_freq })
frame_runs_by false o t = becomes (record t { frame = t.frame + 1 })

abbrev pub frame_runs : Origin → Table → Deed
frame_runs o t = frame_runs_by (nat_lt t.top (t.frame + 1)) o t

-- ---- 4. Founders: whose company was founded in this frame gets it

-- the company that a command founds where these live: the least number that is free. Where none is, it is refused
abbrev pub founding : Code → List Bool → Option ℕ
founding NewCompany live = least_free live
founding code live = None

-- the client of a new company, and the company
abbrev pub founder_of : Option ℕ → ℕ → List (ℕ × ℕ)
founder_of None client = []
founder_of (Some company) client = (client, company) ∷ []

-- the companies that live behind it
abbrev pub living_with : Option ℕ → List Bool → List Bool
living_with None live = live
living_with (Some company) live = founded company live

-- the client and the company of each NewCompany that is done, where these companies live before
abbrev pub foundings : List Bool → List Entry → List (ℕ × ℕ)
foundings live [] = []
foundings live (e ∷ es) = let new = founding e.command.code live in founder_of new e.command.number ++ foundings (living_with new live) es

abbrev pub all_moved : List (ℕ × ℕ) → Table → Deed
all_moved [] t = becomes t
all_moved (f ∷ fs) t = where_some (member_with f.0 t) (λ m. moves m f.1) t ▹ all_moved fs

abbrev pub founders_moved : Origin → List Bool → Table → Deed
founders_moved o live t = all_moved (foundings live (at_frame o t.frame t.journal)) t

-- ---- 5. SYNC

abbrev pub synced : Origin → Table → Deed
synced o t = where_ (t.frame % o.setup.sync_freq == 0) (λ t. tells_what (playing t) Sync t) t

-- ---- 6. Map pieces

-- bytes in pieces of 1,400 at most, the first n of them
abbrev pub pieces_of : ℕ → List ℕ → List (List ℕ)
pieces_of n [] = []
pieces_of zero (b ∷ bs) = []
pieces_of (suc n) (b ∷ bs) = take 1400 (b ∷ bs) ∷ pieces_of n (drop 1400 (b ∷ bs))

-- the bytes of its map that a member was not told yet
abbrev pub map_left : Origin → Table → Member → List ℕ
map_left o t m = drop (1400 * m.pieces) (map_of (world_at o t.journal m.map_frame))

abbrev pub left_by : Option Member → Origin → Table → List ℕ
left_by None o t = []
left_by (Some m) o t = map_left o t m

-- the bytes of the running download that were not told yet
abbrev pub left_of : Origin → Table → List ℕ
left_of o t = left_by (downloader t) o t

-- its map was told whole: it is DONE_MAP
abbrev pub finishes_map : Member → Table → Deed
finishes_map m t = becomes (with_member (record m { status = DoneMap }) t)

-- the member is told up to four pieces, which count as told, and behind the last one that the map is done
abbrev pub next_pieces : List ℕ → Member → Table → Deed
next_pieces left m t = let told = record m { pieces = m.pieces + length (pieces_of 4 left) } in
    tells_what (m.conn ∷ []) MapPieces (with_member told t) ▹ where_ (not (nat_lt (4 * 1400) (length left))) (finishes_map told)

abbrev pub mapped : List ℕ → Table → Deed
mapped left t = where_some (downloader t) (next_pieces left) t

-- ---- 7. Time limits

-- a token is open for longer than a member may lag
abbrev pub keeps_token : Setup → ℕ → Member → Bool
keeps_token setup frame m = not (m.token == 0) && nat_lt setup.lag (frame - m.token_frame)

-- the code of the limit that a member has passed at a frame, by its status
abbrev pub late_in : Status → Setup → ℕ → Member → Option ℕ
late_in Inactive setup frame m = nat_lt setup.init (frame - m.since) ⇒ timeout_computer
late_in NewgrfsCheck setup frame m = None
late_in AuthGame setup frame m = nat_lt setup.pass_limit (frame - m.since) ⇒ timeout_password
late_in AuthCompany setup frame m = nat_lt setup.pass_limit (frame - m.since) ⇒ timeout_password
late_in Authorized setup frame m = nat_lt setup.init (frame - m.since) ⇒ timeout_computer
late_in MapWait setup frame m = None
late_in Map setup frame m = nat_lt setup.download (frame - m.since) ⇒ timeout_map
late_in DoneMap setup frame m = nat_lt setup.download (frame - m.since) ⇒ timeout_map
late_in PreActive setup frame m = nat_lt setup.join (frame - m.since) ⇒ timeout_join
late_in Active setup frame m = nat_lt setup.lag (frame - m.acked) || keeps_token setup frame m ⇒ timeout_computer

abbrev pub late : Setup → ℕ → Member → Option ℕ
late setup frame m = late_in m.status setup frame m

abbrev pub limited : Origin → Member → Table → Deed
limited o m t = where_some (late o.setup t.frame m) (ends m) t

-- in order of arrival, each as it is by then
abbrev pub each_limited : Origin → List Member → Table → Deed
each_limited o [] t = becomes t
each_limited o (m ∷ ms) t = where_some (member_of t m.conn) (limited o) t ▹ each_limited o ms

abbrev pub timed : Origin → Table → Deed
timed o t = each_limited o t.members t

-- ---- the steps in order; the ninth, the end of the game, follows every event

-- the steps behind the frame: the live companies and the day are those of the world before it, and the bytes of the running
-- download those that were left before it
abbrev pub frame_follows : WorldState → List ℕ → Origin → Table → Deed
frame_follows before left o t = founders_moved o (living before) t ▹ synced o ▹ mapped left ▹ timed o ▹ admins_limited o
    ▹ admins_told before.day o

abbrev pub ticked : Origin → Table → Deed
ticked o t = stamped t ▹ frame_runs o ▹ sees_frame ▹ frame_follows (world_of o t) (left_of o t) o
