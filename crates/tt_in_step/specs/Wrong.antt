-- Wrong servers, to see that the theorem over this game's rules is not blunt: in a small game the client of each is out of step, or is
-- told what is not permitted. Each is the true rules but for one: all that it does not change is `tt_log`'s own.
use Rattle.std.specs.Prelude.{ℕ, ◌-◌, Bool, true, false, nat_lt, List, [], ◌∷◌, ◌++◌, map, flat_map, length, drop, codes}
use Rattle.tt_edge.specs.declared.event.Event.{Event}
use Rattle.tt_edge.specs.declared.event.Event.TheVariants.{Tick}
use Rattle.tt_lockstep.specs.Client.{Client, Following, Desync, run, unfed}
use Rattle.tt_lockstep.specs.Shown.{Running, WrongJoining, Wrong}
use Rattle.tt_lockstep.specs.Wire.{FeedPiece, AdvanceBy}
use Rattle.tt_lockstep.specs.Wrong.{up_to}
use Rattle.tt_game.specs.declared.message.GameMsg.TheVariants.{ClientJoin, ClientGetmap, ClientMapOk, ClientAck, ClientQuit, ServerSync}
use Rattle.tt_world.specs.Setup.{plain}
use Rattle.tt_world.specs.declared.command.Entry.{Entry}
use Rattle.tt_world.specs.World.{WorldState, start}
use Rattle.tt_map.specs.Layout.{map_of}
use Rattle.tt_log.specs.declared.deed.Step.{Step}
use Rattle.tt_log.specs.declared.deed.What.{What}
use Rattle.tt_log.specs.declared.deed.What.TheVariants.{MapPieces, Sync, Entries}
use Rattle.tt_log.specs.Origin.{Origin, game_of, above}
use Rattle.tt_log.specs.Table.{Table, first, world_of}
use Rattle.tt_log.specs.Deed.{Deed, ◌▹◌, where_, Said, game, spelled}
use Rattle.tt_log.specs.Tellings.{Filling, Telling, telling, said_by, filling, piece_messages}
use Rattle.tt_log.specs.PacketRules.{told_command}
use Rattle.tt_log.specs.Watching.{sees_frame}
use Rattle.tt_log.specs.Tick.{stamps, drawn, tells_entries, frame_runs, frame_follows, left_of}
use Rattle.tt_log.specs.Events.{by_event, takes, charged, closed, stops}
use Rattle.tt_log.specs.Told.{told_to}
use Rattle.tt_in_step.specs.Fed.{calls_of}
use Rattle.tt_in_step.specs.Late.{opens, packet_of}

-- ---- the six rules by which a server may go wrong here

pub record Rules : Type 0 where
  -- the entries that a joiner is told behind MAP_OK, by the frame of its map
  pub joiner_entries : Origin → Filling → ℕ → List Entry
  -- the world whose word SYNC tells
  pub sync_world : Filling → WorldState
  -- the bytes of a map that are left to be told
  pub map_left : Filling → List ℕ
  -- what a tick stamps
  pub stamp_entries : Table → List Entry
  -- in which order a tick tells the steps of its commands, and those of its FRAME
  pub tick_order : (commands frames : List Step) → List Step
  -- the entries that stay on the journal where a member has left
  pub kept_entries : Origin → Table → List Entry

-- the rules as they are
abbrev pub true_rules : Rules
true_rules = record {
  joiner_entries = λ o f frame. above o frame f.journal;
  sync_world = λ f. f.world;
  map_left = λ f. f.left;
  stamp_entries = stamps;
  tick_order = λ commands frames. commands ++ frames;
  kept_entries = λ o t. t.journal;
}

-- ---- seven wrong servers

-- a joiner is not told the commands that are stamped and were not run
abbrev pub misses_stamped_commands : Rules
misses_stamped_commands = record true_rules { joiner_entries = λ o f frame. up_to (game_of o) f.frame (above o frame f.journal) }

-- a joiner is told the whole journal, also what is in its map
abbrev pub tells_whole_journal : Rules
tells_whole_journal = record true_rules { joiner_entries = λ o f frame. f.journal }

-- commands are stamped for the frame above the table's own, as they would be if no greater one were permitted
abbrev pub stamps_for_next_frame : Rules
stamps_for_next_frame = record true_rules { stamp_entries = λ t. stamps (record t { top = t.frame }) }

-- FRAME is told before the commands of its tick
abbrev pub tells_frame_first : Rules
tells_frame_first = record true_rules { tick_order = λ commands frames. frames ++ commands }

-- the word is that of the world before the frame
abbrev pub tells_word_before : Rules
tells_word_before = record true_rules { sync_world = λ f. f.before }

-- as many bytes are told, but of the map of the world as it is when they leave
abbrev pub tells_later_map : Rules
tells_later_map = record true_rules { map_left = λ f. let bytes = map_of f.world in drop (length bytes - length f.left) bytes }

-- where a member has left, the commands that are stamped and were not run are dropped
abbrev pub drops_stamped_commands : Rules
drops_stamped_commands = record true_rules { kept_entries = λ o t. up_to (game_of o) t.frame t.journal }

-- ---- a server by such rules

module _ (rules : Rules) (o : Origin) where
  -- what a step says
  abbrev pub ruled_said : Filling → What → List Said
  ruled_said f MapPieces = map game (piece_messages (rules.map_left f))
  ruled_said f Sync = game (ServerSync f.frame (rules.sync_world f).words.0) ∷ []
  ruled_said f (Entries frame) = map (λ e. game (told_command e)) (rules.joiner_entries o f frame)
  ruled_said f what = said_by o f what

  abbrev pub ruled_filled : Filling → List Step → List Telling
  ruled_filled f steps = flat_map (λ (s : Step). map (telling s.to) (ruled_said f s.what)) steps

  -- the commands of a tick
  abbrev pub ruled_stamped : Table → Deed
  ruled_stamped t = let entries = rules.stamp_entries t in
      tells_entries entries (record t { members = map drawn t.members; own = []; journal = t.journal ++ entries })

  -- and its frame
  abbrev pub ruled_runs : Table → Deed
  ruled_runs t = let commands = ruled_stamped t in let frames = frame_runs o commands.table in
      record { table = frames.table; told = rules.tick_order commands.told frames.told }

  abbrev pub ruled_event : Event → Table → Deed
  ruled_event Tick t = ruled_runs t ▹ sees_frame ▹ frame_follows (world_of o t) (left_of o t) o
  ruled_event e t = by_event o e t

  -- what stays on the journal, where a member has left
  abbrev pub kept_where : Bool → Table → Table
  kept_where true t = record t { journal = rules.kept_entries o t }
  kept_where false t = t

  abbrev pub has_left : Table → Table → Bool
  has_left before behind = nat_lt (length behind.members) (length before.members)

  abbrev pub ruled_kept : Table → Deed → Deed
  ruled_kept before d = record { table = kept_where (has_left before d.table) d.table; told = d.told }

  abbrev pub ruled_taken : Event → Table → Deed
  ruled_taken e t = ruled_kept t (ruled_event e t) ▹ charged e ▹ closed o (stops o e t)

  abbrev pub ruled_deed : Event → Table → Deed
  ruled_deed e t = where_ (takes t e) (ruled_taken e) t

  -- what an event tells a connection by it
  abbrev pub ruled_told : Table → Deed → ℕ → List Said
  ruled_told before d conn = told_to conn (ruled_filled (filling o before d.table) d.told)

  -- all that a connection is told by events, from a table
  abbrev pub ruled_heard : Table → List Event → ℕ → List Said
  ruled_heard t [] conn = []
  ruled_heard t (e ∷ events) conn = ruled_told t (ruled_deed e t) conn ++ ruled_heard (ruled_deed e t).table events conn

  -- the bytes sent to a connection
  abbrev pub ruled_sent : List Event → ℕ → List ℕ
  ruled_sent events conn = flat_map spelled (ruled_heard (first o) events conn)

-- ---- where a client comes to

pub data Outcome : Type 0 where
  -- it has no map
  NoMap : Outcome
  -- it stands at this frame, and found nothing amiss
  StandsAt : (frame : ℕ) → Outcome
  -- it was told what is not permitted
  ToldWrong : Outcome
  -- its word of this frame is not the one that it was told
  OutOfStepAt : (frame : ℕ) → Outcome

abbrev pub outcome_of : Client WorldState Entry → Outcome
outcome_of (Following (Running v) f) = StandsAt f
outcome_of (Following (Wrong v) f) = ToldWrong
outcome_of (Following WrongJoining f) = ToldWrong
outcome_of (Following other f) = NoMap
outcome_of (Desync v f g mine theirs) = OutOfStepAt g

-- a client of a server by such rules, that was fed all its bytes and ran as far as it may
abbrev pub outcome : Rules → Origin → List Event → ℕ → Outcome
outcome rules o events conn =
    outcome_of (run (game_of o) unfed (calls_of (FeedPiece (ruled_sent rules o events conn) ∷ AdvanceBy 9 ∷ [])))

-- ---- small games

-- Games with a word at each frame. A company that is founded changes what is drawn at the end of a day, and this day ends with frame 5.
abbrev pub evening : ℕ → Origin
evening frame_freq = record { setup = record plain { frame_freq = frame_freq; sync_freq = 1 }; start = record (start plain) { part = 69 } }

-- the permitted frame is the server's own; and it runs ahead by three
abbrev pub evening_at_once : Origin
evening_at_once = evening 0

abbrev pub evening_ahead : Origin
evening_ahead = evening 3

-- Ann joins and founds a company, which runs by its frame; then Bob joins
abbrev pub joins_late : List Event
joins_late =
    opens ∷ packet_of 1 (ClientJoin plain.revision 13 (codes "Ann") 254) ∷ packet_of 1 ClientGetmap ∷ Tick ∷ packet_of 1 ClientMapOk ∷ Tick
    ∷ packet_of 1 (ClientAck 1 0) ∷ Tick ∷ opens ∷ packet_of 2 (ClientJoin plain.revision 13 (codes "Bob") 255) ∷ packet_of 2 ClientGetmap
    ∷ Tick ∷ packet_of 2 ClientMapOk ∷ Tick ∷ []

-- Ann joins and founds a company, for which a command is stamped; before its frame has come, Bob leaves
abbrev pub leaves_early : List Event
leaves_early =
    opens ∷ packet_of 1 (ClientJoin plain.revision 13 (codes "Ann") 254) ∷ packet_of 1 ClientGetmap ∷ Tick ∷ packet_of 1 ClientMapOk ∷ Tick
    ∷ packet_of 1 (ClientAck 1 0) ∷ opens ∷ packet_of 2 (ClientJoin plain.revision 13 (codes "Bob") 255) ∷ Tick ∷ packet_of 2 ClientQuit
    ∷ Tick ∷ Tick ∷ Tick ∷ []
