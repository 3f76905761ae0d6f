-- How a member ends: what is told, and what changes.
use Rattle.std.specs.Prelude.{ℕ, ◌≤◌, Bool, true, false, not, ◌==◌, List, [], ◌∷◌, ◌++◌, map, filter}
use Rattle.tt_game.specs.declared.message.GameMsg.TheVariants.{ServerError}
use Rattle.tt_admin.specs.declared.message.AdminMsg.{AdminMsg}
use Rattle.tt_admin.specs.declared.message.AdminMsg.TheVariants.{ServerClientQuit, ServerClientError}
use Rattle.tt_log.specs.declared.deed.What.TheVariants.{End}
use Rattle.tt_log.specs.Admin.{client_updates}
use Rattle.tt_log.specs.Member.{Member, is_playing, is_welcomed}
use Rattle.tt_log.specs.Ending.{Farewell, Quitting, Failing, news_of}
use Rattle.tt_members.specs.declared.edit.Edit.{Edit}
use Rattle.tt_members.specs.declared.edit.Edit.TheVariants.{Leave}
use Rattle.tt_members.specs.declared.leaving.Parting.{Parting}
use Rattle.tt_members.specs.declared.leaving.Parting.TheVariants.{Quits, Fails}
use Rattle.tt_members.specs.declared.step.Audience.TheVariants.{One}
use Rattle.tt_members.specs.declared.step.Step.{Step}
use Rattle.tt_members.specs.Steps.{says, says_one, says_several, shows}
use Rattle.tt_members.specs.Edits.{place_of}
use Rattle.tt_members.specs.Queues.{unasking, unasked}

-- ---- how a member goes, as the code says it

abbrev pub farewell_of : Parting → Farewell
farewell_of Quits = Quitting
farewell_of (Fails code) = Failing code

-- a reason has a code of at most 20
abbrev pub IsParting : Parting → Type 0
IsParting Quits = Unit {0}
IsParting (Fails code) = code ≤ 20

-- ---- connections

-- those that play
abbrev pub playing_in : List Member → List ℕ
playing_in ms = map (λ m. m.conn) (filter is_playing ms)

-- all but one
abbrev pub but : ℕ → List ℕ → List ℕ
but conn conns = filter (λ c. not (c == conn)) conns

-- the others that play
abbrev pub others : ℕ → List Member → List ℕ
others conn ms = but conn (playing_in ms)

-- ---- an end

-- what admins are told of it
abbrev pub report_of : Farewell → Member → AdminMsg
report_of Quitting m = ServerClientQuit m.client
report_of (Failing code) m = ServerClientError m.client code

-- where it was welcomed, those that still play and the admins that watch are told
abbrev pub farewell_if : Bool → Farewell → Member → List ℕ → List Step
farewell_if true farewell m conns = says_several conns (news_of farewell m) ∷ shows client_updates (report_of farewell m) ∷ []
farewell_if false farewell m conns = []

-- a member ends: these others play, and these stand in the queue
abbrev pub leaving : Member → Farewell → List ℕ → List ℕ → List Step
leaving m farewell conns queue = says (One m.conn) End ∷ farewell_if (is_welcomed m) farewell m conns
    ++ unasking (place_of m.conn queue) queue

abbrev pub left : ℕ → ℕ → List ℕ → List Edit
left conn frame queue = Leave conn ∷ unasked conn frame (place_of conn queue) queue

-- it is told a code, and ends
abbrev pub ending : Member → ℕ → List ℕ → List ℕ → List Step
ending m code conns queue = says_one m.conn (ServerError code) ∷ leaving m (Failing code) conns queue
