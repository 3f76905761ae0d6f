-- How those stand that are in the queue: the first one is told its map, or has it and has not entered yet; the others wait.
-- And how far each map has been told.
use Rattle.std.specs.Prelude.{◌≡◌, ℕ, ◌*◌, ◌≤◌, ◌<◌, Bool, true, ◌||◌, List, [], ◌∷◌, length, Some}
use Rattle.std.specs.List.{AllByRecursion}
use Rattle.tt_world.specs.declared.command.Entry.{Entry}
use Rattle.tt_map.specs.Layout.{map_of}
use Rattle.tt_rules.specs.Statuses.{rank}
use Rattle.tt_rules.specs.declared.status.Status.TheVariants.{MapWait, Map, DoneMap}
use Rattle.tt_log.specs.Member.{Member, is_in}
use Rattle.tt_log.specs.Origin.{Origin, world_at}
use Rattle.tt_log.specs.Table.{Table, member_of}

-- the member on a connection passes a test
abbrev pub IsMember : (Member → Bool) → Table → ℕ → Type 0
IsMember test t conn = (m : Member) × (member_of t conn ≡ Some m) × (test m ≡ true)

abbrev pub is_downloading : Member → Bool
is_downloading m = is_in Map m || is_in DoneMap m

abbrev pub IsQueue : Table → List ℕ → Type 0
IsQueue t [] = Unit {0}
IsQueue t (conn ∷ conns) = IsMember is_downloading t conn × AllByRecursion (IsMember (is_in MapWait) t) conns

-- ---- how far a member's map has been told

-- at a frame and with a journal: its map is that of no later frame, and of an earlier one once it was told whole; until then
-- bytes of it are left
pub record IsMapped (o : Origin) (journal : List Entry) (frame : ℕ) (m : Member) : Type 0 where
  pub begun : m.map_frame ≤ frame
  pub done : 7 ≤ rank m.status → m.map_frame < frame
  pub left : rank m.status ≡ 6 → 1400 * m.pieces < length (map_of (world_at o journal m.map_frame))

abbrev pub AreMapped : Origin → Table → Type 0
AreMapped o t = AllByRecursion (IsMapped o t.journal t.frame) t.members
