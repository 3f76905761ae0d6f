-- Who is told that the game is over.
use Rattle.std.specs.Prelude.{ℕ, ◌||◌, ◌==◌, nat_le, List, [], map, if◌then◌else◌}
use Rattle.tt_edge.specs.declared.event.Event.{Event}
use Rattle.tt_log.specs.Events.{by_event, charged, last_frame, stops}
use Rattle.tt_log.specs.Origin.{Origin}
use Rattle.tt_log.specs.Table.{Table}
use Rattle.std.specs.Prelude.{Bool}

-- the two lists, and for how many connections there is room in each
pub record Ended : Type 0 where
  pub members : List ℕ
  pub admins : List ℕ
  pub room : ℕ

-- the table behind the rule of an event, and what it costs
abbrev pub ruled : Origin → Event → Table → Table
ruled o e t = (charged e (by_event o e t).table).table

-- the game is over by an event: it says so, or at its cost, or at its last frame
abbrev pub is_last : Origin → Event → Table → Bool
is_last o e t = let u = ruled o e t in stops o e t || nat_le o.setup.cost u.cost || (u.frame == last_frame)

-- the connections of members and of admins that are there then
abbrev pub ended_members : Origin → Event → Table → List ℕ
ended_members o e t = if is_last o e t then map (λ m. m.conn) (by_event o e t).table.members else []

abbrev pub ended_admins : Origin → Event → Table → List ℕ
ended_admins o e t = if is_last o e t then map (λ a. a.conn) (by_event o e t).table.admins else []
