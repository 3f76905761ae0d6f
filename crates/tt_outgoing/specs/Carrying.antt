-- How the running download goes on by an event: what a core that keeps its bytes has to know.
use Rattle.std.specs.Prelude.{◌≡◌, Bool, true, false, List, cond, drop, is_some}
use Rattle.std.specs.List.{list_any}
use Rattle.tt_edge.specs.declared.event.Event.{Event}
use Rattle.tt_edge.specs.Event.{is_tick}
use Rattle.tt_map.specs.Layout.{map_of}
use Rattle.tt_log.specs.declared.deed.Step.{Step}
use Rattle.tt_log.specs.declared.deed.What.{What}
use Rattle.tt_log.specs.declared.deed.What.TheVariants.{MapBegin}
use Rattle.tt_log.specs.Origin.{Origin}
use Rattle.tt_log.specs.Table.{Table, downloader, world_of}
use Rattle.tt_log.specs.Tick.{left_of}
use Rattle.tt_log.specs.Events.{by_event}
use Rattle.tt_outgoing.specs.Sources.{four_pieces}

-- that a map begins
abbrev pub is_begin : What → Bool
is_begin MapBegin = true
is_begin other = false

-- some step says so
abbrev pub begins_map : List Step → Bool
begins_map steps = list_any (λ (s : Step). is_begin s.what) steps

-- how the running download goes on by the rule of an event
pub record IsCarriedOn (o : Origin) (e : Event) (t : Table) : Type 0 where
  -- where a map begins, somebody downloads, and all of the map of the world behind the event is left
  pub begun : begins_map (by_event o e t).told ≡ true → left_of o (by_event o e t).table ≡ map_of (world_of o (by_event o e t).table)
  -- where none begins and somebody still downloads, four pieces fewer are left at a tick, and as many as before at another event
  pub goes : begins_map (by_event o e t).told ≡ false → is_some (downloader (by_event o e t).table) ≡ true
      → left_of o (by_event o e t).table ≡ cond (is_tick e) (drop four_pieces (left_of o t)) (left_of o t)
