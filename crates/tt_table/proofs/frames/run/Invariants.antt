use Rattle.std.proofs.Common.{◌≡◌}
use Rattle.std.specs.Prelude.{drop}
use Rattle.tt_lockstep.specs.Journal.{applied_all}
use Rattle.tt_log.specs.Origin.{Origin, game_of}
use Rattle.tt_table.proofs.frames.run.Given as goal

-- what is left leads to the same world
abbrev pub invariant-loop-entry : goal.invariant-loop-entry
invariant-loop-entry l = (o : Origin) → applied_all (game_of o) l.world (drop l.entry-index l.due) ≡ applied_all (game_of o) l.initial.world
    l.due
