use Rattle.std.proofs.Common.{◌++◌, drop}
use Rattle.tt_log.specs.Filling.{Filling}
use Rattle.tt_log.specs.Origin.{Origin}
use Rattle.tt_log.specs.Tellings.{filled}
use Rattle.tt_members.specs.Steps.{steps_in}
use Rattle.tt_outgoing.specs.Sources.{AreAtHand}
use Rattle.tt_outgoing.specs.Staging.{Grows, packets_of}
use Rattle.tt_outgoing.proofs.Packets.{AreLeft}
use Rattle.tt_outgoing.proofs.staged.Staged.stage_all.Given as goal

abbrev pub invariant-loop-step : goal.invariant-loop-step
invariant-loop-step l = record {
  left : (o : Origin) (f : Filling) → AreAtHand o f l.from l.steps
      → AreLeft o f l.from l.admins (l.initial.self ++ packets_of (filled o f (steps_in l.admins l.steps))) (drop l.step-index l.steps)
      l.self;
  kept : Grows l.initial.self l.self;
}
