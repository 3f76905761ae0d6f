use Rattle.tt_world.specs.Commands.{refusal, done}
use Rattle.tt_world.proofs.ApplyLaws.{refused_stays}
use Rattle.tt_world.proofs.laws.refused_command_changes_nothing.Goals as goal

pub returns : goal.returns
returns c = refused_stays (refusal c.args.world.now c.args.entry.now) c.args.world.now (done c.args.world.now c.args.entry.now)
