use Rattle.tt_world.proofs.ApplyLaws.{applied_time}
use Rattle.tt_world.proofs.laws.command_takes_no_time.Goals as goal

pub returns : goal.returns
returns c =
    let same = applied_time c.args.world.now c.args.entry.now in
    record { words = same.0; day = same.1; part = same.2 }
