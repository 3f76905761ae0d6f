use Rattle.tt_lockstep.proofs.Streams.{lockstep_holds}
use Rattle.tt_lockstep.proofs.theorem.lockstep.Goals as goal

pub returns : goal.returns
returns g c = record { in_step = λ game steps calls later e. lockstep_holds game steps calls later e }
