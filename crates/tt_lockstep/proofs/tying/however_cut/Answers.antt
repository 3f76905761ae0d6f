use Rattle.tt_lockstep.proofs.Wires.{bytes_in_step}
use Rattle.tt_lockstep.proofs.tying.however_cut.Goals as goal

pub returns : goal.returns
returns g c = record {
  in_step = λ game dialog wire server ms calls later leads back e. bytes_in_step wire dialog game server ms calls
      later leads back e;
}
