use Rattle.tt_session.proofs.InSteps.{run_in_step}
use Rattle.tt_session.proofs.laws.prints_in_step.Goals as goal

pub returns : goal.returns
returns c = record {
  sent = λ o events conn login lines l l2 t t2 k k2 e run.
      run_in_step o events conn login lines l l2 t t2 k k2 e (λ calls sent. c.clients_are_in_step.ensures.sent o events conn login calls
      sent) run;
}
