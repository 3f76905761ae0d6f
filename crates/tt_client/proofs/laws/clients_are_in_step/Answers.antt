use Rattle.tt_client.proofs.Lockstep.{client_in_step}
use Rattle.tt_client.proofs.laws.clients_are_in_step.Goals as goal

pub returns : goal.returns
returns c = record { sent = client_in_step c.all_in_step_however_cut.ensures.runs_in_step c.fronts_show.ensures.ends }
