use Rattle.tt_client.proofs.Shows.{client_shown}
use Rattle.tt_client.proofs.laws.has_what_is_shown.Goals as goal

pub returns : goal.returns
returns c = record { shown = client_shown }
