use Rattle.tt_outgoing.proofs.Carrying.{carried-on}
use Rattle.tt_outgoing.proofs.laws.a_download_goes_on.Goals as goal

pub returns : goal.returns
returns c = carried-on
