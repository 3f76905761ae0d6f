use Rattle.tt_hour.proofs.ScriptLaws.{hour_is}
use Rattle.tt_hour.proofs.laws.hour_is_script.Goals as goal

pub returns : goal.returns
returns c = hour_is
