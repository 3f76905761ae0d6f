use Rattle.tt_log.proofs.ScriptLaws.{one_of}
use Rattle.tt_log.proofs.script.laws.one_script.Goals as goal

pub returns : goal.returns
returns c = one_of
