use Rattle.tt_log.proofs.PrintLaws.{spelled_script}
use Rattle.tt_log.proofs.script.laws.parsed_can_be_printed.Goals as goal

pub returns : goal.returns
returns c = spelled_script
