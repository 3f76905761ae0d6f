use Rattle.tt_log.proofs.PrintLaws.{spelled_text}
use Rattle.tt_log.proofs.script.laws.printed_is_parsed.Goals as goal

pub returns : goal.returns
returns c = spelled_text
