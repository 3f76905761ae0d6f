use Rattle.tt_log.proofs.ScriptLaws.{read_all}
use Rattle.tt_log.proofs.script.laws.reader_reads_all.Goals as goal

pub returns : goal.returns
returns c = read_all
