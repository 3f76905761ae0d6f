use Rattle.tt_log.proofs.ScriptLaws.{fewer_lines, same_first}
use Rattle.tt_log.proofs.script.laws.one_first_bad_line.Goals as goal

pub returns-clause-front : goal.returns-clause-front
returns-clause-front c = fewer_lines

pub returns-clause-one : goal.returns-clause-one
returns-clause-one c = same_first
