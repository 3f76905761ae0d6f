use Rattle.tt_lines.specs.Lines.{lines_of}
use Rattle.tt_log.proofs.ScriptLaws.{parsed_only, parsed_refused}
use Rattle.tt_log.proofs.PrintLaws.{parsed_script}
use Rattle.tt_log.proofs.script.parse_script.Goals as goal

pub returns-clause-only : goal.returns-clause-only
returns-clause-only c = parsed_only c.parsed.result (lines_of c.args.bytes.now) c.parsed.ensures.found c.parsed.ensures.first

pub returns-clause-refused : goal.returns-clause-refused
returns-clause-refused c = parsed_refused c.parsed.result (lines_of c.args.bytes.now) c.parsed.ensures.found c.parsed.ensures.first

pub returns-clause-script : goal.returns-clause-script
returns-clause-script c = parsed_script c.parsed.result (lines_of c.args.bytes.now) c.parsed.ensures.found
