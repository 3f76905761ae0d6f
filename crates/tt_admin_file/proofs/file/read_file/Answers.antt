use Rattle.std.proofs.Common.{◌≡◌, ℕ, Err, subst, arith}
use Rattle.tt_lines.specs.Lines.{lines_of, IsFirstBad}
use Rattle.tt_log.specs.Rows.{LineRead}
use Rattle.tt_log.specs.declared.script.bad.NoLine.{NoLine}
use Rattle.tt_admin_file.specs.Commands.{IsFile}
use Rattle.tt_admin_file.specs.Reading.{line_at}
use Rattle.tt_admin_file.proofs.FileLaws.{one_more, first_bad, read_back}
use Rattle.tt_admin_file.proofs.file.read_file.Goals as goal

pub returns-in-Err-Bad-clause-first : goal.returns-in-Err-Bad-clause-first
returns-in-Err-Bad-clause-first c = λ l is.
    let same : c.in-Some.next ≡ l = cc in
    let P : ℕ → Type 0 = λ n. IsFirstBad IsFile (lines_of c.args.input.now) n in
    let none = subst (λ (e : NoLine). LineRead (Err e) (line_at c.first_line.result.0.now)) c.in-Err-Bad.field-0-is c.in-Err-Bad.ensures in
    subst P same
    (first_bad c.args.input.now c.reading.rest.now c.first_line.result.1.now c.first_line.result.0.now c.reading.lines.items
    c.reading.number c.in-Some.next c.reading.invariant c.first_line.ensures.line none (omega (arith, c.in-Some.ensures)))

pub reading-preserved : goal.reading-preserved
reading-preserved c = one_more c.args.input.now c.reading.rest.now c.first_line.result.1.now c.first_line.result.0.now c.reading.lines.items
    c.push.new.self.items c.reading.number c.in-Some.next c.in-Ok.line c.reading.invariant c.first_line.ensures.line
    (read_back c.first_line.result.0.now c.in-Ok.line c.first_line.ensures.one c.in-Ok.ensures)
    c.in_ok-push-in-Ok.ensures.items (omega (arith, c.in-Some.ensures))
