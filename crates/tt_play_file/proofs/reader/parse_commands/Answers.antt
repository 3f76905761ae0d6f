use Rattle.std.proofs.Common.{◌≡◌, ◌+◌, ◌≤◌, List, [], ◌∷◌, ◌++◌, length, Some, None, true, sym, ap, subst, ◌∙◌, arith}
use Rattle.std.specs.Result.{is_ok}
use Rattle.std.proofs.lemmas.Bool.{eqb-true}
use Rattle.std.proofs.lemmas.List.{nil_from_length}
use Rattle.tt_play_file.specs.Reading.{line_at}
use Rattle.tt_play_file.specs.declared.line.TimedLine.{TimedLine}
use Rattle.tt_play_file.proofs.FileLaws.{IsAt, at_first, at_more, at_end, first_bad}
use Rattle.tt_play_file.proofs.reader.parse_commands.Goals as goal

pub reading-init : goal.reading-init
reading-init c = subst (λ (ls : List TimedLine). IsAt c.args.bytes.now c.args.bytes.now 0 0 ls) (sym c.new-lines.ensures.items)
    (at_first c.args.bytes.now)

pub returns-in-Err-Bad-clause-first : goal.returns-in-Err-Bad-clause-first
returns-in-Err-Bad-clause-first c l e =
    let lost : line_at c.first_line.result.0.now ≡ None = rw c.in-Err-Bad.field-0-is at c.in-Err-Bad.ensures in
    let told : c.in-Some.number ≡ l = cc in
    let counted : l ≡ c.reading.count + 1 = omega (arith, told, c.in-Some.ensures.1) in
    first_bad c.args.bytes.now c.reading.rest.now c.first_line.result.0.now _ c.reading.last c.reading.count l c.reading.lines.items
    c.reading.invariant c.first_line.ensures.line (λ line found le. absurd cc) counted

pub returns-then-line-last-clause-first : goal.returns-then-line-last-clause-first
returns-then-line-last-clause-first c l e =
    let found : line_at c.first_line.result.0.now ≡ Some c.in-Ok.line = c.in-Ok.ensures in
    let told : c.in-Some.number ≡ l = cc in
    let counted : l ≡ c.reading.count + 1 = omega (arith, told, c.in-Some.ensures.1) in
    first_bad c.args.bytes.now c.reading.rest.now c.first_line.result.0.now _ c.reading.last c.reading.count l c.reading.lines.items
    c.reading.invariant c.first_line.ensures.line
    (λ line other le. let same : c.in-Ok.line ≡ line = (let both = sym found ∙ other in cc) in
    omega (arith, le, c.if-line-last.true, ap (λ (t : TimedLine). t.at) same)) counted

pub reading-smaller : goal.reading-smaller
reading-smaller c = c.first_line.ensures.shorter

pub reading-preserved : goal.reading-preserved
reading-preserved c =
    let le : c.reading.last ≤ c.in-Ok.line.at = omega (arith, c.if-line-last.false) in
    let ok : is_ok c.push_back.result ≡ true = c.if-is_err.ensures.negation in
    let pushed : c.push_back.new.self.items ≡ c.reading.lines.items ++ c.in-Ok.line ∷ [] = rw ok at c.push_back.ensures.items in
    subst (λ (ls : List TimedLine). IsAt c.args.bytes.now c.first_line.result.1.now c.in-Ok.line.at c.in-Some.number ls) (sym pushed)
    (at_more c.args.bytes.now c.reading.rest.now c.first_line.result.1.now c.first_line.result.0.now c.reading.last c.reading.count
    c.in-Some.number c.reading.lines.items c.in-Ok.line c.reading.invariant c.first_line.ensures.line c.first_line.ensures.one
    c.in-Ok.ensures le (omega (arith, c.in-Some.ensures.1)))

pub returns-clause-is : goal.returns-clause-is
returns-clause-is c = c.reading.invariant.is

pub returns-clause-text : goal.returns-clause-text
returns-clause-text c =
    at_end c.args.bytes.now c.reading.rest.now c.reading.last c.reading.count c.reading.lines.items
    (nil_from_length c.reading.rest.now (eqb-true (length c.reading.rest.now) 0 (sym c.reading-test.ensures))) c.reading.invariant
