use Rattle.std.proofs.Common.{◌≡◌, ◌∙◌, ◌++◌, List, ℕ, ap, subst, arith}
use Rattle.tt_lines.specs.Lines.{lines_of, IsFirstBad}
use Rattle.tt_show.specs.Lists.{IsList}
use Rattle.tt_show.specs.Streams.{bytes_shown}
use Rattle.tt_show.proofs.ListLaws.{one_more, first_bad}
use Rattle.tt_show.proofs.list.show.Goals as goal

pub returns-in_default-2-clause-bad : goal.returns-in_default-2-clause-bad
returns-in_default-2-clause-bad c = λ l is.
    let none = rw c.in_default-2.is at c.in_ok-family.ensures.none in
    let same : c.in-Some.next ≡ l = cc in
    let P : ℕ → Type 0 = λ n. IsFirstBad IsList (lines_of c.args.input.now) n in
    subst P same
    (first_bad c.args.input.now c.loop-rest.rest.now c.first_line.result.1.now c.loop-rest.text.items c.first_line.result.0.now
    c.loop-rest.number c.in-Some.next c.loop-rest.invariant c.first_line.ensures.line none (omega (arith, c.in-Some.ensures)))

pub loop-rest-preserved : goal.loop-rest-preserved
loop-rest-preserved c =
    let found = rw c.in-Some-2.is at c.in_ok-family.ensures.found in
    let shown = c.in_ok-show_bytes.ensures.text ∙ ap (λ (bytes : List ℕ). c.loop-rest.text.items ++ bytes_shown c.in-Some-2.family bytes)
    c.deref.ensures.value in
    one_more c.args.input.now c.loop-rest.rest.now c.first_line.result.1.now c.loop-rest.text.items c.show_bytes.new.text.items
    c.first_line.result.0.now c.loop-rest.number c.in-Some.next
    (record { family = c.in-Some-2.family; bytes = c.in-Some-2.bytes.items }) c.loop-rest.invariant c.first_line.ensures.line found.0
    found.1 shown (omega (arith, c.in-Some.ensures))
