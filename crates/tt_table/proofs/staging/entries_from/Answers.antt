use Rattle.std.proofs.Common.{◌≡◌, ◌∙◌, ap, sym, ℕ, drop, arith}
use Rattle.std.proofs.lemmas.List.{take_rest}
use Rattle.tt_log.specs.Origin.{at_frame}
use Rattle.tt_table.proofs.Journals.{at_last}
use Rattle.tt_table.proofs.staging.entries_from.Goals as goal
use Rattle.tt_table.proofs.staging.entries_from.Goals.{then-loop-first-test+else-journal-first, else-loop-first-test}

pub returns : goal.returns
returns c =
    let j = c.args.journal.now in
    let first = c.loop-first.first in
    record {
      at = λ o is up.
          take_rest j first ∙ sym (c.loop-first.invariant.1 o)
          ∙ sym (elim c.loop-first-test.branch [
            | then-loop-first-test+else-journal-first w ↦
                at_last o c.args.frame j first w.index-journal-first.result is up c.loop-first.invariant.0 w.loop-first-test.true
                w.if-journal-first.false
            | else-loop-first-test w ↦
                let none : first ≡ 0 = omega (arith, w.loop-first-test.false) in
                ap (λ (i : ℕ). at_frame o c.args.frame (drop i j)) (sym none)
          ]);
    }
