use Rattle.std.proofs.Common.{◌≡◌, ◌∙◌, ℕ, ap, arith, drop, sym}
use Rattle.std.proofs.lemmas.List.{take_rest}
use Rattle.tt_log.specs.Origin.{above}
use Rattle.tt_outgoing.proofs.Journals.{above_rest}
use Rattle.tt_outgoing.proofs.staging.entries_behind.Goals as goal
use Rattle.tt_outgoing.proofs.staging.entries_behind.Goals.{then-loop-first-test+else-journal-first, else-loop-first-test}

pub returns : goal.returns
returns c =
    let j = c.args.journal.now in
    let first = c.loop-first.first in
    record {
      above = λ o is.
          take_rest j first ∙ sym (c.loop-first.invariant.1 o)
          ∙ sym (elim c.loop-first-test.branch [
            | then-loop-first-test+else-journal-first w ↦
                above_rest o 0 c.args.frame j first w.index-journal-first.result is c.loop-first.invariant.0 w.loop-first-test.true
                w.if-journal-first.false
            | else-loop-first-test w ↦
                let none : first ≡ 0 = omega (arith, w.loop-first-test.false) in ap (λ (i : ℕ). above o c.args.frame (drop i j)) (sym none)
          ]);
    }
