use Rattle.std.proofs.Common.{◌≡◌, ◌≤◌, List, ℕ, true, length, sym, arith, subst, ◌∙◌}
use Rattle.std.proofs.lemmas.Bool.{false≢true}
use Rattle.tt_frame.specs.Text.{is_plain}
use Rattle.tt_gc_table.proofs.Plain.{plain_code}
use Rattle.tt_gc_table.proofs.codes.code_text.Goals as goal

pub unreachable-requires : goal.unreachable-requires
unreachable-requires c =
    let bytes : c.as_slice.result.now ≡ c.args.code.now = c.as_slice.ensures ∙ c.text-bytes.ensures.same in
    false≢true (c.in-None.ensures.plain (subst (λ (xs : List ℕ). is_plain xs ≡ true) (sym bytes) (plain_code c.args.code.now
    c.text-bytes.ensures.code))
    (subst (λ (xs : List ℕ). length xs ≤ 31) (sym bytes) (omega (arith, c.text-bytes.ensures.code.long))))
