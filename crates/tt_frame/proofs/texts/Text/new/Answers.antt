use Rattle.std.proofs.Common.{◌≡◌, List, ℕ, true, sym, subst, refl, ◌∙◌}
use Rattle.tt_frame.specs.Text.{is_text}
use Rattle.tt_frame.proofs.TextLaws.{IsText-from_is_plain, IsText-from_is_text, no_text, is_text-short, is_text-long}
use Rattle.tt_frame.proofs.texts.Text.new.Goals as goal

pub returns-in_default-clause-test : goal.returns-in_default-clause-test
returns-in_default-clause-test g c = is_text-long g.row.N c.args.bytes.now c.in_default.ensures

pub returns-then-not-are_text_bytes-clause-text : goal.returns-then-not-are_text_bytes-clause-text
returns-then-not-are_text_bytes-clause-text g c = (
  (λ e. absurd cc),
  (λ t. absurd (no_text g.row.N c.args.bytes.now (is_text-short g.row.N c.args.bytes.now c.in-Ok.ensures.1
      ∙ sym c.if-not-are_text_bytes.ensures) t)),
)

pub returns-then-not-are_text_bytes-clause-test : goal.returns-then-not-are_text_bytes-clause-test
returns-then-not-are_text_bytes-clause-test g c =
    is_text-short g.row.N c.args.bytes.now c.in-Ok.ensures.1 ∙ sym c.if-not-are_text_bytes.ensures

pub returns-then-not-are_text_bytes-clause-plain : goal.returns-then-not-are_text_bytes-clause-plain
returns-then-not-are_text_bytes-clause-plain g c e le =
    absurd (no_text g.row.N c.args.bytes.now (is_text-short g.row.N c.args.bytes.now c.in-Ok.ensures.1
    ∙ sym c.if-not-are_text_bytes.ensures) (IsText-from_is_plain c.args.bytes.now e, le))

pub invariant_of-result : goal.invariant_of-result
invariant_of-result g c =
    subst (λ (s : List ℕ). is_text g.row.N s ≡ true) (sym c.in-Ok.ensures.0) (is_text-short g.row.N c.args.bytes.now c.in-Ok.ensures.1
    ∙ sym c.if-not-are_text_bytes.ensures)

pub returns-clause-text : goal.returns-clause-text
returns-clause-text g c = (
  (λ _. (
    IsText-from_is_text g.row.N c.args.bytes.now (is_text-short g.row.N c.args.bytes.now c.in-Ok.ensures.1
        ∙ sym c.if-not-are_text_bytes.ensures),
    c.in-Ok.ensures.1,
  )),
  (λ _. refl),
)

pub returns-clause-test : goal.returns-clause-test
returns-clause-test g c = is_text-short g.row.N c.args.bytes.now c.in-Ok.ensures.1 ∙ sym c.if-not-are_text_bytes.ensures
