use Rattle.std.proofs.Common.{◌≡◌, ◌≤◌, List, ℕ, true, length, sym, arith, subst}
use Rattle.std.proofs.lemmas.Bool.{false≢true}
use Rattle.tt_frame.specs.Text.{is_plain}
use Rattle.tt_gc_table.proofs.Plain.{plain_characters}
use Rattle.tt_gc_table.proofs.registry.Secret.text.Goals as goal

pub unreachable-requires : goal.unreachable-requires
unreachable-requires c =
    let bytes : c.as_slice.result.now ≡ c.self.inside.text = c.as_slice.ensures in
    false≢true (c.in-None.ensures.plain (subst (λ (xs : List ℕ). is_plain xs ≡ true) (sym bytes) (plain_characters c.self.inside.text
    c.self.invariant))
    (subst (λ (xs : List ℕ). length xs ≤ 32) (sym bytes) (omega (arith, c.self.told))))
