use Rattle.std.proofs.Common.{◌≡◌, ℕ, ◌<◌, true, get_or, refl, ap, arith}
use Rattle.std.specs.Prelude.{◌==◌}
use Rattle.std.proofs.lemmas.Bool.{eq-eqb}
use Rattle.std.proofs.lemmas.List.Folds.{list_any_at}
use Rattle.tt_attempts.specs.Codes.{alphabet, is_character}
use Rattle.tt_attempts.proofs.code.draw_character.Goals as goal

-- each element of the alphabet is a character
chosen : (k : ℕ) → k < 32 → is_character (get_or alphabet k 0) ≡ true
chosen k lt =
    list_any_at (λ x. x == get_or alphabet k 0) alphabet k 0 (omega arith) (eq-eqb (get_or alphabet k 0) (get_or alphabet k 0) refl)

pub returns-clause-character : goal.returns-clause-character
returns-clause-character c = chosen c.next_below-place.result (omega (
  arith,
  c.next_below-place.ensures.drawn,
  ap (λ (w : ℕ × ℕ). w.1)
      c.next_below-place.ensures.words,
))
