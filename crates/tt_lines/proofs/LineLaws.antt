-- The lines of a text, cut one by one.
use Rattle.std.proofs.Common.{◌≡◌, ◌≢◌, ℕ, ◌<◌, List, [], ◌∷◌, ◌++◌, length, false, refl, ap, ◌∙◌, arith}
use Rattle.std.specs.Prelude.{◌==◌}
use Rattle.std.proofs.lemmas.Bool.{ne_eqb}
use Rattle.tt_lines.specs.Lines.{HasNo, with_front, lines_of}
use Rattle.tt_lines.proofs.Breaks.{has_no-rest}

-- a byte that is no line feed stands in front of the first line
front-lines : (byte : ℕ) (bytes : List ℕ) → byte ≢ 10 → lines_of (byte ∷ bytes) ≡ with_front byte (lines_of bytes)
front-lines byte bytes other = let is : (byte == 10) ≡ false = ne_eqb byte 10 other in rw is refl

-- what stands before the first line feed is the first line
pub lines-within : (line after : List ℕ) → HasNo 10 line → lines_of (line ++ 10 ∷ after) ≡ line ∷ lines_of after
lines-within [] after one = refl
lines-within (byte ∷ line) after one =
    front-lines byte (line ++ 10 ∷ after) (one 0 (omega arith))
    ∙ ap (with_front byte) (lines-within line after (has_no-rest 10 byte line one))

-- a text without a line feed is one line
pub lines-none : (line : List ℕ) → 0 < length line → HasNo 10 line → lines_of line ≡ line ∷ []
lines-none [] some one = absurd (omega (arith, some))
lines-none (byte ∷ []) some one = front-lines byte [] (one 0 (omega arith))
lines-none (byte ∷ next ∷ line) some one =
    front-lines byte (next ∷ line) (one 0 (omega arith))
    ∙ ap (with_front byte) (lines-none (next ∷ line) (omega arith) (has_no-rest 10 byte (next ∷ line) one))
