-- The lines of a text, and the first bad line of an input.
use Rattle.std.specs.Prelude.{◌≢◌, ℕ, ◌-◌, ◌≤◌, List, [], ◌∷◌, Bool, true, false, ◌==◌, length, take, slice_index, EachIndex}

-- the byte stands nowhere in the text
abbrev pub HasNo : ℕ → List ℕ → Type 0
HasNo byte text = EachIndex text (λ i. slice_index text i ≢ byte)

-- a byte in front of lines is the first one of the first line
abbrev pub with_front : ℕ → List (List ℕ) → List (List ℕ)
with_front byte [] = (byte ∷ []) ∷ []
with_front byte (line ∷ lines) = (byte ∷ line) ∷ lines

-- a line feed ends a line, and is in none
abbrev pub more_lines : Bool → ℕ → List (List ℕ) → List (List ℕ)
more_lines true byte lines = [] ∷ lines
more_lines false byte lines = with_front byte lines

-- the lines of a text, in order; a last line without its line feed is one
abbrev pub lines_of : List ℕ → List (List ℕ)
lines_of [] = []
lines_of (byte ∷ bytes) = more_lines (byte == 10) byte (lines_of bytes)

-- A line of an input, counted from 1, is the first bad one: what stands before it is of the form that is asked for, and
-- with it no more.
pub record IsFirstBad (IsOne : List (List ℕ) → Type 0) (lines : List (List ℕ)) (line : ℕ) : Type 0 where
  pub some : 1 ≤ line
  pub within : line ≤ length lines
  pub before : IsOne (take (line - 1) lines)
  pub bad : IsOne (take line lines) → ⊥
