-- Invite codes: what one is, and how one is drawn.
use Rattle.std.specs.Prelude.{◌≡◌, ℕ, zero, suc, Bool, true, List, [], ◌∷◌, length, drop, slice_index, codes, ◌==◌}
use Rattle.std.specs.List.{list_all, list_any}
use Rattle.tt_world.specs.Random.{next_random, below}

-- the characters of a code: the capital letters without I and O, and the digits without 0 and 1
abbrev pub alphabet : List ℕ
alphabet = codes "ABCDEFGHJKLMNPQRSTUVWXYZ23456789"

-- whether it is one of them
abbrev pub is_character : ℕ → Bool
is_character byte = list_any (λ c. c == byte) alphabet

-- a plus sign, and six characters of the alphabet
pub record IsCode (bytes : List ℕ) : Type 0 where
  pub long : length bytes ≡ 7
  pub plus : slice_index bytes 0 ≡ 43
  pub each : list_all is_character (drop 1 bytes) ≡ true

-- the words behind so many draws
abbrev pub words_behind : ℕ → ℕ × ℕ → ℕ × ℕ
words_behind zero words = words
words_behind (suc n) words = words_behind n (next_random words)

-- the character that the next draw stands for
abbrev pub drawn_character : ℕ × ℕ → ℕ
drawn_character words = slice_index alphabet (below (next_random words) 32)

-- the characters that the next n draws stand for, the first one first
abbrev pub drawn_characters : ℕ → ℕ × ℕ → List ℕ
drawn_characters zero words = []
drawn_characters (suc n) words = drawn_character words ∷ drawn_characters n (next_random words)

-- the code that is drawn from these words
abbrev pub drawn_code : ℕ × ℕ → List ℕ
drawn_code words = 43 ∷ drawn_characters 6 words
