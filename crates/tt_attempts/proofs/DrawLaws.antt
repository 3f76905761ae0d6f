-- Draws one after another.
use Rattle.std.proofs.Common.{◌≡◌, ℕ, zero, suc, ◌+◌, Bool, true, false, ◌&&◌, List, [], ◌∷◌, ◌++◌, refl, sym, ap, ◌∙◌, arith}
use Rattle.tt_world.specs.Random.{next_random}
use Rattle.std.specs.List.{list_all}
use Rattle.tt_attempts.specs.Codes.{is_character, words_behind, drawn_character, drawn_characters}

words_suc : (n : ℕ) (words : ℕ × ℕ) → words_behind (suc n) words ≡ next_random (words_behind n words)
words_suc zero words = refl
words_suc (suc n) words = words_suc n (next_random words)

drawn_suc : (n : ℕ) (words : ℕ × ℕ)
    → drawn_characters (suc n) words ≡ drawn_characters n words ++ drawn_character (words_behind n words) ∷ []
drawn_suc zero words = refl
drawn_suc (suc n) words = ap (λ (l : List ℕ). drawn_character words ∷ l) (drawn_suc n (next_random words))

next : (n : ℕ) → n + 1 ≡ suc n
next n = omega arith

pub words_more : (n : ℕ) (words : ℕ × ℕ) → words_behind (n + 1) words ≡ next_random (words_behind n words)
words_more n words = ap (λ (k : ℕ). words_behind k words) (next n) ∙ words_suc n words

pub drawn_more : (n : ℕ) (words : ℕ × ℕ)
    → drawn_characters (n + 1) words ≡ drawn_characters n words ++ drawn_character (words_behind n words) ∷ []
drawn_more n words = ap (λ (k : ℕ). drawn_characters k words) (next n) ∙ drawn_suc n words

all_push : (p : ℕ → Bool) (xs : List ℕ) (x : ℕ) → list_all p xs ≡ true → p x ≡ true → list_all p (xs ++ x ∷ []) ≡ true
all_push p [] x all own = rw own refl
all_push p (y ∷ ys) x all own = by (p y) all (λ more. all_push p ys x more own)
  where
    by : (b : Bool) → b && list_all p ys ≡ true → (list_all p ys ≡ true → list_all p (ys ++ x ∷ []) ≡ true)
        → b && list_all p (ys ++ x ∷ []) ≡ true
    by true is rest = rest is
    by false is rest = is

pub more_characters : (n : ℕ) (words : ℕ × ℕ) → list_all is_character (drawn_characters n words) ≡ true
    → is_character (drawn_character (words_behind n words)) ≡ true → list_all is_character (drawn_characters (n + 1) words) ≡ true
more_characters n words all own = ap (list_all is_character) (drawn_more n words)
    ∙ all_push is_character (drawn_characters n words) (drawn_character (words_behind n words)) all own
