-- Pieces that are taken one behind the other.
use Rattle.std.proofs.Common.{◌≡◌, ℕ, zero, suc, ◌+◌, ◌-◌, ◌≤◌, ◌<◌, List, [], ◌∷◌}
use Rattle.std.proofs.Common.{◌++◌, length, take, drop, refl, sym, ap, ap₂, ◌∙◌, arith}
use Rattle.std.proofs.lemmas.List.{append-nil, drop-drop, length-append, length-drop, length-take}

take-none : (n : ℕ) → take {A = ℕ} n [] ≡ []
take-none zero = refl
take-none (suc n) = refl

-- a front, and the front of what is behind it
pub take-more : (n k : ℕ) (xs : List ℕ) → take n xs ++ take k (drop n xs) ≡ take (n + k) xs
take-more zero k xs = let same : 0 + k ≡ k = omega arith in ap (λ m. take m xs) (sym same)
take-more (suc n) k [] = take-none k ∙ sym (take-none (suc n + k))
take-more (suc n) k (x ∷ xs) =
    let one : suc n + k ≡ suc (n + k) = omega arith in
    ap (λ (ys : List ℕ). x ∷ ys) (take-more n k xs) ∙ ap (λ (m : ℕ). take m (x ∷ xs)) (sym one)

-- a front of what is longer is a front of it
pub take-front : (n : ℕ) (xs more : List ℕ) → n ≤ length xs → take n (xs ++ more) ≡ take n xs
take-front zero xs more within = refl
take-front (suc n) [] more within = absurd (omega (arith, within))
take-front (suc n) (x ∷ xs) more within = ap (λ (ys : List ℕ). x ∷ ys) (take-front n xs more (omega (arith, within)))

-- all of it
pub take-all : (n : ℕ) (xs : List ℕ) → length xs ≤ n → take n xs ≡ xs
take-all zero [] within = refl
take-all (suc n) [] within = refl
take-all zero (x ∷ xs) within = absurd (omega (arith, within))
take-all (suc n) (x ∷ xs) within = ap (λ (ys : List ℕ). x ∷ ys) (take-all n xs (omega (arith, within)))

-- a front, whatever stands behind it
pub take-self : (n : ℕ) (xs ys : List ℕ) → n ≤ length xs → take n (take n xs ++ ys) ≡ take n xs
take-self zero xs ys within = refl
take-self (suc n) [] ys within = absurd (omega (arith, within))
take-self (suc n) (x ∷ xs) ys within = ap (λ (zs : List ℕ). x ∷ zs) (take-self n xs ys (omega (arith, within)))

-- ---- what was taken from a place on, piece by piece

pub record IsTaken (whole bytes : List ℕ) (before now : ℕ) : Type 0 where
  pub front : bytes ≡ take (length bytes) (drop before whole)
  pub until : now ≡ before + length bytes

-- a piece more
pub taken_on : (whole bytes next : List ℕ) (before now later count : ℕ) → IsTaken whole bytes before now → count ≤ length whole - now
    → next ≡ bytes ++ take count (drop now whole) → later ≡ now + count → IsTaken whole next before later ×
    (length next ≡ length bytes + count)
taken_on whole bytes next before now later count is fits more then =
    let behind : drop now whole ≡ drop (length bytes) (drop before whole) = ap (λ (n : ℕ). drop n whole) is.until
    ∙ sym (drop-drop (length bytes) before whole) in
    let size : length (take count (drop now whole)) ≡ count = omega (
      arith,
      length-take count
          (drop now whole),
      length-drop now whole,
      fits,
    ) in
    let long : length next ≡ length bytes + count = ap length more ∙ length-append bytes (take count (drop now whole))
    ∙ ap (λ (n : ℕ). length bytes + n) size in (
      record {
        front = more ∙ ap₂ (λ (xs ys : List ℕ). xs ++ take count ys) is.front behind ∙ take-more (length bytes) count (drop before whole)
            ∙ ap (λ (n : ℕ). take n (drop before whole)) (sym long);
        until = omega (arith, then, is.until, long);
      },
      long,
    )

-- nothing more is there, so it is all that was asked for
pub taken_all : (whole bytes : List ℕ) (before now n : ℕ) → IsTaken whole bytes before now → length whole ≤ now → length bytes ≤ n
    → bytes ≡ take n (drop before whole)
taken_all whole bytes before now n is end within =
    let few : length (drop before whole) ≤ length bytes = omega (arith, length-drop before whole, end, is.until) in
    is.front ∙ take-all (length bytes) (drop before whole) few
    ∙ sym (take-all n (drop before whole) (omega (arith, few, within)))

-- as many as were asked for
pub taken_so : (whole bytes : List ℕ) (before now n : ℕ) → IsTaken whole bytes before now → length bytes ≡ n → bytes ≡ take n
    (drop before whole)
taken_so whole bytes before now n is same = is.front ∙ ap (λ (m : ℕ). take m (drop before whole)) same
