-- Looking for the zero behind a text, from unread to right.
use Rattle.std.proofs.Common.{◌≡◌, ◌≢◌, ℕ, zero, suc, ◌+◌, ◌-◌, ◌<◌, ◌≤◌, List, [], ◌∷◌, ◌++◌, length, get_or, take, drop, Option, Some}
use Rattle.std.proofs.Common.{None, refl, sym, ap, ◌∙◌, append_assoc, arith}
use Rattle.std.specs.Prelude.{option_map}
use Rattle.std.proofs.lemmas.List.{append-nil, take_more, nil_from_length, length-drop}
use Rattle.std.proofs.Math.Seq.{drop-cons}
use Rattle.std.proofs.Math.Numerals.{add-one}
use Rattle.tt_frame.specs.Reading.{before_zero}

abbrev pub behind : List ℕ → Option (List ℕ) → Option (List ℕ)
behind front None = None
behind front (Some s) = Some (front ++ s)

behind_behind : (a b : List ℕ) (o : Option (List ℕ)) → behind a (behind b o) ≡ behind (a ++ b) o
behind_behind a b None = refl
behind_behind a b (Some s) = ap Some (sym (append_assoc a b s))

ends_here : (b : ℕ) (rest : List ℕ) → b ≢ 0 → before_zero 0 (b ∷ rest) ≡ None
unfolding before_zero
ends_here zero rest ne = absurd (ne refl)
ends_here (suc b) rest ne = refl

goes_on : (n b : ℕ) (rest : List ℕ) → b ≢ 0 → before_zero (suc n) (b ∷ rest) ≡ behind (b ∷ []) (before_zero n rest)
unfolding before_zero
goes_on n zero rest ne = absurd (ne refl)
goes_on n (suc b) rest ne = mapped (suc b) (before_zero n rest)
  where
    mapped : (b : ℕ) (o : Option (List ℕ)) → option_map (λ s. b ∷ s) o ≡ behind (b ∷ []) o
    mapped b None = refl
    mapped b (Some s) = refl

pub found : (max i : ℕ) (bs : List ℕ) → i < length bs → get_or bs i 0 ≡ 0
    → before_zero max bs ≡ behind (take i bs) (before_zero (max - i) (drop i bs)) → before_zero max bs ≡ Some (take i bs)
unfolding before_zero
found max i bs lt z same =
    let e : drop i bs ≡ 0 ∷ drop (suc i) bs = drop-cons bs i 0 lt ∙ ap (λ (h : ℕ). h ∷ drop (suc i) bs) z in
    same ∙ rw e (ap Some (append-nil (take i bs)))

pub too_long : (max i : ℕ) (bs : List ℕ) → i < length bs → get_or bs i 0 ≢ 0 → i ≡ max
    → before_zero max bs ≡ behind (take i bs) (before_zero (max - i) (drop i bs)) → before_zero max bs ≡ None
too_long max i bs lt nz last same =
    let k : max - i ≡ 0 = omega arith in
    same ∙ rw (k, drop-cons bs i 0 lt, ends_here (get_or bs i 0) (drop (suc i) bs) nz) refl

pub one_more : (max i : ℕ) (bs : List ℕ) → i < length bs → get_or bs i 0 ≢ 0 → i < max
    → before_zero max bs ≡ behind (take i bs) (before_zero (max - i) (drop i bs)) → before_zero max bs ≡ behind (take (i + 1) bs)
    (before_zero (max - (i + 1)) (drop (i + 1) bs))
one_more max i bs lt nz more same =
    let k : max - i ≡ suc (max - (i + 1)) = omega arith in
    let t : take (i + 1) bs ≡ take i bs ++ get_or bs i 0 ∷ [] = take_more bs i 0 lt in
    same ∙ rw (
      k,
      drop-cons bs i 0 lt,
      goes_on (max - (i + 1)) (get_or bs i 0) (drop (suc i) bs) nz,
      behind_behind (take i bs)
          (get_or bs i 0 ∷ []) (before_zero (max - (i + 1)) (drop (suc i) bs)),
      t,
      add-one,
    ) refl

pub at_end : (max i : ℕ) (bs : List ℕ) → length bs ≤ i → before_zero max bs ≡ behind (take i bs) (before_zero (max - i) (drop i bs))
    → before_zero max bs ≡ None
unfolding before_zero
at_end max i bs le same =
    let e : drop i bs ≡ [] = nil_from_length (drop i bs) (omega (arith, length-drop i bs)) in
    same ∙ rw e refl
