-- Whether a company has a password behind a plan.
use Rattle.std.proofs.Common.{◌≡◌, ◌∙◌, sym, ap, ℕ, Bool, true, false, List, [], ◌∷◌, ◌++◌, Option, Some, None, refl}
use Rattle.std.specs.Prelude.{cond, filter, find, is_some, not, option_map, ◌==◌, ◌||◌}
use Rattle.std.specs.List.{list_any}
use Rattle.std.proofs.lemmas.Bool.{eqb-true}
use Rattle.std.proofs.lemmas.List.Folds.{list_any-append}
use Rattle.tt_log.specs.Reports.{is_locked}
use Rattle.tt_log.specs.Table.{option_list}
use Rattle.tt_members.specs.Done.{digests_behind}
use Rattle.tt_members.specs.Planned.{Planned}
use Rattle.tt_table.specs.Telling.{digests_by, is_locked_by, is_locked_with}

-- of the company c
abbrev pub is_of : ℕ → ℕ × List ℕ → Bool
is_of c d = d.0 == c

pub found-any : (c : ℕ) (ds : List (ℕ × List ℕ)) → is_some (find (is_of c) ds) ≡ list_any (is_of c) ds
found-any c [] = refl
found-any c (d ∷ ds) = by (is_of c d) (found-any c ds)
  where
    by : (b : Bool) → is_some (find (is_of c) ds) ≡ list_any (is_of c) ds
        → is_some (cond b (Some d) (find (is_of c) ds)) ≡ (b || list_any (is_of c) ds)
    by true rest = refl
    by false rest = rest

gone : (c : ℕ) (ds : List (ℕ × List ℕ)) → list_any (is_of c) (filter (λ d. not (is_of c d)) ds) ≡ false
gone c [] = refl
gone c (d ∷ ds) = by (is_of c d) refl (gone c ds)
  where
    by : (b : Bool) → is_of c d ≡ b → list_any (is_of c) (filter (λ d. not (is_of c d)) ds) ≡ false
        → list_any (is_of c) (cond (not b) (d ∷ filter (λ d. not (is_of c d)) ds) (filter (λ d. not (is_of c d)) ds)) ≡ false
    by true is rest = rest
    by false is rest = ap (λ (b : Bool). b || list_any (is_of c) (filter (λ d. not (is_of c d)) ds)) is ∙ rest

others : (c n : ℕ) (ds : List (ℕ × List ℕ)) → (c == n) ≡ false
    → list_any (is_of n) (filter (λ d. not (is_of c d)) ds) ≡ list_any (is_of n) ds
others c n [] apart = refl
others c n (d ∷ ds) apart = by (is_of c d) refl (others c n ds apart)
  where
    by : (b : Bool) → is_of c d ≡ b → list_any (is_of n) (filter (λ d. not (is_of c d)) ds) ≡ list_any (is_of n) ds
        → list_any (is_of n) (cond (not b) (d ∷ filter (λ d. not (is_of c d)) ds) (filter (λ d. not (is_of c d)) ds))
        ≡ list_any (is_of n) (d ∷ ds)
    by true is rest =
        let same : d.0 ≡ c = eqb-true d.0 c is in
        let differs : (d.0 == n) ≡ false = ap (λ (k : ℕ). k == n) same ∙ apart in
        rest ∙ ap (λ (b : Bool). b || list_any (is_of n) ds) (sym differs)
    by false is rest = ap (λ (b : Bool). is_of n d || b) rest

or-false : (b : Bool) → (b || false) ≡ b
or-false true = refl
or-false false = refl

-- the company c has this digest, or none
abbrev pub put : ℕ → Option (List ℕ) → List (ℕ × List ℕ) → List (ℕ × List ℕ)
put c digest ds = filter (λ (d : ℕ × List ℕ). not (d.0 == c)) ds ++ option_list (option_map (λ (d : List ℕ). (c, d)) digest)

one-of : (b : Bool) (c n : ℕ) (digest : Option (List ℕ)) → (c == n) ≡ b
    → list_any (is_of n) (option_list (option_map (λ (d : List ℕ). (c, d)) digest)) ≡ cond b (is_some digest) false
one-of true c n None is = refl
one-of true c n (Some d) is = ap (λ (b : Bool). b || false) is
one-of false c n None is = refl
one-of false c n (Some d) is = ap (λ (b : Bool). b || false) is

locked-by : (b : Bool) (c n : ℕ) (digest : Option (List ℕ)) (ds : List (ℕ × List ℕ)) → (c == n) ≡ b
    → list_any (is_of n) (put c digest ds) ≡ cond b (is_some digest) (is_some (find (is_of n) ds))
locked-by true c n digest ds is =
    let same : c ≡ n = eqb-true c n is in
    let none : list_any (is_of n) (filter (λ d. not (is_of c d)) ds) ≡ false =
    ap (λ (k : ℕ). list_any (is_of k) (filter (λ d. not (is_of c d)) ds)) (sym same) ∙ gone c ds in
    list_any-append (is_of n) (filter (λ d. not (is_of c d)) ds) (option_list (option_map (λ (d : List ℕ). (c, d)) digest))
    ∙ ap (λ (b : Bool). b || list_any (is_of n) (option_list (option_map (λ (d : List ℕ). (c, d)) digest))) none
    ∙ one-of true c n digest is
locked-by false c n digest ds is =
    list_any-append (is_of n) (filter (λ d. not (is_of c d)) ds) (option_list (option_map (λ (d : List ℕ). (c, d)) digest))
    ∙ ap (λ (b : Bool). list_any (is_of n) (filter (λ d. not (is_of c d)) ds) || b) (one-of false c n digest is)
    ∙ or-false (list_any (is_of n) (filter (λ d. not (is_of c d)) ds)) ∙ others c n ds is ∙ sym (found-any n ds)

pub locked-behind : (c n : ℕ) (digest : Option (List ℕ)) (ds : List (ℕ × List ℕ))
    → list_any (is_of n) (put c digest ds) ≡ cond (c == n) (is_some digest) (is_some (find (is_of n) ds))
locked-behind c n digest ds = locked-by (c == n) c n digest ds refl

-- ---- behind a plan

with-locks : (l : Option (ℕ × Option (List ℕ))) (n : ℕ) (ds : List (ℕ × List ℕ))
    → is_locked_with l ds n ≡ list_any (is_of n) (digests_behind l ds)
with-locks None n ds = found-any n ds
with-locks (Some l) n ds = sym (locked-behind l.0 n l.1 ds)

pub locked-is : (p : Option Planned) (n : ℕ) (ds : List (ℕ × List ℕ)) → is_locked_by p ds n ≡ is_locked (digests_by p ds) n
locked-is None n ds = found-any n ds
locked-is (Some p) n ds = with-locks p.locks n ds
