-- What is true of every world stays true behind commands on companies.
use Rattle.std.proofs.Common.{
  ◌≡◌,
  ℕ,
  zero,
  suc,
  ◌+◌,
  ◌-◌,
  ◌%◌,
  ◌<◌,
  ◌≤◌,
  ◌≢◌,
  Bool,
  true,
  false,
  List,
  [],
  ◌∷◌,
  length,
  get_or,
  set,
  refl,
  sym,
  ◌∙◌,
  ap,
  subst,
  arith,
  get_or-set_other,
  length-set,
  inl,
  inr,
  take,
  drop,
  add-one,
  ◌≤ℤ◌,
  ℤ,
  pos,
  ◌+ℤ◌,
  ◌-ℤ◌,
}
use Rattle.std.specs.Prelude.{Option, Some, None, IsSome, IfSome, option_map, not, ◌||◌, ◌==◌, nat_lt, int_lt}
use Rattle.std.specs.List.{list_any}
use Rattle.std.proofs.lemmas.Int.{ints}
use Rattle.std.proofs.lemmas.List.Elements.{All-weaker}
use Rattle.std.proofs.lemmas.Slice.Eq.{bytes_eq-Decides}
use Rattle.std.proofs.lemmas.Bool.{or_parts}
use Rattle.std.proofs.lemmas.Bool.Decides.{nat_tests, eqb_tells}
use Rattle.tt_frame.proofs.TestLaws.{and_both, le_of_no_test}
use Rattle.tt_world.specs.declared.company.Company.{Company}
use Rattle.tt_world.specs.declared.effect.Why.{Why}
use Rattle.tt_world.specs.declared.effect.Why.TheVariants.{Amount, Loan, Money, NoCompany}
use Rattle.tt_world.specs.Reasons.{◌⇒◌, ◌or_else◌}
use Rattle.tt_world.specs.World.{WorldState, company_at, company_of}
use Rattle.tt_frame.specs.Text.{IsName}
use Rattle.tt_world.specs.Sound.{IsCompany, IsSign, IsSound, most_money}
use Rattle.tt_world.specs.Commands.{
  changed,
  of_live,
  is_loan_sum,
  is_below,
  would_pass,
  increase_refusal,
  increased,
  decrease_refusal,
  decreased,
  gift_refusal,
  richer,
  poorer,
  president_renamed,
  renamed,
  has_name,
  is_name_of_another,
}
use Rattle.tt_world.proofs.SoundLaws.{Follows, Follows-same, Follows-map, FollowsEach, IsSound-follows}

-- ---- refusals that do not come

pub record Passes (test : Bool) (rest : Option Why) : Type 0 where
  pub not_so : test ≡ false
  pub then : rest ≡ None

pub passes : (test : Bool) (why : Why) (rest : Option Why) → (test ⇒ why or_else rest) ≡ None → Passes test rest
passes true why rest e = absurd cc
passes false why rest e = record { not_so = refl; then = e }

pub passes_last : (test : Bool) (why : Why) → (test ⇒ why) ≡ None → test ≡ false
passes_last true why e = absurd cc
passes_last false why e = refl

-- a command of a company that is not refused is one of a live company
pub live : (o : Option Company) (refusal : Company → Option Why) → of_live o refusal ≡ None → IsSome o
live None refusal e = absurd cc
live (Some c) refusal e = refl

pub below_length : (companies : List (Option Company)) (n : ℕ) → IsSome (company_at companies n) → n < length companies
below_length [] n e = absurd cc
below_length (o ∷ os) zero e = omega arith
below_length (o ∷ os) (suc n) e = let h = below_length os n e in omega arith

-- a company at a place of a sound world is sound
pub sound_at : (o : Option Company) → ((c : Company) → o ≡ Some c → IsCompany c) → IfSome o IsCompany
sound_at None h = tt
sound_at (Some c) h = h c refl

-- ---- a company that changes and keeps its name

set_here : (companies : List (Option Company)) (n : ℕ) (f : Company → Company)
    → get_or (set companies n (option_map f (get_or companies n None))) n None ≡ option_map f (get_or companies n None)
set_here [] n f = refl
set_here (o ∷ os) zero f = refl
set_here (o ∷ os) (suc n) f = set_here os n f

pub follows_changed : (companies : List (Option Company)) (n : ℕ) (f : Company → Company) → ((c : Company) → c.name ≡ (f c).name)
    → ((c : Company) → company_at companies n ≡ Some c → IsCompany c → IsCompany (f c))
    → FollowsEach companies (set companies n (option_map f (company_at companies n)))
follows_changed companies n f names each m =
    elim (eqb_tells m n) [
      | inl same ↦ subst (λ k. Follows (company_at companies k) (company_at (set companies n (option_map f (company_at companies n))) k))
          (sym same.1)
          (rw (set_here companies n f) (Follows-map f names (company_at companies n) each))
      | inr other ↦ rw (get_or-set_other companies n m (option_map f (company_at companies n)) None other.1)
          (Follows-same (company_at companies m))
    ]

pub IsSound-changed : (w : WorldState) (n : ℕ) (f : Company → Company) → ((c : Company) → c.name ≡ (f c).name)
    → ((c : Company) → company_at w.companies n ≡ Some c → IsCompany c → IsCompany (f c)) → IsSound w → IsSound (changed n f w)
IsSound-changed w n f names each s =
    IsSound-follows w (changed n f w) s s.part (length-set w.companies n (option_map f (company_at w.companies n)) ∙ s.places)
    (follows_changed w.companies n f names each) refl

-- a company that is live goes on living
map_live : (f : Company → Company) (o : Option Company) → IsSome o → IsSome (option_map f o)
map_live f None e = absurd cc
map_live f (Some c) e = refl

pub still_live : (companies : List (Option Company)) (n : ℕ) (f : Company → Company) (m : ℕ) → IsSome (company_at companies m)
    → IsSome (company_at (set companies n (option_map f (company_at companies n))) m)
still_live companies n f m some =
    elim (eqb_tells m n) [
      | inl same ↦ subst (λ k. IsSome (company_at (set companies n (option_map f (company_at companies n))) k)) (sym same.1)
          (rw (set_here companies n f) (map_live f (company_at companies n) (subst (λ k. IsSome (company_at companies k)) same.1 some)))
      | inr other ↦ rw (get_or-set_other companies n m (option_map f (company_at companies n)) None other.1) some
    ]

pub if_some : (o : Option Company) (P : Company → Type 0) (c : Company) → IfSome o P → o ≡ Some c → P c
if_some None P c h e = absurd cc
if_some (Some d) P c h e = let same : d ≡ c = cc in subst P same h

-- ---- each command

pub not_false : (a : Bool) → not a ≡ false → a ≡ true
not_false true e = refl
not_false false e = absurd cc

steps_add : (a b : ℕ) → a % 10000 ≡ 0 → (b % 10000 == 0) ≡ true → (a + b) % 10000 ≡ 0
steps_add a b e f = let g : b % 10000 ≡ 0 = grind arith in omega arith

steps_sub : (a b : ℕ) → a % 10000 ≡ 0 → (b % 10000 == 0) ≡ true → b ≤ a → (a - b) % 10000 ≡ 0
steps_sub a b e f le = let g : b % 10000 ≡ 0 = grind arith in omega arith

not_above_int : (a b : ℤ) → int_lt a b ≡ false → b ≤ℤ a
not_above_int a b e = grind (arith, ints)

IsCompany-increased : (n : ℕ) (c : Company) → increase_refusal n c ≡ None → IsCompany c → IsCompany (increased n c)
IsCompany-increased n c e s =
    let p = passes (not (is_loan_sum n)) Amount (nat_lt c.most (c.loan + n) ⇒ Loan or_else would_pass c.money n ⇒ Money) e in
    let q = passes (nat_lt c.most (c.loan + n)) Loan (would_pass c.money n ⇒ Money) p.then in
    let sum = (and_both (not (n == 0)) (n % 10000 == 0) (not_false (is_loan_sum n) p.not_so)).1 in
    let loan : c.loan + n ≤ c.most = le_of_no_test c.most (c.loan + n) q.not_so in
    let money : (c.money +ℤ pos n) ≤ℤ pos most_money =
    not_above_int (pos most_money) (c.money +ℤ pos n) (passes_last (would_pass c.money n) Money q.then) in
    let low = s.least_money in
    record {
      least_money = omega (arith, ints);
      most_money = money;
      loan = loan;
      steps = steps_add c.loan n s.steps sum;
      most = s.most;
      most_steps = s.most_steps;
      name = s.name;
      president = s.president;
    }

IsCompany-decreased : (n : ℕ) (c : Company) → decrease_refusal n c ≡ None → IsCompany c → IsCompany (decreased n c)
IsCompany-decreased n c e s =
    let p = passes (not (is_loan_sum n)) Amount (nat_lt c.loan n ⇒ Loan or_else is_below c.money n ⇒ Money) e in
    let q = passes (nat_lt c.loan n) Loan (is_below c.money n ⇒ Money) p.then in
    let sum = (and_both (not (n == 0)) (n % 10000 == 0) (not_false (is_loan_sum n) p.not_so)).1 in
    let loan : n ≤ c.loan = le_of_no_test c.loan n q.not_so in
    let money : pos n ≤ℤ c.money = not_above_int c.money (pos n) (passes_last (is_below c.money n) Money q.then) in
    let high = s.most_money in
    let most = s.loan in
    record {
      least_money = omega (arith, ints);
      most_money = omega (arith, ints);
      loan = omega arith;
      steps = steps_sub c.loan n s.steps sum loan;
      most = s.most;
      most_steps = s.most_steps;
      name = s.name;
      president = s.president;
    }

-- a refusal of a live company, read at that company
at_company : (o : Option Company) (refusal : Company → Option Why) (c : Company) → of_live o refusal ≡ None → o ≡ Some c → refusal c ≡ None
at_company None refusal c e f = absurd cc
at_company (Some d) refusal c e f = let same : d ≡ c = cc in subst (λ x. refusal x ≡ None) same e

pub IsSound-increased : (w : WorldState) (n number : ℕ) → of_live (company_of w n) (increase_refusal number) ≡ None → IsSound w
    → IsSound (changed n (increased number) w)
IsSound-increased w n number e s = IsSound-changed w n (increased number) (λ c. refl) (λ c is. IsCompany-increased number c
    (at_company (company_of w n) (increase_refusal number) c e is)) s

pub IsSound-decreased : (w : WorldState) (n number : ℕ) → of_live (company_of w n) (decrease_refusal number) ≡ None → IsSound w
    → IsSound (changed n (decreased number) w)
IsSound-decreased w n number e s = IsSound-changed w n (decreased number) (λ c. refl) (λ c is. IsCompany-decreased number c
    (at_company (company_of w n) (decrease_refusal number) c e is)) s

pub IsSound-president : (w : WorldState) (n : ℕ) (name : List ℕ) → IsName name → IsSound w → IsSound (changed n (president_renamed name) w)
IsSound-president w n name is s = IsSound-changed w n (president_renamed name) (λ c. refl)
    (λ c at h. record {
      least_money = h.least_money;
      most_money = h.most_money;
      loan = h.loan;
      steps = h.steps;
      most = h.most;
      most_steps =
          h.most_steps;
      name = h.name;
      president = is;
    }) s

pub IsSound-paused : (w : WorldState) (paused : Bool) → IsSound w → IsSound (record w { paused = paused })
IsSound-paused w paused s =
    record { part = s.part; places = s.places; companies = s.companies; names = s.names; few = s.few; rising = s.rising; signs = s.signs }

-- ---- a place that the code has written

read_at : (companies : List (Option Company)) (n : ℕ) (read : Option Company) → n < length companies
    → get_or companies n read ≡ company_at companies n
read_at [] n read lt = absurd (omega arith)
read_at (o ∷ os) zero read lt = refl
read_at (o ∷ os) (suc n) read lt = read_at os n read (omega arith)

-- w are the fields as the code read them, v is the world that the clauses speak of
pub IsSound-written : (w v : WorldState) (n m : ℕ) (f : Company → Company) (place read : Option Company) → w ≡ v → n ≡ m
    → place ≡ option_map f (get_or w.companies n read) → IsSome (company_of v m)
    → (IsSound v → IsSound (changed m f v)) → IsSound w → IsSound (record w { companies = set w.companies n place })
IsSound-written w v n m f place read same number written some law s =
    let here : IsSome (company_of w n) =
    subst (λ x. IsSome (company_of x n)) (sym same) (subst (λ k. IsSome (company_of v k)) (sym number) some) in
    let now : place ≡ option_map f (company_at w.companies n) =
    written ∙ ap (option_map f) (read_at w.companies n read (below_length w.companies n here)) in
    let behind : IsSound (changed m f w) = subst (λ x. IsSound (changed m f x)) (sym same) (law (subst (λ x. IsSound x) same s)) in
    subst (λ p. IsSound (record w { companies = set w.companies n p })) (sym now) (subst (λ k. IsSound (changed k f w)) (sym number) behind)

-- ---- gifts

pub IsSound-poorer : (w : WorldState) (n number : ℕ) → IfSome (company_of w n) (λ c. pos number ≤ℤ c.money) → IsSound w
    → IsSound (changed n (poorer number) w)
IsSound-poorer w n number own s = IsSound-changed w n (poorer number) (λ c. refl)
    (λ c is h.
    let money : pos number ≤ℤ c.money = if_some (company_of w n) (λ d. pos number ≤ℤ d.money) c own is in
    let high = h.most_money in
    record {
      least_money = omega (arith, ints);
      most_money = omega (arith, ints);
      loan = h.loan;
      steps = h.steps;
      most = h.most;
      most_steps = h.most_steps;
      name = h.name;
      president = h.president;
    }) s

pub IsSound-richer : (w : WorldState) (n number : ℕ) → IfSome (company_of w n) (λ c. (c.money +ℤ pos number) ≤ℤ pos most_money) → IsSound w
    → IsSound (changed n (richer number) w)
IsSound-richer w n number room s = IsSound-changed w n (richer number) (λ c. refl)
    (λ c is h.
    let money : (c.money +ℤ pos number) ≤ℤ pos most_money =
    if_some (company_of w n) (λ d. (d.money +ℤ pos number) ≤ℤ pos most_money) c room is in
    let low = h.least_money in
    record {
      least_money = omega (arith, ints);
      most_money = money;
      loan = h.loan;
      steps = h.steps;
      most = h.most;
      most_steps =
          h.most_steps;
      name = h.name;
      president = h.president;
    }) s

-- what a gift that is not refused says: the giver has the sum, both are live and not the same, and the receiver has room
pub record IsGift (from to number : ℕ) (receiver giver : Option Company) : Type 0 where
  pub giver_live : IsSome giver
  pub receiver_live : IsSome receiver
  pub apart : to ≢ from
  pub own : IfSome giver (λ c. pos number ≤ℤ c.money)
  pub room : IfSome receiver (λ c. (c.money +ℤ pos number) ≤ℤ pos most_money)

not_equal : (a b : ℕ) → (a == b) ≡ false → a ≢ b
not_equal a b e = grind (arith, nat_tests)

pub gift_allowed : (from to number : ℕ) (receiver giver : Option Company) → of_live giver (gift_refusal from to number receiver) ≡ None
    → IsGift from to number receiver giver
gift_allowed from to number receiver None e = absurd cc
gift_allowed from to number None (Some giver) e =
    let p = passes ((number == 0) || nat_lt 20000000 number) Amount (true ⇒ NoCompany or_else is_below (giver.money -ℤ pos giver.loan)
    number ⇒ Money or_else false ⇒ Money) e in
    let q = passes true NoCompany (is_below (giver.money -ℤ pos giver.loan) number ⇒ Money or_else false ⇒ Money) p.then in
    absurd cc
gift_allowed from to number (Some receiver) (Some giver) e =
    let p = passes ((number == 0) || nat_lt 20000000 number) Amount ((false || (to == from)) ⇒ NoCompany or_else is_below
    (giver.money -ℤ pos giver.loan) number ⇒ Money or_else would_pass receiver.money number ⇒ Money) e in
    let q = passes (false || (to == from)) NoCompany (is_below (giver.money -ℤ pos giver.loan) number ⇒ Money or_else would_pass
    receiver.money number ⇒ Money) p.then in
    let r = passes (is_below (giver.money -ℤ pos giver.loan) number) Money (would_pass receiver.money number ⇒ Money) q.then in
    let own : pos number ≤ℤ (giver.money -ℤ pos giver.loan) = not_above_int (giver.money -ℤ pos giver.loan) (pos number) r.not_so in
    record {
      giver_live = refl;
      receiver_live = refl;
      apart = not_equal to from q.not_so;
      own = omega (arith, ints);
      room = not_above_int (pos most_money) (receiver.money +ℤ pos number) (passes_last (would_pass receiver.money number) Money r.then);
    }

pub other_place : (w : WorldState) (n m : ℕ) (f : Company → Company) → m ≢ n → company_of (changed n f w) m ≡ company_of w m
other_place w n m f ne = get_or-set_other w.companies n m (option_map f (company_of w n)) None ne

-- ---- a company's new name

pub record Mapped (f : Company → Company) (o : Option Company) (d : Company) : Type 0 where
  pub company : Company
  pub was : o ≡ Some company
  pub now : f company ≡ d

mapped : (f : Company → Company) (o : Option Company) (d : Company) → option_map f o ≡ Some d → Mapped f o d
mapped f None d e = absurd cc
mapped f (Some c) d e = record { company = c; was = refl; now = cc }

pub has_own_name : (d : Company) (name : List ℕ) → d.name ≡ name → has_name name (Some d) ≡ true
has_own_name d name e = (bytes_eq-Decides d.name name).1 e

pub none_has : (name : List ℕ) (companies : List (Option Company)) (k : ℕ) (d : Company) → list_any (has_name name) companies ≡ false
    → company_at companies k ≡ Some d → d.name ≡ name → ⊥
none_has name [] k d e at same = absurd cc
none_has name (o ∷ os) zero d e at same =
    let front = (or_parts (has_name name o) (list_any (has_name name) os) e).0 in
    let mine : has_name name o ≡ true = subst (λ x. has_name name x ≡ true) (sym at) (has_own_name d name same) in
    absurd cc
none_has name (o ∷ os) (suc k) d e at same = none_has name os k d (or_parts (has_name name o) (list_any (has_name name) os) e).1 at same

no_other : (name : List ℕ) (companies : List (Option Company)) (n k : ℕ) (d : Company) → list_any (has_name name) (take n companies) ≡ false
    → list_any (has_name name) (drop (suc n) companies) ≡ false → k ≢ n → company_at companies k ≡ Some d → d.name ≡ name → ⊥
no_other name [] n k d front back ne at same = absurd cc
no_other name (o ∷ os) zero zero d front back ne at same = ne refl
no_other name (o ∷ os) zero (suc k) d front back ne at same = none_has name os k d back at same
no_other name (o ∷ os) (suc n) zero d front back ne at same =
    let first = (or_parts (has_name name o) (list_any (has_name name) (take n os)) front).0 in
    let mine : has_name name o ≡ true = subst (λ x. has_name name x ≡ true) (sym at) (has_own_name d name same) in
    absurd cc
no_other name (o ∷ os) (suc n) (suc k) d front back ne at same =
    no_other name os n k d (or_parts (has_name name o) (list_any (has_name name) (take n os)) front).1 back (λ e. ne (ap suc e)) at same

-- the companies with a place that has another company from now on, whose name is nobody else's
pub IsSound-renamed : (w : WorldState) (n : ℕ) (name : List ℕ) → IsName name → is_name_of_another n name w.companies ≡ false → IsSound w
    → IsSound (changed n (renamed name) w)
IsSound-renamed w n name is free s =
    let after = set w.companies n (option_map (renamed name) (company_at w.companies n)) in
    let parts = or_parts (list_any (has_name name) (take n w.companies)) (list_any (has_name name) (drop (n + 1) w.companies)) free in
    let back : list_any (has_name name) (drop (suc n) w.companies) ≡ false = rw add-one at parts.1 in
    let here : company_at after n ≡ option_map (renamed name) (company_at w.companies n) = set_here w.companies n (renamed name) in
    let there : (m : ℕ) → m ≢ n → company_at after m ≡ company_at w.companies m =
    λ m ne. get_or-set_other w.companies n m (option_map (renamed name) (company_at w.companies n)) None ne in
    let mine : (m : ℕ) (c : Company) → m ≡ n → company_at after m ≡ Some c → Mapped (renamed name) (company_at w.companies n) c
    = λ m c e at. mapped (renamed name) (company_at w.companies n) c (sym here ∙ ap (company_at after) (sym e) ∙ at) in
    record {
      part = s.part;
      places = length-set w.companies n (option_map (renamed name) (company_at w.companies n)) ∙ s.places;
      companies = λ m c at. elim (eqb_tells m n) [
        | inl e ↦ let d = mine m c e.1 at in let h = s.companies n d.company d.was in
            subst (λ x. IsCompany x) d.now (record {
              least_money = h.least_money;
              most_money = h.most_money;
              loan = h.loan;
              steps =
                  h.steps;
              most = h.most;
              most_steps = h.most_steps;
              name = is;
              president = h.president;
            })
        | inr e ↦ s.companies m c (sym (there m e.1) ∙ at)
      ];
      names = λ m k c d at_m at_k same. elim (eqb_tells m n) [
        | inl e ↦ elim (eqb_tells k n) [
          | inl f ↦ e.1 ∙ sym f.1
          | inr f ↦ let x = mine m c e.1 at_m in absurd (no_other name w.companies n k d parts.0 back f.1 (sym (there k f.1)
              ∙ at_k) (sym same ∙ sym (ap (λ y. y.name) x.now)))
        ]
        | inr e ↦ elim (eqb_tells k n) [
          | inl f ↦ let x = mine k d f.1 at_k in absurd (no_other name w.companies n m c parts.0 back e.1 (sym (there m e.1) ∙ at_m) (same
              ∙ sym (ap (λ y. y.name) x.now)))
          | inr f ↦ s.names m k c d (sym (there m e.1) ∙ at_m) (sym (there k f.1) ∙ at_k) same
        ]
      ];
      few = s.few;
      rising = s.rising;
      signs = All-weaker (IsSign w.companies) (IsSign after)
          (λ g h. record { id = h.id; owner = still_live w.companies n (renamed name) g.owner h.owner; tile = h.tile; text = h.text })
          w.signs s.signs;
    }
