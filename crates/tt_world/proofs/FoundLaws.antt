-- A new company: its number, and that every world stays sound.
use Rattle.std.proofs.Common.{
  ◌≡◌,
  ℕ,
  suc,
  ◌+◌,
  ◌%◌,
  ◌<◌,
  ◌≢◌,
  true,
  List,
  [],
  ◌∷◌,
  length,
  set,
  refl,
  sym,
  ◌∙◌,
  ap,
  subst,
  arith,
  inl,
  inr,
  get_or-set_other,
  get_or-set_same,
  length-set,
}
use Rattle.std.specs.Prelude.{Option, Some, None, IsSome, nat_lt, is_none, codes}
use Rattle.std.specs.List.{list_any, position}
use Rattle.std.proofs.lemmas.Int.{ints}
use Rattle.std.proofs.lemmas.Bool.Decides.{eqb_tells}
use Rattle.std.proofs.lemmas.List.Elements.{All-weaker}
use Rattle.tt_frame.proofs.TestLaws.{test_of_lt}
use Rattle.tt_frame.proofs.TextLaws.{IsText-from_is_plain}
use Rattle.tt_world.specs.declared.company.Company.{Company}
use Rattle.tt_world.specs.World.{WorldState, company_at}
use Rattle.tt_frame.specs.Text.{IsName}
use Rattle.tt_world.specs.Sound.{IsCompany, IsSign, IsSound}
use Rattle.tt_world.specs.Commands.{new_number, new_name, new_company, founded}
use Rattle.tt_world.proofs.CommandLaws.{none_has}
use Rattle.tt_world.proofs.NameLaws.{IsName-new, new_name_is_free}

pub IsName-president : IsName (codes "President")
IsName-president = record { text = IsText-from_is_plain (codes "President") refl; some = omega arith; fits = omega arith }

next : (n : ℕ) → 1 + n ≡ suc n
next n = omega arith

pub number_bound : (places : List (Option Company)) → list_any is_none places ≡ true → new_number places < length places
number_bound [] e = absurd cc
number_bound (None ∷ places) e = omega arith
number_bound (Some c ∷ places) e = let h = number_bound places e in omega arith

nobody_there : (places : List (Option Company)) → list_any is_none places ≡ true → company_at places (new_number places) ≡ None
nobody_there [] e = refl
nobody_there (None ∷ places) e = refl
nobody_there (Some c ∷ places) e = rw (next (new_number places)) (nobody_there places e)

pub number_is : (places : List (Option Company)) (place : ℕ) → list_any is_none places ≡ true → Some place ≡ position is_none places
    → (place ≡ new_number places) × (place < length places)
number_is places place room e =
    let bound = number_bound places room in
    let test : nat_lt (new_number places) (length places) ≡ true = test_of_lt (new_number places) (length places) bound in
    let f : Some place ≡ Some (new_number places) = rw test at e in
    let same : place ≡ new_number places = cc in
    (same, rw same bound)

pub no_number : (places : List (Option Company)) → list_any is_none places ≡ true → None ≡ position is_none places → ⊥
no_number places room e =
    let test : nat_lt (new_number places) (length places) ≡ true =
    test_of_lt (new_number places) (length places) (number_bound places room) in
    let f : None ≡ Some (new_number places) = rw test at e in
    absurd cc

ten_steps : 100000 % 10000 ≡ 0
ten_steps = refl

thirty_steps : 300000 % 10000 ≡ 0
thirty_steps = refl

IsCompany-new : (places : List (Option Company)) → IsCompany (new_company places)
IsCompany-new places = record {
  least_money = omega (arith, ints);
  most_money = omega (arith, ints);
  loan = omega arith;
  steps = ten_steps;
  most = omega arith;
  most_steps = thirty_steps;
  name = IsName-new places;
  president = IsName-president;
}

pub IsSound-founded : (w : WorldState) → list_any is_none w.companies ≡ true → IsSound w → IsSound (founded w)
IsSound-founded w room s =
    let places = w.companies in
    let n = new_number places in
    let fresh = new_company places in
    let after = set places n (Some fresh) in
    let bound : n < length places = number_bound places room in
    let here : company_at after n ≡ Some fresh = get_or-set_same places n (Some fresh) None bound in
    let there : (m : ℕ) → m ≢ n → company_at after m ≡ company_at places m = λ m ne. get_or-set_other places n m (Some fresh) None ne in
    let mine : (m : ℕ) (c : Company) → m ≡ n → company_at after m ≡ Some c → fresh ≡ c
    = λ m c e at. (let f : Some fresh ≡ Some c = sym here ∙ ap (company_at after) (sym e) ∙ at in cc) in
    let free = new_name_is_free places s.places room in
    record {
      part = s.part;
      places = length-set places n (Some fresh) ∙ s.places;
      companies = λ m c at. elim (eqb_tells m n) [
        | inl e ↦ subst (λ x. IsCompany x) (mine m c e.1 at) (IsCompany-new places)
        | inr e ↦ s.companies m c (sym (there m e.1) ∙ at)
      ];
      names = λ m k c d at_m at_k same. elim (eqb_tells m n) [
        | inl e ↦ elim (eqb_tells k n) [
          | inl f ↦ e.1 ∙ sym f.1
          | inr f ↦ absurd (none_has (new_name places) places k d free (sym (there k f.1) ∙ at_k) (sym same
              ∙ sym (ap (λ (y : Company). y.name) (mine m c e.1 at_m))))
        ]
        | inr e ↦ elim (eqb_tells k n) [
          | inl f ↦ absurd (none_has (new_name places) places m c free (sym (there m e.1) ∙ at_m) (same
              ∙ sym (ap (λ (y : Company). y.name) (mine k d f.1 at_k))))
          | inr f ↦ s.names m k c d (sym (there m e.1) ∙ at_m) (sym (there k f.1) ∙ at_k) same
        ]
      ];
      few = s.few;
      rising = s.rising;
      signs = All-weaker (IsSign places) (IsSign after)
          (λ g h. record {
            id = h.id;
            owner = elim (eqb_tells g.owner n) [
              | inl e ↦ subst (λ k. IsSome (company_at after k)) (sym e.1) (rw here refl)
              | inr e ↦ rw (there g.owner e.1) h.owner
            ];
            tile = h.tile;
            text = h.text;
          }) w.signs s.signs;
    }

-- as the code leaves it
pub IsSound-founded_at : (w : WorldState) (slice : List (Option Company)) (n : ℕ) (fresh : Company) → slice ≡ w.companies
    → n ≡ new_number slice → fresh ≡ new_company slice → list_any is_none w.companies ≡ true
    → IsSound w → IsSound (record w { companies = set w.companies n (Some fresh) })
IsSound-founded_at w slice n fresh same number is room s =
    subst (λ k. IsSound (record w { companies = set w.companies k (Some fresh) })) (sym (number ∙ ap new_number same))
    (subst (λ c. IsSound (record w { companies = set w.companies (new_number w.companies) (Some c) })) (sym (is ∙ ap new_company same))
    (IsSound-founded w room s))

pub founded_live : (w : WorldState) → list_any is_none w.companies ≡ true → (k : ℕ) → IsSome (company_at w.companies k)
    → IsSome (company_at (founded w).companies k)
founded_live w room k some =
    let places = w.companies in
    elim (eqb_tells k (new_number places)) [
      | inl e ↦ subst (λ j. IsSome (company_at (set places (new_number places) (Some (new_company places))) j)) (sym e.1)
          (rw (get_or-set_same places (new_number places) (Some (new_company places)) None (number_bound places room)) refl)
      | inr e ↦ rw (get_or-set_other places (new_number places) k (Some (new_company places)) None e.1) some
    ]
