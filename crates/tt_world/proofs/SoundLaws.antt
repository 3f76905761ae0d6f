-- What is true of every world stays true: where companies change and keep their names.
use Rattle.std.proofs.Common.{◌≡◌, ℕ, zero, suc, ◌<◌, List, length, get_or, replicate, refl, sym, ◌∙◌, subst, arith, lit<}
use Rattle.std.specs.Prelude.{Option, Some, None, IsSome, All, option_map}
use Rattle.std.proofs.lemmas.List.Elements.{All-weaker, All-nil}
use Rattle.tt_world.specs.declared.company.Company.{Company}
use Rattle.tt_world.specs.declared.sign.Sign.{Sign}
use Rattle.tt_world.specs.declared.setup.Setup.{Setup}
use Rattle.tt_world.specs.World.{WorldState, company_at, start}
use Rattle.tt_world.specs.Sound.{IsCompany, IsSign, IsSound, HasDistinctNames}

abbrev nobody : Option Company
nobody = None

none_at : (k n : ℕ) → get_or (replicate k nobody) n None ≡ None
none_at zero n = refl
none_at (suc k) zero = refl
none_at (suc k) (suc n) = none_at k n

no_company : {P : Type 0} (n : ℕ) (c : Company) → get_or (replicate 15 nobody) n None ≡ Some c → P
no_company n c e = let none = none_at 15 n in absurd cc

pub IsSound-start : (setup : Setup) → IsSound (start setup)
IsSound-start setup = record {
  part = lit< tt;
  places = refl;
  companies = λ n c e. no_company n c e;
  names = λ m n c d e f same. no_company m c e;
  few = omega arith;
  rising = tt;
  signs = All-nil (IsSign (start setup).companies);
}

-- what stands at a place behind a change: the same company, as far as its name goes
abbrev pub Follows : Option Company → Option Company → Type 0
Follows None None = Unit {0}
Follows None (Some d) = ⊥
Follows (Some c) None = ⊥
Follows (Some c) (Some d) = (c.name ≡ d.name) × (IsCompany c → IsCompany d)

pub Follows-same : (o : Option Company) → Follows o o
Follows-same None = tt
Follows-same (Some c) = (refl, λ h. h)

pub Follows-map : (f : Company → Company) → ((c : Company) → c.name ≡ (f c).name) → (o : Option Company) → ((c : Company) → o ≡ Some c
    → IsCompany c → IsCompany (f c)) → Follows o (option_map f o)
Follows-map f names None each = tt
Follows-map f names (Some c) each = (names c, each c refl)

pub record Before (o : Option Company) (d : Company) : Type 0 where
  pub company : Company
  pub was : o ≡ Some company
  pub name : company.name ≡ d.name
  pub sound : IsCompany company → IsCompany d

pub before : (o p : Option Company) (d : Company) → Follows o p → p ≡ Some d → Before o d
before None None d h e = absurd cc
before None (Some x) d h e = absurd h
before (Some c) None d h e = absurd h
before (Some c) (Some x) d h e =
    let same : x ≡ d = cc in
    record { company = c; was = refl; name = subst (λ y. c.name ≡ y.name) same h.0; sound = λ s. subst (λ y. IsCompany y) same (h.1 s) }

pub live_behind : (o p : Option Company) → Follows o p → IsSome o → IsSome p
live_behind None None h e = e
live_behind None (Some x) h e = refl
live_behind (Some c) None h e = absurd h
live_behind (Some c) (Some x) h e = refl

-- each place follows
abbrev pub FollowsEach : List (Option Company) → List (Option Company) → Type 0
FollowsEach old new = (n : ℕ) → Follows (company_at old n) (company_at new n)

pub signs_follow : (old new : List (Option Company)) → FollowsEach old new → (signs : List Sign) → All (IsSign old) signs
    → All (IsSign new) signs
signs_follow old new each signs all =
    All-weaker (IsSign old) (IsSign new)
    (λ g s. record {
      id = s.id;
      owner = live_behind (company_at old g.owner) (company_at new g.owner) (each g.owner) s.owner;
      tile =
          s.tile;
      text = s.text;
    })
    signs all

pub names_follow : (old new : List (Option Company)) → FollowsEach old new → HasDistinctNames old → HasDistinctNames new
names_follow old new each names m n c d at_m at_n same =
    let b = before (company_at old m) (company_at new m) c (each m) at_m in
    let e = before (company_at old n) (company_at new n) d (each n) at_n in
    names m n b.company e.company b.was e.was (b.name ∙ same ∙ sym e.name)

pub companies_follow : (old new : List (Option Company)) → FollowsEach old new → ((n : ℕ) (c : Company) → company_at old n ≡ Some c
    → IsCompany c) → (n : ℕ) (c : Company) → company_at new n ≡ Some c → IsCompany c
companies_follow old new each sound n c e =
    let b = before (company_at old n) (company_at new n) c (each n) e in
    b.sound (sound n b.company b.was)

pub IsSound-follows : (w v : WorldState) → IsSound w → v.part < 74 → length v.companies ≡ 15 → FollowsEach w.companies v.companies
    → v.signs ≡ w.signs → IsSound v
IsSound-follows w v s part places each signs =
    record {
      part = part;
      places = places;
      companies = companies_follow w.companies v.companies each s.companies;
      names = names_follow w.companies v.companies each s.names;
      few = rw signs s.few;
      rising = rw signs s.rising;
      signs = rw signs (signs_follow w.companies v.companies each w.signs s.signs);
    }
