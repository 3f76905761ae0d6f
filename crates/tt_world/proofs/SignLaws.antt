-- Signs: the least unused id where ids rise, and what stays true where a sign comes, changes or goes.
use Rattle.std.proofs.Common.{
  ◌≡◌,
  ℕ,
  zero,
  suc,
  ◌+◌,
  ◌<◌,
  ◌≤◌,
  Bool,
  true,
  false,
  List,
  [],
  ◌∷◌,
  ◌++◌,
  map,
  take,
  drop,
  length,
  refl,
  sym,
  ◌∙◌,
  ap,
  subst,
  arith,
  inl,
  inr,
  zero-add,
}
use Rattle.std.specs.Prelude.{Some, None, IsSome, All, not, cond, filter, ◌==◌, nat_lt}
use Rattle.std.specs.List.{list_any, position, position_or_len, insert, remove}
use Rattle.std.proofs.lemmas.Bool.Decides.{nat_tests, eqb_tells}
use Rattle.std.proofs.lemmas.List.Elements.{All-weaker, All-cons, All-head, All-tail, All-map, All-filter}
use Rattle.tt_frame.proofs.TestLaws.{true_or_false, test_of_lt, no_test_of_le}
use Rattle.tt_world.specs.declared.sign.Sign.{Sign}
use Rattle.tt_world.specs.World.{WorldState, company_of}
use Rattle.tt_frame.specs.Text.{IsName}
use Rattle.tt_world.specs.Sound.{IsSign, IsSound, RiseFrom}
use Rattle.tt_world.specs.Commands.{least_unused, new_id, with_sign, placed, is_sign_of, without_sign, with_text}
use Rattle.tt_world.specs.Gap.{gap_from}

-- ---- the gap

pub gap_bound : (gs : List Sign) (i : ℕ) → gap_from i gs ≤ i + length gs
gap_bound [] i = omega arith
gap_bound (g ∷ gs) i =
    elim (eqb_tells g.id i) [
      | inl p ↦ rw (p.0, gap_from) (let h = gap_bound gs (i + 1) in omega arith)
      | inr p ↦ rw (p.0, gap_from) (omega arith)
    ]

pub gap_least : (gs : List Sign) (i : ℕ) → i ≤ gap_from i gs
gap_least [] i = omega arith
gap_least (g ∷ gs) i =
    elim (eqb_tells g.id i) [
      | inl p ↦ rw (p.0, gap_from) (let h = gap_least gs (i + 1) in omega arith)
      | inr p ↦ rw (p.0, gap_from) (omega arith)
    ]

pub rise_least : (gs : List Sign) (i j : ℕ) → i ≤ j → RiseFrom j gs → RiseFrom i gs
rise_least [] i j le h = tt
rise_least (g ∷ gs) i j le h = let first : j ≤ g.id = h.0 in (omega arith, h.1)

apart : (a b : ℕ) → b < a → (a == b) ≡ false
apart a b lt = grind (arith, nat_tests)

unused_above : (gs : List Sign) (i j : ℕ) → i < j → RiseFrom j gs → list_any (λ k. k == i) (map (λ g. g.id) gs) ≡ false
unused_above [] i j lt h = refl
unused_above (g ∷ gs) i j lt h =
    let first : j ≤ g.id = h.0 in
    rw (apart g.id i (omega arith)) (unused_above gs i (g.id + 1) (omega arith) h.1)

skip : (ids : List ℕ) (k j n : ℕ) → k < j → least_unused (k ∷ ids) j n ≡ least_unused ids j n
skip ids k j zero lt = refl
skip ids k j (suc n) lt =
    let other : (k == j) ≡ false = grind (arith, nat_tests) in
    rw (other, least_unused)
    (elim (list_any (λ x. x == j) ids) as (λ b. elim b [ true ↦ least_unused (k ∷ ids) (j + 1) n | false ↦ j ] ≡ elim b
    [ true ↦ least_unused ids (j + 1) n | false ↦ j ]) [
      | true ↦ skip ids k (j + 1) n (omega arith)
      | false ↦ refl
    ])

behind : (g : Sign) (gs : List Sign) (i : ℕ) → g.id ≡ i → RiseFrom (g.id + 1) gs → RiseFrom (i + 1) gs
behind g gs i e h = subst (λ k. RiseFrom (k + 1) gs) e h

gap_is : (gs : List Sign) (i n : ℕ) → RiseFrom i gs → length gs ≤ n → gap_from i gs ≡ least_unused (map (λ g. g.id) gs) i n
gap_is [] i zero h le = refl
gap_is [] i (suc n) h le = refl
gap_is (g ∷ gs) i zero h le = absurd (omega arith)
gap_is (g ∷ gs) i (suc n) h le =
    elim (eqb_tells g.id i) [
      | inl p ↦ rw (p.0, gap_from, least_unused) (gap_is gs (i + 1) n (behind g gs i p.1 h.1) (omega arith)
          ∙ sym (skip (map (λ x. x.id) gs) g.id (i + 1) n (let e = p.1 in omega arith)))
      | inr p ↦ let first : i ≤ g.id = h.0 in let ne = p.1 in
          rw (p.0, gap_from, least_unused, unused_above gs i (g.id + 1) (omega arith) h.1) refl
    ]

pub new_id_is : (gs : List Sign) → RiseFrom 0 gs → length gs ≤ 1000 → gap_from 0 gs ≡ new_id gs
unfolding new_id
new_id_is gs h le = gap_is gs 0 1000 h le

at_gap : (sign : Sign) (gs : List Sign) (i k : ℕ) → gap_from i gs ≡ i + k → RiseFrom i gs → sign.id ≡ i + k
    → with_sign sign gs ≡ insert gs k sign
at_gap sign [] i zero e h is = refl
at_gap sign [] i (suc k) e h is = absurd (omega arith)
at_gap sign (g ∷ gs) i zero e h is =
    elim (eqb_tells g.id i) [
      | inl p ↦ let f = rw (p.0, gap_from) at e in let low = gap_least gs (i + 1) in absurd (omega arith)
      | inr p ↦ let first : i ≤ g.id = h.0 in let ne = p.1 in rw (test_of_lt sign.id g.id (omega arith), with_sign) refl
    ]
at_gap sign (g ∷ gs) i (suc k) e h is =
    elim (eqb_tells g.id i) [
      | inl p ↦ let f = rw (p.0, gap_from) at e in let same = p.1 in
          rw (no_test_of_le sign.id g.id (omega arith), with_sign) (ap (λ xs. g ∷ xs) (at_gap sign gs (i + 1) k (omega arith)
          (behind g gs i p.1 h.1) (omega arith)))
      | inr p ↦ let f = rw (p.0, gap_from) at e in absurd (omega arith)
    ]

rise_with : (sign : Sign) (gs : List Sign) (i : ℕ) → RiseFrom i gs → sign.id ≡ gap_from i gs → RiseFrom i (with_sign sign gs)
rise_with sign [] i h is = (omega arith, tt)
rise_with sign (g ∷ gs) i h is =
    elim (eqb_tells g.id i) [
      | inl p ↦ let f = rw (p.0, gap_from) at is in let same = p.1 in let low = gap_least gs (i + 1) in
          rw (no_test_of_le sign.id g.id (omega arith), with_sign) (
            h.0,
            subst (λ k. RiseFrom (k + 1) (with_sign sign gs)) (sym same)
                (rise_with sign gs (i + 1) (behind g gs i same h.1) f),
          )
      | inr p ↦ let f = rw (p.0, gap_from) at is in let first : i ≤ g.id = h.0 in let ne = p.1 in
          rw (test_of_lt sign.id g.id (omega arith), with_sign) (omega arith, (omega arith, h.1))
    ]

length_with : (sign : Sign) (gs : List Sign) → length (with_sign sign gs) ≡ length gs + 1
length_with sign [] = refl
length_with sign (g ∷ gs) =
    let n = length_with sign gs in
    elim (true_or_false (nat_lt sign.id g.id)) [ inl e ↦ rw (e, with_sign) (omega arith) | inr e ↦ rw (e, with_sign) (omega arith) ]

all_with : (P : Sign → Type 0) (sign : Sign) (gs : List Sign) → P sign → All P gs → All P (with_sign sign gs)
all_with P sign [] is all = All-cons P sign [] is all
all_with P sign (g ∷ gs) is all =
    elim (nat_lt sign.id g.id) as (λ b. All P (elim b [ true ↦ sign ∷ g ∷ gs | false ↦ g ∷ with_sign sign gs ])) [
      | true ↦ All-cons P sign (g ∷ gs) is all
      | false ↦ All-cons P g (with_sign sign gs) (All-head P g gs all) (all_with P sign gs is (All-tail P g gs all))
    ]

-- ---- a sign that comes

pub IsSound-signs : (w : WorldState) (signs : List Sign) → length signs ≤ 1000 → RiseFrom 0 signs → All (IsSign w.companies) signs
    → IsSound w → IsSound (record w { signs = signs })
IsSound-signs w signs few rising each s =
    record { part = s.part; places = s.places; companies = s.companies; names = s.names; few = few; rising = rising; signs = each }

pub IsSound-placed : (w : WorldState) (owner tile : ℕ) (text : List ℕ) → IsSome (company_of w owner) → tile < 1048576 → IsName text
    → length w.signs < 1000
    → IsSound w → IsSound (record w { signs = placed owner tile text w.signs })
IsSound-placed w owner tile text live tile_is name room s =
    let sign : Sign = record { id = new_id w.signs; owner = owner; tile = tile; text = text } in
    let id : gap_from 0 w.signs ≡ new_id w.signs = new_id_is w.signs s.rising s.few in
    let bound : gap_from 0 w.signs ≤ 0 + length w.signs = gap_bound w.signs 0 in
    IsSound-signs w (with_sign sign w.signs) (let n = length_with sign w.signs in omega arith)
    (rise_with sign w.signs 0 s.rising (sym id))
    (all_with (IsSign w.companies) sign w.signs (record { id = omega arith; owner = live; tile = tile_is; text = name }) s.signs) s

-- as the code places it
pub placed_is : (gs : List Sign) (gap owner tile : ℕ) (text : List ℕ) → gap ≡ gap_from 0 gs → RiseFrom 0 gs → length gs ≤ 1000
    → insert gs gap (record { id = gap; owner = owner; tile = tile; text = text }) ≡ placed owner tile text gs
placed_is gs gap owner tile text is rising few =
    let sign : Sign = record { id = gap; owner = owner; tile = tile; text = text } in
    let e : with_sign sign gs ≡ insert gs gap sign = at_gap sign gs 0 gap (sym is ∙ sym (zero-add gap)) rising (sym (zero-add gap)) in
    sym e ∙ ap (λ k. with_sign (record { id = k; owner = owner; tile = tile; text = text }) gs) (is ∙ new_id_is gs rising few)

-- ---- a sign that changes or goes

not_this : (id owner : ℕ) (g : Sign) → id < g.id → is_sign_of id owner g ≡ false
not_this id owner g lt = rw (apart g.id id lt) refl

no_loss : (id owner : ℕ) (gs : List Sign) (j : ℕ) → id < j → RiseFrom j gs → without_sign id owner gs ≡ gs
no_loss id owner [] j lt h = refl
no_loss id owner (g ∷ gs) j lt h =
    let first : j ≤ g.id = h.0 in
    rw (not_this id owner g (omega arith)) (ap (λ xs. g ∷ xs) (no_loss id owner gs (g.id + 1) (omega arith) h.1))

this_id : (id owner : ℕ) (g : Sign) → is_sign_of id owner g ≡ true → g.id ≡ id
this_id id owner g e = elim (eqb_tells g.id id) [ inl p ↦ p.1 | inr p ↦ absurd (let f = rw p.0 at e in cc) ]

remove_next : (g : Sign) (gs : List Sign) (p : ℕ) → remove (g ∷ gs) (1 + p) ≡ g ∷ remove gs p
remove_next g gs p = let e : 1 + p ≡ suc p = omega arith in rw e refl

pub removed_is : (id owner : ℕ) (gs : List Sign) (i : ℕ) → RiseFrom i gs → list_any (is_sign_of id owner) gs ≡ true
    → remove gs (position_or_len (is_sign_of id owner) gs) ≡ without_sign id owner gs
removed_is id owner [] i h e = absurd cc
removed_is id owner (g ∷ gs) i h e =
    elim (true_or_false (is_sign_of id owner g)) [
      | inl so ↦ rw so (sym (no_loss id owner gs (g.id + 1) (let same = this_id id owner g so in omega arith) h.1))
      | inr not_so ↦ let rest = rw not_so at e in rw not_so (remove_next g gs (position_or_len (is_sign_of id owner) gs)
          ∙ ap (λ xs. g ∷ xs) (removed_is id owner gs (g.id + 1) h.1 rest))
    ]

rise_filter : (p : Sign → Bool) (gs : List Sign) (i : ℕ) → RiseFrom i gs → RiseFrom i (filter p gs)
rise_filter p [] i h = tt
rise_filter p (g ∷ gs) i h =
    elim (p g) as (λ b. RiseFrom i (cond b (g ∷ filter p gs) (filter p gs))) [
      | true ↦ (h.0, rise_filter p gs (g.id + 1) h.1)
      | false ↦ let first : i ≤ g.id = h.0 in rise_least (filter p gs) i (g.id + 1) (omega arith) (rise_filter p gs (g.id + 1) h.1)
    ]

few_filter : (p : Sign → Bool) (gs : List Sign) → length (filter p gs) ≤ length gs
few_filter p [] = omega arith
few_filter p (g ∷ gs) =
    let n = few_filter p gs in
    elim (p g) as (λ b. length (cond b (g ∷ filter p gs) (filter p gs)) ≤ suc (length gs)) [ true ↦ omega arith | false ↦ omega arith ]

pub IsSound-without : (w : WorldState) (id owner : ℕ) → IsSound w → IsSound (record w { signs = without_sign id owner w.signs })
IsSound-without w id owner s =
    let kept = λ (g : Sign). not (is_sign_of id owner g) in
    IsSound-signs w (filter kept w.signs) (let n = few_filter kept w.signs in let few = s.few in omega arith) (rise_filter kept w.signs 0
    s.rising)
    (All-filter kept (IsSign w.companies) w.signs s.signs) s

same_id : (id owner : ℕ) (text : List ℕ) (g : Sign) → (cond (is_sign_of id owner g) (record g { text = text }) g).id ≡ g.id
same_id id owner text g =
    elim (is_sign_of id owner g) as (λ b. (cond b (record g { text = text }) g).id ≡ g.id) [ true ↦ refl | false ↦ refl ]

rise_text : (id owner : ℕ) (text : List ℕ) (gs : List Sign) (i : ℕ) → RiseFrom i gs → RiseFrom i (with_text id owner text gs)
rise_text id owner text [] i h = tt
rise_text id owner text (g ∷ gs) i h = (
  subst (λ k. i ≤ k) (sym (same_id id owner text g)) h.0,
  subst (λ k. RiseFrom (k + 1) (with_text id owner text gs))
      (sym (same_id id owner text g)) (rise_text id owner text gs (g.id + 1) h.1),
)

few_text : (id owner : ℕ) (text : List ℕ) (gs : List Sign) → length (with_text id owner text gs) ≡ length gs
few_text id owner text [] = refl
few_text id owner text (g ∷ gs) = ap suc (few_text id owner text gs)

pub IsSound-text : (w : WorldState) (id owner : ℕ) (text : List ℕ) → IsName text → IsSound w
    → IsSound (record w { signs = with_text id owner text w.signs })
IsSound-text w id owner text name s =
    IsSound-signs w (with_text id owner text w.signs) (let n = few_text id owner text w.signs in let few = s.few in omega arith)
    (rise_text id owner text w.signs 0 s.rising)
    (All-map (IsSign w.companies) (λ g. cond (is_sign_of id owner g) (record g { text = text }) g) w.signs
    (All-weaker (IsSign w.companies) (λ g. IsSign w.companies (cond (is_sign_of id owner g) (record g { text = text }) g))
    (λ g h. elim (is_sign_of id owner g) as (λ b. IsSign w.companies (cond b (record g { text = text }) g)) [
      | true ↦ record { id = h.id; owner = h.owner; tile = h.tile; text = name }
      | false ↦ h
    ])
    w.signs s.signs)) s

-- a sign that is there has a place
pub place_bound : (p : Sign → Bool) (gs : List Sign) → list_any p gs ≡ true → position_or_len p gs < length gs
place_bound p [] e = absurd cc
place_bound p (g ∷ gs) e =
    elim (true_or_false (p g)) [
      | inl so ↦ rw so (omega arith)
      | inr not_so ↦ let rest = place_bound p gs (rw not_so at e) in rw not_so (omega arith)
    ]

pub place_is : (p : Sign → Bool) (gs : List Sign) (place : ℕ) → list_any p gs ≡ true → Some place ≡ position p gs
    → (place ≡ position_or_len p gs) × (place < length gs)
place_is p gs place there e =
    let bound = place_bound p gs there in
    let test : nat_lt (position_or_len p gs) (length gs) ≡ true = test_of_lt (position_or_len p gs) (length gs) bound in
    let f : Some place ≡ Some (position_or_len p gs) = rw test at e in
    let same : place ≡ position_or_len p gs = cc in
    (same, rw same bound)

pub no_place : (p : Sign → Bool) (gs : List Sign) → list_any p gs ≡ true → None ≡ position p gs → ⊥
no_place p gs there e =
    let test : nat_lt (position_or_len p gs) (length gs) ≡ true = test_of_lt (position_or_len p gs) (length gs) (place_bound p gs there) in
    let f : None ≡ Some (position_or_len p gs) = rw test at e in
    absurd cc

-- ---- as the code leaves the list

pub IsSound-at_signs : (w : WorldState) (signs same : List Sign) → signs ≡ same → IsSound (record w { signs = same })
    → IsSound (record w { signs = signs })
IsSound-at_signs w signs same e s = subst (λ x. IsSound (record w { signs = x })) (sym e) s

pub taken_is : (id owner : ℕ) (items slice after seen : List Sign) (place : ℕ) → after ≡ remove items place
    → place ≡ position_or_len (is_sign_of id owner) slice → slice ≡ items
    → items ≡ seen → RiseFrom 0 items → list_any (is_sign_of id owner) seen ≡ true → after ≡ without_sign id owner items
taken_is id owner items slice after seen place written at same view rising there =
    written ∙ ap (remove items) (at ∙ ap (position_or_len (is_sign_of id owner)) same)
    ∙ removed_is id owner items 0 rising (subst (λ x. list_any (is_sign_of id owner) x ≡ true) (sym view) there)

take_front : (xs ys : List Sign) → take (length xs) (xs ++ ys) ≡ xs
take_front [] ys = refl
take_front (x ∷ xs) ys = ap (λ zs. x ∷ zs) (take_front xs ys)

-- a slice written over the whole list
pub changed_is : (id owner len : ℕ) (text : List ℕ) (items slice after : List Sign) → after ≡ with_text id owner text slice → slice ≡ items
    → length slice ≡ len
    → take len (after ++ drop (length after) items) ≡ with_text id owner text items
changed_is id owner len text items slice after written same n =
    let few : length after ≡ len = ap length written ∙ few_text id owner text slice ∙ n in
    subst (λ k. take k (after ++ drop (length after) items) ≡ with_text id owner text items) few
    (take_front after (drop (length after) items) ∙ written ∙ ap (with_text id owner text) same)

pub held_placed : (w v : WorldState) (owner tile : ℕ) (text : List ℕ) (signs : List Sign) → w ≡ v → signs ≡ placed owner tile text w.signs
    → record w { signs = signs } ≡ record v { signs = placed owner tile text v.signs }
held_placed w v owner tile text signs same e =
    ap (λ (x : List Sign). record w { signs = x }) e ∙ ap (λ (x : WorldState). record x { signs = placed owner tile text x.signs }) same
