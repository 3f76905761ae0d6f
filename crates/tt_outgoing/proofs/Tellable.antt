-- What an event tells may be told: connections in order stand there once each, and none is told anything that isn't opened.
use Rattle.std.proofs.Common.{◌≡◌, ◌≢◌, ◌⊎◌, inl, inr, ℕ, zero, suc, ◌≤◌, ◌<◌, List, [], ◌∷◌, ◌++◌, refl, sym, ◌∙◌, subst, true}
use Rattle.std.proofs.Common.{false, Bool, arith}
use Rattle.std.specs.Prelude.{◌==◌, length, map, nat_lt, slice_index_or}
use Rattle.std.specs.List.{AllByRecursion, list_any}
use Rattle.std.proofs.lemmas.Bool.{eq-eqb, ltb-false, ltb-true}
use Rattle.std.proofs.lemmas.List.Elements.{All-from_recursion}
use Rattle.tt_edge.specs.declared.event.Event.{Event}
use Rattle.tt_log.specs.declared.deed.Step.{Step}
use Rattle.tt_log.specs.declared.deed.What.{What}
use Rattle.tt_log.specs.declared.deed.What.TheVariants.{End}
use Rattle.tt_log.specs.Origin.{Origin}
use Rattle.tt_log.specs.Table.{Table, first}
use Rattle.tt_log.specs.Deed.{Said}
use Rattle.tt_log.specs.Events.{deed}
use Rattle.tt_log.specs.Filling.{Filling}
use Rattle.tt_log.specs.History.{AreRising, table_of}
use Rattle.tt_log.specs.Tellings.{Telling, filled, filling, said_by, telling, tellings}
use Rattle.tt_log.specs.Told.{heard, kept_if, told_by, told_to}
use Rattle.tt_log.proofs.Lists.{IsOther, NotIn, all-append}
use Rattle.tt_log.proofs.Going.{heard-append}
use Rattle.tt_log.proofs.Ordered.{Ordered, is-ordered}
use Rattle.tt_log.proofs.Ended.{none-there, nought, unopened}
use Rattle.tt_outgoing.specs.Staging.{MayAllBeSaid}
use Rattle.tt_outgoing.proofs.Audiences.{Fair, IsInOrder, Rises, Seated, fair-deed, rises-of}

-- ---- connections in order stand there once each

rising-above : (k j : ℕ) (xs : List ℕ) → AreRising k xs → j < length xs → k < slice_index_or xs j 0
rising-above k j [] r inside = absurd (omega (arith, inside))
rising-above k zero (x ∷ xs) r inside = r.0
rising-above k (suc j) (x ∷ xs) r inside =
    let a : k < x = r.0 in
    let b : x < slice_index_or xs j 0 = rising-above x j xs r.1 (omega (arith, inside)) in
    omega (arith, a, b)

pub rises-once : (xs : List ℕ) (i j : ℕ) → Rises xs → i < j → j < length xs → slice_index_or xs i 0 ≢ slice_index_or xs j 0
rises-once [] i j r before inside = absurd (omega (arith, inside))
rises-once (x ∷ xs) i zero r before inside = absurd (omega (arith, before))
rises-once (x ∷ xs) zero (suc j) r before inside = λ same.
    let a : x < slice_index_or xs j 0 = rising-above x j xs r (omega (arith, inside)) in
    let e : x ≡ slice_index_or xs j 0 = same in
    omega (arith, a, e)
rises-once (x ∷ xs) (suc i) (suc j) r before inside = rises-once xs i j (rises-of x xs r) (omega (arith, before)) (omega (arith, inside))

-- ---- from steps to what they tell

abbrev InOrder : Telling → Type 0
InOrder d = Rises d.to

all-in-order : (to : List ℕ) (said : List Said) → Rises to → AllByRecursion InOrder (map (telling to) said)
all-in-order to [] r = tt
all-in-order to (s ∷ said) r = (r, all-in-order to said r)

step-in-order : (o : Origin) (f : Filling) (to : List ℕ) (w : What) → Rises to ⊎ (w ≡ End)
    → AllByRecursion InOrder (map (telling to) (said_by o f w))
step-in-order o f to w (inl r) = all-in-order to (said_by o f w) r
step-in-order o f to w (inr is) = subst (λ (v : What). AllByRecursion InOrder (map (telling to) (said_by o f v))) (sym is) tt

filled-in-order : (o : Origin) (f : Filling) (steps : List Step) → AllByRecursion IsInOrder steps
    → AllByRecursion InOrder (filled o f steps)
filled-in-order o f [] a = tt
filled-in-order o f (s ∷ steps) a = all-append InOrder (map (telling s.to) (said_by o f s.what)) (filled o f steps)
    (step-in-order o f s.to s.what a.0) (filled-in-order o f steps a.1)

-- ---- nobody is told anything that isn't opened

-- a connection that isn't opened, of so many
abbrev IsOut : ℕ → ℕ → Type 0
IsOut opened c = (c ≡ 0) ⊎ (opened < c)

in-range : (opened c : ℕ) → (IsOut opened c → ⊥) → (1 ≤ c) × (c ≤ opened)
in-range opened zero never = absurd (never (inl refl))
in-range opened (suc c) never = by (nat_lt opened (suc c)) refl
  where
    by : (b : Bool) → nat_lt opened (suc c) ≡ b → (1 ≤ suc c) × (suc c ≤ opened)
    by true is = absurd (never (inr (ltb-true opened (suc c) is)))
    by false is = (omega arith, ltb-false opened (suc c) is)

each-in-range : (opened : ℕ) (to : List ℕ) → ((c : ℕ) → IsOut opened c → NotIn c to)
    → AllByRecursion (λ c. (1 ≤ c) × (c ≤ opened)) to
each-in-range opened [] never = tt
each-in-range opened (c ∷ to) never = (
  in-range opened c (λ out. let other : IsOther c c = (never c out).0 in let same : (c == c) ≡ true = eq-eqb c c refl in absurd cc),
  each-in-range opened to (λ d out. (never d out).1),
)

untold-by : (b : Bool) (s : Said) (rest : List Said) → kept_if b s rest ≡ [] → (b ≡ false) × (rest ≡ [])
untold-by true s rest none = absurd cc
untold-by false s rest none = (refl, none)

-- what is told to none of those that aren't opened may be said, if it is in order
pub may-be-said : (opened : ℕ) (ds : List Telling) → ((c : ℕ) → IsOut opened c → told_to c ds ≡ []) → AllByRecursion InOrder ds
    → MayAllBeSaid opened ds
may-be-said opened [] none order = tt
may-be-said opened (d ∷ ds) none order =
    let split : (c : ℕ) → IsOut opened c → (list_any (λ x. x == c) d.to ≡ false) × (told_to c ds ≡ []) =
    λ c out. untold-by (list_any (λ x. x == c) d.to) d.said (told_to c ds) (none c out) in (
      record {
        opened = All-from_recursion (λ c. (1 ≤ c) × (c ≤ opened)) d.to (each-in-range opened d.to (λ c out. none-there c d.to
            (split c out).0));
        distinct = λ i j before inside. rises-once d.to i j order.0 before inside;
      },
      may-be-said opened ds (λ c out. (split c out).1) order.1,
    )

-- ---- an event behind others

first-none : (xs ys zs : List Said) → xs ++ (ys ++ zs) ≡ [] → ys ≡ []
first-none [] [] zs none = refl
first-none [] (y ∷ ys) zs none = absurd cc
first-none (x ∷ xs) ys zs none = absurd cc

-- what a connection never heard, the last event didn't tell it
last-none : (o : Origin) (es : List Event) (e : Event) (c : ℕ) → heard o (es ++ e ∷ []) c ≡ [] → told_by o (table_of o es) e c ≡ []
last-none o es e c none = first-none (heard o es c) (told_by o (table_of o es) e c) []
    (sym (heard-append o (first o) es (e ∷ []) c) ∙ none)

untold : (o : Origin) (es : List Event) (e : Event) (c : ℕ) → IsOut (table_of o (es ++ e ∷ [])).openings c
    → told_by o (table_of o es) e c ≡ []
untold o es e c (inl is) = last-none o es e c (subst (λ (n : ℕ). heard o (es ++ e ∷ []) n ≡ []) (sym is) (nought o (es ++ e ∷ [])).1)
untold o es e c (inr above) = last-none o es e c (unopened o (es ++ e ∷ []) c above).1

is-seated : (o : Origin) (es : List Event) → Seated (table_of o es)
is-seated o es = let h : Ordered (table_of o es) = is-ordered o es in
    record { rise = h.rise; low = h.under; guests_rise = h.admins_rise; guests_low = h.admins_under }

pub may-all-be-told : (o : Origin) (es : List Event) (e : Event)
    → MayAllBeSaid (table_of o (es ++ e ∷ [])).openings (tellings o (table_of o es) (deed o e (table_of o es)))
may-all-be-told o es e =
    let t : Table = table_of o es in
    let fair : Fair (deed o e t) = fair-deed o e t (is-seated o es) in
    may-be-said (table_of o (es ++ e ∷ [])).openings (tellings o t (deed o e t)) (untold o es e)
    (filled-in-order o (filling o t (deed o e t).table) (deed o e t).told fair.told)
