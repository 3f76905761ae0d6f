-- Who stands in the queue.
use Rattle.std.proofs.Common.{◌≡◌, ℕ, ◌≤◌, List, [], ◌∷◌, refl, ap, sym, ◌∙◌, true, false, Some, inl, inr, arith, suc}
use Rattle.std.specs.Prelude.{◌==◌, ◌||◌, filter, length}
use Rattle.std.specs.List.{list_any}
use Rattle.std.proofs.lemmas.Bool.{eq-eqb}
use Rattle.tt_edge.specs.declared.event.Event.{Event}
use Rattle.tt_rules.specs.declared.status.Status.{Status}
use Rattle.tt_rules.specs.declared.status.Status.TheVariants.{Inactive, NewgrfsCheck, AuthGame, AuthCompany, Authorized, MapWait, Map}
use Rattle.tt_rules.specs.declared.status.Status.TheVariants.{DoneMap, PreActive, Active}
use Rattle.tt_rules.specs.Statuses.{rank, is_at}
use Rattle.tt_log.specs.Origin.{Origin}
use Rattle.tt_log.specs.Member.{Member, is_loading}
use Rattle.tt_log.specs.Table.{member_of, is_live}
use Rattle.tt_log.specs.History.{table_of}
use Rattle.tt_log.specs.Told.{heard}
use Rattle.tt_log.proofs.Lists.{NotIn, any-not}
use Rattle.tt_log.proofs.Apart.{Apart}
use Rattle.tt_log.proofs.Crew.{found-on}
use Rattle.tt_log.proofs.Phases.{Phase, Early, Queued, InGame, fits, OnceIn, Place}
use Rattle.tt_log.proofs.Ended.{IsKept, is-kept, suits-found, gone-apart}

once-there : (c : ℕ) (q : List ℕ) → OnceIn c q → list_any (λ x. x == c) q ≡ true
once-there c [] a = absurd a
once-there c (x ∷ xs) (inl own) = rw own.0 refl
once-there c (x ∷ xs) (inr other) = rw other.0 (once-there c xs other.1)

none-counted : (c : ℕ) (q : List ℕ) → NotIn c q → length (filter (λ x. x == c) q) ≡ 0
none-counted c [] a = refl
none-counted c (x ∷ xs) a = rw a.0 (none-counted c xs a.1)

once-counted : (c : ℕ) (q : List ℕ) → OnceIn c q → length (filter (λ x. x == c) q) ≡ 1
once-counted c [] a = absurd a
once-counted c (x ∷ xs) (inl own) = rw own.0 (ap (λ (n : ℕ). suc n) (none-counted c xs own.1))
once-counted c (x ∷ xs) (inr other) = rw other.0 (once-counted c xs other.1)

loads-early : (s : Status) → rank s ≤ 4 → (is_at MapWait s || is_at Map s || is_at DoneMap s) ≡ false
loads-early Inactive low = refl
loads-early NewgrfsCheck low = refl
loads-early AuthGame low = refl
loads-early AuthCompany low = refl
loads-early Authorized low = refl
loads-early MapWait low = absurd (omega (arith, low))
loads-early Map low = absurd (omega (arith, low))
loads-early DoneMap low = absurd (omega (arith, low))
loads-early PreActive low = refl
loads-early Active low = refl

loads-queued : (s : Status) → 5 ≤ rank s → rank s ≤ 7 → (is_at MapWait s || is_at Map s || is_at DoneMap s) ≡ true
loads-queued Inactive low high = absurd (omega (arith, low))
loads-queued NewgrfsCheck low high = absurd (omega (arith, low))
loads-queued AuthGame low high = absurd (omega (arith, low))
loads-queued AuthCompany low high = absurd (omega (arith, low))
loads-queued Authorized low high = absurd (omega (arith, low))
loads-queued MapWait low high = refl
loads-queued Map low high = refl
loads-queued DoneMap low high = refl
loads-queued PreActive low high = absurd (omega (arith, high))
loads-queued Active low high = absurd (omega (arith, high))

loads-playing : (s : Status) → 8 ≤ rank s → (is_at MapWait s || is_at Map s || is_at DoneMap s) ≡ false
loads-playing Inactive low = refl
loads-playing NewgrfsCheck low = refl
loads-playing AuthGame low = refl
loads-playing AuthCompany low = refl
loads-playing Authorized low = refl
loads-playing MapWait low = absurd (omega (arith, low))
loads-playing Map low = absurd (omega (arith, low))
loads-playing DoneMap low = absurd (omega (arith, low))
loads-playing PreActive low = refl
loads-playing Active low = refl

queue-by : (p : Phase) (c : ℕ) (m : Member) (q xs : List ℕ) → fits p (rank m.status) → Place p c q xs → list_any (λ x. x == c) q
    ≡ is_loading m
queue-by Early c m q xs fit h = any-not c q h ∙ sym (loads-early m.status fit)
queue-by Queued c m q xs fit h = once-there c q h.0 ∙ sym (loads-queued m.status fit.0 fit.1)
queue-by InGame c m q xs fit h = any-not c q h ∙ sym (loads-playing m.status fit)

count-by : (p : Phase) (c : ℕ) (q xs : List ℕ) → Place p c q xs → length (filter (λ x. x == c) q) ≤ 1
count-by Early c q xs h = omega (arith, none-counted c q h)
count-by Queued c q xs h = omega (arith, once-counted c q h.0)
count-by InGame c q xs h = omega (arith, none-counted c q h)

pub queue-members : (o : Origin) (es : List Event) (c : ℕ) (m : Member) → member_of (table_of o es) c ≡ Some m
    → list_any (λ x. x == c) (table_of o es).queue ≡ is_loading m
queue-members o es c m is =
    let kept : IsKept c (table_of o es) (heard o es c) = is-kept c o es in
    let own : (m.conn == c) ≡ true = eq-eqb m.conn c (found-on c (table_of o es).members m is) in
    queue-by kept.phase c m (table_of o es).queue _ (suits-found c kept.phase (table_of o es) m is kept.holds own) kept.holds.place

pub queue-others : (o : Origin) (es : List Event) (c : ℕ) → is_live (table_of o es) c ≡ false → list_any (λ x. x == c) (table_of o es).queue
    ≡ false
queue-others o es c gone =
    let kept : IsKept c (table_of o es) (heard o es c) = is-kept c o es in
    let a : Apart c (table_of o es) = gone-apart c kept.phase (table_of o es) gone kept.holds in
    any-not c (table_of o es).queue a.queue

pub queue-once : (o : Origin) (es : List Event) (c : ℕ) → length (filter (λ x. x == c) (table_of o es).queue) ≤ 1
queue-once o es c = let kept : IsKept c (table_of o es) (heard o es c) = is-kept c o es in
    count-by kept.phase c (table_of o es).queue _ kept.holds.place
