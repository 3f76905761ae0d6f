-- The numbers that are kept for each connection are those of its attempts, whatever is done to the attempts.
use Rattle.std.proofs.Common.{◌≡◌, ℕ, ◌+◌, ◌<◌, Bool, true, false, not, ◌&&◌, ◌||◌, cond, List, [], ◌∷◌, ◌++◌}
use Rattle.std.proofs.Common.{Option, Some, None, refl, sym}
use Rattle.std.proofs.Common.{ap, ◌∙◌, arith, length, ap₂, append_assoc, Result, Ok, Err, OnErr}
use Rattle.std.specs.Prelude.{eqb, find, filter, is_some, slice_get}
use Rattle.std.specs.Ordering.{nat_cmp, eq_by_cmp, match_ordering, is_eq}
use Rattle.std.specs.declared.cmp.Ordering.{Ordering}
use Rattle.std.specs.declared.cmp.Ordering.TheVariants.{Greater}
use Rattle.std.specs.BTreeSet.{BTreeSet, insert_key}
use Rattle.std.specs.Cmp.{nat_cmp_is}
use Rattle.std.specs.List.{AllByRecursion, IsDistinct}
use Rattle.std.specs.Map.{lookup, remove_entry, set_value, keys_of}
use Rattle.std.specs.Set.{remove_key}
use Rattle.std.proofs.lemmas.Bool.{true≢false, eqb-true, eqb-false}
use Rattle.std.proofs.lemmas.Cmp.{nat_cmp_total, eq_by_cmp_equiv}
use Rattle.std.proofs.lemmas.Map.Keys.{IsDistinct-tail}
use Rattle.std.proofs.lemmas.Map.Lookups.{exact_unsigned}
use Rattle.std.proofs.lemmas.Map.Views.{tells_apart}
use Rattle.std.proofs.lemmas.List.{append-nil}
use Rattle.std.proofs.lemmas.List.Elements.{filter-append}
use Rattle.tt_edge.specs.declared.event.Peer.{Peer}
use Rattle.tt_gc_table.specs.Desk.{with_note}
use Rattle.tt_attempts.specs.declared.attempt.Heard.{Heard}
use Rattle.tt_gc_table.specs.declared.setup.GcSetup.{GcSetup}
use Rattle.tt_gc_table.specs.Table.{Table, Meeting}
use Rattle.tt_gc_table.specs.Parts.{is_of, is_lost}
use Rattle.tt_gc_table.specs.Hearing.{told_each}
use Rattle.tt_gc_table.specs.Meetings.{hears_it}
use Rattle.tt_gc_table.specs.Told.{bytes_to}
use Rattle.tt_gc_table.specs.OpenAttempts.{meetings_of}
use Rattle.tt_gc_table.specs.ByConnection.{numbers_in, numbers_at, without_number, numbers_of, IsIndexed, IsEnd}
use Rattle.tt_gc_table.specs.ByConnection.{at_most_one, numbered, all_numbered}
use Rattle.tt_gc_table.proofs.Keyed.{behind}
use Rattle.tt_gc_table.proofs.Numbers.{one_apart}

abbrev test : ℕ → ℕ → Bool
test n = eq_by_cmp nat_cmp n

-- ---- one connection's set

own_test : (n : ℕ) → test n n ≡ true
own_test n = (eq_by_cmp_equiv nat_cmp_total).refl n

below_test : (n k : ℕ) → k < n → test n k ≡ false
below_test n k below = ap is_eq (sym (nat_cmp_is n k Greater below))

pub same_test : (n k : ℕ) → test n k ≡ eqb n k
same_test n k = by (eqb n k) refl (test n k) refl
  where
    by : (b : Bool) → eqb n k ≡ b → (a : Bool) → test n k ≡ a → a ≡ b
    by true is true at = refl
    by true is false at = absurd (true≢false (sym (ap (test n) (sym (eqb-true n k is)) ∙ own_test n) ∙ at))
    by false is true at = absurd (eqb-false n k is (tells_apart exact_unsigned n k at))
    by false is false at = refl

-- a number above the others is put behind them, and is taken out again
pub put_behind : (n : ℕ) (ns : List ℕ) → AllByRecursion (λ (k : ℕ). k < n) ns → insert_key nat_cmp ns n ≡ ns ++ n ∷ []
put_behind n [] above = refl
put_behind n (k ∷ ns) above =
    ap (λ (r : Ordering). match_ordering r (n ∷ k ∷ ns) (k ∷ ns) (k ∷ insert_key nat_cmp ns n)) (sym (nat_cmp_is n k Greater above.0))
    ∙ ap (λ (l : List ℕ). k ∷ l) (put_behind n ns above.1)

pub taken_back : (n : ℕ) (ns : List ℕ) → AllByRecursion (λ (k : ℕ). k < n) ns → without_number n (ns ++ n ∷ []) ≡ ns
taken_back n [] above = ap (λ (b : Bool). cond {A = List ℕ} b [] (n ∷ [])) (own_test n)
taken_back n (k ∷ ns) above =
    ap (λ (b : Bool). cond b (ns ++ n ∷ []) (k ∷ without_number n (ns ++ n ∷ []))) (below_test n k above.0)
    ∙ ap (λ (l : List ℕ). k ∷ l) (taken_back n ns above.1)

-- the set of one connection is another one, and those of the others are what they were
pub updated : (m n : List (ℕ × BTreeSet ℕ)) (conn : ℕ) (o : Option (BTreeSet ℕ))
    → ((q : ℕ) → lookup (test q) n ≡ cond (test conn q) o (lookup (test q) m))
    → (c : ℕ) → numbers_at n c ≡ cond (eqb conn c) (numbers_in o) (numbers_at m c)
updated m n conn o is c =
    ap numbers_in (is c) ∙ ap (λ (b : Bool). numbers_in (cond b o (lookup (test c) m))) (same_test conn c) ∙ by (eqb conn c)
  where
    by : (b : Bool) → numbers_in (cond b o (lookup (test c) m)) ≡ cond b (numbers_in o) (numbers_at m c)
    by true = refl
    by false = refl

-- what is written at this connection is a change of what stood there
pub written : (m n : List (ℕ × BTreeSet ℕ)) (conn : ℕ) (ns : List ℕ) (change : List ℕ → List ℕ)
    → ((c : ℕ) → numbers_at n c ≡ cond (eqb conn c) ns (numbers_at m c)) → ns ≡ change (numbers_at m conn)
    → (c : ℕ) → numbers_at n c ≡ cond (eqb conn c) (change (numbers_at m c)) (numbers_at m c)
written m n conn ns change is to c = is c ∙ by (eqb conn c) refl
  where
    by : (b : Bool) → eqb conn c ≡ b → cond b ns (numbers_at m c) ≡ cond b (change (numbers_at m c)) (numbers_at m c)
    by true same = to ∙ ap (λ (k : ℕ). change (numbers_at m k)) (eqb-true conn c same)
    by false other = refl

-- ---- what is done to the attempts

pub indexed_set : (c : ℕ) (p : ℕ → Bool) (es : List (ℕ × Meeting)) (v w : Meeting) → lookup p es ≡ Some v → is_of c w ≡ is_of c v
    → numbers_of c (set_value p es w) ≡ numbers_of c es
indexed_set c p [] v w is same = refl
indexed_set c p (e ∷ es) v w is same = by (p e.0) (λ more. indexed_set c p es v w more same) is
  where
    rest : List (ℕ × Meeting)
    rest = filter (λ (e : ℕ × Meeting). is_of c e.1) es

    left : List (ℕ × Meeting)
    left = filter (λ (e : ℕ × Meeting). is_of c e.1) (set_value p es w)

    unwrap : Option Meeting → Meeting
    unwrap None = e.1
    unwrap (Some z) = z

    inner : (b : Bool) → keys_of (cond b ((e.0, w) ∷ rest) rest) ≡ keys_of (cond b (e ∷ rest) rest)
    inner true = refl
    inner false = refl

    outer : (b : Bool) → keys_of left ≡ keys_of rest → keys_of (cond b (e ∷ left) left) ≡ keys_of (cond b (e ∷ rest) rest)
    outer true more = ap (λ (l : List ℕ). e.0 ∷ l) more
    outer false more = more

    by : (b : Bool) → (lookup p es ≡ Some v → keys_of left ≡ keys_of rest) → cond b (Some e.1) (lookup p es) ≡ Some v
        → numbers_of c (cond b ((e.0, w) ∷ es) (e ∷ set_value p es w)) ≡ keys_of (cond (is_of c e.1) (e ∷ rest) rest)
    by true more is = ap (λ (b : Bool). keys_of (cond b ((e.0, w) ∷ rest) rest))
        (same ∙ ap (is_of c) (sym (ap unwrap is))) ∙ inner (is_of c e.1)
    by false more is = outer (is_of c e.1) (more is)

pub indexed_removed : (c : ℕ) (p : ℕ → Bool) (es : List (ℕ × Meeting)) (v : Meeting) → lookup p es ≡ Some v
    → numbers_of c (remove_entry p es) ≡ cond (is_of c v) (remove_key p (numbers_of c es)) (numbers_of c es)
indexed_removed c p [] v is = absurd (true≢false (ap is_some (sym is)))
indexed_removed c p (e ∷ es) v is = by (p e.0) refl (λ more. indexed_removed c p es v more) is
  where
    rest : List (ℕ × Meeting)
    rest = filter (λ (e : ℕ × Meeting). is_of c e.1) es

    left : List (ℕ × Meeting)
    left = filter (λ (e : ℕ × Meeting). is_of c e.1) (remove_entry p es)

    own : List ℕ
    own = keys_of (cond (is_of c e.1) (e ∷ rest) rest)

    unwrap : Option Meeting → Meeting
    unwrap None = e.1
    unwrap (Some z) = z

    here : p e.0 ≡ true → (b : Bool) → keys_of rest
        ≡ cond b (remove_key p (keys_of (cond b (e ∷ rest) rest))) (keys_of (cond b (e ∷ rest) rest))
    here at true = sym (ap (λ (x : Bool). cond x (keys_of rest) (e.0 ∷ remove_key p (keys_of rest))) at)
    here at false = refl

    there : p e.0 ≡ false → (a b : Bool) → keys_of left ≡ cond a (remove_key p (keys_of rest)) (keys_of rest)
        → keys_of (cond b (e ∷ left) left)
        ≡ cond a (remove_key p (keys_of (cond b (e ∷ rest) rest))) (keys_of (cond b (e ∷ rest) rest))
    there at true true more = ap (λ (l : List ℕ). e.0 ∷ l) more
        ∙ sym (ap (λ (x : Bool). cond x (keys_of rest) (e.0 ∷ remove_key p (keys_of rest))) at)
    there at true false more = more
    there at false true more = ap (λ (l : List ℕ). e.0 ∷ l) more
    there at false false more = more

    by : (b : Bool) → p e.0 ≡ b
        → (lookup p es ≡ Some v → keys_of left ≡ cond (is_of c v) (remove_key p (keys_of rest)) (keys_of rest))
        → cond b (Some e.1) (lookup p es) ≡ Some v
        → numbers_of c (cond b es (e ∷ remove_entry p es)) ≡ cond (is_of c v) (remove_key p own) own
    by true at more is = here at (is_of c e.1) ∙ ap (λ (m : Meeting). cond (is_of c m) (remove_key p own) own) (ap unwrap is)
    by false at more is = there at (is_of c v) (is_of c e.1) (more is)

pub indexed_last : (c n : ℕ) (m : Meeting) (es : List (ℕ × Meeting))
    → numbers_of c (es ++ (n, m) ∷ []) ≡ cond (is_of c m) (numbers_of c es ++ n ∷ []) (numbers_of c es)
indexed_last c n m [] = by (is_of c m)
  where
    by : (b : Bool) → keys_of (cond {A = List (ℕ × Meeting)} b ((n, m) ∷ []) []) ≡ cond b (n ∷ []) []
    by true = refl
    by false = refl
indexed_last c n m (e ∷ es) = by (is_of c e.1) (is_of c m) (indexed_last c n m es)
  where
    rest : List (ℕ × Meeting)
    rest = filter (λ (e : ℕ × Meeting). is_of c e.1) es

    left : List (ℕ × Meeting)
    left = filter (λ (e : ℕ × Meeting). is_of c e.1) (es ++ (n, m) ∷ [])

    by : (a b : Bool) → keys_of left ≡ cond b (keys_of rest ++ n ∷ []) (keys_of rest)
        → keys_of (cond a (e ∷ left) left) ≡ cond b (keys_of (cond a (e ∷ rest) rest) ++ n ∷ []) (keys_of (cond a (e ∷ rest) rest))
    by true true more = ap (λ (l : List ℕ). e.0 ∷ l) more
    by true false more = ap (λ (l : List ℕ). e.0 ∷ l) more
    by false true more = more
    by false false more = more

pub numbers_below : (c n : ℕ) (es : List (ℕ × Meeting)) → AllByRecursion (λ (e : ℕ × Meeting). e.0 < n) es
    → AllByRecursion (λ (k : ℕ). k < n) (numbers_of c es)
numbers_below c n [] below = tt
numbers_below c n (e ∷ es) below = by (is_of c e.1) (numbers_below c n es below.1)
  where
    rest : List (ℕ × Meeting)
    rest = filter (λ (e : ℕ × Meeting). is_of c e.1) es

    by : (b : Bool) → AllByRecursion (λ (k : ℕ). k < n) (keys_of rest)
        → AllByRecursion (λ (k : ℕ). k < n) (keys_of (cond b (e ∷ rest) rest))
    by true more = (below.0, more)
    by false more = more

-- ---- the attempts of a connection

-- each of these is found by its number among those
abbrev AllFound : List (ℕ × Meeting) → List (ℕ × Meeting) → Type 0
AllFound es xs = AllByRecursion (λ (e : ℕ × Meeting). lookup (test e.0) es ≡ Some e.1) xs

found_behind : (e : ℕ × Meeting) (es xs : List (ℕ × Meeting)) → IsDistinct (eq_by_cmp nat_cmp) (keys_of (e ∷ es)) → AllFound es xs
    → AllFound (e ∷ es) xs
found_behind e es [] apart all = tt
found_behind e es (x ∷ xs) apart all = (by (test x.0 e.0) refl, found_behind e es xs apart all.1)
  where
    by : (b : Bool) → test x.0 e.0 ≡ b → cond b (Some e.1) (lookup (test x.0) es) ≡ Some x.1
    by true same = absurd (true≢false (ap is_some (sym all.0 ∙ behind (test x.0) e es same (one_apart x.0 (e ∷ es) apart))))
    by false other = all.0

all_found : (es : List (ℕ × Meeting)) → IsDistinct (eq_by_cmp nat_cmp) (keys_of es) → AllFound es es
all_found [] apart = tt
all_found (e ∷ es) apart = (
  ap (λ (b : Bool). cond b (Some e.1) (lookup (test e.0) es)) (own_test e.0),
  found_behind e es es apart (all_found es (IsDistinct-tail (eq_by_cmp nat_cmp) e.0 (keys_of es) apart)),
)

first_among : (c n : ℕ) (es xs : List (ℕ × Meeting)) (ns : List ℕ) → AllFound es xs → numbers_of c xs ≡ n ∷ ns → IsEnd c n es
first_among c n es [] ns all is = absurd (no_such is)
  where
    is_there : List ℕ → Bool
    is_there [] = false
    is_there (k ∷ ks) = true

    no_such : [] ≡ n ∷ ns → ⊥
    no_such is = true≢false (ap is_there (sym is))
first_among c n es (x ∷ xs) ns all is = by (is_of c x.1) refl (λ more. first_among c n es xs ns all.1 more) is
  where
    rest : List (ℕ × Meeting)
    rest = filter (λ (e : ℕ × Meeting). is_of c e.1) xs

    head : List ℕ → ℕ
    head [] = n
    head (k ∷ ks) = k

    by : (b : Bool) → is_of c x.1 ≡ b → (keys_of rest ≡ n ∷ ns → IsEnd c n es) → keys_of (cond b (x ∷ rest) rest) ≡ n ∷ ns → IsEnd c n es
    by true of more is = record {
      meeting = x.1;
      found = ap (λ (k : ℕ). lookup (test k) es) (sym (ap head is)) ∙ all.0;
      of = of;
    }
    by false of more is = more is

-- the first of its numbers is that of an attempt of its own
pub first_end : (c n : ℕ) (ns : List ℕ) (es : List (ℕ × Meeting)) → IsDistinct (eq_by_cmp nat_cmp) (keys_of es)
    → numbers_of c es ≡ n ∷ ns → IsEnd c n es
first_end c n ns es apart is = first_among c n es es ns (all_found es apart) is

-- where it has no numbers it has no attempts
pub no_end : (c : ℕ) (es : List (ℕ × Meeting)) → numbers_of c es ≡ [] → find (is_of c) (meetings_of es) ≡ None
no_end c [] is = refl
no_end c (e ∷ es) is = by (is_of c e.1) (no_end c es) is
  where
    rest : List (ℕ × Meeting)
    rest = filter (λ (e : ℕ × Meeting). is_of c e.1) es

    is_there : List ℕ → Bool
    is_there [] = false
    is_there (k ∷ ks) = true

    by : (b : Bool) → (keys_of rest ≡ [] → find (is_of c) (meetings_of es) ≡ None) → keys_of (cond b (e ∷ rest) rest) ≡ []
        → cond b (Some e.1) (find (is_of c) (meetings_of es)) ≡ None
    by true more is = absurd (true≢false (ap is_there is))
    by false more is = more is

-- where one of its attempts ends, those that it has no part in stay
pub others_stay : (c : ℕ) (p : ℕ → Bool) (es : List (ℕ × Meeting)) (v : Meeting) → lookup p es ≡ Some v → is_of c v ≡ true
    → filter (λ m. not (is_of c m)) (meetings_of (remove_entry p es)) ≡ filter (λ m. not (is_of c m)) (meetings_of es)
others_stay c p [] v is of = refl
others_stay c p (e ∷ es) v is of = by (p e.0) (λ more. others_stay c p es v more of) is
  where
    rest : List Meeting
    rest = filter (λ m. not (is_of c m)) (meetings_of es)

    left : List Meeting
    left = filter (λ m. not (is_of c m)) (meetings_of (remove_entry p es))

    unwrap : Option Meeting → Meeting
    unwrap None = e.1
    unwrap (Some z) = z

    outer : (b : Bool) → left ≡ rest → cond (not b) (e.1 ∷ left) left ≡ cond (not b) (e.1 ∷ rest) rest
    outer true more = more
    outer false more = ap (λ (l : List Meeting). e.1 ∷ l) more

    by : (b : Bool) → (lookup p es ≡ Some v → left ≡ rest) → cond b (Some e.1) (lookup p es) ≡ Some v
        → filter (λ m. not (is_of c m)) (meetings_of (cond b es (e ∷ remove_entry p es))) ≡ cond (not (is_of c e.1)) (e.1 ∷ rest) rest
    by true more is = sym (ap (λ (b : Bool). cond (not b) (e.1 ∷ rest) rest) (ap (is_of c) (ap unwrap is) ∙ of))
    by false more is = outer (is_of c e.1) (more is)

pub one_less : (p : ℕ → Bool) (es : List (ℕ × Meeting)) (v : Meeting) → lookup p es ≡ Some v
    → length (remove_entry p es) + 1 ≡ length es
one_less p [] v is = absurd (true≢false (ap is_some (sym is)))
one_less p (e ∷ es) v is = by (p e.0) (one_less p es v) is
  where
    by : (b : Bool) → (lookup p es ≡ Some v → length (remove_entry p es) + 1 ≡ length es) → cond b (Some e.1) (lookup p es) ≡ Some v
        → length (cond b es (e ∷ remove_entry p es)) + 1 ≡ length (e ∷ es)
    by true more is = omega arith
    by false more is = omega (arith, more is)

-- ---- who is told

numbered_among : (c : ℕ) (es xs : List (ℕ × Meeting)) → AllFound es xs
    → all_numbered (numbers_of c xs) es ≡ filter (is_of c) (meetings_of xs)
numbered_among c es [] all = refl
numbered_among c es (x ∷ xs) all = by (is_of c x.1) (numbered_among c es xs all.1)
  where
    rest : List (ℕ × Meeting)
    rest = filter (λ (e : ℕ × Meeting). is_of c e.1) xs

    by : (b : Bool) → all_numbered (keys_of rest) es ≡ filter (is_of c) (meetings_of xs)
        → all_numbered (keys_of (cond b (x ∷ rest) rest)) es
        ≡ cond b (x.1 ∷ filter (is_of c) (meetings_of xs)) (filter (is_of c) (meetings_of xs))
    by true more = ap (λ (o : Option Meeting). at_most_one o ++ all_numbered (keys_of rest) es) all.0
        ∙ ap (λ (l : List Meeting). x.1 ∷ l) more
    by false more = more

lost_of : (c : ℕ) (ms : List Meeting) → filter (is_lost c) (filter (is_of c) ms) ≡ filter (is_lost c) ms
lost_of c [] = refl
lost_of c (m ∷ ms) = by (eqb m.server.conn c) refl (eqb m.client.conn c) refl (lost_of c ms)
  where
    left : List Meeting
    left = filter (is_of c) ms

    lost : List Meeting
    lost = filter (is_lost c) ms

    by : (a : Bool) → eqb m.server.conn c ≡ a → (b : Bool) → eqb m.client.conn c ≡ b → filter (is_lost c) left ≡ lost
        → filter (is_lost c) (cond (a || b) (m ∷ left) left) ≡ cond (a && not b) (m ∷ lost) lost
    by true at b there more =
        ap (λ (x : Bool). cond (x && not (eqb m.client.conn c)) (m ∷ filter (is_lost c) left) (filter (is_lost c) left)) at
        ∙ ap (λ (x : Bool). cond (not x) (m ∷ filter (is_lost c) left) (filter (is_lost c) left)) there
        ∙ ap (λ (l : List Meeting). cond (not b) (m ∷ l) l) more
    by false at true there more =
        ap (λ (x : Bool). cond (x && not (eqb m.client.conn c)) (m ∷ filter (is_lost c) left) (filter (is_lost c) left)) at
        ∙ more
    by false at false there more = more

-- those with its numbers that lose their server by its end are all that do
pub lost_numbered : (c : ℕ) (es : List (ℕ × Meeting)) → IsDistinct (eq_by_cmp nat_cmp) (keys_of es)
    → filter (is_lost c) (all_numbered (numbers_of c es) es) ≡ filter (is_lost c) (meetings_of es)
lost_numbered c es apart =
    ap (filter (is_lost c)) (numbered_among c es es (all_found es apart)) ∙ lost_of c (meetings_of es)

pub told_joined : (s : GcSetup) (h : Heard) (t : Table) (c : ℕ) (xs ys : List Meeting)
    → told_each s h t c (xs ++ ys) ≡ told_each s h t c xs ++ told_each s h t c ys
told_joined s h t c [] ys = refl
told_joined s h t c (m ∷ xs) ys =
    ap (λ (l : List ℕ). bytes_to c (hears_it s h m t).told ++ l) (told_joined s h t c xs ys)
    ∙ sym (append_assoc (bytes_to c (hears_it s h m t).told) (told_each s h t c xs) (told_each s h t c ys))

-- ---- what the code of one connection's set needs

pub none_in : (o : Option (BTreeSet ℕ)) → is_some o ≡ false → numbers_in o ≡ []
none_in None is = refl
none_in (Some s) is = absurd (true≢false is)

pub on_err : {T E : Type 0} {P : Type 0} (r : Result T E) → P → OnErr r P
on_err (Ok x) p = tt
on_err (Err e) p = p

-- a number that was put behind one connection's is taken back
pub undone : (p : ℕ → Bool) (a b d : ℕ → List ℕ) (n : ℕ) → ((c : ℕ) → AllByRecursion (λ (k : ℕ). k < n) (a c))
    → ((c : ℕ) → b c ≡ cond (p c) (a c ++ n ∷ []) (a c))
    → ((c : ℕ) → d c ≡ cond (p c) (without_number n (b c)) (b c))
    → (c : ℕ) → d c ≡ a c
undone p a b d n above one two c = two c ∙ by (p c) (one c)
  where
    by : (x : Bool) → b c ≡ cond x (a c ++ n ∷ []) (a c) → cond x (without_number n (b c)) (b c) ≡ a c
    by true is = ap (without_number n) is ∙ taken_back n (a c) (above c)
    by false is = is

pub alike : (b : Bool) (l : List ℕ) → cond b l l ≡ l
alike true l = refl
alike false l = refl

-- nothing was there, and it is taken away
pub cleared : (m n : List (ℕ × BTreeSet ℕ)) (conn : ℕ) → ((q : ℕ) → lookup (test q) n ≡ cond (test conn q) None (lookup (test q) m))
    → numbers_at m conn ≡ [] → (c : ℕ) → numbers_at n c ≡ numbers_at m c
cleared m n conn is bare c =
    written m n conn [] (λ (l : List ℕ). l) (updated m n conn None is) (sym bare) c ∙ alike (eqb conn c) (numbers_at m c)

-- ---- what the code of the attempts needs

-- the attempts after one is over are those that are kept for each connection
pub still_indexed : (n first second : ℕ) (es : List (ℕ × Meeting)) (v : Meeting) (sets after : List (ℕ × BTreeSet ℕ))
    → lookup (test n) es ≡ Some v → first ≡ v.server.conn → second ≡ v.client.conn → IsIndexed es sets
    → ((c : ℕ) → numbers_at after c ≡ cond (eqb first c || eqb second c) (without_number n (numbers_at sets c)) (numbers_at sets c))
    → IsIndexed (remove_entry (test n) es) after
still_indexed n first second es v sets after is one two indexed done c =
    done c
    ∙ ap₂ (λ (a b : ℕ). cond (eqb a c || eqb b c) (without_number n (numbers_at sets c)) (numbers_at sets c)) one two
    ∙ ap (λ (l : List ℕ). cond (is_of c v) (without_number n l) l) (indexed c)
    ∙ sym (indexed_removed c (test n) es v is)

-- and so they are when one more is open
pub indexed_too : (n first second : ℕ) (es : List (ℕ × Meeting)) (m : Meeting) (sets after : List (ℕ × BTreeSet ℕ))
    → first ≡ m.server.conn → second ≡ m.client.conn → IsIndexed es sets
    → ((c : ℕ) → numbers_at after c ≡ cond (eqb first c || eqb second c) (numbers_at sets c ++ n ∷ []) (numbers_at sets c))
    → IsIndexed (es ++ (n, m) ∷ []) after
indexed_too n first second es m sets after one two indexed done c =
    done c
    ∙ ap₂ (λ (a b : ℕ). cond (eqb a c || eqb b c) (numbers_at sets c ++ n ∷ []) (numbers_at sets c)) one two
    ∙ ap (λ (l : List ℕ). cond (is_of c m) (l ++ n ∷ []) l) (indexed c)
    ∙ sym (indexed_last c n m es)

-- a note leaves the ends
pub same_ends : (c side : ℕ) (peer : Peer) (m : Meeting) → is_of c (with_note side peer m) ≡ is_of c m
same_ends c side peer m = by (eqb side 0)
  where
    by : (b : Bool) → is_of c (cond b (record m { server = record m.server { noted = Some peer } }) (record m {
      client = record m.client { noted = Some peer };
    })) ≡ is_of c m
    by true = refl
    by false = refl

pub first_got : (c n : ℕ) (ks : List ℕ) (es : List (ℕ × Meeting)) → IsDistinct (eq_by_cmp nat_cmp) (keys_of es)
    → numbers_of c es ≡ ks → slice_get ks 0 ≡ Some n → IsEnd c n es
first_got c n [] es apart are is = absurd (true≢false (ap is_some (sym is)))
first_got c n (k ∷ ks) es apart are is = first_end c n ks es apart (are ∙ ap (λ (x : ℕ). x ∷ ks) (ap unwrap is))
  where
    unwrap : Option ℕ → ℕ
    unwrap None = k
    unwrap (Some z) = z

pub none_got : (ks : List ℕ) → (0 < length ks → ⊥) → ks ≡ []
none_got [] none = refl
none_got (k ∷ ks) none = absurd (none (omega arith))

pub told_one : (s : GcSetup) (h : Heard) (t : Table) (c conn n : ℕ) (es : List (ℕ × Meeting)) (m : Meeting)
    → lookup (test n) es ≡ Some m → is_lost conn m ≡ true
    → bytes_to c (hears_it s h m t).told ≡ told_each s h t c (filter (is_lost conn) (numbered n es))
told_one s h t c conn n es m is lost =
    sym (ap (λ (o : Option Meeting). told_each s h t c (filter (is_lost conn) (at_most_one o))) is
    ∙ ap (λ (b : Bool). told_each s h t c (cond b (m ∷ []) [])) lost ∙ append-nil (bytes_to c (hears_it s h m t).told))

-- the next one is told, and then the rest
pub told_next : (s : GcSetup) (h : Heard) (t : Table) (c conn n : ℕ) (ns : List ℕ) (es : List (ℕ × Meeting)) (before : List ℕ)
    → (before ++ told_each s h t c (filter (is_lost conn) (numbered n es)))
    ++ told_each s h t c (filter (is_lost conn) (all_numbered ns es))
    ≡ before ++ told_each s h t c (filter (is_lost conn) (all_numbered (n ∷ ns) es))
told_next s h t c conn n ns es before =
    let one : List Meeting = filter (is_lost conn) (numbered n es) in
    let rest : List Meeting = filter (is_lost conn) (all_numbered ns es) in
    append_assoc before (told_each s h t c one) (told_each s h t c rest)
    ∙ ap (λ (l : List ℕ). before ++ l) (sym (told_joined s h t c one rest)
    ∙ ap (told_each s h t c) (sym (filter-append (is_lost conn) (numbered n es) (all_numbered ns es))))
