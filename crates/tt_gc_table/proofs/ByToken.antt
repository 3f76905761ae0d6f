-- What is done to an open attempt by its number is done to the one that has the token.
use Rattle.std.proofs.Common.{◌≡◌, ℕ, ◌+◌, ◌<◌, ◌^◌, Bool, true, false, not, cond, List, [], ◌∷◌, ◌++◌, map, Option, Some, None, refl}
use Rattle.std.proofs.Common.{sym}
use Rattle.std.proofs.Common.{ap, ◌∙◌, arith, subst}
use Rattle.std.specs.Prelude.{drop, find, filter, is_some, eqb}
use Rattle.std.specs.Ordering.{nat_cmp, eq_by_cmp}
use Rattle.std.specs.declared.cmp.Ordering.{Ordering}
use Rattle.std.specs.declared.cmp.Ordering.TheVariants.{Greater}
use Rattle.std.specs.BTreeMap.{insert_entry}
use Rattle.std.specs.Cmp.{nat_cmp_is}
use Rattle.std.specs.Ordering.{match_ordering}
use Rattle.std.specs.Fmt.{decimal}
use Rattle.std.specs.List.{AllByRecursion}
use Rattle.std.specs.List.Sorted.{IsStrictlySortedBy}
use Rattle.std.specs.Map.{lookup, remove_entry, set_value, keys_of}
use Rattle.std.proofs.lemmas.Bool.{true≢false}
use Rattle.tt_gc_table.specs.Table.{Meeting, is_for}
use Rattle.tt_edge.specs.declared.event.Peer.{Peer}
use Rattle.tt_gc_table.specs.Desk.{with_note}
use Rattle.tt_gc_table.specs.Parts.{IsBegun}
use Rattle.tt_gc_table.specs.OpenAttempts.{meetings_of, IsToken, IsNumbered}
use Rattle.tt_gc_table.proofs.Keyed.{none_found, one_found, other_found, changed, taken_out}
use Rattle.tt_gc_table.proofs.Numbers.{one_number, within}

-- the open attempts, and the number that stands in a token
pub record Looked (token : List ℕ) (n : ℕ) (es : List (ℕ × Meeting)) : Type 0 where
  pub small : n < 2 ^ 32
  pub digits : drop 8 token ≡ decimal n
  pub numbered : IsNumbered es
  pub sorted : IsStrictlySortedBy nat_cmp (keys_of es)

abbrev at_number : ℕ → ℕ → Bool
at_number n = eq_by_cmp nat_cmp n

abbrev at : ℕ × Meeting → Meeting
at e = e.1

pub missing : (token : List ℕ) (n : ℕ) (es : List (ℕ × Meeting)) → Looked token n es → lookup (at_number n) es ≡ None
    → find (is_for token) (meetings_of es) ≡ None
missing token n es l none = none_found at (at_number n) (is_for token) es (within token n l.small l.digits es l.numbered) none

pub found : (token : List ℕ) (n : ℕ) (es : List (ℕ × Meeting)) (v : Meeting) → Looked token n es → lookup (at_number n) es ≡ Some v
    → is_for token v ≡ true → find (is_for token) (meetings_of es) ≡ Some v
found token n es v l is passes =
    one_found at (at_number n) (is_for token) es v (within token n l.small l.digits es l.numbered) is (λ k. passes) (λ k j. refl) n

pub other : (token : List ℕ) (n : ℕ) (es : List (ℕ × Meeting)) (v : Meeting) → Looked token n es → lookup (at_number n) es ≡ Some v
    → is_for token v ≡ false → find (is_for token) (meetings_of es) ≡ None
other token n es v l is fails =
    other_found at (at_number n) (is_for token) es v (within token n l.small l.digits es l.numbered) (one_number n es l.sorted) is
    (λ k. fails)

-- what stands at the number is what has the token, where anything has
pub record Here (token : List ℕ) (v m : Meeting) : Type 0 where
  pub passes : is_for token v ≡ true
  pub same : v ≡ m

pub here : (token : List ℕ) (n : ℕ) (es : List (ℕ × Meeting)) (v m : Meeting) → Looked token n es → lookup (at_number n) es ≡ Some v
    → find (is_for token) (meetings_of es) ≡ Some m → Here token v m
here token n es v m l is some = by (is_for token v) refl
  where
    unwrap : Option Meeting → Meeting
    unwrap None = v
    unwrap (Some z) = z

    by : (b : Bool) → is_for token v ≡ b → Here token v m
    by true passes = record { passes = passes; same = ap unwrap (sym (found token n es v l is passes) ∙ some) }
    by false fails = absurd (true≢false (ap is_some (sym some ∙ other token n es v l is fails)))

pub nobody : {P : Type 0} (o : Option Meeting) (m : Meeting) → o ≡ None → o ≡ Some m → P
nobody o m none some = absurd (true≢false (ap is_some (sym some ∙ none)))

-- ---- changed

pub changed_here : (token : List ℕ) (n : ℕ) (es : List (ℕ × Meeting)) (v w m : Meeting) (change : Meeting → Meeting) → Looked token n es
    → lookup (at_number n) es ≡ Some v → find (is_for token) (meetings_of es) ≡ Some m → w ≡ change v
    → meetings_of (set_value (at_number n) es w) ≡ map (λ x. cond (is_for token x) (change x) x) (meetings_of es)
changed_here token n es v w m change l is some to =
    changed at (at_number n) (is_for token) change es v w (within token n l.small l.digits es l.numbered) (one_number n es l.sorted) is
    (λ k own. (here token n es v m l is some).passes) (λ k. to)

numbered_set_by : (test : ℕ → Bool) (es : List (ℕ × Meeting)) (v w : Meeting) → lookup test es ≡ Some v → w.token ≡ v.token
    → IsNumbered es → IsNumbered (set_value test es w)
numbered_set_by test [] v w is same numbered = numbered
numbered_set_by test (e ∷ es) v w is same numbered =
    by (test e.0) (λ more. numbered_set_by test es v w more same numbered.1) is
  where
    unwrap : Option Meeting → Meeting
    unwrap None = e.1
    unwrap (Some z) = z

    by : (b : Bool) → (lookup test es ≡ Some v → IsNumbered (set_value test es w)) → cond b (Some e.1) (lookup test es) ≡ Some v
        → IsNumbered (cond b ((e.0, w) ∷ es) (e ∷ set_value test es w))
    by true rest is = (subst (IsToken e.0) (ap (λ (x : Meeting). x.token) (ap unwrap is) ∙ sym same) numbered.0, numbered.1)
    by false rest is = (numbered.0, rest is)

pub numbered_set : (n : ℕ) (es : List (ℕ × Meeting)) (v w : Meeting) → lookup (at_number n) es ≡ Some v → w.token ≡ v.token
    → IsNumbered es → IsNumbered (set_value (at_number n) es w)
numbered_set n es v w is same numbered = numbered_set_by (at_number n) es v w is same numbered

-- ---- taken out

pub taken_here : (token : List ℕ) (n : ℕ) (es : List (ℕ × Meeting)) (m : Meeting) → Looked token n es
    → find (is_for token) (meetings_of es) ≡ Some m
    → meetings_of (remove_entry (at_number n) es) ≡ filter (λ x. not (is_for token x)) (meetings_of es)
taken_here token n es m l some = by (lookup (at_number n) es) refl
  where
    by : (o : Option Meeting) → lookup (at_number n) es ≡ o
        → meetings_of (remove_entry (at_number n) es) ≡ filter (λ x. not (is_for token x)) (meetings_of es)
    by None is = nobody (find (is_for token) (meetings_of es)) m (missing token n es l is) some
    by (Some v) is =
        taken_out at (at_number n) (is_for token) es v (within token n l.small l.digits es l.numbered) (one_number n es l.sorted) is
        (λ k own. (here token n es v m l is some).passes)

numbered_remove_by : (test : ℕ → Bool) (es : List (ℕ × Meeting)) → IsNumbered es → IsNumbered (remove_entry test es)
numbered_remove_by test [] numbered = numbered
numbered_remove_by test (e ∷ es) numbered = by (test e.0) (numbered_remove_by test es numbered.1)
  where
    by : (b : Bool) → IsNumbered (remove_entry test es) → IsNumbered (cond b es (e ∷ remove_entry test es))
    by true rest = numbered.1
    by false rest = (numbered.0, rest)

pub numbered_remove : (n : ℕ) (es : List (ℕ × Meeting)) → IsNumbered es → IsNumbered (remove_entry (at_number n) es)
numbered_remove n es numbered = numbered_remove_by (at_number n) es numbered

-- ---- one more

-- with a number above the others it stands behind them
pub put_last : (n : ℕ) (m : Meeting) (es : List (ℕ × Meeting)) → AllByRecursion (λ (e : ℕ × Meeting). e.0 < n) es
    → insert_entry nat_cmp es n m ≡ es ++ (n, m) ∷ []
put_last n m [] above = refl
put_last n m (e ∷ es) above =
    ap (λ (r : Ordering). match_ordering r ((n, m) ∷ e ∷ es) ((e.0, m) ∷ es) (e ∷ insert_entry nat_cmp es n m))
    (sym (nat_cmp_is n e.0 Greater above.0)) ∙ ap (λ (l : List (ℕ × Meeting)). e ∷ l) (put_last n m es above.1)

pub numbered_last : (n : ℕ) (m : Meeting) (es : List (ℕ × Meeting)) → IsToken n m.token → IsNumbered es → IsNumbered (es ++ (n, m) ∷ [])
numbered_last n m [] token numbered = (token, numbered)
numbered_last n m (e ∷ es) token numbered = (numbered.0, numbered_last n m es token numbered.1)

-- a note leaves the token
pub same_token : (side : ℕ) (peer : Peer) (m : Meeting) → (with_note side peer m).token ≡ m.token
same_token side peer m = by (eqb side 0)
  where
    by : (b : Bool) → (cond b (record m { server = record m.server { noted = Some peer } }) (record m {
      client = record m.client { noted = Some peer };
    })).token ≡ m.token
    by true = refl
    by false = refl

-- ---- numbers

begun_set_by : (test : ℕ → Bool) (last : ℕ) (es : List (ℕ × Meeting)) (w : Meeting) → IsBegun last es → IsBegun last (set_value test es w)
begun_set_by test last [] w begun = begun
begun_set_by test last (e ∷ es) w begun = by (test e.0) (begun_set_by test last es w begun.1)
  where
    by : (b : Bool) → IsBegun last (set_value test es w) → IsBegun last (cond b ((e.0, w) ∷ es) (e ∷ set_value test es w))
    by true rest = begun
    by false rest = (begun.0, rest)

pub begun_set : (n last : ℕ) (es : List (ℕ × Meeting)) (w : Meeting) → IsBegun last es → IsBegun last (set_value (at_number n) es w)
begun_set n last es w begun = begun_set_by (at_number n) last es w begun

begun_remove_by : (test : ℕ → Bool) (last : ℕ) (es : List (ℕ × Meeting)) → IsBegun last es → IsBegun last (remove_entry test es)
begun_remove_by test last [] begun = begun
begun_remove_by test last (e ∷ es) begun = by (test e.0) (begun_remove_by test last es begun.1)
  where
    by : (b : Bool) → IsBegun last (remove_entry test es) → IsBegun last (cond b es (e ∷ remove_entry test es))
    by true rest = begun.1
    by false rest = (begun.0, rest)

pub begun_remove : (n last : ℕ) (es : List (ℕ × Meeting)) → IsBegun last es → IsBegun last (remove_entry (at_number n) es)
begun_remove n last es begun = begun_remove_by (at_number n) last es begun

pub begun_last : (n : ℕ) (m : Meeting) (es : List (ℕ × Meeting)) → IsBegun n es → IsBegun (n + 1) (es ++ (n + 1, m) ∷ [])
begun_last n m [] begun = (omega arith, tt)
begun_last n m (e ∷ es) begun = (omega (arith, begun.0), begun_last n m es begun.1)

pub begun_more : (n : ℕ) (es : List (ℕ × Meeting)) → IsBegun n es → IsBegun (n + 1) es
begun_more n [] begun = begun
begun_more n (e ∷ es) begun = (omega (arith, begun.0), begun_more n es begun.1)

pub begun_below : (n : ℕ) (es : List (ℕ × Meeting)) → IsBegun n es → AllByRecursion (λ (e : ℕ × Meeting). e.0 < n + 1) es
begun_below n [] begun = begun
begun_below n (e ∷ es) begun = (omega (arith, begun.0), begun_below n es begun.1)

-- ---- kept

pub filtered : (p : Meeting → Bool) (es : List (ℕ × Meeting))
    → meetings_of (filter (λ (e : ℕ × Meeting). p e.1) es) ≡ filter p (meetings_of es)
filtered p [] = refl
filtered p (e ∷ es) = by (p e.1) (filtered p es)
  where
    rest : List (ℕ × Meeting)
    rest = filter (λ (e : ℕ × Meeting). p e.1) es

    by : (b : Bool) → meetings_of rest ≡ filter p (meetings_of es)
        → meetings_of (cond b (e ∷ rest) rest) ≡ cond b (e.1 ∷ filter p (meetings_of es)) (filter p (meetings_of es))
    by true more = ap (λ (ms : List Meeting). e.1 ∷ ms) more
    by false more = more

pub numbered_filter : (p : Meeting → Bool) (es : List (ℕ × Meeting)) → IsNumbered es → IsNumbered (filter (λ (e : ℕ × Meeting). p e.1) es)
numbered_filter p [] all = all
numbered_filter p (e ∷ es) all = by (p e.1) (numbered_filter p es all.1)
  where
    rest : List (ℕ × Meeting)
    rest = filter (λ (e : ℕ × Meeting). p e.1) es

    by : (b : Bool) → IsNumbered rest → IsNumbered (cond b (e ∷ rest) rest)
    by true more = (all.0, more)
    by false more = more

pub begun_filter : (p : Meeting → Bool) (last : ℕ) (es : List (ℕ × Meeting)) → IsBegun last es
    → IsBegun last (filter (λ (e : ℕ × Meeting). p e.1) es)
begun_filter p last [] all = all
begun_filter p last (e ∷ es) all = by (p e.1) (begun_filter p last es all.1)
  where
    rest : List (ℕ × Meeting)
    rest = filter (λ (e : ℕ × Meeting). p e.1) es

    by : (b : Bool) → IsBegun last rest → IsBegun last (cond b (e ∷ rest) rest)
    by true more = (all.0, more)
    by false more = more
