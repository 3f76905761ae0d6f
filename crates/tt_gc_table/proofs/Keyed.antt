-- Lists of entries with keys: what is found, changed and taken out by key is what a search through the values finds, changes and
-- takes out.
use Rattle.std.proofs.Common.{◌≡◌, Bool, true, false, not, cond, List, [], ◌∷◌, map, Option, Some, None, refl, sym, ap, ap₂, ◌∙◌}
use Rattle.std.specs.Prelude.{filter, find, is_some}
use Rattle.std.specs.List.{AllByRecursion}
use Rattle.std.specs.Map.{lookup, remove_entry, set_value}
use Rattle.std.proofs.lemmas.Bool.{true≢false}

-- the second test finds, of these, what the first finds by key
abbrev pub Agree : {K V B : Type 0} → (K × V → B) → (K → Bool) → (B → Bool) → List (K × V) → Type 0
Agree {K = K} {V = V} at test p es = AllByRecursion (λ (e : K × V). p (at e) ≡ test e.0) es

-- it finds none but those
abbrev pub Within : {K V B : Type 0} → (K × V → B) → (K → Bool) → (B → Bool) → List (K × V) → Type 0
Within {K = K} {V = V} at test p es = AllByRecursion (λ (e : K × V). p (at e) ≡ true → test e.0 ≡ true) es

-- at most one key passes the test
abbrev pub AtMostOne : {K V : Type 0} → (K → Bool) → List (K × V) → Type 0
AtMostOne test es = lookup test (remove_entry test es) ≡ None

-- what is behind an entry that passes
pub behind : {K V : Type 0} (test : K → Bool) (e : K × V) (es : List (K × V)) → test e.0 ≡ true → AtMostOne test (e ∷ es)
    → lookup test es ≡ None
behind {K = K} {V = V} test e es is one = ap (λ (b : Bool). lookup test (cond b es (e ∷ remove_entry test es))) (sym is) ∙ one

-- what is behind one that doesn't
pub beside : {K V : Type 0} (test : K → Bool) (e : K × V) (es : List (K × V)) → test e.0 ≡ false → AtMostOne test (e ∷ es)
    → AtMostOne test es
beside {K = K} {V = V} test e es is one =
    ap (λ (b : Bool). cond b (Some e.1) (lookup test (remove_entry test es))) (sym is)
    ∙ ap (λ (b : Bool). lookup test (cond b es (e ∷ remove_entry test es))) (sym is) ∙ one

-- where no key passes, no value does
none_passes : {K V : Type 0} (test : K → Bool) (e : K × V) (es : List (K × V)) → lookup test (e ∷ es) ≡ None
    → (test e.0 ≡ false) × (lookup test es ≡ None)
none_passes {K = K} {V = V} test e es none = by (test e.0) none
  where
    by : (b : Bool) → cond b (Some e.1) (lookup test es) ≡ None → (b ≡ false) × (lookup test es ≡ None)
    by true is = absurd (true≢false (ap is_some is))
    by false is = (refl, is)

not_passes : (a b : Bool) → (a ≡ true → b ≡ true) → b ≡ false → a ≡ false
not_passes true b so is = absurd (true≢false (sym (so refl) ∙ is))
not_passes false b so is = refl

-- ---- found

pub none_found : {K V B : Type 0} (at : K × V → B) (test : K → Bool) (p : B → Bool) (es : List (K × V)) → Within at test p es
    → lookup test es ≡ None → find p (map at es) ≡ None
none_found at test p [] within none = refl
none_found {B = B} at test p (e ∷ es) within none =
    let h = none_passes test e es none in
    ap (λ (b : Bool). cond b (Some (at e)) (find p (map at es))) (not_passes (p (at e)) (test e.0) within.0 h.0)
    ∙ none_found at test p es within.1 h.1

pub one_found : {K V B : Type 0} (at : K × V → B) (test : K → Bool) (p : B → Bool) (es : List (K × V)) (v : V) → Within at test p es
    → lookup test es ≡ Some v → ((k : K) → p (at (k, v)) ≡ true) → ((k l : K) → at (k, v) ≡ at (l, v)) → (k : K)
    → find p (map at es) ≡ Some (at (k, v))
one_found at test p [] v within is passes same k = absurd (true≢false (ap is_some (sym is)))
one_found {K = K} {V = V} {B = B} at test p (e ∷ es) v within is passes same k =
    by (test e.0) refl (λ more. one_found at test p es v within.1 more passes same k) is
  where
    some_is : (x y : V) → Some x ≡ Some y → x ≡ y
    some_is x y e = ap (λ (o : Option V). unwrap x o) e
      where
        unwrap : V → Option V → V
        unwrap d None = d
        unwrap d (Some z) = z

    by : (b : Bool) → test e.0 ≡ b → (lookup test es ≡ Some v → find p (map at es) ≡ Some (at (k, v)))
        → cond b (Some e.1) (lookup test es) ≡ Some v → cond (p (at e)) (Some (at e)) (find p (map at es)) ≡ Some (at (k, v))
    by true at_key rest is =
        let own : e.1 ≡ v = some_is e.1 v is in
        let here : at e ≡ at (k, v) = ap (λ (x : V). at (e.0, x)) own ∙ same e.0 k in
        ap (λ (b : Bool). cond b (Some (at e)) (find p (map at es))) (ap p here ∙ passes k) ∙ ap (λ (x : B). Some x) here
    by false at_key rest is =
        ap (λ (b : Bool). cond b (Some (at e)) (find p (map at es))) (not_passes (p (at e)) (test e.0) within.0 at_key) ∙ rest is

-- what stands at the key doesn't pass, so none does
pub other_found : {K V B : Type 0} (at : K × V → B) (test : K → Bool) (p : B → Bool) (es : List (K × V)) (v : V) → Within at test p es
    → AtMostOne test es → lookup test es ≡ Some v → ((k : K) → p (at (k, v)) ≡ false) → find p (map at es) ≡ None
other_found at test p [] v within one is fails = refl
other_found {K = K} {V = V} {B = B} at test p (e ∷ es) v within one is fails =
    by (test e.0) refl (λ less more. other_found at test p es v within.1 less more fails) is
  where
    unwrap : V → Option V → V
    unwrap d None = d
    unwrap d (Some z) = z

    by : (b : Bool) → test e.0 ≡ b → (AtMostOne test es → lookup test es ≡ Some v → find p (map at es) ≡ None)
        → cond b (Some e.1) (lookup test es) ≡ Some v → cond (p (at e)) (Some (at e)) (find p (map at es)) ≡ None
    by true at_key rest is =
        let own : e.1 ≡ v = ap (unwrap e.1) is in
        ap (λ (b : Bool). cond b (Some (at e)) (find p (map at es))) (ap (λ (x : V). p (at (e.0, x))) own ∙ fails e.0)
        ∙ none_found at test p es within.1 (behind test e es at_key one)
    by false at_key rest is =
        ap (λ (b : Bool). cond b (Some (at e)) (find p (map at es))) (not_passes (p (at e)) (test e.0) within.0 at_key)
        ∙ rest (beside test e es at_key one) is

-- ---- changed

-- where no key passes all stays
pub none_changed : {K V B : Type 0} (at : K × V → B) (test : K → Bool) (p : B → Bool) (change : B → B) (es : List (K × V))
    → Within at test p es → lookup test es ≡ None → map (λ b. cond (p b) (change b) b) (map at es) ≡ map at es
none_changed at test p change [] within none = refl
none_changed {B = B} at test p change (e ∷ es) within none =
    let h = none_passes test e es none in
    ap₂ (λ (x : B) (xs : List B). x ∷ xs) (ap (λ (b : Bool). cond b (change (at e)) (at e)) (not_passes (p (at e)) (test e.0) within.0 h.0))
    (none_changed at test p change es within.1 h.1)

pub changed : {K V B : Type 0} (at : K × V → B) (test : K → Bool) (p : B → Bool) (change : B → B) (es : List (K × V)) (v w : V)
    → Within at test p es → AtMostOne test es → lookup test es ≡ Some v → ((k : K) → test k ≡ true → p (at (k, v)) ≡ true)
    → ((k : K) → at (k, w) ≡ change (at (k, v)))
    → map at (set_value test es w) ≡ map (λ b. cond (p b) (change b) b) (map at es)
changed at test p change [] v w within one is passes to = refl
changed {K = K} {V = V} {B = B} at test p change (e ∷ es) v w within one is passes to =
    by (test e.0) refl (λ less more. changed at test p change es v w within.1 less more passes to) is
  where
    unwrap : V → Option V → V
    unwrap d None = d
    unwrap d (Some z) = z

    by : (b : Bool) → test e.0 ≡ b → (AtMostOne test es → lookup test es ≡ Some v
        → map at (set_value test es w) ≡ map (λ b. cond (p b) (change b) b) (map at es))
        → cond b (Some e.1) (lookup test es) ≡ Some v → map at (cond b ((e.0, w) ∷ es) (e ∷ set_value test es w))
        ≡ cond (p (at e)) (change (at e)) (at e) ∷ map (λ b. cond (p b) (change b) b) (map at es)
    by true at_key rest is =
        let own : e.1 ≡ v = ap (unwrap e.1) is in
        ap₂ (λ (x : B) (xs : List B). x ∷ xs)
        (to e.0 ∙ ap (λ (x : V). change (at (e.0, x))) (sym own)
        ∙ ap (λ (b : Bool). cond b (change (at e)) (at e)) (sym (ap (λ (x : V). p (at (e.0, x))) own ∙ passes e.0 at_key)))
        (sym (none_changed at test p change es within.1 (behind test e es at_key one)))
    by false at_key rest is =
        ap₂ (λ (x : B) (xs : List B). x ∷ xs)
        (ap (λ (b : Bool). cond b (change (at e)) (at e)) (sym (not_passes (p (at e)) (test e.0) within.0 at_key)))
        (rest (beside test e es at_key one) is)

-- ---- taken out

none_taken : {K V B : Type 0} (at : K × V → B) (test : K → Bool) (p : B → Bool) (es : List (K × V)) → Within at test p es
    → lookup test es ≡ None → filter (λ b. not (p b)) (map at es) ≡ map at es
none_taken at test p [] within none = refl
none_taken {B = B} at test p (e ∷ es) within none =
    let h = none_passes test e es none in
    ap (λ (b : Bool). cond (not b) (at e ∷ filter (λ b. not (p b)) (map at es)) (filter (λ b. not (p b)) (map at es)))
    (not_passes (p (at e)) (test e.0) within.0 h.0) ∙ ap (λ (xs : List B). at e ∷ xs) (none_taken at test p es within.1 h.1)

pub taken_out : {K V B : Type 0} (at : K × V → B) (test : K → Bool) (p : B → Bool) (es : List (K × V)) (v : V)
    → Within at test p es → AtMostOne test es → lookup test es ≡ Some v → ((k : K) → test k ≡ true → p (at (k, v)) ≡ true)
    → map at (remove_entry test es) ≡ filter (λ b. not (p b)) (map at es)
taken_out at test p [] v within one is passes = refl
taken_out {K = K} {V = V} {B = B} at test p (e ∷ es) v within one is passes =
    by (test e.0) refl (λ less more. taken_out at test p es v within.1 less more passes) is
  where
    unwrap : V → Option V → V
    unwrap d None = d
    unwrap d (Some z) = z

    by : (b : Bool) → test e.0 ≡ b → (AtMostOne test es → lookup test es ≡ Some v
        → map at (remove_entry test es) ≡ filter (λ b. not (p b)) (map at es))
        → cond b (Some e.1) (lookup test es) ≡ Some v → map at (cond b es (e ∷ remove_entry test es))
        ≡ cond (not (p (at e))) (at e ∷ filter (λ b. not (p b)) (map at es)) (filter (λ b. not (p b)) (map at es))
    by true at_key rest is =
        let own : e.1 ≡ v = ap (unwrap e.1) is in
        sym (ap (λ (b : Bool). cond (not b) (at e ∷ filter (λ b. not (p b)) (map at es)) (filter (λ b. not (p b)) (map at es)))
        (ap (λ (x : V). p (at (e.0, x))) own ∙ passes e.0 at_key)
        ∙ none_taken at test p es within.1 (behind test e es at_key one))
    by false at_key rest is =
        ap (λ (xs : List B). at e ∷ xs) (rest (beside test e es at_key one) is)
        ∙ sym (ap (λ (b : Bool). cond (not b) (at e ∷ filter (λ b. not (p b)) (map at es)) (filter (λ b. not (p b)) (map at es)))
        (not_passes (p (at e)) (test e.0) within.0 at_key))
