-- What is found by key is what a search through the table finds, and what is new stands after the others.
use Rattle.std.proofs.Common.{◌≡◌, ℕ, Bool, true, false, not, cond, List, [], ◌∷◌, ◌++◌, map, Option, Some, None, refl, sym, ap, ◌∙◌}
use Rattle.std.specs.Prelude.{filter, find, option_map, is_some}
use Rattle.std.specs.Str.{bytes_eq}
use Rattle.std.proofs.lemmas.Bool.{true≢false}
use Rattle.std.proofs.lemmas.Slice.Eq.{bytes_eq-Decides}
use Rattle.std.specs.Map.{lookup}
use Rattle.indexmap.specs.IndexMap.{insert_entry, shift_remove_entry}

-- the test looks for this key
abbrev pub LooksFor : {V B : Type 0} → (List ℕ × V → B) → List ℕ → (B → Bool) → Type 0
LooksFor {V = V} at key p = (e : List ℕ × V) → p (at e) ≡ bytes_eq key e.0

found_by : {V B : Type 0} (at : List ℕ × V → B) (key : List ℕ) (p : B → Bool) → LooksFor at key p → (es : List (List ℕ × V))
    → option_map (λ (v : V). at (key, v)) (lookup (bytes_eq key) es) ≡ find p (map at es)
found_by at key p own [] = refl
found_by {V = V} {B = B} at key p own (e ∷ es) =
    by (bytes_eq key e.0) refl (found_by at key p own es)
    ∙ ap (λ (b : Bool). cond b (Some (at e)) (find p (map at es))) (sym (own e))
  where
    by : (b : Bool) → bytes_eq key e.0 ≡ b → option_map (λ (v : V). at (key, v)) (lookup (bytes_eq key) es) ≡ find p (map at es)
        → option_map (λ (v : V). at (key, v)) (cond b (Some e.1) (lookup (bytes_eq key) es)) ≡ cond b (Some (at e)) (find p (map at es))
    by true is rest = ap (λ (k : List ℕ). Some (at (k, e.1))) ((bytes_eq-Decides key e.0).0 is)
    by false is rest = rest

pub got : {V B : Type 0} (at : List ℕ × V → B) (key : List ℕ) (p : B → Bool) → LooksFor at key p → (es : List (List ℕ × V))
    (r : Option V) → r ≡ lookup (bytes_eq key) es → option_map (λ (v : V). at (key, v)) r ≡ find p (map at es)
got {V = V} at key p own es r is = ap (option_map (λ (v : V). at (key, v))) is ∙ found_by at key p own es

-- what has a key that isn't there stands after the others
pub put : {V B : Type 0} (at : List ℕ × V → B) (key : List ℕ) (p : B → Bool) → LooksFor at key p → (v : V) (es : List (List ℕ × V))
    → is_some (find p (map at es)) ≡ false → map at (insert_entry bytes_eq es key v) ≡ map at es ++ at (key, v) ∷ []
put at key p own v [] none = refl
put {V = V} {B = B} at key p own v (e ∷ es) none =
    by (bytes_eq key e.0) (ap (λ (b : Bool). is_some (cond b (Some (at e)) (find p (map at es)))) (sym (own e))
    ∙ none) (put at key p own v es)
  where
    by : (b : Bool) → is_some (cond b (Some (at e)) (find p (map at es))) ≡ false
        → (is_some (find p (map at es)) ≡ false → map at (insert_entry bytes_eq es key v) ≡ map at es ++ at (key, v) ∷ [])
        → map at (cond b ((e.0, v) ∷ es) (e ∷ insert_entry bytes_eq es key v)) ≡ at e ∷ (map at es ++ at (key, v) ∷ [])
    by true is rest = absurd (true≢false is)
    by false is rest = ap (λ (l : List B). at e ∷ l) (rest is)

-- where nothing has the key all stays
none_of : {V B : Type 0} (at : List ℕ × V → B) (key : List ℕ) (p : B → Bool) → LooksFor at key p → (es : List (List ℕ × V))
    → lookup (bytes_eq key) es ≡ None → filter (λ b. not (p b)) (map at es) ≡ map at es
none_of at key p own [] none = refl
none_of {V = V} {B = B} at key p own (e ∷ es) none =
    ap (λ (b : Bool). cond (not b) (at e ∷ filter (λ b. not (p b)) (map at es)) (filter (λ b. not (p b)) (map at es))) (own e)
    ∙ by (bytes_eq key e.0) none (none_of at key p own es)
  where
    by : (b : Bool) → cond b (Some e.1) (lookup (bytes_eq key) es) ≡ None
        → (lookup (bytes_eq key) es ≡ None → filter (λ b. not (p b)) (map at es) ≡ map at es)
        → cond (not b) (at e ∷ filter (λ b. not (p b)) (map at es)) (filter (λ b. not (p b)) (map at es)) ≡ at e ∷ map at es
    by true is rest = absurd (true≢false (ap is_some is))
    by false is rest = ap (λ (l : List B). at e ∷ l) (rest is)

-- what had the key is gone, and all else stays in its order
pub taken : {V B : Type 0} (at : List ℕ × V → B) (key : List ℕ) (p : B → Bool) → LooksFor at key p → (es : List (List ℕ × V))
    → lookup (bytes_eq key) (shift_remove_entry (bytes_eq key) es) ≡ None
    → map at (shift_remove_entry (bytes_eq key) es) ≡ filter (λ b. not (p b)) (map at es)
taken at key p own [] none = refl
taken {V = V} {B = B} at key p own (e ∷ es) none =
    by (bytes_eq key e.0) refl none (taken at key p own es)
    ∙ ap (λ (b : Bool). cond (not b) (at e ∷ filter (λ b. not (p b)) (map at es)) (filter (λ b. not (p b)) (map at es))) (sym (own e))
  where
    by : (b : Bool) → bytes_eq key e.0 ≡ b → lookup (bytes_eq key) (cond b es (e ∷ shift_remove_entry (bytes_eq key) es)) ≡ None
        → (lookup (bytes_eq key) (shift_remove_entry (bytes_eq key) es) ≡ None
        → map at (shift_remove_entry (bytes_eq key) es) ≡ filter (λ b. not (p b)) (map at es))
        → map at (cond b es (e ∷ shift_remove_entry (bytes_eq key) es))
        ≡ cond (not b) (at e ∷ filter (λ b. not (p b)) (map at es)) (filter (λ b. not (p b)) (map at es))
    by true at_key is rest = sym (none_of at key p own es is)
    by false at_key is rest = ap (λ (l : List B). at e ∷ l)
        (rest (sym (ap (λ (b : Bool). cond b (Some e.1) (lookup (bytes_eq key) (shift_remove_entry (bytes_eq key) es))) at_key) ∙ is))
