-- What is kept by codes stays so.
use Rattle.std.proofs.Common.{◌≡◌, ℕ, Bool, true, false, cond, List, [], ◌∷◌, map, Option, None, refl, sym, ap, ◌∙◌, subst}
use Rattle.std.specs.Prelude.{find}
use Rattle.std.specs.Str.{bytes_eq}
use Rattle.std.specs.Map.{remove_entry, set_value}
use Rattle.std.proofs.lemmas.Slice.Eq.{bytes_eq-Decides}
use Rattle.indexmap.specs.IndexMap.{insert_entry}
use Rattle.tt_attempts.specs.Codes.{IsCode}
use Rattle.tt_gc_table.specs.Registry.{AreCodes}

pub codes_insert : {V : Type 0} (k : List ℕ) (v : V) (es : List (List ℕ × V)) → IsCode k → AreCodes es
    → AreCodes (insert_entry bytes_eq es k v)
codes_insert k v [] own all = (own, tt)
codes_insert {V = V} k v (e ∷ es) own all = by (bytes_eq k e.0) (codes_insert k v es own all.1)
  where
    by : (b : Bool) → AreCodes (insert_entry bytes_eq es k v) → AreCodes (cond b ((e.0, v) ∷ es) (e ∷ insert_entry bytes_eq es k v))
    by true rest = all
    by false rest = (all.0, rest)

codes_remove_by : {V : Type 0} (test : List ℕ → Bool) (es : List (List ℕ × V)) → AreCodes es → AreCodes (remove_entry test es)
codes_remove_by test [] all = all
codes_remove_by {V = V} test (e ∷ es) all = by (test e.0) (codes_remove_by test es all.1)
  where
    by : (b : Bool) → AreCodes (remove_entry test es) → AreCodes (cond b es (e ∷ remove_entry test es))
    by true rest = all.1
    by false rest = (all.0, rest)

pub codes_remove : {V : Type 0} (k : List ℕ) (es : List (List ℕ × V)) → AreCodes es → AreCodes (remove_entry (bytes_eq k) es)
codes_remove k es all = codes_remove_by (bytes_eq k) es all

codes_set_by : {V : Type 0} (test : List ℕ → Bool) (w : V) (es : List (List ℕ × V)) → AreCodes es → AreCodes (set_value test es w)
codes_set_by test w [] all = all
codes_set_by {V = V} test w (e ∷ es) all = by (test e.0) (codes_set_by test w es all.1)
  where
    by : (b : Bool) → AreCodes (set_value test es w) → AreCodes (cond b ((e.0, w) ∷ es) (e ∷ set_value test es w))
    by true rest = all
    by false rest = (all.0, rest)

pub codes_set : {V : Type 0} (k : List ℕ) (w : V) (es : List (List ℕ × V)) → AreCodes es → AreCodes (set_value (bytes_eq k) es w)
codes_set k w es all = codes_set_by (bytes_eq k) w es all

-- what is no code isn't among them
pub no_code : {V B : Type 0} (at : List ℕ × V → B) (text : List ℕ) (p : B → Bool) → ((e : List ℕ × V) → p (at e) ≡ bytes_eq text e.0)
    → (IsCode text → ⊥) → (es : List (List ℕ × V)) → AreCodes es → None ≡ find p (map at es)
no_code at text p own none [] all = refl
no_code {V = V} {B = B} at text p own none (e ∷ es) all =
    no_code at text p own none es all.1 ∙ ap (λ (b : Bool). cond b (Option.Some (at e)) (find p (map at es)))
    (sym (own e ∙ other (bytes_eq text e.0) refl))
  where
    other : (b : Bool) → bytes_eq text e.0 ≡ b → b ≡ false
    other true is = absurd (none (subst IsCode (sym ((bytes_eq-Decides text e.0).0 is)) all.0))
    other false is = refl
