-- A message taken apart spells its body, and no other.
use Rattle.std.proofs.Common.{◌≡◌, ℕ, Bool, true, false, cond, eqb, List, [], ◌∷◌, ◌++◌, length, refl, sym, ap, ◌∙◌}
use Rattle.std.proofs.lemmas.Bool.{eqb-true}
use Rattle.tt_frame.specs.FieldForms.{spelled, within}
use Rattle.tt_frame.specs.ItemForms.{items_spelled, marked_spelled}
use Rattle.tt_frame.specs.Rows.{Row, unknown, end, rest, ◌▸◌, fixed, counted, marked, Maker, RowSpells}
use Rattle.tt_frame.specs.Tables.{Rule, rule_of, SpelledBy}
use Rattle.tt_frame.specs.Apart.{Values, ValuesFit, body_of, made_of}

-- the values in their ranges spell the message that is made of them
pub values_spell : (M : Type 0) (r : Row) (make : Maker r M) (v : Values r) → ValuesFit r v
    → RowSpells r make (made_of r make v) (body_of r v)
values_spell M unknown make v fits = absurd v
values_spell M end make v fits = (refl, refl)
values_spell M (rest low high) make v fits = (refl, fits.0, fits.1)
values_spell M (f ▸ r) make v fits = (v.0, (body_of r v.1, (fits.0, refl, values_spell M r (make v.0) v.1 fits.1)))
values_spell M (fixed b r) make v fits = (body_of r v, (refl, values_spell M r make v fits))
values_spell M (counted w max fs r) make v fits = (v.0, (body_of r v.1, (fits.0, fits.1, refl, values_spell M r (make v.0) v.1 fits.2)))
values_spell M (marked max fs r) make v fits = (v.0, (body_of r v.1, (fits.0, fits.1, refl, values_spell M r (make v.0) v.1 fits.2)))

-- what is spelled has such values
pub spelled_values : (M : Type 0) (r : Row) (make : Maker r M) (m : M) (body : List ℕ) → RowSpells r make m body → (v : Values r)
    × ((m ≡ made_of r make v) × (body ≡ body_of r v))
spelled_values M unknown make m body h = absurd h
spelled_values M end make m body h = (tt, (h.0, h.1))
spelled_values M (rest low high) make m body h = (body, (h.0, refl))
spelled_values M (f ▸ r) make m body (x, (after, (fits, parts, more))) =
    let v = spelled_values M r (make x) m after more in
    ((x, v.0), (v.1.0, parts ∙ ap (λ (b : List ℕ). spelled f.field x ++ b) v.1.1))
spelled_values M (fixed b r) make m body (after, (parts, more)) =
    let v = spelled_values M r make m after more in
    (v.0, (v.1.0, parts ∙ ap (λ (rest : List ℕ). b ∷ rest) v.1.1))
spelled_values M (counted w max fs r) make m body (xs, (after, (fits, items_fit, parts, more))) =
    let v = spelled_values M r (make xs) m after more in
    ((xs, v.0), (v.1.0, parts ∙ ap (λ (b : List ℕ). (spelled (within w max) (length xs) ++ items_spelled fs xs) ++ b) v.1.1))
spelled_values M (marked max fs r) make m body (xs, (after, (few, items_fit, parts, more))) =
    let v = spelled_values M r (make xs) m after more in
    ((xs, v.0), (v.1.0, parts ∙ ap (λ (b : List ℕ). marked_spelled fs xs ++ b) v.1.1))

-- what the table makes of any values, taken apart, is those values
abbrev pub AllApart : {M : Type 0} → (M → ℕ × List ℕ) → List (Rule M) → Type 0
AllApart apart [] = Unit {0}
AllApart apart (l ∷ ls) = ((v : Values l.fields) → apart (made_of l.fields l.make v) ≡ (l.kind, body_of l.fields v)) × AllApart apart ls

by_test : (M : Type 0) (apart : M → ℕ × List ℕ) (l k : Rule M) (m : M) (kind : ℕ) (body : List ℕ) → ((v : Values l.fields)
    → apart (made_of l.fields l.make v) ≡ (l.kind, body_of l.fields v)) → (b : Bool) → eqb kind l.kind ≡ b
    → (RowSpells k.fields k.make m body → apart m ≡ (kind, body)) → (let j = cond b l k in RowSpells j.fields j.make m body)
    → apart m ≡ (kind, body)
by_test M apart l k m kind body is true e others h =
    let v = spelled_values M l.fields l.make m body h in
    ap apart v.1.0 ∙ is v.0 ∙ (λ i. (sym (eqb-true kind l.kind e) i, sym v.1.1 i))
by_test M apart l k m kind body is false e others h = others h

-- a message has one spelling
pub one_spelling : (M : Type 0) (apart : M → ℕ × List ℕ) (table : List (Rule M)) (m : M) (kind : ℕ) (body : List ℕ) → AllApart apart table
    → SpelledBy table m kind body → apart m ≡ (kind, body)
one_spelling M apart [] m kind body all h = absurd h
one_spelling M apart (l ∷ ls) m kind body all h =
    by_test M apart l (rule_of ls kind) m kind body (all.0) (eqb kind l.kind) refl (λ k. one_spelling M apart ls m kind body all.1 k) h
