-- How long a body can be: a number for each row, which is computed from the table.
use Rattle.std.proofs.Common.{◌≡◌, refl, sym, ◌∙◌, ℕ, ◌+◌, ◌*◌, ◌≤◌, Bool, true, false, cond, eqb, List, [], ◌∷◌, ◌++◌, length, Some, None}
use Rattle.std.proofs.Common.{ap, arith}
use Rattle.std.specs.Prelude.{nat_le, ◌==◌, ◌||◌}
use Rattle.std.proofs.lemmas.Bool.{eqb-true}
use Rattle.std.specs.List.{list_all}
use Rattle.std.specs.Int.{byte_len}
use Rattle.std.proofs.lemmas.List.{length-append}
use Rattle.std.proofs.Math.Nat.{mul-le-mul_right}
use Rattle.tt_frame.specs.FieldForms.{Named, count_width, Field, u8, u16, u32, u64, within, truth, text, digest, optional_digest, raw}
use Rattle.tt_frame.specs.FieldForms.{Value, spelled, Fits}
use Rattle.tt_frame.specs.ItemForms.{Item, item_spelled, ItemFits, items_spelled, ItemsFit, marked_spelled}
use Rattle.tt_frame.specs.Rows.{Row, unknown, end, rest, ◌▸◌, fixed, counted, marked, Maker, RowSpells}
use Rattle.tt_frame.specs.Tables.{Rule, rule_of, SpelledBy}
use Rattle.tt_frame.proofs.TestLaws.{and_both, le_of_test}
use Rattle.tt_frame.proofs.TextLaws.{length_of_text, length_of_digest}
use Rattle.tt_frame.proofs.FieldLaws.{wide_count}

-- the most bytes of a field
abbrev pub longest_field : Field → ℕ
longest_field u8 = 1
longest_field u16 = 2
longest_field u32 = 4
longest_field u64 = 8
longest_field (within w max) = byte_len (count_width w)
longest_field truth = 1
longest_field (text max) = max + 1
longest_field digest = 33
longest_field optional_digest = 33
longest_field (raw n) = n

abbrev pub longest_item : List Named → ℕ
longest_item [] = 0
longest_item (f ∷ fs) = longest_field f.field + longest_item fs

-- the most bytes of a body
abbrev pub longest : Row → ℕ
longest unknown = 0
longest end = 0
longest (rest low high) = high
longest (f ▸ r) = longest_field f.field + longest r
longest (fixed b r) = 1 + longest r
longest (counted w max fs r) = byte_len (count_width w) + max * longest_item fs + longest r
longest (marked max fs r) = max * (1 + longest_item fs) + 1 + longest r

field_size : (f : Field) (x : Value f) → Fits f x → length (spelled f x) ≤ longest_field f
field_size u8 x fits = omega arith
field_size u16 x fits = omega arith
field_size u32 x fits = omega arith
field_size u64 x fits = omega arith
field_size (within w max) x fits = omega (arith, (wide_count w).len x)
field_size truth x fits = omega arith
field_size (text max) x fits = omega (arith, length-append x (0 ∷ []), length_of_text max x fits)
field_size digest x fits = omega (arith, length-append x (0 ∷ []), length_of_digest x fits)
field_size optional_digest None fits = omega arith
field_size optional_digest (Some d) fits = omega (arith, length-append d (0 ∷ []), length_of_digest d fits)
field_size (raw n) x fits = omega (arith, fits)

item_size : (fs : List Named) (x : Item fs) → ItemFits fs x → length (item_spelled fs x) ≤ longest_item fs
item_size [] x fits = omega arith
item_size (f ∷ fs) x fits =
    omega (arith, length-append (spelled f.field x.0) (item_spelled fs x.1), field_size f.field x.0 fits.0, item_size fs x.1 fits.1)

items_size : (fs : List Named) (xs : List (Item fs)) → ItemsFit fs xs → length (items_spelled fs xs) ≤ length xs * longest_item fs
items_size fs [] fits = omega arith
items_size fs (x ∷ xs) fits =
    omega (arith, length-append (item_spelled fs x) (items_spelled fs xs), item_size fs x fits.0, items_size fs xs fits.1)

marked_size : (fs : List Named) (xs : List (Item fs)) → ItemsFit fs xs → length (marked_spelled fs xs) ≤ length xs * (1 + longest_item fs)
    + 1
marked_size fs [] fits = omega arith
marked_size fs (x ∷ xs) fits =
    omega (arith, length-append (item_spelled fs x) (marked_spelled fs xs), item_size fs x fits.0, marked_size fs xs fits.1)

pub row_size : (M : Type 0) (r : Row) (make : Maker r M) (m : M) (body : List ℕ) → RowSpells r make m body → length body ≤ longest r
row_size M unknown make m body h = absurd h
row_size M end make m body h = omega (arith, ap length h.1)
row_size M (rest low high) make m body h = h.2
row_size M (f ▸ r) make m body (x, (after, (fits, parts, more))) =
    omega (arith, ap length parts, length-append (spelled f.field x) after, field_size f.field x fits, row_size M r (make x) m after more)
row_size M (fixed b r) make m body (after, (parts, more)) = omega (arith, ap length parts, row_size M r make m after more)
row_size M (counted w max fs r) make m body (xs, (after, (fits, items_fit, parts, more))) =
    let count = spelled (within w max) (length xs) in
    let some : length xs * longest_item fs ≤ max * longest_item fs = mul-le-mul_right (longest_item fs) fits.0 in
    omega (
      arith,
      ap length parts,
      length-append (count ++ items_spelled fs xs) after,
      length-append count (items_spelled fs xs),
      (wide_count w).len (length xs),
      items_size fs xs items_fit,
      row_size M r (make xs) m after more,
    )
row_size M (marked max fs r) make m body (xs, (after, (few, items_fit, parts, more))) =
    let some : length xs * (1 + longest_item fs) ≤ max * (1 + longest_item fs) = mul-le-mul_right (1 + longest_item fs) few in
    omega (
      arith,
      ap length parts,
      length-append (marked_spelled fs xs) after,
      marked_size fs xs items_fit,
      row_size M r (make xs) m after
          more,
    )

-- ---- tables

abbrev pub is_one_of : List ℕ → ℕ → Bool
is_one_of [] kind = false
is_one_of (k ∷ ks) kind = (kind == k) || is_one_of ks kind

-- a table whose bodies have at most that many bytes, but for those of these numbers
abbrev pub is_short_but : {M : Type 0} → List ℕ → ℕ → List (Rule M) → Bool
is_short_but ks most table = list_all (λ l. is_one_of ks l.kind || nat_le (longest l.fields) most) table

short_of : (b : Bool) (n most : ℕ) → b ≡ false → (b || nat_le n most) ≡ true → n ≤ most
short_of true n most off e = absurd cc
short_of false n most off e = le_of_test n most e

by_test_but : (M : Type 0) (ks : List ℕ) (most : ℕ) (l k : Rule M) (m : M) (kind : ℕ) (body : List ℕ)
    → (is_one_of ks l.kind || nat_le (longest l.fields) most) ≡ true → is_one_of ks kind ≡ false → (b : Bool) → eqb kind l.kind ≡ b
    → (RowSpells k.fields k.make m body → length body ≤ most) → (let j = cond b l k in RowSpells j.fields j.make m body)
    → length body ≤ most
by_test_but M ks most l k m kind body short other true same others h =
    let here : is_one_of ks l.kind ≡ false = ap (λ (n : ℕ). is_one_of ks n) (sym (eqb-true kind l.kind same)) ∙ other in
    omega (arith, row_size M l.fields l.make m body h, short_of (is_one_of ks l.kind) (longest l.fields) most here short)
by_test_but M ks most l k m kind body short other false same others h = others h

pub body_size_but : (M : Type 0) (ks : List ℕ) (most : ℕ) (table : List (Rule M)) (m : M) (kind : ℕ) (body : List ℕ)
    → is_short_but ks most table ≡ true → is_one_of ks kind ≡ false → SpelledBy table m kind body → length body ≤ most
body_size_but M ks most [] m kind body short other h = absurd h
body_size_but M ks most (l ∷ ls) m kind body short other h =
    let both = and_both (is_one_of ks l.kind || nat_le (longest l.fields) most) (is_short_but ks most ls) short in
    by_test_but M ks most l (rule_of ls kind) m kind body both.0 other (eqb kind l.kind) refl (body_size_but M ks most ls m kind body
    both.1 other) h

-- a table whose bodies all have at most that many
abbrev pub is_short : {M : Type 0} → ℕ → List (Rule M) → Bool
is_short most table = is_short_but [] most table

pub body_size : (M : Type 0) (most : ℕ) (table : List (Rule M)) (m : M) (kind : ℕ) (body : List ℕ) → is_short most table ≡ true
    → SpelledBy table m kind body → length body ≤ most
body_size M most table m kind body short h = body_size_but M [] most table m kind body short refl h
