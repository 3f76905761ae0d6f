-- Reading is the inverse of spelling: for each form of a word, and then for each row of a table.
use Rattle.std.proofs.Common.{◌≡◌, ℕ, ◌<◌, List, [], ◌∷◌, ◌++◌, Bool, true, false, cond, Option, Some, None, refl, sym, ap, subst, ◌∙◌}
use Rattle.std.proofs.Common.{arith}
use Rattle.std.specs.Prelude.{◌==◌}
use Rattle.std.specs.Str.{bytes_eq}
use Rattle.std.specs.Fmt.{decimal}
use Rattle.std.proofs.lemmas.Bool.{ne_eqb, eq-eqb, eqb-true}
use Rattle.std.proofs.lemmas.Slice.Eq.{bytes_eq-Decides}
use Rattle.hex.specs.Hex.{encode_lower}
use Rattle.tt_lines.specs.Lines.{HasNo}
use Rattle.tt_log.specs.Forms.{Form, number, text, hex, saved, key, Value, spelled, text_spelled, Fits, IsTextFrom}
use Rattle.tt_lines.specs.Digits.{IsPiece}
use Rattle.tt_log.specs.Saved.{IsSaved}
use Rattle.tt_log.specs.Rows.{◌>>=◌, front_word, behind_word, word_at, rest_at, number_in, within, hex_in, text_in, text_within}
use Rattle.tt_log.specs.Rows.{saved_within, number_at, hex_at, text_at, saved_at, value_at, Row, none, end, all, ◌▸◌, ended_at, row_at}
use Rattle.tt_log.specs.Rows.{Branch, pick}
use Rattle.tt_lines.proofs.Breaks.{has_no-rest, has_no-cons, decimal_one}
use Rattle.tt_lines.proofs.HexDigits.{lower_one}
use Rattle.tt_log.proofs.SavedLaws.{saved_found, saved_back}
use Rattle.tt_log.proofs.ValueLaws.{if_some, number_found, number_back, within_found, within_back, hex_found, hex_back, text_found}
use Rattle.tt_log.proofs.ValueLaws.{text_back, text_within_found, text_within_back}

-- what may be left of a line: nothing, or a blank and more
abbrev pub IsLeft : List ℕ → Type 0
IsLeft [] = Unit {0}
IsLeft (b ∷ left) = b ≡ 32

-- ---- words

pub front_of : (w left : List ℕ) → HasNo 32 w → IsLeft left → (front_word (w ++ left) ≡ w) × (behind_word (w ++ left) ≡ left)
front_of [] [] one is = (refl, refl)
front_of [] (b ∷ left) one is = let e : (b == 32) ≡ true = eq-eqb b 32 is in rw e (refl, refl)
front_of (a ∷ w) left one is =
    let other : (a == 32) ≡ false = ne_eqb a 32 (one 0 (omega arith)) in
    let rec = front_of w left (has_no-rest 32 a w one) is in
    rw other (ap (λ (t : List ℕ). a ∷ t) rec.0, rec.1)

pub word_found : (w left : List ℕ) → HasNo 32 w → IsLeft left → word_at (32 ∷ w ++ left) ≡ Some (w, left)
unfolding word_at
word_found w left one is = let parts = front_of w left one is in rw (parts.0, parts.1) refl

front_by : (b : ℕ) (bytes : List ℕ) (t : Bool) → (b == 32) ≡ t
    → HasNo 32 (front_word bytes) × IsLeft (behind_word bytes) × (bytes ≡ front_word bytes ++ behind_word bytes)
    → HasNo 32 (cond t [] (b ∷ front_word bytes)) × IsLeft (cond t (b ∷ bytes) (behind_word bytes))
    × (b ∷ bytes ≡ cond t [] (b ∷ front_word bytes) ++ cond t (b ∷ bytes) (behind_word bytes))
front_by b bytes true e rec = ((λ i lt. absurd (omega (arith, lt))), eqb-true b 32 e, refl)
front_by b bytes false e rec =
    (has_no-cons 32 b (front_word bytes) (λ is. let yes = eq-eqb b 32 is in absurd cc) rec.0, rec.1, ap (λ (t : List ℕ). b ∷ t) rec.2)

pub front_facts : (bytes : List ℕ) → HasNo 32 (front_word bytes) × IsLeft (behind_word bytes)
    × (bytes ≡ front_word bytes ++ behind_word bytes)
front_facts [] = ((λ i lt. absurd (omega (arith, lt))), tt, refl)
front_facts (b ∷ bytes) = front_by b bytes (b == 32) refl (front_facts bytes)

pub word_parts : (left w after : List ℕ) → word_at left ≡ Some (w, after) → HasNo 32 w × IsLeft after × (left ≡ 32 ∷ w ++ after)
unfolding word_at
word_parts [] w after e = absurd cc
word_parts (b ∷ bytes) w after e =
    let got = if_some (b == 32) (front_word bytes, behind_word bytes) (w, after) e in
    let blank : b ≡ 32 = eqb-true b 32 got.0 in
    let front : front_word bytes ≡ w = ap (λ (p : List ℕ × List ℕ). p.0) got.1 in
    let behind : behind_word bytes ≡ after = ap (λ (p : List ℕ × List ℕ). p.1) got.1 in
    let facts = front_facts bytes in
    (subst (HasNo 32) front facts.0, subst IsLeft behind facts.1, (let whole = facts.2 in cc))

-- ---- forms

-- what a step of reading that went well gave
pub bind_some : {A B : Type 0} (o : Option A) (f : A → Option B) (y : B) → o >>= f ≡ Some y → (x : A) × (o ≡ Some x) × (f x ≡ Some y)
bind_some None f y e = absurd cc
bind_some (Some x) f y e = (x, refl, e)

pub text_one : (byte : ℕ) (content : List ℕ) (least most : ℕ) → byte < 45 → IsTextFrom least most content
    → HasNo byte (text_spelled content)
text_one byte [] least most low fits = has_no-cons byte 45 [] (λ is. omega (arith, is, low)) (λ i lt. absurd (omega (arith, lt)))
text_one byte (b ∷ content) least most low fits = lower_one byte (b ∷ content) (omega (arith, low)) fits.bytes

-- a number, a text or digits have no byte below a dash
pub number_one : (byte least most n : ℕ) → byte < 45 → Fits (number least most) n → HasNo byte (decimal n)
number_one byte least most n low fits = decimal_one byte n (omega (arith, low)) (omega (arith, fits.2))

pub blank_one : (f : Form) (x : Value f) → Fits f x → HasNo 32 (spelled f x)
blank_one (number least most) n fits = number_one 32 least most n (omega arith) fits
blank_one (text least most) content fits = text_one 32 content least most (omega arith) fits
blank_one hex piece fits = lower_one 32 piece (omega arith) fits.bytes
blank_one saved map fits = lower_one 32 map (omega arith) fits.0.bytes
blank_one key w fits = fits

pub hex_at_found : (piece left : List ℕ) → IsPiece piece → IsLeft left → hex_at (32 ∷ encode_lower piece ++ left) ≡ Some (piece, left)
unfolding hex_at
hex_at_found piece left fits is =
    rw (word_found (encode_lower piece) left (blank_one hex piece fits) is, hex_found (encode_lower piece) piece fits refl) refl

-- a value is read from its spelling
pub value_found : (f : Form) (x : Value f) (left : List ℕ) → Fits f x → IsLeft left → value_at f (32 ∷ spelled f x ++ left) ≡ Some (x, left)
unfolding number_at text_at saved_at
value_found (number least most) n left fits is =
    rw (
      word_found (decimal n) left (blank_one (number least most) n fits) is,
      number_found (decimal n) n refl fits.2,
      within_found least most n fits.0 fits.1,
    ) refl
value_found (text least most) content left fits is =
    rw (
      word_found (text_spelled content) left (blank_one (text least most) content fits) is,
      text_found (text_spelled content) content
          fits.bytes refl,
      text_within_found least most content fits,
    ) refl
value_found hex piece left fits is = hex_at_found piece left fits is
value_found saved map left fits is = rw (hex_at_found map left fits.0 is, saved_found map fits.1) refl
value_found key w left fits is = word_found w left fits is

pairs : {A : Type 0} (x y : A) (left after : List ℕ) → ◌≡◌ {A = Option (A × List ℕ)} (Some (x, left)) (Some (y, after)) → (x ≡ y)
    × (left ≡ after)
pairs {A} x y left after e = let both : (x, left) ≡ (y, after) =
    cc in (ap (λ (p : A × List ℕ). p.0) both, ap (λ (p : A × List ℕ). p.1) both)

pub hex_at_back : (left piece after : List ℕ) → hex_at left ≡ Some (piece, after) → IsPiece piece × IsLeft after
    × (left ≡ 32 ∷ encode_lower piece ++ after)
unfolding hex_at
hex_at_back left piece after e =
    let w = bind_some (word_at left) _ (piece, after) e in
    let read = bind_some (hex_in w.0.0) _ (piece, after) w.2 in
    let end = pairs read.0 piece w.0.1 after read.2 in
    let parts = word_parts left w.0.0 w.0.1 w.1 in
    let digits = hex_back w.0.0 read.0 read.1 in (
      subst IsPiece end.0 digits.0,
      subst IsLeft end.1 parts.1,
      (let whole = parts.2 in let spelled = digits.1 ∙ ap encode_lower end.0
          in let rest = end.1 in cc),
    )

-- what is read stands there, spelled as it should be
pub value_back : (f : Form) (left : List ℕ) (x : Value f) (after : List ℕ) → value_at f left ≡ Some (x, after) → Fits f x × IsLeft after
    × (left ≡ 32 ∷ spelled f x ++ after)
unfolding number_at text_at saved_at
value_back (number least most) left n after e =
    let w = bind_some (word_at left) _ (n, after) e in
    let read = bind_some (number_in w.0.0) _ (n, after) w.2 in
    let kept = bind_some (within least most read.0) _ (n, after) read.2 in
    let end = pairs kept.0 n w.0.1 after kept.2 in
    let parts = word_parts left w.0.0 w.0.1 w.1 in
    let digits = number_back w.0.0 read.0 read.1 in
    let range = within_back least most read.0 kept.0 kept.1 in
    let same : read.0 ≡ n = range.0 ∙ end.0 in (
      (omega (arith, range.1, same), omega (arith, range.2, same), omega (arith, digits.1, same)),
      subst IsLeft end.1 parts.1,
      (let whole = parts.2 in let spelled = digits.0 ∙ ap decimal same in let rest = end.1 in cc),
    )
value_back (text least most) left content after e =
    let w = bind_some (word_at left) _ (content, after) e in
    let read = bind_some (text_in w.0.0) _ (content, after) w.2 in
    let kept = bind_some (text_within least most read.0) _ (content, after) read.2 in
    let end = pairs kept.0 content w.0.1 after kept.2 in
    let parts = word_parts left w.0.0 w.0.1 w.1 in
    let digits = text_back w.0.0 read.0 read.1 in
    let range = text_within_back least most read.0 kept.0 kept.1 in
    let same : read.0 ≡ content = range.0 ∙ end.0 in
    let fits : IsTextFrom least most read.0 = record { bytes = digits.0; some = range.1; text = range.2 } in (
      subst (IsTextFrom least most) same fits,
      subst IsLeft end.1 parts.1,
      (let whole = parts.2 in let spelled = digits.1
          ∙ ap text_spelled same in let rest = end.1 in cc),
    )
value_back hex left piece after e = hex_at_back left piece after e
value_back saved left map after e =
    let read = bind_some (hex_at left) _ (map, after) e in
    let kept = bind_some (saved_within read.0.0) _ (map, after) read.2 in
    let end = pairs kept.0 map read.0.1 after kept.2 in
    let parts = hex_at_back left read.0.0 read.0.1 read.1 in
    let good = saved_back read.0.0 kept.0 parts.0.bytes kept.1 in
    let same : read.0.0 ≡ map = good.0 ∙ end.0 in (
      (subst IsPiece same parts.0, subst IsSaved same good.1),
      subst IsLeft end.1 parts.1,
      (let whole = parts.2 in let spelled =
          ap encode_lower same in let rest = end.1 in cc),
    )
value_back key left w after e = word_parts left w after e

-- ---- rows

-- each line that a row makes, with the words that it stands for, is as wanted
abbrev pub Sound : {M : Type 0} → Row M → (M → List ℕ → Type 0) → Type 0
Sound none P = Unit {0}
Sound (end m) P = P m []
Sound (all make) P = (bytes : List ℕ) → HasNo 10 bytes → P (make bytes) (32 ∷ bytes)
Sound (f ▸ more) P = (x : Value f) → Fits f x → Sound (more x) (λ m after. P m (32 ∷ spelled f x ++ after))

pub has_no-behind : (byte : ℕ) (a b : List ℕ) → HasNo byte (a ++ b) → HasNo byte b
has_no-behind byte [] b one = one
has_no-behind byte (x ∷ a) b one = has_no-behind byte a b (has_no-rest byte x (a ++ b) one)

pub rest_back : (left bytes : List ℕ) → rest_at left ≡ Some bytes → left ≡ 32 ∷ bytes
unfolding rest_at
rest_back [] bytes e = absurd cc
rest_back (b ∷ left) bytes e =
    let got = if_some (b == 32) left bytes e in
    let blank : b ≡ 32 = eqb-true b 32 got.0 in
    let rest = got.1 in
    cc

pub rest_found : (bytes : List ℕ) → rest_at (32 ∷ bytes) ≡ Some bytes
unfolding rest_at
rest_found bytes = refl

pub ended_back : {M : Type 0} (m n : M) (left : List ℕ) → ended_at m left ≡ Some n → (m ≡ n) × (left ≡ [])
ended_back m n [] e = (cc, refl)
ended_back m n (b ∷ left) e = absurd cc

pub sound : {M : Type 0} (r : Row M) (P : M → List ℕ → Type 0) → Sound r P → (left : List ℕ) → HasNo 10 left → (m : M)
    → row_at r left ≡ Some m → P m left
sound none P s left one m e = absurd cc
sound (end n) P s left one m e = let back = ended_back n m left e in subst (λ k. P k left) back.0 (subst (λ t. P n t) (sym back.1) s)
sound {M} (all make) P s left one m e =
    let read = bind_some (rest_at left) _ m e in
    let is : left ≡ 32 ∷ read.0 = rest_back left read.0 read.1 in
    let made : make read.0 ≡ m = (let same : ◌≡◌ {A = Option M} (Some (make read.0)) (Some m) = read.2 in cc) in
    subst (λ k. P k left) made (subst (λ t. P (make read.0) t) (sym is) (s read.0 (has_no-rest 10 32 read.0 (subst (HasNo 10) is one))))
sound (f ▸ more) P s left one m e =
    let read = bind_some (value_at f left) _ m e in
    let back = value_back f left read.0.0 read.0.1 read.1 in
    let after : HasNo 10 read.0.1 = has_no-behind 10 (32 ∷ spelled f read.0.0) read.0.1 (subst (HasNo 10) back.2 one) in
    subst (λ t. P m t) (sym back.2) (sound (more read.0.0) (λ k t. P k (32 ∷ spelled f read.0.0 ++ t)) (s read.0.0 back.0) read.0.1 after m
    read.2)

-- the same of each branch of a table
abbrev pub Each : {M : Type 0} → List (Branch M) → (M → List ℕ → Type 0) → Type 0
Each [] P = Unit {0}
Each (b ∷ bs) P = Sound b.row (λ m after. P m (32 ∷ b.word ++ after)) × Each bs P

pub picked : {M : Type 0} (P : M → List ℕ → Type 0) (r s : Row M) (v w : List ℕ) (t : Bool) → bytes_eq w v ≡ t
    → Sound r (λ m after. P m (32 ∷ v ++ after)) → Sound s (λ m after. P m (32 ∷ w ++ after))
    → Sound (cond t r s) (λ m after. P m (32 ∷ w ++ after))
picked P r s v w true e hit miss = let is : w ≡ v =
    (bytes_eq-Decides w v).0 e in subst (λ u. Sound r (λ m after. P m (32 ∷ u ++ after))) (sym is) hit
picked P r s v w false e hit miss = miss

pub pick_sound : {M : Type 0} (bs : List (Branch M)) (P : M → List ℕ → Type 0) → Each bs P → (w : List ℕ)
    → Sound (pick bs w) (λ m after. P m (32 ∷ w ++ after))
pick_sound [] P each w = tt
pick_sound (b ∷ bs) P each w = picked P b.row (pick bs w) b.word w (bytes_eq w b.word) refl each.0 (pick_sound bs P each.1 w)

-- a value in front of a row
pub go : {M : Type 0} (f : Form) (more : Value f → Row M) (x : Value f) (left : List ℕ) → Fits f x → IsLeft left
    → row_at (f ▸ more) (32 ∷ spelled f x ++ left) ≡ row_at (more x) left
go {M} f more x left fits is = ap (λ (o : Option (Value f × List ℕ)). o >>= λ p. row_at (more p.0) p.1) (value_found f x left fits is)
