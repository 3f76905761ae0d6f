-- Lists, line by line.
use Rattle.std.proofs.lemmas.Bool.{cases_lt}
use Rattle.std.proofs.Common.{◌≡◌, ◌≢◌, inl, inr, subst, zero, suc, ◌<◌, ℕ, ◌+◌, ◌-◌, List, [], ◌∷◌, ◌++◌, length, take, refl, sym, ap, ap₂}
use Rattle.std.proofs.Common.{◌∙◌, append_assoc, arith}
use Rattle.std.specs.Prelude.{map, codes}
use Rattle.std.specs.List.{AllByRecursion}
use Rattle.std.proofs.lemmas.List.{take-take, append-nil, map-append, take_at, length-map, length-append, nil_from_length}
use Rattle.std.proofs.lemmas.Grind.{flat_map-append}
use Rattle.hex.specs.Hex.{encode_lower}
use Rattle.tt_lines.specs.Digits.{IsPiece}
use Rattle.tt_lines.specs.Lines.{HasNo, lines_of, IsFirstBad}
use Rattle.tt_lines.proofs.Breaks.{has_no-test, first_is, no_sides}
use Rattle.tt_show.specs.declared.family.Family.{Family}
use Rattle.tt_show.specs.declared.family.Family.TheVariants.{Game, Admin, Coord, Stun, Turn}
use Rattle.tt_show.specs.ListLines.{ListLine}
use Rattle.tt_show.specs.Packets.{family_word}
use Rattle.tt_show.specs.Lists.{line_text, IsLine, IsList, line_shown, list_shown, IsShown}

-- ---- the word of a family

word_one : (family : Family) → HasNo 32 (family_word family)
word_one Game = has_no-test 32 (codes "game") refl
word_one Admin = has_no-test 32 (codes "admin") refl
word_one Coord = has_no-test 32 (codes "coord") refl
word_one Stun = has_no-test 32 (codes "stun") refl
word_one Turn = has_no-test 32 (codes "turn") refl

line_cut : (family : Family) (bytes : List ℕ) → line_text (record { family = family; bytes = bytes }) ≡ family_word family
    ++ 32 ∷ encode_lower bytes
line_cut Game bytes = refl
line_cut Admin bytes = refl
line_cut Coord bytes = refl
line_cut Stun bytes = refl
line_cut Turn bytes = refl

-- what begins with another word is no line
pub other_word : (text word digits : List ℕ) → text ≡ word ++ 32 ∷ digits → HasNo 32 word → ((family : Family) → word ≢ family_word family)
    → (line : ListLine) → IsLine line → text ≢ line_text line
other_word text word digits cut one none line is e =
    none line.family (first_is 32 word (family_word line.family) digits (encode_lower line.bytes) one (word_one line.family) (sym cut ∙ e
    ∙ line_cut line.family line.bytes)).0

-- what has no blank is no line
pub no_word : (text : List ℕ) → HasNo 32 text → (line : ListLine) → IsLine line → text ≢ line_text line
no_word text none line is e =
    no_sides 32 text (family_word line.family) (encode_lower line.bytes) none (e ∙ line_cut line.family line.bytes)

-- nor is what has other digits behind the blank
pub other_digits : (text word digits : List ℕ) → text ≡ word ++ 32 ∷ digits → HasNo 32 word → ((piece : List ℕ) → IsPiece piece
    → digits ≢ encode_lower piece) → (line : ListLine) → IsLine line → text ≢ line_text line
other_digits text word digits cut one none line is e =
    none line.bytes is (first_is 32 word (family_word line.family) digits (encode_lower line.bytes) one (word_one line.family) (sym cut ∙ e
    ∙ line_cut line.family line.bytes)).1

-- a word, a blank and digits are a line
pub line_found : (text word digits bytes : List ℕ) (family : Family) → text ≡ word ++ 32 ∷ digits → word ≡ family_word family
    → IsPiece bytes × (digits ≡ encode_lower bytes)
    → IsLine (record { family = family; bytes = bytes }) × (text ≡ line_text (record { family = family; bytes = bytes }))
line_found text word digits bytes family cut is spelled =
    (spelled.0, cut ∙ ap₂ (λ (front rest : List ℕ). front ++ 32 ∷ rest) is spelled.1 ∙ sym (line_cut family bytes))

-- ---- the lines so far

-- These lines were read and their text was written, and the rest is still to be read.
pub record SoFar (input rest text : List ℕ) (number : ℕ) : Type 0 where
  pub lines : List ListLine
  pub each : AllByRecursion IsLine lines
  pub count : length lines ≡ number
  pub spelled : lines_of input ≡ map line_text lines ++ lines_of rest
  pub shown : text ≡ list_shown lines

pub none_yet : (input text : List ℕ) → text ≡ [] → SoFar input input text 0
none_yet input text empty = record { lines = []; each = tt; count = refl; spelled = refl; shown = empty }

each_more : (lines : List ListLine) (line : ListLine) → AllByRecursion IsLine lines → IsLine line → AllByRecursion IsLine (lines
    ++ line ∷ [])
each_more [] line each is = (is, tt)
each_more (first ∷ lines) line each is = (each.0, each_more lines line each.1 is)

-- one line more
pub one_more : (input rest after text new first : List ℕ) (number next : ℕ) (line : ListLine) → SoFar input rest text number
    → lines_of rest ≡ first ∷ lines_of after → IsLine line → first ≡ line_text line → new ≡ text ++ line_shown line → next ≡ number + 1
    → SoFar input after new next
one_more input rest after text new first number next line so_far cut is spelled shown counted = record {
  lines = so_far.lines ++ line ∷ [];
  each = each_more so_far.lines line so_far.each is;
  count = omega (arith, length-append so_far.lines (line ∷ []), so_far.count, counted);
  spelled =
      so_far.spelled ∙ ap (λ (lines : List (List ℕ)). map line_text so_far.lines ++ lines) (cut
      ∙ ap (λ (t : List ℕ). t ∷ lines_of after) spelled)
      ∙ sym (append_assoc (map line_text so_far.lines) (line_text line ∷ []) (lines_of after))
      ∙ ap (λ (lines : List (List ℕ)). lines ++ lines_of after) (sym (map-append line_text so_far.lines (line ∷ [])));
  shown =
      shown ∙ ap (λ (t : List ℕ). t ++ line_shown line) so_far.shown ∙ ap (λ (t : List ℕ). list_shown so_far.lines
      ++ t) (sym (append-nil (line_shown line)))
      ∙ sym (flat_map-append line_shown so_far.lines (line ∷ []));
}

-- all lines were read
pub all_read : (input rest text : List ℕ) (number : ℕ) → SoFar input rest text number → length rest ≡ 0 → IsShown input text
all_read input rest text number so_far none = record {
  lines = so_far.lines;
  spelled = record {
    each = so_far.each;
    text = so_far.spelled ∙ ap (λ (r : List ℕ). map line_text so_far.lines ++ lines_of r) (nil_from_length rest none)
        ∙ append-nil (map line_text so_far.lines);
  };
  shown = so_far.shown;
}

-- ---- the first bad line

-- the last of some lines is one
last_is : (texts : List (List ℕ)) (text : List ℕ) (others : List ListLine) → texts ++ text ∷ [] ≡ map line_text others
    → AllByRecursion IsLine others → (line : ListLine) × (IsLine line × (text ≡ line_text line))
last_is [] text [] e each = absurd cc
last_is [] text (other ∷ others) e each = (other, (each.0, cc))
last_is (first ∷ texts) text [] e each = absurd cc
last_is (first ∷ texts) text (other ∷ others) e each = let tails : texts ++ text ∷ [] ≡ map line_text others =
    cc in last_is texts text others tails each.1

pub first_bad : (input rest after text first : List ℕ) (number next : ℕ) → SoFar input rest text number
    → lines_of rest ≡ first ∷ lines_of after → ((line : ListLine) → IsLine line → first ≢ line_text line) → next ≡ number + 1
    → IsFirstBad IsList (lines_of input) next
first_bad input rest after text first number next so_far cut none counted =
    let front = map line_text so_far.lines in
    let long : length front ≡ number = length-map so_far.lines line_text ∙ so_far.count in
    let spelled : lines_of input ≡ front ++ (first ∷ lines_of after) =
    so_far.spelled ∙ ap (λ (lines : List (List ℕ)). front ++ lines) cut in
    let before : take (next - 1) (lines_of input) ≡ front =
    ap (take (next - 1)) spelled ∙ take_at front (first ∷ lines_of after) (next - 1) (omega (arith, long, counted)) in
    let with_it : take next (lines_of input) ≡ front ++ first ∷ [] =
    ap (take next) (spelled ∙ sym (append_assoc front (first ∷ []) (lines_of after)))
    ∙ take_at (front ++ first ∷ []) (lines_of after) next (omega (arith, length-append front (first ∷ []), long, counted)) in
    record {
      some = omega (arith, counted);
      within = omega (arith, ap length spelled, length-append front (first ∷ lines_of after), long, counted);
      before = (so_far.lines, record { each = so_far.each; text = before });
      bad = λ is.
          let last = last_is front first is.0 (sym with_it ∙ is.1.text) is.1.each in
          none last.0 last.1.0 last.1.1;
    }

-- ---- one first bad line

-- the first lines of a list are one
front_lines : (n : ℕ) (lines : List ListLine) → AllByRecursion IsLine lines → (few : List ListLine) × (AllByRecursion IsLine few
    × (take n (map line_text lines) ≡ map line_text few))
front_lines zero lines each = ([], (tt, refl))
front_lines (suc n) [] each = ([], (tt, refl))
front_lines (suc n) (l ∷ lines) each =
    let few = front_lines n lines each.1 in
    (l ∷ few.0, ((each.0, few.1.0), ap (λ (texts : List (List ℕ)). line_text l ∷ texts) few.1.1))

front_list : (n : ℕ) (texts : List (List ℕ)) → IsList texts → IsList (take n texts)
front_list n texts list =
    let few = front_lines n list.0 list.1.each in
    (few.0, record { each = few.1.0; text = ap (take n) list.1.text ∙ few.1.1 })

not_before : (texts : List (List ℕ)) (l k : ℕ) → IsFirstBad IsList texts l → IsFirstBad IsList texts k → l < k → ⊥
not_before texts l k first other lt =
    let short : take l (take (k - 1) texts) ≡ take l texts = take-take l (k - 1) texts (omega arith) in
    first.bad (subst (λ (some : List (List ℕ)). IsList some) short (front_list l (take (k - 1) texts) other.before))

pub one_first_bad : (texts : List (List ℕ)) (l k : ℕ) → IsFirstBad IsList texts l → IsFirstBad IsList texts k → l ≡ k
one_first_bad texts l k first other = elim (cases_lt l k) [
  | inl lt ↦ absurd (not_before texts l k first other lt)
  | inr le ↦ elim (cases_lt k l) [
    | inl lt ↦ absurd (not_before texts k l other first lt)
    | inr ge ↦ omega arith
  ]
]
