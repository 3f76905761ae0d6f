-- Lines of the console: what stands behind a word is a text, and what `kick` and `say` read.
use Rattle.std.proofs.Common.{◌≡◌, ◌≢◌, ℕ, suc, ◌-◌, ◌<◌, ◌≤◌, ◌^◌, ◌⊎◌, inl, inr, List, [], ◌∷◌, ◌++◌, length, get_or, take, drop}
use Rattle.std.proofs.Common.{true, false, refl, ap, subst, Option, Some, None, arith, rules, sym, ◌∙◌, add-one, length-drop, drop-cons}
use Rattle.std.specs.Prelude.{Bool, ◌==◌, All, codes, cond}
use Rattle.std.proofs.lemmas.Bool.{ne_eqb, eqb-true}
use Rattle.std.proofs.lemmas.List.{take_all}
use Rattle.std.specs.Str.{IsCharBoundary}
use Rattle.std.proofs.lemmas.Str.{IsCharBoundary-after_ascii, IsCharBoundary-before_ascii, IsUtf8-drop, IsUtf8-nil}
use Rattle.std.proofs.lemmas.List.Elements.{All-drop}
use Rattle.tt_frame.specs.Text.{IsText, is_text}
use Rattle.tt_frame.proofs.TextLaws.{IsText-from_is_text, is_text-from_IsText, length_of_text}
use Rattle.tt_log.specs.Console.{ConsoleCommand, announces, command_in, console_lines, kicks, or_unknown, said}
use Rattle.tt_log.specs.Forms.{number}
use Rattle.tt_log.specs.Rows.{all, behind_word, front_word, end, ended_at, number_at, number_in, pick, rest_at, row_at, word_at, ◌▸◌}
use Rattle.tt_log.proofs.ValueLaws.{within_found}
use Rattle.tt_log.proofs.WordLaws.{front_at}

-- a line is read by its first word
pub command_is : (text : List ℕ) → command_in text ≡ or_unknown (row_at (pick console_lines (front_word text)) (behind_word text))
unfolding word_at
command_is text = refl

-- ---- what is left is a text

-- a text from a place on where a character begins
text_from : (max : ℕ) (bytes : List ℕ) (i : ℕ) → is_text max bytes ≡ true → IsCharBoundary bytes i → is_text max (drop i bytes) ≡ true
text_from max bytes i is at =
    let t = IsText-from_is_text max bytes is in
    let few = length_of_text max bytes is in
    let short : length (drop i bytes) ≤ max = rw length-drop (omega arith) in
    is_text-from_IsText max (drop i bytes)
    (record { utf8 = IsUtf8-drop bytes i t.utf8 at; shown = All-drop (λ b. 32 ≤ b) i bytes t.shown }) short

-- where a word ends: at the end, or at a blank
abbrev Ends : List ℕ → List ℕ → Type 0
Ends text left = (left ≡ []) ⊎ ((i : ℕ) × (i < length text) × (get_or text i 0 ≡ 32) × (left ≡ drop i text))

ends_by : (b : ℕ) (text : List ℕ) (blank : Bool) → (b == 32) ≡ blank → Ends text (behind_word text)
    → Ends (b ∷ text) (cond blank (b ∷ text) (behind_word text))
ends_by b text true is later = inr (0, omega arith, eqb-true b 32 is, refl)
ends_by b text false is (inl none) = inl none
ends_by b text false is (inr at) = inr (suc at.0, omega (arith, at.1), at.2, at.3)

word_ends : (text : List ℕ) → Ends text (behind_word text)
word_ends [] = inl refl
word_ends (b ∷ text) = ends_by b text (b == 32) refl (word_ends text)

-- what stands behind a word is a text
pub text_left : (max : ℕ) (text : List ℕ) → is_text max text ≡ true → is_text max (behind_word text) ≡ true
text_left max text is =
    elim (word_ends text) [
      | inl none ↦ rw none (is_text-from_IsText max [] (record { utf8 = IsUtf8-nil; shown = search rules }) (omega arith))
      | inr at ↦
          let ascii : get_or text at.0 0 < 128 = rw at.2 (omega arith) in
          rw at.3 (text_from max text at.0 is (IsCharBoundary-before_ascii text at.0 at.1 ascii))
    ]

-- and behind the blank too
pub text_behind : (max : ℕ) (left text : List ℕ) → is_text max left ≡ true → left ≡ codes " " ++ text → is_text max text ≡ true
text_behind max left text is at =
    let here : is_text max (32 ∷ text) ≡ true = subst (λ (bytes : List ℕ). is_text max bytes ≡ true) at is in
    let ascii : get_or (32 ∷ text) 0 0 < 128 = omega arith in
    text_from max (32 ∷ text) 1 here
    (IsCharBoundary-after_ascii (32 ∷ text) 0 (IsText-from_is_text max (32 ∷ text) here).utf8 (omega arith) ascii)

-- the part of a text from its first blank on
pub left_at : (text : List ℕ) (i : ℕ) → i < length text → ((k : ℕ) → k < i → get_or text k 0 ≡ 32 → ⊥) → get_or text i 0 ≡ 32
    → take (length text - i) (drop i text) ≡ behind_word text
left_at text i lt none is =
    let short : length (drop i text) ≤ length text - i = rw length-drop (omega arith) in
    take_all (length text - i) (drop i text) short ∙ drop-cons text i 0 lt ∙ ap (λ (b : ℕ). b ∷ drop (suc i) text) is
    ∙ sym (front_at text i lt none is).1

-- ---- `kick` and `say`

-- there is no blank
no_blank : (left : List ℕ) → ((text : List ℕ) → left ≢ codes " " ++ text) → (left ≡ []) ⊎ ((b : ℕ) × (text : List ℕ) × (left ≡ b ∷ text)
    × ((b == 32) ≡ false))
no_blank [] none = inl refl
no_blank (b ∷ text) none = inr (b, text, refl, ne_eqb b 32 (λ e. none text (ap (λ (x : ℕ). x ∷ text) e)))

pub no_rest : (left : List ℕ) → ((text : List ℕ) → left ≢ codes " " ++ text) → rest_at left ≡ None
unfolding rest_at
no_rest left none =
    elim (no_blank left none) [ inl is ↦ rw is refl | inr at ↦ rw at.2 (rw at.3 refl) ]

pub no_word : (left : List ℕ) → ((text : List ℕ) → left ≢ codes " " ++ text) → number_at 0 4294967295 left ≡ None
unfolding word_at number_at
no_word left none =
    elim (no_blank left none) [ inl is ↦ rw is refl | inr at ↦ rw at.2 (rw at.3 refl) ]

pub rest_here : (left text : List ℕ) → left ≡ codes " " ++ text → rest_at left ≡ Some text
unfolding rest_at
rest_here left text is = rw is refl

pub said_some : (bytes : List ℕ) → (length bytes == 0) ≡ false → said bytes ≡ announces bytes
said_some [] is = cc
said_some (b ∷ bytes) is = refl

pub said_none : (bytes : List ℕ) → (length bytes == 0) ≡ true → said bytes ≡ said []
said_none [] is = refl
said_none (b ∷ bytes) is = let none : suc (length bytes) ≡ 0 = eqb-true (suc (length bytes)) 0 is in absurd (omega (arith, none))

pub number_here : (left text : List ℕ) (n : ℕ) → left ≡ codes " " ++ text → Some n ≡ number_in (front_word text) → n < 2 ^ 32
    → number_at 0 4294967295 left ≡ Some (n, behind_word text)
unfolding word_at number_at
number_here left text n is read small =
    let fits : n ≤ 4294967295 = omega arith in
    rw is (rw (← read) (rw (within_found 0 4294967295 n (omega arith) fits) refl))

pub no_number : (left text : List ℕ) → left ≡ codes " " ++ text → None ≡ number_in (front_word text) → number_at 0 4294967295 left ≡ None
unfolding word_at number_at
no_number left text is read = rw is (rw (← read) refl)
