-- What the console announces is a text, as the line is in which it stands.
use Rattle.std.proofs.Common.{◌≡◌, ℕ, zero, suc, ◌≤◌, ◌<◌, true, List, [], ◌∷◌, ◌++◌, Option, Some, None, length, refl, ap, sym, subst}
use Rattle.std.proofs.Common.{arith, get_or}
use Rattle.std.specs.Prelude.{All, codes}
use Rattle.std.proofs.lemmas.List.Elements.{All-drop}
use Rattle.std.proofs.lemmas.Str.{IsUtf8-drop, IsCharBoundary-after_ascii}
use Rattle.tt_frame.specs.Text.{IsText, is_text}
use Rattle.tt_frame.proofs.TextLaws.{IsText-from_is_text, is_text-from_IsText, length_of_text}
use Rattle.tt_lines.specs.Lines.{HasNo}
use Rattle.tt_log.specs.Forms.{key}
use Rattle.tt_log.specs.Rows.{Row, ◌▸◌, pick, row_at}
use Rattle.tt_log.specs.Console.{ConsoleCommand, announces, command_in, console_lines, or_unknown, said}
use Rattle.tt_log.proofs.FormLaws.{Each, pick_sound, sound}

-- a line that announces something is `say`, a blank, and this
abbrev Says : ConsoleCommand → List ℕ → Type 0
Says command left = (text : List ℕ) → command ≡ announces text → left ≡ 32 ∷ codes "say" ++ 32 ∷ text

said-says : (bytes : List ℕ) → Says (said bytes) (32 ∷ codes "say" ++ 32 ∷ bytes)
said-says [] text is = absurd cc
said-says (b ∷ bs) text is = let same : b ∷ bs ≡ text = cc in ap (λ (t : List ℕ). 32 ∷ codes "say" ++ 32 ∷ t) same

each-says : Each console_lines Says
each-says = (
  λ text is. absurd cc,
  (
    λ text is. absurd cc,
    (
      λ client fits text is. absurd cc,
      (λ bytes none. said-says bytes, (λ text is. absurd cc, (λ text is. absurd cc, (λ text is. absurd cc, tt)))),
    ),
  ),
)

some-of : (x : Option ConsoleCommand) (text : List ℕ) → or_unknown x ≡ announces text → x ≡ Some (announces text)
some-of None text is = absurd cc
some-of (Some command) text is = cc

announced : (line text : List ℕ) → HasNo 10 (32 ∷ line) → command_in line ≡ announces text → 32 ∷ line ≡ 32 ∷ codes "say" ++ 32 ∷ text
announced line text none is =
    let r : Row ConsoleCommand = key ▸ λ word. pick console_lines word in
    sound r Says (λ word fits. pick_sound console_lines Says each-says word) (32 ∷ line) none (announces text)
    (some-of (row_at r (32 ∷ line)) text is) text refl

high-none : (line : List ℕ) → All (λ byte. 32 ≤ byte) line → HasNo 10 (32 ∷ line)
high-none line all i within is = by i within is
  where
    by : (i : ℕ) → i < length (32 ∷ line) → get_or (32 ∷ line) i 0 ≡ 10 → ⊥
    by zero within is = absurd cc
    by (suc i) within is = let h : 32 ≤ get_or line i 0 = all i 0 (omega (arith, within)) in omega (arith, h, is)

pub announced-fits : (line text : List ℕ) → is_text 899 line ≡ true → command_in line ≡ announces text → is_text 899 text ≡ true
announced-fits line text fits is =
    let whole : IsText line = IsText-from_is_text 899 line fits in
    let spelled : 32 ∷ line ≡ 32 ∷ codes "say" ++ 32 ∷ text = announced line text (high-none line whole.shown) is in
    let same : line ≡ codes "say" ++ 32 ∷ text = cc in
    subst (λ (l : List ℕ). IsText l → length l ≤ 899 → is_text 899 text ≡ true) (sym same) behind whole (length_of_text 899 line fits)
  where
    behind : IsText (codes "say" ++ 32 ∷ text) → length (codes "say" ++ 32 ∷ text) ≤ 899 → is_text 899 text ≡ true
    behind h l = is_text-from_IsText 899 text (record {
      utf8 = IsUtf8-drop (codes "say" ++ 32 ∷ text) 4 h.utf8 (IsCharBoundary-after_ascii (codes "say" ++ 32 ∷ text) 3 h.utf8
          (omega arith) (omega arith));
      shown = All-drop (λ byte. 32 ≤ byte) 4 (codes "say" ++ 32 ∷ text) h.shown;
    }) (omega (arith, l))
