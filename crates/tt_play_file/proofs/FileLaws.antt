-- The player's file, line by line.
use Rattle.std.proofs.Common.{◌≡◌, ℕ, zero, suc, ◌+◌, ◌-◌, ◌≤◌, List, [], ◌∷◌, ◌++◌, length, take, map, Some, refl, sym, ap, subst}
use Rattle.std.proofs.Common.{◌∙◌, append_assoc, arith}
use Rattle.std.specs.List.{AllByRecursion}
use Rattle.std.proofs.lemmas.List.{map-append, length-map, length-append, append-nil}
use Rattle.tt_lines.specs.Lines.{HasNo, lines_of, IsFirstBad}
use Rattle.tt_log.proofs.ScriptLaws.{all_snoc}
use Rattle.tt_play_file.specs.File.{IsLine, line_text, Rise, IsFile, IsFileText}
use Rattle.tt_play_file.specs.Reading.{line_at}
use Rattle.tt_play_file.specs.declared.line.TimedLine.{TimedLine}
use Rattle.tt_play_file.proofs.LineLaws.{line_back, line_found}

-- the frame of the last line
abbrev pub last_of : ℕ → List TimedLine → ℕ
last_of frame [] = frame
last_of frame (line ∷ lines) = last_of line.at lines

-- the first lines of the bytes were read, and the rest is left
pub record IsAt (bytes rest : List ℕ) (last count : ℕ) (lines : List TimedLine) : Type 0 where
  pub is : IsFile lines
  pub text : lines_of bytes ≡ map line_text lines ++ lines_of rest
  pub last_is : last ≡ last_of 0 lines
  pub count_is : count ≡ length lines

rise_more : (frame : ℕ) (lines : List TimedLine) (line : TimedLine) → Rise frame lines → last_of frame lines ≤ line.at
    → Rise frame (lines ++ line ∷ [])
rise_more frame [] line rise le = (le, tt)
rise_more frame (first ∷ lines) line rise le = (rise.0, rise_more first.at lines line rise.1 le)

rise_last : (frame : ℕ) (lines : List TimedLine) (line : TimedLine) → Rise frame (lines ++ line ∷ []) → last_of frame lines ≤ line.at
rise_last frame [] line rise = rise.0
rise_last frame (first ∷ lines) line rise = rise_last first.at lines line rise.1

last_more : (frame : ℕ) (lines : List TimedLine) (line : TimedLine) → last_of frame (lines ++ line ∷ []) ≡ line.at
last_more frame [] line = refl
last_more frame (first ∷ lines) line = last_more first.at lines line

pub at_first : (bytes : List ℕ) → IsAt bytes bytes 0 0 []
at_first bytes = record { is = (tt, tt); text = refl; last_is = refl; count_is = refl }

pub at_end : (bytes rest : List ℕ) (last count : ℕ) (lines : List TimedLine) → rest ≡ [] → IsAt bytes rest last count lines
    → lines_of bytes ≡ map line_text lines
at_end bytes rest last count lines none at =
    at.text ∙ ap (λ (t : List ℕ). map line_text lines ++ lines_of t) none ∙ append-nil (map line_text lines)

pub at_more : (bytes rest after text : List ℕ) (last count number : ℕ) (lines : List TimedLine) (line : TimedLine)
    → IsAt bytes rest last count lines → lines_of rest ≡ text ∷ lines_of after → HasNo 10 text → line_at text ≡ Some line
    → last ≤ line.at → number ≡ count + 1 → IsAt bytes after line.at number (lines ++ line ∷ [])
at_more bytes rest after text last count number lines line at cut one read le next =
    let back = line_back text line one read in
    let rise : last_of 0 lines ≤ line.at = omega (arith, le, at.last_is) in
    record {
      is = (all_snoc IsLine lines line at.is.0 back.0, rise_more 0 lines line at.is.1 rise);
      text = at.text ∙ ap (λ (t : List (List ℕ)). map line_text lines ++ t) (cut ∙ ap (λ (t : List ℕ). t ∷ lines_of after) back.1)
          ∙ sym (append_assoc (map line_text lines) (line_text line ∷ []) (lines_of after))
          ∙ ap (λ (t : List (List ℕ)). t ++ lines_of after) (sym (map-append line_text lines (line ∷ [])));
      last_is = sym (last_more 0 lines line);
      count_is = omega (arith, next, at.count_is, length-append lines (line ∷ []));
    }

-- ---- the first bad line

take_front : {A : Type 0} (xs ys : List A) (n : ℕ) → n ≡ length xs → take n (xs ++ ys) ≡ xs
take_front [] [] zero is = refl
take_front [] (y ∷ ys) zero is = refl
take_front [] ys (suc n) is = absurd (omega (arith, is))
take_front (x ∷ xs) ys zero is = absurd (omega (arith, is))
take_front (x ∷ xs) ys (suc n) is = ap (λ t. x ∷ t) (take_front xs ys n (omega (arith, is)))

take_next : {A : Type 0} (xs ys : List A) (y : A) (n : ℕ) → n ≡ length xs → take (suc n) (xs ++ y ∷ ys) ≡ xs ++ y ∷ []
take_next [] [] y zero is = refl
take_next [] (z ∷ ys) y zero is = refl
take_next [] ys y (suc n) is = absurd (omega (arith, is))
take_next (x ∷ xs) ys y zero is = absurd (omega (arith, is))
take_next (x ∷ xs) ys y (suc n) is = ap (λ t. x ∷ t) (take_next xs ys y n (omega (arith, is)))

line_same : (a b : TimedLine) → IsLine a → IsLine b → line_text a ≡ line_text b → a ≡ b
line_same a b fits other e = let same : Some a ≡ Some b = sym (line_found a fits) ∙ ap line_at e ∙ line_found b other in cc

heads : (a b : List ℕ) (xs ys : List (List ℕ)) → a ∷ xs ≡ b ∷ ys → (a ≡ b) × (xs ≡ ys)
heads a b xs ys e = (cc, cc)

-- a file whose texts are those of these lines and one text more has one line more
one_more : (lines others : List TimedLine) (text : List ℕ) → AllByRecursion IsLine lines → AllByRecursion IsLine others
    → map line_text lines ++ text ∷ [] ≡ map line_text others
    → (line : TimedLine) × (others ≡ lines ++ line ∷ []) × IsLine line × (text ≡ line_text line)
one_more [] [] text each fits e = absurd cc
one_more [] (other ∷ []) text each fits e = (other, refl, fits.0, cc)
one_more [] (other ∷ next ∷ others) text each fits e = absurd cc
one_more (line ∷ lines) [] text each fits e = absurd cc
one_more (line ∷ lines) (other ∷ others) text each fits e =
    let parts = heads (line_text line) (line_text other) (map line_text lines ++ text ∷ []) (map line_text others) e in
    let same : line ≡ other = line_same line other each.0 fits.0 parts.0 in
    let rec = one_more lines others text each.1 fits.1 parts.1 in
    (rec.0, ap (λ (x : TimedLine). x ∷ others) (sym same) ∙ ap (λ (t : List TimedLine). line ∷ t) rec.1, rec.2, rec.3)

pub first_bad : (bytes rest text : List ℕ) (more : List (List ℕ)) (last count l : ℕ) (lines : List TimedLine)
    → IsAt bytes rest last count lines → lines_of rest ≡ text ∷ more
    → ((line : TimedLine) → line_at text ≡ Some line → last ≤ line.at → ⊥) → l ≡ count + 1 → IsFirstBad IsFileText (lines_of bytes) l
first_bad bytes rest text more last count l lines at cut misfits is =
    let texts : lines_of bytes ≡ map line_text lines ++ text ∷ more = at.text ∙ ap (λ (t : List (List ℕ)). map line_text lines ++ t) cut in
    let long : count ≡ length (map line_text lines) = at.count_is ∙ sym (length-map lines line_text) in
    let before : l - 1 ≡ count = omega (arith, is) in
    let next : l ≡ suc count = omega (arith, is) in
    let fewer : take (l - 1) (lines_of bytes) ≡ map line_text lines =
    rw before (ap (take count) texts ∙ take_front (map line_text lines) (text ∷ more) count long) in
    let through : take l (lines_of bytes) ≡ map line_text lines ++ text ∷ [] =
    rw next (ap (take (suc count)) texts ∙ take_next (map line_text lines) more text count long) in
    record {
      some = omega (arith, is);
      within = omega (arith, is, long, ap length texts, length-append (map line_text lines) (text ∷ more));
      before = (lines, at.is, fewer);
      bad = λ spelled.
          let found = one_more lines spelled.0 text at.is.0 spelled.1.0 (sym through ∙ spelled.2) in
          let rise : last_of 0 lines ≤ found.0.at = rise_last 0 lines found.0 (subst (Rise 0) found.1 spelled.1.1) in
          misfits found.0 (ap line_at found.3 ∙ line_found found.0 found.2) (omega (arith, rise, at.last_is));
    }
