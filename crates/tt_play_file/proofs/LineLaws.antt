-- A line of the player's file is read from its text, and what is read is a line with that text.
use Rattle.std.proofs.Common.{◌≡◌, ℕ, List, [], ◌∷◌, ◌++◌, Bool, true, false, cond, Option, Some, None, refl, sym, ap, subst, ◌∙◌}
use Rattle.std.specs.Prelude.{codes}
use Rattle.std.specs.Str.{bytes_eq}
use Rattle.std.specs.Fmt.{decimal}
use Rattle.std.proofs.lemmas.Slice.Eq.{bytes_eq-Decides}
use Rattle.tt_lines.specs.Lines.{HasNo}
use Rattle.tt_lines.proofs.Breaks.{has_no-test}
use Rattle.tt_log.specs.Forms.{Word, word, Fits, key, behind_blanks}
use Rattle.tt_log.specs.Lines.{any}
use Rattle.tt_log.specs.Orders.{order_words}
use Rattle.tt_log.specs.Rows.{◌>>=◌, ◌▸◌, word_at, number_at, row_at, pick, ended_at}
use Rattle.tt_log.specs.Reading.{orders}
use Rattle.tt_log.specs.Steps.{step_text, IsStep}
use Rattle.tt_log.specs.declared.script.line.Line1.{Line1}
use Rattle.tt_log.specs.declared.script.line.Line1.TheVariants.{Do as DoLine}
use Rattle.tt_log.specs.declared.script.step.Step.{Step}
use Rattle.tt_log.specs.declared.script.step.Step.TheVariants.{Set, Saved, Line}
use Rattle.tt_log.proofs.FormLaws.{IsLeft, word_found, word_parts, bind_some, value_found, value_back, ended_back, has_no-behind}
use Rattle.tt_log.proofs.FormLaws.{sound, pick_sound, go}
use Rattle.tt_log.proofs.TableLaws.{IsRead, orders_read, known, read_found}
use Rattle.tt_world.specs.declared.command.Command.{Command}
use Rattle.tt_play_file.specs.File.{act_words, line_text, IsLine}
use Rattle.tt_play_file.specs.Reading.{timed, timed_line, act_at, behind_at, line_at}
use Rattle.tt_play_file.specs.declared.line.Act.{Act}
use Rattle.tt_play_file.specs.declared.line.Act.TheVariants.{Print, Quit, Do}
use Rattle.tt_play_file.specs.declared.line.TimedLine.{TimedLine}

-- ---- what is read is a line

-- a test that is followed by nothing where it fails held
then_some : {A : Type 0} (b : Bool) (o : Option A) (y : A) → cond b o None ≡ Some y → (b ≡ true) × (o ≡ Some y)
then_some true o y e = (refl, e)
then_some false o y e = absurd cc

-- what stands behind `at` in a line
abbrev behind : TimedLine → List ℕ
behind line = behind_blanks (word any line.at ∷ act_words line.act)

tail : (a b : ℕ) (xs ys : List ℕ) → a ∷ xs ≡ b ∷ ys → xs ≡ ys
tail a b xs ys e = cc

timed_back_line : (l : Line1) (line : TimedLine) (rest : List ℕ) → timed_line l ≡ Some line → IsStep (Line l)
    → 32 ∷ codes "do" ++ rest ≡ 32 ∷ step_text (Line l) → IsLine line × (rest ≡ behind line)
timed_back_line (DoLine at command) line rest e is same =
    let made : TimedLine = record { at = at; act = Do command } in
    let known_line : made ≡ line = cc in
    let tails : rest ≡ behind made = tail _ _ _ _ (tail _ _ _ _ (tail _ _ _ _ same)) in
    let both : IsLine made × (rest ≡ behind made) = (is, tails) in
    subst (λ (v : TimedLine). IsLine v × (rest ≡ behind v)) known_line both
timed_back_line other line rest e is same = absurd cc

timed_back : (step : Step) (line : TimedLine) (rest : List ℕ) → timed step ≡ Some line → IsStep step
    → 32 ∷ codes "do" ++ rest ≡ 32 ∷ step_text step → IsLine line × (rest ≡ behind line)
timed_back (Line l) line rest e is same = timed_back_line l line rest e is same
timed_back (Set setting) line rest e is same = absurd cc
timed_back (Saved map) line rest e is same = absurd cc

plain_back : (made line : TimedLine) (w v left : List ℕ) → made ≡ line → left ≡ [] → w ≡ v → IsLine made
    → 32 ∷ decimal made.at ++ (32 ∷ v ++ []) ≡ behind made
    → IsLine line × (32 ∷ decimal made.at ++ (32 ∷ w ++ left) ≡ behind line)
plain_back made line w v left same none word_is is spelled_so = (
  subst IsLine same is,
  ap (λ (t : List ℕ). 32 ∷ decimal made.at ++ (32 ∷ w ++ t)) none ∙ ap (λ (t : List ℕ). 32 ∷ decimal made.at ++ (32 ∷ t ++ [])) word_is
      ∙ spelled_so ∙ ap behind same,
)

act_by : (at : ℕ) (w left : List ℕ) (line : TimedLine) (t u : Bool) → bytes_eq w (codes "print") ≡ t → bytes_eq w (codes "quit") ≡ u
    → Fits any at → HasNo 10 left
    → cond t (ended_at (record { at = at; act = Print }) left) (cond u (ended_at (record { at = at; act = Quit }) left)
    (row_at (pick (orders at) w) left >>= λ step. timed step)) ≡ Some line
    → IsLine line × (32 ∷ decimal at ++ (32 ∷ w ++ left) ≡ behind line)
act_by at w left line true u p q fits one e =
    let made : TimedLine = record { at = at; act = Print } in
    let back = ended_back made line left e in
    plain_back made line w (codes "print") left back.0 back.1 ((bytes_eq-Decides w (codes "print")).0 p) ((tt, (fits, (tt, tt))), tt) refl
act_by at w left line false true p q fits one e =
    let made : TimedLine = record { at = at; act = Quit } in
    let back = ended_back made line left e in
    plain_back made line w (codes "quit") left back.0 back.1 ((bytes_eq-Decides w (codes "quit")).0 q) ((tt, (fits, (tt, tt))), tt) refl
act_by at w left line false false p q fits one e =
    let read = bind_some (row_at (pick (orders at) w) left) (λ step. timed step) line e in
    let is = sound (pick (orders at) w) (λ step after. IsRead step (32 ∷ codes "do" ++ (32 ∷ decimal at ++ (32 ∷ w ++ after))))
    (pick_sound (orders at) (λ step after. IsRead step (32 ∷ codes "do" ++ (32 ∷ decimal at ++ after))) (orders_read at fits) w) left one
    read.0 read.1 in
    timed_back read.0 line (32 ∷ decimal at ++ (32 ∷ w ++ left)) read.2 is.0 is.1

pub line_back : (text : List ℕ) (line : TimedLine) → HasNo 10 text → line_at text ≡ Some line → IsLine line × (text ≡ line_text line)
line_back text line one e =
    let w = bind_some (word_at (32 ∷ text)) _ line e in
    let is_at = then_some (bytes_eq w.0.0 (codes "at")) (behind_at w.0.1) line w.2 in
    let at_is : w.0.0 ≡ codes "at" = (bytes_eq-Decides w.0.0 (codes "at")).0 is_at.0 in
    let first = word_parts (32 ∷ text) w.0.0 w.0.1 w.1 in
    let n = bind_some (number_at 0 4294967295 w.0.1) _ line is_at.1 in
    let number = value_back any w.0.1 n.0.0 n.0.1 n.1 in
    let v = bind_some (word_at n.0.1) _ line n.2 in
    let second = word_parts n.0.1 v.0.0 v.0.1 v.1 in
    let text_is : text ≡ w.0.0 ++ w.0.1 = tail _ _ _ _ first.2 in
    let rest_is : w.0.1 ≡ 32 ∷ decimal n.0.0 ++ (32 ∷ v.0.0 ++ v.0.1) =
    number.2 ∙ ap (λ (t : List ℕ). 32 ∷ decimal n.0.0 ++ t) second.2 in
    let one_rest : HasNo 10 w.0.1 = has_no-behind 10 w.0.0 w.0.1 (subst (HasNo 10) text_is one) in
    let one_after : HasNo 10 (32 ∷ v.0.0 ++ v.0.1) = has_no-behind 10 (32 ∷ decimal n.0.0) (32 ∷ v.0.0 ++ v.0.1)
    (subst (HasNo 10) rest_is one_rest) in
    let one_left : HasNo 10 v.0.1 = has_no-behind 10 (32 ∷ v.0.0) v.0.1 one_after in
    let act = act_by n.0.0 v.0.0 v.0.1 line (bytes_eq v.0.0 (codes "print")) (bytes_eq v.0.0 (codes "quit")) refl refl number.0 one_left
    v.2 in (
      act.0,
      text_is ∙ ap (λ (t : List ℕ). t ++ w.0.1) at_is ∙ ap (λ (t : List ℕ). codes "at" ++ t) (rest_is ∙ act.1),
    )

-- ---- a line is read from its text

left_of : (words : List Word) → IsLeft (behind_blanks words)
left_of [] = tt
left_of (w ∷ words) = refl

not_print : (at : ℕ) (w left : List ℕ) (step : Step) → w ≡ codes "print" → row_at (pick (orders at) w) left ≡ Some step → ⊥
not_print at w left step is e =
    let none : None ≡ Some step = subst (λ (v : List ℕ). row_at (pick (orders at) v) left ≡ Some step) is e in cc

not_quit : (at : ℕ) (w left : List ℕ) (step : Step) → w ≡ codes "quit" → row_at (pick (orders at) w) left ≡ Some step → ⊥
not_quit at w left step is e =
    let none : None ≡ Some step = subst (λ (v : List ℕ). row_at (pick (orders at) v) left ≡ Some step) is e in cc

order_by : (at : ℕ) (w left : List ℕ) (step : Step) (t u : Bool) → bytes_eq w (codes "print") ≡ t → bytes_eq w (codes "quit") ≡ u
    → row_at (pick (orders at) w) left ≡ Some step
    → cond t (ended_at (record { at = at; act = Print }) left) (cond u (ended_at (record { at = at; act = Quit }) left)
    (row_at (pick (orders at) w) left >>= λ step. timed step)) ≡ timed step
order_by at w left step true u p q e = absurd (not_print at w left step ((bytes_eq-Decides w (codes "print")).0 p) e)
order_by at w left step false true p q e = absurd (not_quit at w left step ((bytes_eq-Decides w (codes "quit")).0 q) e)
order_by at w left step false false p q e = ap (λ (o : Option Step). o >>= λ step. timed step) e

order_found : (at : ℕ) (command : Command) → IsStep (Line (DoLine at command))
    → (word_at (behind_blanks (order_words command)) >>= λ w. act_at at w.0 w.1) ≡ Some (record { at = at; act = Do command })
order_found at command is =
    let step : Step = Line (DoLine at command) in
    let left = behind_blanks (order_words command) in
    let fits : Fits any at = is.0.1.0 in
    let by_table = known (codes "do") (32 ∷ decimal at ++ left) refl refl
    ∙ go any (λ c. key ▸ λ v. pick (orders c) v) at left fits (left_of (order_words command)) in
    let got : row_at (key ▸ λ v. pick (orders at) v) left ≡ Some step = sym by_table ∙ read_found step is in
    let read = bind_some (word_at left) (λ x. row_at (pick (orders at) x.0) x.1) step got in
    ap (λ (o : Option (List ℕ × List ℕ)). o >>= λ w. act_at at w.0 w.1) read.1
    ∙ order_by at read.0.0 read.0.1 step (bytes_eq read.0.0 (codes "print")) (bytes_eq read.0.0 (codes "quit")) refl refl read.2

act_found : (at : ℕ) (act : Act) → (let line : TimedLine = record { at = at; act = act } in IsLine line)
    → (word_at (behind_blanks (act_words act)) >>= λ w. act_at at w.0 w.1) ≡ Some (record { at = at; act = act })
act_found at Print is = ap (λ (o : Option (List ℕ × List ℕ)). o >>= λ w. act_at at w.0 w.1)
    (word_found (codes "print") [] (has_no-test 32 (codes "print") refl) tt)
act_found at Quit is = ap (λ (o : Option (List ℕ × List ℕ)). o >>= λ w. act_at at w.0 w.1)
    (word_found (codes "quit") [] (has_no-test 32 (codes "quit") refl) tt)
act_found at (Do command) is = order_found at command is

pub line_found : (line : TimedLine) → IsLine line → line_at (line_text line) ≡ Some line
line_found line is =
    let left = behind_blanks (act_words line.act) in
    ap (λ (o : Option (List ℕ × List ℕ)). o >>= λ w. cond (bytes_eq w.0 (codes "at")) (behind_at w.1) None)
    (word_found (codes "at") (32 ∷ decimal line.at ++ left) (has_no-test 32 (codes "at") refl) refl)
    ∙ ap (λ (o : Option (ℕ × List ℕ)). o >>= λ n. word_at n.1 >>= λ w. act_at n.0 w.0 w.1)
    (value_found any line.at left is.0.1.0 (left_of (act_words line.act)))
    ∙ act_found line.at line.act is
