-- What a script expects, step by step.
use Rattle.std.proofs.Common.{◌≡◌, ◌≢◌, ℕ, ◌+◌, ◌-◌, Bool, true, false, List, [], ◌∷◌, ◌++◌, length, take, map, Option, None, Some, refl}
use Rattle.std.proofs.Common.{sym, ap, subst, ◌∙◌, append_assoc, arith}
use Rattle.std.specs.Prelude.{IfNone, IfSome}
use Rattle.std.proofs.lemmas.List.{append-nil, append_cancel_left, length-append}
use Rattle.std.proofs.lemmas.Grind.{flat_map-append}
use Rattle.std.proofs.Math.Seq.{take-append_seam, take-append-add}
use Rattle.tt_lines.specs.Lines.{lines_of, with_front, more_lines, IsFirstBad}
use Rattle.tt_log.specs.Steps.{step_text}
use Rattle.tt_log.specs.Contents.{Contents}
use Rattle.tt_log.specs.Script.{Spells, IsScriptText, line_in, lines_in}
use Rattle.tt_log.specs.Standing.{Standing}
use Rattle.tt_log.specs.Reader.{IsAt}
use Rattle.tt_log.specs.declared.script.step.Step.{Step}
use Rattle.tt_log.specs.declared.script.step.Step.TheVariants.{Set, Saved, Line}
use Rattle.tt_log.proofs.ScriptLaws.{goes_on, first_of_script}
use Rattle.tt_replay.specs.Expected.{expected_by, expected_in, expected_lines, DifferAt, IsDifference}

-- ---- what steps expect

-- what the lines of some steps expect
abbrev pub expected_of : List Step → List (List ℕ)
expected_of steps = expected_lines (lines_in steps)

of_line : (step : Step) → expected_lines (line_in step) ≡ expected_in step
of_line (Set setting) = refl
of_line (Saved map) = refl
of_line (Line line) = append-nil (expected_by line)

of_more : (steps more : List Step) → expected_of (steps ++ more) ≡ expected_of steps ++ expected_of more
of_more steps more = ap expected_lines (flat_map-append line_in steps more) ∙ flat_map-append expected_by (lines_in steps) (lines_in more)

of_one : (step : Step) → expected_of (step ∷ []) ≡ expected_in step
of_one step = ap expected_lines (append-nil (line_in step)) ∙ of_line step

of_snoc : (steps : List Step) (step : Step) → expected_of (steps ++ step ∷ []) ≡ expected_of steps ++ expected_in step
of_snoc steps step = of_more steps (step ∷ []) ∙ ap (λ (t : List (List ℕ)). expected_of steps ++ t) (of_one step)

-- one line more was compared
pub compared : (steps : List Step) (step : Step) (told rest left : List (List ℕ)) → told ≡ expected_of steps ++ rest
    → rest ≡ expected_in step ++ left → told ≡ expected_of (steps ++ step ∷ []) ++ left
compared steps step told rest left so_far next =
    so_far ∙ ap (λ (t : List (List ℕ)). expected_of steps ++ t) next ∙ sym (append_assoc (expected_of steps) (expected_in step) left)
    ∙ ap (λ (t : List (List ℕ)). t ++ left) (sym (of_snoc steps step))

pub place_behind : (steps : List Step) (step : Step) (place more next : ℕ) → place ≡ length (expected_of steps) + 1
    → more ≡ length (expected_in step) → next ≡ place + more → next ≡ length (expected_of (steps ++ step ∷ [])) + 1
place_behind steps step place more next here count is =
    omega (arith, here, count, is, ap length (of_snoc steps step), length-append (expected_of steps) (expected_in step))

-- ---- where two lists differ

first_apart : (line : List ℕ) (rest : List (List ℕ)) → ((more : List (List ℕ)) → rest ≢ line ∷ more) → take 1 rest ≡ line ∷ [] → ⊥
first_apart line [] never e = absurd cc
first_apart line (other ∷ rest) never e = let same : other ≡ line = cc in never rest (ap (λ (t : List ℕ). t ∷ rest) same)

first_none : (rest : List (List ℕ)) → rest ≢ [] → take 1 rest ≡ [] → ⊥
first_none [] some e = some refl
first_none (line ∷ rest) some e = absurd cc

-- the lists are the same so far, and then differ
apart : (front rest more told expected : List (List ℕ)) (place : ℕ) → told ≡ front ++ rest → expected ≡ front ++ more
    → place ≡ length front + 1 → (take 1 rest ≡ take 1 more → ⊥) → DifferAt place told expected
apart front rest more told expected place is also here never =
    let less : place - 1 ≡ length front = omega (arith, here) in
    let one : (xs ys : List (List ℕ)) → xs ≡ front ++ ys → take (place - 1) xs ≡ front =
    λ xs ys e. rw less (ap (take (length front)) e ∙ take-append_seam front ys) in
    let two : (xs ys : List (List ℕ)) → xs ≡ front ++ ys → take place xs ≡ front ++ take 1 ys =
    λ xs ys e. rw here (ap (take (length front + 1)) e ∙ take-append-add front ys 1) in
    record {
      some = omega (arith, here);
      before = one told rest is ∙ sym (one expected more also);
      differ = λ e. never (append_cancel_left front (take 1 rest) (take 1 more) (sym (two told rest is) ∙ e ∙ two expected more also));
    }

-- what a script expects begins with what its first steps do
begins : (script : Contents) (r : Standing) (bytes : List ℕ) (steps : List Step) → Spells script (lines_of bytes) → IsAt r bytes steps
    → (more : List Step) × (expected_lines script.lines ≡ expected_of steps ++ expected_of more)
begins script r bytes steps spells at =
    let on = goes_on steps spells.steps (lines_of r.rest) at.is.each spells.is.each (sym at.text ∙ spells.text) in
    (on.0, ap (λ (c : Contents). expected_lines c.lines) spells.makes ∙ ap expected_of on.1 ∙ of_more steps on.0)

-- the next line of the report is another
pub another : (script : Contents) (s : Standing) (bytes line : List ℕ) (steps : List Step) (step : Step) (told rest : List (List ℕ))
    (place : ℕ) → Spells script (lines_of bytes) → IsAt s bytes (steps ++ step ∷ [])
    → told ≡ expected_of steps ++ rest → place ≡ length (expected_of steps) + 1 → expected_in step ≡ line ∷ [] → ((more : List (List ℕ))
    → rest ≢ line ∷ more) → DifferAt place told (expected_lines script.lines)
another script s bytes line steps step told rest place spells at so_far here is never =
    let all = begins script s bytes (steps ++ step ∷ []) spells at in
    let tail = expected_of all.0 in
    let expected : expected_lines script.lines ≡ expected_of steps ++ line ∷ tail =
    all.1 ∙ ap (λ (t : List (List ℕ)). t ++ tail) (of_snoc steps step ∙ ap (λ (t : List (List ℕ)). expected_of steps ++ t) is)
    ∙ append_assoc (expected_of steps) (line ∷ []) tail in
    apart (expected_of steps) rest (line ∷ tail) told (expected_lines script.lines) place so_far expected here (λ e. first_apart line rest
    never e)

-- ---- where nothing of the script is left

front_some : (byte : ℕ) (lines : List (List ℕ)) → with_front byte lines ≡ [] → ⊥
front_some byte [] e = absurd cc
front_some byte (line ∷ lines) e = absurd cc

more_some : (is : Bool) (byte : ℕ) (lines : List (List ℕ)) → more_lines is byte lines ≡ [] → ⊥
more_some true byte lines e = absurd cc
more_some false byte lines e = front_some byte lines e

lines_some : (bytes : List ℕ) → bytes ≢ [] → lines_of bytes ≢ []
lines_some [] some e = some refl
lines_some (byte ∷ bytes) some e = more_some _ byte (lines_of bytes) e

at_end : (found : Option ℕ) (rest : List ℕ) (front told : List (List ℕ)) (place : ℕ) → told ≡ front ++ lines_of rest
    → place ≡ length front + 1 → IfNone found (rest ≡ []) → IfSome found (λ at. (at ≡ place) × (rest ≢ [])) → IsDifference found told front
at_end None rest front told place is here none some = is ∙ ap (λ (t : List ℕ). front ++ lines_of t) none ∙ append-nil front
at_end (Some at) rest front told place is here none some =
    let there : at ≡ length front + 1 = some.0 ∙ here in
    apart front (lines_of rest) [] told front at is (sym (append-nil front)) there (λ e. first_none (lines_of rest)
    (lines_some rest some.1) e)

no_steps : (steps : List Step) → map step_text steps ≡ [] → steps ≡ []
no_steps [] e = refl
no_steps (step ∷ steps) e = absurd cc

-- all was compared
pub ended : (script : Contents) (r : Standing) (bytes rest : List ℕ) (steps : List Step) (told : List (List ℕ)) (place : ℕ)
    (found : Option ℕ) → Spells script (lines_of bytes) → IsAt r bytes steps → r.rest ≡ []
    → told ≡ expected_of steps ++ lines_of rest → place ≡ length (expected_of steps) + 1 → IfNone found (rest ≡ [])
    → IfSome found (λ at. (at ≡ place) × (rest ≢ [])) → IsDifference found told (expected_lines script.lines)
ended script r bytes rest steps told place found spells at left so_far here none some =
    let on = goes_on steps spells.steps (lines_of r.rest) at.is.each spells.is.each (sym at.text ∙ spells.text) in
    let nothing : on.0 ≡ [] = no_steps on.0 (sym on.2 ∙ ap lines_of left) in
    let all : expected_lines script.lines ≡ expected_of steps =
    ap (λ (c : Contents). expected_lines c.lines) spells.makes ∙ ap expected_of (on.1 ∙ ap (λ (t : List Step). steps ++ t) nothing
    ∙ append-nil steps) in
    subst (λ (t : List (List ℕ)). IsDifference found told t) (sym all) (at_end found rest (expected_of steps) told place so_far here none
    some)

-- a script has no first bad line
pub never_bad : (texts : List (List ℕ)) (line : ℕ) → IsScriptText texts → IsFirstBad IsScriptText texts line → ⊥
never_bad texts line is first = first.bad (first_of_script is.0 texts line is.1)
