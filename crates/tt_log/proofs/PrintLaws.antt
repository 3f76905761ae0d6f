-- The text of a script spells it, and what the bytes spell can be printed.
use Rattle.std.proofs.Common.{◌≡◌, Result, Ok, Err, ℕ, suc, ◌<◌, ◌≤◌, List, [], ◌∷◌, ◌++◌, length, take, map, Bool, true, false, not, cond}
use Rattle.std.proofs.Common.{◌⊎◌, inl, inr, refl, sym, ap, ap₂, subst, ◌∙◌, append_assoc, arith}
use Rattle.std.specs.Prelude.{◌==◌, sum_by, fold, filter, IfOk}
use Rattle.std.specs.List.{AllByRecursion, flat_map, list_all}
use Rattle.std.proofs.lemmas.Bool.{eqb-true}
use Rattle.std.proofs.lemmas.Str.{IsUtf8-nil}
use Rattle.std.proofs.lemmas.List.{append-nil}
use Rattle.std.proofs.lemmas.List.Sums.{sum_by-append, sum_by-cons, fold-append}
use Rattle.std.proofs.lemmas.Grind.{flat_map-append}
use Rattle.tt_frame.proofs.TextLaws.{is_text-from_IsText, length_of_text}
use Rattle.tt_lines.specs.Lines.{HasNo, lines_of}
use Rattle.tt_log.specs.declared.script.bad.ScriptBad.{ScriptBad}
use Rattle.tt_log.specs.Forms.{number, text, hex, saved, key, IsTextFrom, Fits, Word, named, word, rest, word_text, WordFits, behind_blanks}
use Rattle.tt_log.specs.Forms.{parted}
use Rattle.tt_log.specs.Settings.{setting_words, place_of, with_setting, settings_of, is_plain}
use Rattle.tt_log.specs.Orders.{words_by}
use Rattle.tt_log.specs.Lines.{line_words, IsLine, openings_of}
use Rattle.tt_log.specs.Steps.{step_words, step_text, IsStep, opens, step_place, Precedes}
use Rattle.tt_log.specs.Contents.{Contents}
use Rattle.tt_log.specs.Script.{InOrder, IsSteps, setup_with, setup_of, map_in_step, saved_in, line_in, lines_in, contents_of, Spells}
use Rattle.tt_log.specs.Printing.{IsSetting, IsTold, IsScript, told_settings, told_map, told_steps, step_line, script_text}
use Rattle.tt_log.specs.Written.{setting_text, map_text, line_text}
use Rattle.tt_lines.proofs.Breaks.{has_no-cons, has_no-append, has_no-test}
use Rattle.tt_lines.specs.Lines.{HasNo}
use Rattle.tt_lines.proofs.HexDigits.{lower_one}
use Rattle.tt_log.proofs.ScriptLaws.{small_place}
use Rattle.tt_log.proofs.FormLaws.{text_one, number_one}
use Rattle.tt_lines.proofs.LineLaws.{lines-within}
use Rattle.tt_log.specs.declared.script.line.Line1.{Line1}
use Rattle.tt_log.specs.declared.script.line.Line1.TheVariants.{Open, Side, Bytes, Shut, Tick, Stop, Join, Up, Down, Run, Pump, Do, Forge}
use Rattle.tt_log.specs.declared.script.line.Line1.TheVariants.{Expect}
use Rattle.tt_log.specs.declared.script.setting.Setting.{Setting}
use Rattle.tt_log.specs.declared.script.setting.Setting.TheVariants.{Seed, FrameFreq, SyncFreq, Clients, Init, PassLimit, Download}
use Rattle.tt_log.specs.declared.script.setting.Setting.TheVariants.{Join as JoinLimit, Lag, Cost, Pw, Admin}
use Rattle.tt_log.specs.declared.script.step.Step.{Step}
use Rattle.tt_log.specs.declared.script.step.Step.TheVariants.{Set, Saved, Line}
use Rattle.tt_world.specs.Setup.{plain, Fits as FitsSetup}
use Rattle.tt_world.specs.declared.setup.Setup.{Setup}
use Rattle.tt_world.specs.declared.command.Code.{Code}
use Rattle.tt_world.specs.declared.command.Code.TheVariants.{IncreaseLoan, DecreaseLoan, Give, PlaceSign, RenameSign, RenameCompany}
use Rattle.tt_world.specs.declared.command.Code.TheVariants.{RenamePresident, Pause, NewCompany}
use Rattle.tt_log.proofs.PrintLists.{all_append, all_map, all_filter}

-- ---- the text

abbrev differs : Setting → Bool
differs setting = not (is_plain setting)

told_by : (x : Setting) (xs : List Setting) (t : Bool) → flat_map setting_text xs ≡ flat_map step_line (map Set (filter differs xs))
    → cond t [] (step_line (Set x)) ++ flat_map setting_text xs ≡ flat_map step_line (map Set (cond (not t) (x ∷ filter differs xs)
    (filter differs xs)))
told_by x xs true rec = rec
told_by x xs false rec = ap (λ (u : List ℕ). step_line (Set x) ++ u) rec

told_is : (xs : List Setting) → flat_map setting_text xs ≡ flat_map step_line (map Set (filter differs xs))
told_is [] = refl
told_is (x ∷ xs) = told_by x xs (is_plain x) (told_is xs)

lines_are : (lines : List Line1) → flat_map line_text lines ≡ flat_map step_line (map Line lines)
lines_are [] = refl
lines_are (line ∷ lines) = ap (λ (u : List ℕ). line_text line ++ u) (lines_are lines)

-- what was written is the text of the script
pub text_is : (s : Setup) (m : List ℕ) (lines : List Line1) → flat_map setting_text (settings_of s) ++ map_text m
    ++ flat_map line_text lines ≡ script_text (record { setup = s; saved = m; lines = lines })
text_is s m lines =
    let sets = map Set (told_settings s) in
    ap₂ (λ (a b : List ℕ). a ++ map_text m ++ b) (told_is (settings_of s)) (lines_are lines)
    ∙ ap (λ (a : List ℕ). a ++ flat_map step_line (map Line lines)) (sym (flat_map-append step_line sets (told_map m)))
    ∙ sym (flat_map-append step_line (sets ++ told_map m) (map Line lines))

-- ---- no line feed within a line

-- what is left to say of a word besides its value
abbrev pub IsOne : Word → Type 0
IsOne (named w) = list_all (λ b. not (b == 10)) w ≡ true
IsOne (word (number least most) n) = Unit {0}
IsOne (word (text least most) content) = Unit {0}
IsOne (word hex piece) = Unit {0}
IsOne (word saved map) = Unit {0}
IsOne (word key w) = HasNo 10 w
IsOne (rest content) = Unit {0}

pub word_one : (w : Word) → WordFits w → IsOne w → HasNo 10 (word_text w)
word_one (named w) fits one = has_no-test 10 w one
word_one (word (number least most) n) fits one = number_one 10 least most n (omega arith) fits
word_one (word (text least most) content) fits one = text_one 10 content least most (omega arith) fits
word_one (word hex piece) fits one = lower_one 10 piece (omega arith) fits.bytes
word_one (word saved map) fits one = lower_one 10 map (omega arith) fits.0.bytes
word_one (word key w) fits one = one
word_one (rest content) fits one = fits

pub behind_one : (ws : List Word) → AllByRecursion WordFits ws → AllByRecursion IsOne ws → HasNo 10 (behind_blanks ws)
behind_one [] fits one = λ i lt. absurd (omega (arith, lt))
behind_one (w ∷ ws) fits one =
    has_no-cons 10 32 (word_text w ++ behind_blanks ws) (λ is. omega (arith, is))
    (has_no-append 10 (word_text w) (behind_blanks ws) (word_one w fits.0 one.0) (behind_one ws fits.1 one.1))

pub parted_one : (ws : List Word) → AllByRecursion WordFits ws → AllByRecursion IsOne ws → HasNo 10 (parted ws)
parted_one [] fits one = λ i lt. absurd (omega (arith, lt))
parted_one (w ∷ ws) fits one = has_no-append 10 (word_text w) (behind_blanks ws) (word_one w fits.0 one.0) (behind_one ws fits.1 one.1)

setting_one : (setting : Setting) → AllByRecursion IsOne (setting_words setting)
setting_one (Seed x) = (refl, (tt, tt))
setting_one (FrameFreq x) = (refl, (tt, tt))
setting_one (SyncFreq x) = (refl, (tt, tt))
setting_one (Clients x) = (refl, (tt, tt))
setting_one (Init x) = (refl, (tt, tt))
setting_one (PassLimit x) = (refl, (tt, tt))
setting_one (Download x) = (refl, (tt, tt))
setting_one (JoinLimit x) = (refl, (tt, tt))
setting_one (Lag x) = (refl, (tt, tt))
setting_one (Cost x) = (refl, (tt, tt))
setting_one (Pw x) = (refl, (tt, tt))
setting_one (Admin x) = (refl, (tt, tt))

pub order_one : (code : Code) (n to : ℕ) (content : List ℕ) → AllByRecursion IsOne (words_by code n to content)
order_one IncreaseLoan n to content = (refl, (tt, tt))
order_one DecreaseLoan n to content = (refl, (tt, tt))
order_one Give n to content = (refl, (tt, (tt, tt)))
order_one PlaceSign n to content = (refl, (tt, (tt, tt)))
order_one RenameSign n to content = (refl, (tt, (tt, tt)))
order_one RenameCompany n to content = (refl, (tt, tt))
order_one RenamePresident n to content = (refl, (tt, tt))
order_one Pause n to content = tt
order_one NewCompany n to content = tt

pub line_one : (line : Line1) → AllByRecursion IsOne (line_words line)
line_one Open = (refl, tt)
line_one Side = (refl, tt)
line_one (Bytes conn piece) = (refl, (tt, (tt, tt)))
line_one (Shut conn) = (refl, (tt, tt))
line_one (Tick n) = (refl, (tt, tt))
line_one Stop = (refl, tt)
line_one (Join name company password other) = (refl, (tt, (tt, (tt, (tt, tt)))))
line_one (Up conn n) = (refl, (tt, (tt, tt)))
line_one (Down conn n) = (refl, (tt, (tt, tt)))
line_one (Run conn n) = (refl, (tt, (tt, tt)))
line_one (Pump conn) = (refl, (tt, tt))
line_one (Do conn command) = (refl, (tt, order_one command.code command.number command.to command.text))
line_one (Forge conn piece) = (refl, (tt, (tt, tt)))
line_one (Expect content) = (refl, (tt, tt))

pub step_one : (step : Step) → IsStep step → HasNo 10 (step_text step)
step_one (Set setting) fits = parted_one (step_words (Set setting)) (tt, fits) (refl, setting_one setting)
step_one (Saved map) fits = parted_one (step_words (Saved map)) fits (refl, (refl, (tt, tt)))
step_one (Line line) fits = parted_one (line_words line) fits.0 (line_one line)

pub lines_written : (steps : List Step) → AllByRecursion IsStep steps → lines_of (flat_map step_line steps) ≡ map step_text steps
lines_written [] each = refl
lines_written (step ∷ steps) each =
    ap lines_of (append_assoc (step_text step) (10 ∷ []) (flat_map step_line steps))
    ∙ lines-within (step_text step) (flat_map step_line steps) (step_one step each.0)
    ∙ ap (λ (t : List (List ℕ)). step_text step ∷ t) (lines_written steps each.1)

-- ---- the order

-- settings of rising places, none below k
abbrev Up_from : ℕ → List Setting → Type 0
Up_from k [] = Unit {0}
Up_from k (x ∷ xs) = (k ≤ place_of x) × Up_from (suc (place_of x)) xs

up_less : (j k : ℕ) (xs : List Setting) → j ≤ k → Up_from k xs → Up_from j xs
up_less j k [] le up = tt
up_less j k (x ∷ xs) le up = (omega (arith, le, up.0), up.1)

up_by : (k : ℕ) (x : Setting) (xs : List Setting) (t : Bool) → k ≤ place_of x → Up_from (suc (place_of x)) xs
    → Up_from k (cond t (x ∷ xs) xs)
up_by k x xs true le up = (le, up)
up_by k x xs false le up = up_less k (suc (place_of x)) xs (omega (arith, le)) up

up_filter : (p : Setting → Bool) (k : ℕ) (xs : List Setting) → Up_from k xs → Up_from k (filter p xs)
up_filter p k [] up = tt
up_filter p k (x ∷ xs) up = up_by k x (filter p xs) (p x) up.0 (up_filter p (suc (place_of x)) xs up.1)

lines_free : (before : Step) (lines : List Line1) → AllByRecursion (Precedes before) (map Line lines)
lines_free before [] = tt
lines_free before (line ∷ lines) = (tt, lines_free before lines)

lines_order : (lines : List Line1) → InOrder (map Line lines)
lines_order [] = tt
lines_order (line ∷ lines) = (lines_free (Line line) lines, lines_order lines)

above : (before : Setting) (k : ℕ) (xs : List Setting) → place_of before < k → Up_from k xs
    → AllByRecursion (Precedes (Set before)) (map Set xs)
above before k [] lt up = tt
above before k (x ∷ xs) lt up = (omega (arith, lt, up.0), above before (suc (place_of x)) xs (omega (arith, lt, up.0)) up.1)

-- a map stands behind each setting
map_free : (before : Setting) (m : List ℕ) → AllByRecursion (Precedes (Set before)) (told_map m)
map_free before [] = tt
map_free before (b ∷ m) = (omega (arith, small_place before), tt)

map_order : (m : List ℕ) (lines : List Line1) → InOrder (told_map m ++ map Line lines)
map_order [] lines = lines_order lines
map_order (b ∷ m) lines = (lines_free (Saved (b ∷ m)) lines, lines_order lines)

up_order : (k : ℕ) (xs : List Setting) (m : List ℕ) (lines : List Line1) → Up_from k xs → InOrder (map Set xs ++ told_map m
    ++ map Line lines)
up_order k [] m lines up = map_order m lines
up_order k (x ∷ xs) m lines up = (
  all_append (Precedes (Set x)) (map Set xs ++ told_map m) (map Line lines)
      (all_append (Precedes (Set x)) (map Set xs) (told_map m) (above x (suc (place_of x)) xs (omega arith) up.1) (map_free x m))
      (lines_free (Set x) lines),
  up_order (suc (place_of x)) xs m lines up.1,
)

settings_up : (s : Setup) → Up_from 0 (settings_of s)
settings_up s = (
  omega arith,
  (
    omega arith,
    (
      omega arith,
      (
        omega arith,
        (omega arith, (omega arith, (omega arith, (omega arith, (omega arith, (omega arith, (omega arith, (omega arith, tt)))))))),
      ),
    ),
  ),
)

-- ---- the setup

-- settings that change nothing where they are plain
abbrev Changes : Setup → List Setting → Type 0
Changes st [] = Unit {0}
Changes st (x ∷ xs) = (is_plain x ≡ true → with_setting st x ≡ st) × Changes (with_setting st x) xs

changed_by : (st : Setup) (x : Setting) (xs : List Setting) (t : Bool) → is_plain x ≡ t → (is_plain x ≡ true → with_setting st x ≡ st)
    → fold setup_with (with_setting st x) (map Set (filter differs xs)) ≡ fold with_setting (with_setting st x) xs
    → fold setup_with st (map Set (cond (not t) (x ∷ filter differs xs) (filter differs xs))) ≡ fold with_setting (with_setting st x) xs
changed_by st x xs true e same rec = ap (λ (u : Setup). fold setup_with u (map Set (filter differs xs))) (sym (same e)) ∙ rec
changed_by st x xs false e same rec = rec

changed : (st : Setup) (xs : List Setting) → Changes st xs → fold setup_with st (map Set (filter differs xs)) ≡ fold with_setting st xs
changed st [] changes = refl
changed st (x ∷ xs) changes = changed_by st x xs (is_plain x) refl changes.0 (changed (with_setting st x) xs changes.1)

same_number : (st : Setup) (make : ℕ → Setting) (n p : ℕ) → (n == p) ≡ true → with_setting st (make n) ≡ with_setting st (make p)
same_number st make n p e = ap (λ (v : ℕ). with_setting st (make v)) (eqb-true n p e)

empty_text : (content : List ℕ) → length content ≡ 0 → content ≡ []
empty_text [] e = refl
empty_text (b ∷ content) e = absurd (omega (arith, e))

same_text : (st : Setup) (make : List ℕ → Setting) (content : List ℕ) → (length content == 0) ≡ true
    → with_setting st (make content) ≡ with_setting st (make [])
same_text st make content e = ap (λ (v : List ℕ). with_setting st (make v)) (empty_text content (eqb-true (length content) 0 e))

-- the plain setup with the first k settings of another
abbrev with_first : ℕ → Setup → Setup
with_first k s = fold with_setting plain (take k (settings_of s))

all_change : (s : Setup) → Changes plain (settings_of s)
all_change s = (
  (λ e. same_number (with_first 0 s) Seed s.seed plain.seed e),
  (
    (λ e. same_number (with_first 1 s) FrameFreq s.frame_freq plain.frame_freq e),
    (
      (λ e. same_number (with_first 2 s) SyncFreq s.sync_freq plain.sync_freq e),
      (
        (λ e. same_number (with_first 3 s) Clients s.max_clients plain.max_clients e),
        (
          (λ e. same_number (with_first 4 s) Init s.init plain.init e),
          (
            (λ e. same_number (with_first 5 s) PassLimit s.pass_limit plain.pass_limit e),
            (
              (λ e. same_number (with_first 6 s) Download s.download plain.download e),
              (
                (λ e. same_number (with_first 7 s) JoinLimit s.join plain.join e),
                (
                  (λ e. same_number (with_first 8 s) Lag s.lag plain.lag e),
                  (
                    (λ e. same_number (with_first 9 s) Cost s.cost plain.cost e),
                    (
                      (λ e. same_text (with_first 10 s) Pw s.password e),
                      (
                        (λ e. same_text (with_first 11 s) Admin s.admin_password e),
                        tt,
                      ),
                    ),
                  ),
                ),
              ),
            ),
          ),
        ),
      ),
    ),
  ),
)

ap3 : {A B C D : Type 0} (f : A → B → C → D) {a a' : A} {b b' : B} {c c' : C} → a ≡ a' → b ≡ b' → c ≡ c' → f a b c ≡ f a' b' c'
ap3 f {a' = a'} {b = b} {b' = b'} {c = c} p q r = ap (λ x. f x b c) p ∙ ap (λ y. f a' y c) q ∙ ap (λ z. f a' b' z) r

setup_back : (s : Setup) → IsTold s → fold with_setting plain (settings_of s) ≡ s
setup_back s told = ap3 (λ (a b c : List ℕ). let made : Setup = record {
  name = a;
  revision = b;
  id = c;
  seed = s.seed;
  frame_freq =
      s.frame_freq;
  sync_freq = s.sync_freq;
  max_clients = s.max_clients;
  init = s.init;
  pass_limit = s.pass_limit;
  download = s.download;
  join = s.join;
  lag = s.lag;
  cost = s.cost;
  password = s.password;
  admin_password = s.admin_password;
} in made) (sym told.name)
    (sym told.revision) (sym told.id)

lines_keep : (st : Setup) (lines : List Line1) → fold setup_with st (map Line lines) ≡ st
lines_keep st [] = refl
lines_keep st (line ∷ lines) = lines_keep st lines

map_keeps : (st : Setup) (m : List ℕ) → fold setup_with st (told_map m) ≡ st
map_keeps st [] = refl
map_keeps st (b ∷ m) = refl

told_setup : (script : Contents) → IsTold script.setup → setup_of (told_steps script) ≡ script.setup
told_setup script told =
    let sets = map Set (told_settings script.setup) in
    fold-append setup_with plain (sets ++ told_map script.saved) (map Line script.lines)
    ∙ lines_keep (fold setup_with plain (sets ++ told_map script.saved)) script.lines
    ∙ fold-append setup_with plain sets (told_map script.saved)
    ∙ map_keeps (fold setup_with plain sets) script.saved
    ∙ changed plain (settings_of script.setup) (all_change script.setup)
    ∙ setup_back script.setup told

no_lines : (xs : List Setting) → lines_in (map Set xs) ≡ []
no_lines [] = refl
no_lines (x ∷ xs) = no_lines xs

own_lines : (lines : List Line1) → lines_in (map Line lines) ≡ lines
own_lines [] = refl
own_lines (line ∷ lines) = ap (λ (t : List Line1). line ∷ t) (own_lines lines)

no_lines_of_map : (m : List ℕ) → lines_in (told_map m) ≡ []
no_lines_of_map [] = refl
no_lines_of_map (b ∷ m) = refl

told_lines : (script : Contents) → lines_in (told_steps script) ≡ script.lines
told_lines script =
    let sets = map Set (told_settings script.setup) in
    flat_map-append line_in (sets ++ told_map script.saved) (map Line script.lines)
    ∙ ap₂ (λ (a b : List Line1). a ++ b) (flat_map-append line_in sets (told_map script.saved) ∙ ap₂ (λ (a b : List Line1). a
    ++ b) (no_lines (told_settings script.setup)) (no_lines_of_map script.saved)) (own_lines script.lines)

no_map : (xs : List Setting) → saved_in (map Set xs) ≡ []
no_map [] = refl
no_map (x ∷ xs) = no_map xs

own_map : (m : List ℕ) → saved_in (told_map m) ≡ m
own_map [] = refl
own_map (b ∷ m) = ap (λ (t : List ℕ). b ∷ t) (append-nil m)

no_map_of_lines : (lines : List Line1) → saved_in (map Line lines) ≡ []
no_map_of_lines [] = refl
no_map_of_lines (line ∷ lines) = no_map_of_lines lines

told_saved : (script : Contents) → saved_in (told_steps script) ≡ script.saved
told_saved script =
    let sets = map Set (told_settings script.setup) in
    flat_map-append map_in_step (sets ++ told_map script.saved) (map Line script.lines)
    ∙ ap₂ (λ (a b : List ℕ). a ++ b) (flat_map-append map_in_step sets (told_map script.saved) ∙ ap₂ (λ (a b : List ℕ). a
    ++ b) (no_map (told_settings script.setup)) (own_map script.saved)) (no_map_of_lines script.lines)
    ∙ append-nil script.saved

no_openings : (xs : List Setting) → sum_by opens (map Set xs) ≡ 0
no_openings [] = refl
no_openings (x ∷ xs) = omega (arith, sum_by-cons opens (Set x) (map Set xs), no_openings xs)

own_openings : (lines : List Line1) → sum_by opens (map Line lines) ≡ sum_by openings_of lines
own_openings [] = refl
own_openings (line ∷ lines) =
    omega (arith, sum_by-cons opens (Line line) (map Line lines), own_openings lines, sum_by-cons openings_of line lines)

no_openings_of_map : (m : List ℕ) → sum_by opens (told_map m) ≡ 0
no_openings_of_map [] = refl
no_openings_of_map (b ∷ m) = omega (arith, sum_by-cons opens (Saved (b ∷ m)) [])

map_fits : (m : List ℕ) → (m ≡ []) ⊎ Fits saved m → AllByRecursion IsStep (told_map m)
map_fits [] is = tt
map_fits (b ∷ m) (inl none) = absurd cc
map_fits (b ∷ m) (inr fits) = ((tt, (tt, (fits, tt))), tt)

-- ---- the text of a script spells it

told_is_steps : (script : Contents) → IsScript script → IsSteps (told_steps script)
told_is_steps script is =
    let sets = map Set (told_settings script.setup) in
    let others = map Line script.lines in
    record {
      each = all_append IsStep (sets ++ told_map script.saved) others
          (all_append IsStep sets (told_map script.saved)
          (all_map Set IsStep IsSetting (λ x fits. fits) (told_settings script.setup) (all_filter IsSetting differs
          (settings_of script.setup) is.setup.settings))
          (map_fits script.saved is.map))
          (all_map Line IsStep IsLine (λ x fits. fits) script.lines is.lines);
      order = up_order 0 (told_settings script.setup) script.saved script.lines (up_filter differs 0 (settings_of script.setup)
          (settings_up script.setup));
      openings =
          omega (
            arith,
            is.openings,
            sum_by-append opens (sets ++ told_map script.saved) others,
            sum_by-append opens sets (told_map script.saved),
            no_openings (told_settings script.setup),
            no_openings_of_map script.saved,
            own_openings script.lines,
          );
    }

pub spelled_text : (script : Contents) → IsScript script → Spells script (lines_of (script_text script))
spelled_text script is =
    let steps = told_is_steps script is in
    record {
      steps = told_steps script;
      is = steps;
      text = lines_written (told_steps script) steps.each;
      makes = ap3 (λ (a : Setup) (m : List ℕ) (b : List Line1). let made : Contents = record { setup = a; saved = m; lines = b } in made)
          (sym (told_setup script is.setup)) (sym (told_saved script)) (sym (told_lines script));
    }

-- ---- what the bytes spell is of the grammar

no_text : IsTextFrom 0 32 []
no_text = record {
  bytes = λ i. omega arith;
  some = omega arith;
  text = is_text-from_IsText 32 [] (record { utf8 = IsUtf8-nil; shown = λ i d lt. absurd (omega (arith, lt)) }) (omega arith);
}

plain_told : IsTold plain
plain_told = record {
  settings = (
    (tt, ((omega arith, omega arith, omega arith), tt)),
    (
      (tt, ((omega arith, omega arith, omega arith), tt)),
      (
        (tt, ((omega arith, omega arith, omega arith), tt)),
        (
          (tt, ((omega arith, omega arith, omega arith), tt)),
          (
            (tt, ((omega arith, omega arith, omega arith), tt)),
            (
              (tt, ((omega arith, omega arith, omega arith), tt)),
              (
                (tt, ((omega arith, omega arith, omega arith), tt)),
                (
                  (tt, ((omega arith, omega arith, omega arith), tt)),
                  (
                    (tt, ((omega arith, omega arith, omega arith), tt)),
                    (
                      (tt, ((omega arith, omega arith, omega arith), tt)),
                      (
                        (tt, (no_text, tt)),
                        ((tt, (no_text, tt)), tt),
                      ),
                    ),
                  ),
                ),
              ),
            ),
          ),
        ),
      ),
    ),
  );
  name = refl;
  revision = refl;
  id = refl;
}

-- a setup that is told fits its ranges
pub told_fits : (st : Setup) → IsTold st → FitsSetup st
told_fits st told = record {
  frame_freq = let range = told.settings.1.0.1.0 in (range.0, range.1);
  sync_freq = let range = told.settings.1.1.0.1.0 in (range.0, range.1);
  max_clients = let range = told.settings.1.1.1.0.1.0 in (range.0, range.1);
  init = let range = told.settings.1.1.1.1.0.1.0 in (range.0, range.1);
  pass_limit = let range = told.settings.1.1.1.1.1.0.1.0 in (range.0, range.1);
  download = let range = told.settings.1.1.1.1.1.1.0.1.0 in (range.0, range.1);
  join = let range = told.settings.1.1.1.1.1.1.1.0.1.0 in (range.0, range.1);
  lag = let range = told.settings.1.1.1.1.1.1.1.1.0.1.0 in (range.0, range.1);
  cost = let range = told.settings.1.1.1.1.1.1.1.1.1.0.1.0 in (range.0, range.1);
  password = length_of_text 32 st.password told.settings.1.1.1.1.1.1.1.1.1.1.0.1.0.text;
  admin_password = length_of_text 32 st.admin_password told.settings.1.1.1.1.1.1.1.1.1.1.1.0.1.0.text;
}

told_with : (st : Setup) (x : Setting) → IsSetting x → IsTold st → IsTold (with_setting st x)
told_with st (Seed x) fits told = record { settings = (fits, told.settings.1); name = told.name; revision = told.revision; id = told.id }
told_with st (FrameFreq x) fits told =
    record { settings = (told.settings.0, (fits, told.settings.1.1)); name = told.name; revision = told.revision; id = told.id }
told_with st (SyncFreq x) fits told = record {
  settings = (told.settings.0, (told.settings.1.0, (fits, told.settings.1.1.1)));
  name =
      told.name;
  revision = told.revision;
  id = told.id;
}
told_with st (Clients x) fits told =
    record {
      settings = (told.settings.0, (told.settings.1.0, (told.settings.1.1.0, (fits, told.settings.1.1.1.1))));
      name = told.name;
      revision = told.revision;
      id = told.id;
    }
told_with st (Init x) fits told =
    record {
      settings =
          (told.settings.0, (told.settings.1.0, (told.settings.1.1.0, (told.settings.1.1.1.0, (fits, told.settings.1.1.1.1.1)))));
      name =
          told.name;
      revision = told.revision;
      id = told.id;
    }
told_with st (PassLimit x) fits told =
    record {
      settings = (
        told.settings.0,
        (
          told.settings.1.0,
          (
            told.settings.1.1.0,
            (
              told.settings.1.1.1.0,
              (
                told.settings.1.1.1.1.0,
                (fits, told.settings.1.1.1.1.1.1),
              ),
            ),
          ),
        ),
      );
      name = told.name;
      revision = told.revision;
      id = told.id;
    }
told_with st (Download x) fits told =
    record {
      settings = (
        told.settings.0,
        (
          told.settings.1.0,
          (
            told.settings.1.1.0,
            (
              told.settings.1.1.1.0,
              (
                told.settings.1.1.1.1.0,
                (told.settings.1.1.1.1.1.0, (fits, told.settings.1.1.1.1.1.1.1)),
              ),
            ),
          ),
        ),
      );
      name = told.name;
      revision = told.revision;
      id = told.id;
    }
told_with st (JoinLimit x) fits told =
    record {
      settings = (
        told.settings.0,
        (
          told.settings.1.0,
          (
            told.settings.1.1.0,
            (
              told.settings.1.1.1.0,
              (
                told.settings.1.1.1.1.0,
                (told.settings.1.1.1.1.1.0, (told.settings.1.1.1.1.1.1.0, (fits, told.settings.1.1.1.1.1.1.1.1))),
              ),
            ),
          ),
        ),
      );
      name = told.name;
      revision =
          told.revision;
      id = told.id;
    }
told_with st (Lag x) fits told =
    record {
      settings = (
        told.settings.0,
        (
          told.settings.1.0,
          (
            told.settings.1.1.0,
            (
              told.settings.1.1.1.0,
              (
                told.settings.1.1.1.1.0,
                (
                  told.settings.1.1.1.1.1.0,
                  (
                    told.settings.1.1.1.1.1.1.0,
                    (
                      told.settings.1.1.1.1.1.1.1.0,
                      (fits, told.settings.1.1.1.1.1.1.1.1.1),
                    ),
                  ),
                ),
              ),
            ),
          ),
        ),
      );
      name = told.name;
      revision = told.revision;
      id = told.id;
    }
told_with st (Cost x) fits told =
    record {
      settings = (
        told.settings.0,
        (
          told.settings.1.0,
          (
            told.settings.1.1.0,
            (
              told.settings.1.1.1.0,
              (
                told.settings.1.1.1.1.0,
                (
                  told.settings.1.1.1.1.1.0,
                  (
                    told.settings.1.1.1.1.1.1.0,
                    (
                      told.settings.1.1.1.1.1.1.1.0,
                      (
                        told.settings.1.1.1.1.1.1.1.1.0,
                        (fits, told.settings.1.1.1.1.1.1.1.1.1.1),
                      ),
                    ),
                  ),
                ),
              ),
            ),
          ),
        ),
      );
      name = told.name;
      revision = told.revision;
      id = told.id;
    }
told_with st (Pw x) fits told =
    record {
      settings = (
        told.settings.0,
        (
          told.settings.1.0,
          (
            told.settings.1.1.0,
            (
              told.settings.1.1.1.0,
              (
                told.settings.1.1.1.1.0,
                (
                  told.settings.1.1.1.1.1.0,
                  (
                    told.settings.1.1.1.1.1.1.0,
                    (
                      told.settings.1.1.1.1.1.1.1.0,
                      (
                        told.settings.1.1.1.1.1.1.1.1.0,
                        (told.settings.1.1.1.1.1.1.1.1.1.0, (fits, told.settings.1.1.1.1.1.1.1.1.1.1.1)),
                      ),
                    ),
                  ),
                ),
              ),
            ),
          ),
        ),
      );
      name = told.name;
      revision =
          told.revision;
      id = told.id;
    }
told_with st (Admin x) fits told =
    record {
      settings = (
        told.settings.0,
        (
          told.settings.1.0,
          (
            told.settings.1.1.0,
            (
              told.settings.1.1.1.0,
              (
                told.settings.1.1.1.1.0,
                (
                  told.settings.1.1.1.1.1.0,
                  (
                    told.settings.1.1.1.1.1.1.0,
                    (
                      told.settings.1.1.1.1.1.1.1.0,
                      (
                        told.settings.1.1.1.1.1.1.1.1.0,
                        (
                          told.settings.1.1.1.1.1.1.1.1.1.0,
                          (
                            told.settings.1.1.1.1.1.1.1.1.1.1.0,
                            (fits, told.settings.1.1.1.1.1.1.1.1.1.1.1.1),
                          ),
                        ),
                      ),
                    ),
                  ),
                ),
              ),
            ),
          ),
        ),
      );
      name = told.name;
      revision = told.revision;
      id = told.id;
    }

told_fold : (st : Setup) (steps : List Step) → AllByRecursion IsStep steps → IsTold st → IsTold (fold setup_with st steps)
told_fold st [] each told = told
told_fold st (Set x ∷ steps) each told = told_fold (with_setting st x) steps each.1 (told_with st x each.0 told)
told_fold st (Saved m ∷ steps) each told = told_fold st steps each.1 told
told_fold st (Line line ∷ steps) each told = told_fold st steps each.1 told

lines_fit : (steps : List Step) → AllByRecursion IsStep steps → AllByRecursion IsLine (lines_in steps)
lines_fit [] each = tt
lines_fit (Set x ∷ steps) each = lines_fit steps each.1
lines_fit (Saved m ∷ steps) each = lines_fit steps each.1
lines_fit (Line line ∷ steps) each = (each.0, lines_fit steps each.1)

lines_open : (steps : List Step) → sum_by openings_of (lines_in steps) ≡ sum_by opens steps
lines_open [] = refl
lines_open (Set x ∷ steps) = omega (arith, lines_open steps, sum_by-cons opens (Set x) steps)
lines_open (Saved m ∷ steps) = omega (arith, lines_open steps, sum_by-cons opens (Saved m) steps)
lines_open (Line line ∷ steps) =
    omega (arith, lines_open steps, sum_by-cons opens (Line line) steps, sum_by-cons openings_of line (lines_in steps))

-- behind a map or a line there is no map
none_saved : (before : Step) (steps : List Step) → 12 ≤ step_place before → AllByRecursion (Precedes before) steps → saved_in steps ≡ []
none_saved before [] le all = refl
none_saved before (Set x ∷ steps) le all = none_saved before steps le all.1
none_saved before (Saved m ∷ steps) le all = let lt = all.0 in absurd (omega arith)
none_saved before (Line line ∷ steps) le all = none_saved before steps le all.1

saved_fits : (steps : List Step) → AllByRecursion IsStep steps → InOrder steps → (saved_in steps ≡ []) ⊎ Fits saved (saved_in steps)
saved_fits [] each order = inl refl
saved_fits (Set x ∷ steps) each order = saved_fits steps each.1 order.1
saved_fits (Saved m ∷ steps) each order =
    let only : m ++ saved_in steps ≡ m = ap (λ (t : List ℕ). m ++ t) (none_saved (Saved m) steps (omega arith) order.0) ∙ append-nil m in
    inr (subst (λ (t : List ℕ). Fits saved t) (sym only) each.0.1.1.0)
saved_fits (Line line ∷ steps) each order = inl (none_saved (Line line) steps (omega arith) order.0)

pub spelled_script : (script : Contents) (texts : List (List ℕ)) → Spells script texts → IsScript script
spelled_script script texts spells =
    let steps = spells.steps in
    let is : IsScript (contents_of steps) = record {
      setup = told_fold plain steps spells.is.each plain_told;
      map = saved_fits steps spells.is.each spells.is.order;
      lines = lines_fit steps spells.is.each;
      openings = omega (arith, lines_open steps, spells.is.openings);
    } in
    subst IsScript (sym spells.makes) is

pub parsed_script : (r : Result Contents ScriptBad) (texts : List (List ℕ)) → IfOk r (λ script. Spells script texts)
    → IfOk r (λ script. IsScript script)
parsed_script (Ok script) texts found = spelled_script script texts found
parsed_script (Err bad) texts found = tt
