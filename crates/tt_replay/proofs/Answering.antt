-- What a call of the program comes to, from its parts.
use Rattle.std.proofs.Common.{◌≡◌, ◌⊎◌, ℕ, zero, suc, ◌≤◌, List, [], ◌∷◌, length, take, Option, Some, None, IfSome, inl, inr, sym, ap}
use Rattle.std.proofs.Common.{subst, ◌∙◌}
use Rattle.std.specs.List.{AllByRecursion}
use Rattle.std.proofs.lemmas.List.{take-map}
use Rattle.std.specs.Io.KnownBytes.{Appends}
use Rattle.tt_lines.specs.Lines.{lines_of, IsFirstBad}
use Rattle.tt_edge.specs.Sink.{AppendsPart}
use Rattle.tt_replay.specs.declared.form.Form.{Form}
use Rattle.tt_replay.specs.declared.form.Form.TheVariants.{Run, Check, Show}
use Rattle.tt_replay.specs.Statuses.{form_of, input_limit, IsOfForm, IsAnswer, Answers, IsWritten, IsPartlyWritten, IsRefused, IsDiffering}
use Rattle.tt_replay.specs.Statuses.{IsOther, bad_line_text, differs_text}
use Rattle.tt_show.specs.ListLines.{ListLine}
use Rattle.tt_show.specs.Lists as lists
use Rattle.tt_show.specs.Lists.{IsList, line_text}
use Rattle.tt_log.proofs.ScriptLaws.{first_of_script}
use Rattle.tt_log.specs.Script.{IsScriptText}

answers : (words : List (List ℕ)) (form : Form) (input bytes read answer : List ℕ) → form_of words ≡ Some form → bytes ≡ input
    → read ≡ bytes → length bytes ≤ input_limit → IsAnswer form (lines_of read) answer → Answers words input answer
answers words form input bytes read answer asked whole same within is = record {
  form = form;
  asked = asked;
  within = subst (λ (xs : List ℕ). length xs ≤ input_limit) whole within;
  is = subst (λ (xs : List ℕ). IsAnswer form (lines_of xs) answer) (same ∙ whole) is;
}

-- the answer was written
pub written : (left : Option (List ℕ)) (words : List (List ℕ)) (form : Form) (bytes read answer told : List ℕ) (before after : Option
    (List ℕ)) → IfSome left (λ input. bytes ≡ input) → form_of words ≡ Some form → read ≡ bytes → length bytes ≤ input_limit
    → IsAnswer form (lines_of read) answer → told ≡ answer → Appends before after told → IfSome left (IsWritten words before after)
written None words form bytes read answer told before after whole asked same within is all wrote = tt
written (Some input) words form bytes read answer told before after whole asked same within is all wrote = record {
  answer = answer;
  answers = answers words form input bytes read answer asked whole same within is;
  written = subst (Appends before after) all wrote;
}

-- a front of it was written
pub partly : (left : Option (List ℕ)) (words : List (List ℕ)) (form : Form) (bytes read answer told : List ℕ) (before after : Option
    (List ℕ)) → IfSome left (λ input. bytes ≡ input) → form_of words ≡ Some form → read ≡ bytes → length bytes ≤ input_limit
    → IsAnswer form (lines_of read) answer → told ≡ answer → AppendsPart before after told
    → IfSome left (IsPartlyWritten words before after)
partly None words form bytes read answer told before after whole asked same within is all wrote = tt
partly (Some input) words form bytes read answer told before after whole asked same within is all wrote = record {
  answer = answer;
  answers = answers words form input bytes read answer asked whole same within is;
  written = subst (AppendsPart before after) all wrote;
}

-- the first bad line was told
pub refused : (left : Option (List ℕ)) (words : List (List ℕ)) (form : Form) (bytes read : List ℕ) (line : ℕ) (failed : Type 0)
    (before after : Option (List ℕ)) → IfSome left (λ input. bytes ≡ input) → form_of words ≡ Some form → read ≡ bytes
    → length bytes ≤ input_limit
    → IsFirstBad (IsOfForm form) (lines_of read) line → Appends before after (bad_line_text line)
    ⊎ (failed × AppendsPart before after (bad_line_text line)) → IfSome left (IsRefused words failed before after)
refused None words form bytes read line failed before after whole asked same within bad told = tt
refused (Some input) words form bytes read line failed before after whole asked same within bad told = record {
  form = form;
  asked = asked;
  within = subst (λ (xs : List ℕ). length xs ≤ input_limit) whole within;
  line = line;
  bad = subst (λ (xs : List ℕ). IsFirstBad (IsOfForm form) (lines_of xs) line) (same ∙ whole) bad;
  written = told;
}

-- the first place that differs was told
pub differing : (left : Option (List ℕ)) (words : List (List ℕ)) (form : Form) (bytes read : List ℕ) (place : ℕ) (failed : Type 0)
    (before after : Option (List ℕ)) → IfSome left (λ input. bytes ≡ input) → form_of words ≡ Some form → form ≡ Check → read ≡ bytes
    → length bytes ≤ input_limit
    → IsOther (lines_of read) place → Appends before after (differs_text place) ⊎ (failed × AppendsPart before after (differs_text place))
    → IfSome left (IsDiffering words failed before after)
differing None words form bytes read place failed before after whole asked is same within other told = tt
differing (Some input) words form bytes read place failed before after whole asked is same within other told = record {
  asked = asked ∙ ap Some is;
  within = subst (λ (xs : List ℕ). length xs ≤ input_limit) whole within;
  place = place;
  other = subst (λ (xs : List ℕ). IsOther (lines_of xs) place) (same ∙ whole) other;
  written = told;
}

some_is : {A : Type 0} (a b : A) → ◌≡◌ {A = Option A} (Some a) (Some b) → a ≡ b
some_is a b e = cc

the_same : (left : Option (List ℕ)) (bytes input : List ℕ) → IfSome left (λ xs. bytes ≡ xs) → left ≡ Some input → bytes ≡ input
the_same None bytes input whole is = absurd cc
the_same (Some xs) bytes input whole is = whole ∙ some_is xs input is

-- the first lines of a list are a list
each_front : (lines : List ListLine) (n : ℕ) → AllByRecursion lists.IsLine lines → AllByRecursion lists.IsLine (take n lines)
each_front lines zero each = tt
each_front [] (suc n) each = tt
each_front (line ∷ lines) (suc n) each = (each.0, each_front lines n each.1)

list_none_bad : (texts : List (List ℕ)) (line : ℕ) → IsList texts → IsFirstBad IsList texts line → ⊥
list_none_bad texts line fits bad =
    bad.bad (
      take line fits.0,
      record {
        each = each_front fits.0 line fits.1.each;
        text = ap (take line) fits.1.text
            ∙ take-map line_text line fits.0;
      },
    )

none_bad : (texts : List (List ℕ)) (line : ℕ) → IsScriptText texts → IsFirstBad IsScriptText texts line → ⊥
none_bad texts line is first = first.bad (first_of_script is.0 texts line is.1)

-- an input of a form has no first bad line
none_bad_of : (form : Form) (texts : List (List ℕ)) (line : ℕ) → IsOfForm form texts → IsFirstBad (IsOfForm form) texts line → ⊥
none_bad_of Run texts line fits bad = none_bad texts line fits bad
none_bad_of Check texts line fits bad = none_bad texts line fits bad
none_bad_of Show texts line fits bad = list_none_bad texts line fits bad

pub never_refused : (left : Option (List ℕ)) (words : List (List ℕ)) (form other : Form) (bytes read input : List ℕ) (line : ℕ)
    → IfSome left (λ xs. bytes ≡ xs) → form_of words ≡ Some form → read ≡ bytes → IsFirstBad (IsOfForm form) (lines_of read) line
    → form_of words ≡ Some other → left ≡ Some input → IsOfForm other (lines_of input) → ⊥
never_refused left words form other bytes read input line whole asked same bad also is fits =
    let one : form ≡ other = some_is form other (sym asked ∙ also) in
    let text : read ≡ input = same ∙ the_same left bytes input whole is in
    none_bad_of other (lines_of input) line fits (subst (λ (f : Form). IsFirstBad (IsOfForm f) (lines_of input) line) one
    (subst (λ (xs : List ℕ). IsFirstBad (IsOfForm form) (lines_of xs) line) text bad))

-- what differs was checked
pub checked_alone : (status : ℕ) (words : List (List ℕ)) (form other : Form) → form_of words ≡ Some form → form_of words ≡ Some other
    → form ≡ Check → (status ≡ 1) ⊎ (status ≡ 6) → (status ≡ 0) ⊎ (status ≡ 6) ⊎ ((status ≡ 1) × (other ≡ Check))
checked_alone status words form other asked also is (inl one) = inr (inr (one, some_is other form (sym also ∙ asked) ∙ is))
checked_alone status words form other asked also is (inr six) = inr (inl six)
