-- Scripts, step by step: what goes on, what doesn't, and that the bytes spell one script alone.
use Rattle.std.proofs.Common.{◌≡◌, ◌⊎◌, inl, inr, Result, Ok, Err, ℕ, zero, suc, ◌+◌, ◌-◌, ◌<◌, ◌≤◌, List, [], ◌∷◌, ◌++◌, length, take, map}
use Rattle.std.proofs.Common.{Some, refl, sym, ap, subst, ◌∙◌, append_assoc, arith}
use Rattle.std.specs.Prelude.{sum_by, ◌↔◌, IfOk}
use Rattle.std.specs.List.{AllByRecursion}
use Rattle.std.proofs.lemmas.List.{map-append, length-map, length-append, append-nil}
use Rattle.std.proofs.lemmas.Bool.{cases_lt}
use Rattle.std.proofs.lemmas.List.Sums.{sum_by-append, sum_by-cons}
use Rattle.std.proofs.Math.Seq.{take-append_seam, take-append-add}
use Rattle.tt_lines.specs.Lines.{HasNo, lines_of, IsFirstBad}
use Rattle.tt_log.specs.Settings.{place_of}
use Rattle.tt_log.specs.Steps.{step_text, IsStep, opens, step_place, Precedes}
use Rattle.tt_log.specs.Contents.{Contents}
use Rattle.tt_log.specs.Script.{InOrder, IsSteps, contents_of, Spells, IsScriptText}
use Rattle.tt_log.specs.Standing.{Standing}
use Rattle.tt_log.specs.Reader.{IsAt, MayFollow}
use Rattle.tt_log.specs.Reading.{step_at}
use Rattle.tt_log.specs.declared.script.bad.ScriptBad.{ScriptBad}
use Rattle.tt_log.specs.declared.script.bad.ScriptBad.TheVariants.{Line as BadLine, Memory}
use Rattle.tt_log.specs.declared.script.line.Line1.{Line1}
use Rattle.tt_log.specs.declared.script.setting.Setting.{Setting}
use Rattle.tt_log.specs.declared.script.setting.Setting.TheVariants.{Seed, FrameFreq, SyncFreq, Clients, Init, PassLimit, Download}
use Rattle.tt_log.specs.declared.script.setting.Setting.TheVariants.{Join as JoinLimit, Lag, Cost, Pw, Admin}
use Rattle.tt_log.specs.declared.script.step.Step.{Step}
use Rattle.tt_log.specs.declared.script.step.Step.TheVariants.{Set, Saved, Line}
use Rattle.tt_log.proofs.TableLaws.{read_found, read_back}

-- ---- lists

-- what holds of each holds of the first ones, of the last one, and with one more
pub all_snoc : {A : Type 0} (P : A → Type 0) (xs : List A) (x : A) → AllByRecursion P xs → P x → AllByRecursion P (xs ++ x ∷ [])
all_snoc P [] x all one = (one, tt)
all_snoc P (y ∷ xs) x all one = (all.0, all_snoc P xs x all.1 one)

all_take : {A : Type 0} (P : A → Type 0) (n : ℕ) (xs : List A) → AllByRecursion P xs → AllByRecursion P (take n xs)
all_take P zero [] all = tt
all_take P (suc n) [] all = tt
all_take P zero (x ∷ xs) all = tt
all_take P (suc n) (x ∷ xs) all = (all.0, all_take P n xs all.1)

pub all_front : {A : Type 0} (P : A → Type 0) (xs ys : List A) → AllByRecursion P (xs ++ ys) → AllByRecursion P xs
all_front P [] ys all = tt
all_front P (x ∷ xs) ys all = (all.0, all_front P xs ys all.1)

pub all_last : {A : Type 0} (P : A → Type 0) (xs : List A) (x : A) → AllByRecursion P (xs ++ x ∷ []) → P x
all_last P [] x all = all.0
all_last P (y ∷ xs) x all = all_last P xs x all.1

order_snoc : (steps : List Step) (step : Step) → InOrder steps → AllByRecursion (λ before. Precedes before step) steps
    → InOrder (steps ++ step ∷ [])
order_snoc [] step order before = (tt, tt)
order_snoc (first ∷ steps) step order before =
    (all_snoc (Precedes first) steps step order.0 before.0, order_snoc steps step order.1 before.1)

order_last : (steps : List Step) (step : Step) → InOrder (steps ++ step ∷ []) → AllByRecursion (λ before. Precedes before step) steps
order_last [] step order = tt
order_last (first ∷ steps) step order = (all_last (Precedes first) steps step order.0, order_last steps step order.1)

order_take : (n : ℕ) (steps : List Step) → InOrder steps → InOrder (take n steps)
order_take zero [] order = tt
order_take (suc n) [] order = tt
order_take zero (step ∷ steps) order = tt
order_take (suc n) (step ∷ steps) order = (all_take (Precedes step) n steps order.0, order_take n steps order.1)

sum_take : (f : Step → ℕ) (n : ℕ) (steps : List Step) → sum_by f (take n steps) ≤ sum_by f steps
sum_take f zero [] = omega arith
sum_take f (suc n) [] = omega arith
sum_take f zero (step ∷ steps) = omega (arith, sum_by-cons f step steps)
sum_take f (suc n) (step ∷ steps) = omega (arith, sum_take f n steps, sum_by-cons f step steps, sum_by-cons f step (take n steps))

map_take : {A B : Type 0} (f : A → B) (n : ℕ) (xs : List A) → take n (map f xs) ≡ map f (take n xs)
map_take f zero [] = refl
map_take f (suc n) [] = refl
map_take f zero (x ∷ xs) = refl
map_take f (suc n) (x ∷ xs) = ap (λ t. f x ∷ t) (map_take f n xs)

-- ---- steps

-- the first steps of a script are one
pub steps_take : (n : ℕ) (steps : List Step) → IsSteps steps → IsSteps (take n steps)
steps_take n steps is = record {
  each = all_take IsStep n steps is.each;
  order = order_take n steps is.order;
  openings = omega (arith, sum_take opens n steps, is.openings);
}

-- a step is known by its text
step_same : (a b : Step) → IsStep a → IsStep b → step_text a ≡ step_text b → a ≡ b
step_same a b fits other e = let same : Some a ≡ Some b = sym (read_found a fits) ∙ ap step_at e ∙ read_found b other in cc

heads : (a b : List ℕ) (xs ys : List (List ℕ)) → a ∷ xs ≡ b ∷ ys → (a ≡ b) × (xs ≡ ys)
heads a b xs ys e = (cc, cc)

-- steps whose texts stand in front of other steps' are their first steps
pub goes_on : (steps others : List Step) (texts : List (List ℕ)) → AllByRecursion IsStep steps → AllByRecursion IsStep others
    → map step_text steps ++ texts ≡ map step_text others
    → (more : List Step) × (others ≡ steps ++ more) × (texts ≡ map step_text more)
goes_on [] others texts each fits e = (others, refl, e)
goes_on (step ∷ steps) [] texts each fits e = absurd cc
goes_on (step ∷ steps) (other ∷ others) texts each fits e =
    let parts = heads (step_text step) (step_text other) (map step_text steps ++ texts) (map step_text others) e in
    let same : step ≡ other = step_same step other each.0 fits.0 parts.0 in
    let rec = goes_on steps others texts each.1 fits.1 parts.1 in
    let tail = rec.1 in
    (rec.0, cc, rec.2)

-- steps with these texts are these
pub same_steps : (steps others : List Step) → AllByRecursion IsStep steps → AllByRecursion IsStep others
    → map step_text steps ≡ map step_text others → steps ≡ others
same_steps [] [] each fits e = refl
same_steps [] (other ∷ others) each fits e = absurd cc
same_steps (step ∷ steps) [] each fits e = absurd cc
same_steps (step ∷ steps) (other ∷ others) each fits e =
    let parts = heads (step_text step) (step_text other) (map step_text steps) (map step_text others) e in
    let same : step ≡ other = step_same step other each.0 fits.0 parts.0 in
    let rec = same_steps steps others each.1 fits.1 parts.1 in
    cc

-- lines spell one script
pub one_of : (a b : Contents) (texts : List (List ℕ)) → Spells a texts → Spells b texts → a ≡ b
one_of a b texts one other =
    let same = same_steps one.steps other.steps one.is.each other.is.each (sym one.text ∙ other.text) in
    one.makes ∙ ap contents_of same ∙ sym other.makes

-- the first lines of a script are one
pub first_of_script : (script : Contents) (texts : List (List ℕ)) (n : ℕ) → Spells script texts → IsScriptText (take n texts)
first_of_script script texts n spells = (
  contents_of (take n spells.steps),
  record {
    steps = take n spells.steps;
    is = steps_take n spells.steps spells.is;
    text = ap (take n) spells.text ∙ map_take step_text n spells.steps;
    makes = refl;
  },
)

-- ---- a reader

-- nothing was read
pub begun : (bytes : List ℕ) (r : Standing) → r.rest ≡ bytes → r.count ≡ 0 → r.place ≡ 0 → r.openings ≡ 0 → IsAt r bytes []
begun bytes r rest count place openings = record {
  is = record { each = tt; order = tt; openings = omega arith };
  text = ap lines_of (sym rest);
  count = count;
  openings = openings;
  place = λ own few. ((λ le. tt), (λ all. omega (arith, place)));
}

all_free : (steps : List Step) (line : Line1) → AllByRecursion (λ before. Precedes before (Line line)) steps
all_free [] line = tt
all_free (step ∷ steps) line = (tt, all_free steps line)

-- the places that may follow steps
abbrev places : List Step → ℕ → Type 0
places steps least = (place : ℕ) → place ≤ 12 → (least ≤ place) ↔ AllByRecursion (λ before. step_place before < place) steps

pub small_place : (setting : Setting) → place_of setting ≤ 11
small_place (Seed n) = omega arith
small_place (FrameFreq n) = omega arith
small_place (SyncFreq n) = omega arith
small_place (Clients n) = omega arith
small_place (Init n) = omega arith
small_place (PassLimit n) = omega arith
small_place (Download n) = omega arith
small_place (JoinLimit n) = omega arith
small_place (Lag n) = omega arith
small_place (Cost n) = omega arith
small_place (Pw content) = omega arith
small_place (Admin content) = omega arith

-- behind a step that may follow the least place, or is behind all places
place_behind : (steps : List Step) (step : Step) (least new : ℕ) → places steps least → new ≡ suc (step_place step)
    → ((place : ℕ) → new ≤ place → place ≤ 12 → least ≤ place)
    → places (steps ++ step ∷ []) new
place_behind steps step least new old is later = λ place few.
    let P : Step → Type 0 = λ before. step_place before < place in (
      (λ le. all_snoc P steps step ((old place few).0 (later place le few)) (omega (arith, le, is))),
      (λ all. let last : step_place step < place = all_last P steps step all in omega (arith, last, is)),
    )

place_after : (steps : List Step) (step : Step) (place openings new : ℕ) → places steps place → new ≡ suc (step_place step)
    → MayFollow place openings step → places (steps ++ step ∷ []) new
place_after steps (Set own) place openings new old is may =
    place_behind steps (Set own) place new old is (λ other le few. omega (arith, le, is, may))
place_after steps (Saved map) place openings new old is may =
    place_behind steps (Saved map) place new old is (λ other le few. omega (arith, le, is, may))
place_after steps (Line line) place openings new old is may =
    place_behind steps (Line line) place new old is (λ other le few. absurd (omega (arith, le, is, few)))

before_step : (steps : List Step) (step : Step) (place openings : ℕ) → places steps place → MayFollow place openings step
    → AllByRecursion (λ before. Precedes before step) steps
before_step steps (Set own) place openings old may = (old (place_of own) (omega (arith, small_place own))).0 may
before_step steps (Saved map) place openings old may = (old 12 (omega arith)).0 may
before_step steps (Line line) place openings old may = all_free steps line

opens_within : (r_openings : ℕ) (step : Step) (place : ℕ) → r_openings ≤ 65535 → MayFollow place r_openings step
    → r_openings + opens step ≤ 65535
opens_within openings (Set own) place few may = omega arith
opens_within openings (Saved map) place few may = omega arith
opens_within openings (Line line) place few may = may

-- one line more
pub grown : (r s : Standing) (bytes line : List ℕ) (steps : List Step) (step : Step) → IsAt r bytes steps
    → lines_of r.rest ≡ line ∷ lines_of s.rest → HasNo 10 line
    → step_at line ≡ Some step → s.count ≡ r.count + 1 → s.place ≡ suc (step_place step) → s.openings ≡ r.openings + opens step
    → MayFollow r.place r.openings step → IsAt s bytes (steps ++ step ∷ [])
grown r s bytes line steps step at cut one read count place openings may =
    let back = read_back line step one read in
    let sums = sum_by-append opens steps (step ∷ []) in
    let last = sum_by-cons opens step [] in
    let within = opens_within r.openings step r.place (omega (arith, at.openings, at.is.openings)) may in
    let texts : map step_text (steps ++ step ∷ []) ≡ map step_text steps ++ step_text step ∷ [] = map-append step_text steps (step ∷ []) in
    let front : map step_text steps ++ (line ∷ lines_of s.rest) ≡ (map step_text steps ++ line ∷ []) ++ lines_of s.rest =
    sym (append_assoc (map step_text steps) (line ∷ []) (lines_of s.rest)) in
    record {
      is = record {
        each = all_snoc IsStep steps step at.is.each back.0;
        order = order_snoc steps step at.is.order (before_step steps step r.place r.openings at.place may);
        openings = omega (arith, sums, last, at.openings, within);
      };
      text = at.text ∙ ap (λ (t : List (List ℕ)). map step_text steps ++ t) cut ∙ front
          ∙ ap (λ (t : List ℕ). (map step_text steps ++ t ∷ []) ++ lines_of s.rest) back.1 ∙ ap (λ (t : List (List ℕ)). t
          ++ lines_of s.rest) (sym texts);
      count = omega (arith, count, at.count, length-append steps (step ∷ []));
      openings = omega (arith, openings, at.openings, sums, last);
      place = place_after steps step r.place r.openings s.place at.place place may;
    }

-- ---- the first bad line

take_front : (xs ys : List (List ℕ)) (n : ℕ) → n ≡ length xs → take n (xs ++ ys) ≡ xs
take_front xs ys n is = rw is (take-append_seam xs ys)

take_next : (xs ys : List (List ℕ)) (y : List ℕ) (n : ℕ) → n ≡ length xs → take (suc n) (xs ++ y ∷ ys) ≡ xs ++ y ∷ []
take_next xs ys y n is =
    let more : suc n ≡ length xs + 1 = omega (arith, is) in
    rw more (take-append-add xs (y ∷ ys) 1)

-- a line that gives no step, or one that may not stand there
abbrev pub Misfits : Standing → List ℕ → Type 0
Misfits r line = (step : Step) → step_at line ≡ Some step → MayFollow r.place r.openings step → ⊥

may_last : (r : Standing) (bytes : List ℕ) (steps : List Step) (step : Step) → IsAt r bytes steps → IsSteps (steps ++ step ∷ [])
    → MayFollow r.place r.openings step
may_last r bytes steps (Set own) at is = (at.place (place_of own) (omega (arith, small_place own))).1 (order_last steps (Set own) is.order)
may_last r bytes steps (Saved map) at is = (at.place 12 (omega arith)).1 (order_last steps (Saved map) is.order)
may_last r bytes steps (Line line) at is =
    omega (arith, is.openings, at.openings, sum_by-append opens steps (Line line ∷ []), sum_by-cons opens (Line line) [])

last_is : (line : List ℕ) (more : List Step) → line ∷ [] ≡ map step_text more → (step : Step) × (more ≡ step ∷ []) × (line ≡ step_text step)
last_is line [] e = absurd cc
last_is line (step ∷ []) e = (step, refl, cc)
last_is line (step ∷ other ∷ more) e = let parts = heads line (step_text step) [] (step_text other ∷ map step_text more) e in let rest =
    parts.1 in absurd cc

never_through : (r : Standing) (bytes line : List ℕ) (first : List (List ℕ)) (steps : List Step) (script : Contents) → IsAt r bytes steps
    → Misfits r line
    → first ≡ map step_text steps ++ line ∷ [] → Spells script first → ⊥
never_through r bytes line first steps script at misfits texts spells =
    let on = goes_on steps spells.steps (line ∷ []) at.is.each spells.is.each (sym texts ∙ spells.text) in
    let last = last_is line on.0 on.2 in
    let all : spells.steps ≡ steps ++ last.0 ∷ [] = on.1 ∙ ap (λ (t : List Step). steps ++ t) last.1 in
    let is : IsSteps (steps ++ last.0 ∷ []) = subst IsSteps all spells.is in
    let fits : IsStep last.0 = all_last IsStep steps last.0 is.each in
    misfits last.0 (ap step_at last.2 ∙ read_found last.0 fits) (may_last r bytes steps last.0 at is)

pub first_bad : (r : Standing) (bytes line : List ℕ) (rest : List (List ℕ)) (steps : List Step) (l : ℕ) → IsAt r bytes steps
    → lines_of r.rest ≡ line ∷ rest → Misfits r line → l ≡ r.count + 1
    → IsFirstBad IsScriptText (lines_of bytes) l
first_bad r bytes line rest steps l at cut misfits is =
    let texts : lines_of bytes ≡ map step_text steps ++ line ∷ rest = at.text ∙ ap (λ (t : List (List ℕ)). map step_text steps ++ t) cut in
    let long : r.count ≡ length (map step_text steps) = at.count ∙ sym (length-map steps step_text) in
    let before : l - 1 ≡ r.count = omega (arith, is) in
    let next : l ≡ suc r.count = omega (arith, is) in
    let fewer : take (l - 1) (lines_of bytes) ≡ map step_text steps =
    rw before (ap (take r.count) texts ∙ take_front (map step_text steps) (line ∷ rest) r.count long) in
    let through : take l (lines_of bytes) ≡ map step_text steps ++ line ∷ [] =
    rw next (ap (take (suc r.count)) texts ∙ take_next (map step_text steps) rest line r.count long) in
    record {
      some = omega (arith, is);
      within = omega (arith, is, long, ap length texts, length-append (map step_text steps) (line ∷ rest));
      before = (contents_of steps, record { steps = steps; is = at.is; text = fewer; makes = refl });
      bad = λ spelled. never_through r bytes line (take l (lines_of bytes)) steps spelled.0 at misfits through spelled.1;
    }

-- ---- the answers of a parser

take_fewer : {A : Type 0} (n m : ℕ) (xs : List A) → n ≤ m → take n (take m xs) ≡ take n xs
take_fewer zero m [] le = refl
take_fewer zero m (x ∷ xs) le = refl
take_fewer (suc n) zero xs le = absurd (omega (arith, le))
take_fewer (suc n) (suc m) [] le = refl
take_fewer (suc n) (suc m) (x ∷ xs) le = ap (λ t. x ∷ t) (take_fewer n m xs (omega (arith, le)))

-- fewer lines of a script are one
pub fewer_lines : (texts : List (List ℕ)) (n m : ℕ) → n ≤ m → IsScriptText (take m texts) → IsScriptText (take n texts)
fewer_lines texts n m le spelled =
    let spells = spelled.1 in
    let same : take n texts ≡ map step_text (take n spells.steps) =
    sym (take_fewer n m texts le) ∙ ap (take n) spells.text ∙ map_take step_text n spells.steps in (
      contents_of (take n spells.steps),
      record {
        steps = take n spells.steps;
        is = steps_take n spells.steps spells.is;
        text = same;
        makes = refl;
      },
    )

one_first : (texts : List (List ℕ)) (k l : ℕ) → IsFirstBad IsScriptText texts k → IsFirstBad IsScriptText texts l → k < l → ⊥
one_first texts k l first other lt = first.bad (fewer_lines texts k (l - 1) (omega (arith, lt)) other.before)

-- there is one first bad line
pub same_first : (texts : List (List ℕ)) (k l : ℕ) → IsFirstBad IsScriptText texts k → IsFirstBad IsScriptText texts l → k ≡ l
same_first texts k l first other = elim (cases_lt k l) [
  | inl less ↦ absurd (one_first texts k l first other less)
  | inr most ↦ elim (cases_lt l k) [
    | inl less ↦ absurd (one_first texts l k other first less)
    | inr least ↦ omega (arith, most, least)
  ]
]

pub parsed_only : (r : Result Contents ScriptBad) (texts : List (List ℕ)) → IfOk r (λ script. Spells script texts)
    → ((l : ℕ) → r ≡ Err (BadLine l) → IsFirstBad IsScriptText texts l)
    → (script : Contents) → Spells script texts → (r ≡ Ok script) ⊎ (r ≡ Err Memory)
parsed_only (Ok own) texts found first script spelled = inl (ap Ok (one_of own script texts found spelled))
parsed_only (Err (BadLine l)) texts found first script spelled = absurd ((first l refl).bad (first_of_script script texts l spelled))
parsed_only (Err Memory) texts found first script spelled = inr refl

pub parsed_refused : (r : Result Contents ScriptBad) (texts : List (List ℕ)) → IfOk r (λ script. Spells script texts)
    → ((l : ℕ) → r ≡ Err (BadLine l) → IsFirstBad IsScriptText texts l)
    → (l : ℕ) → IsFirstBad IsScriptText texts l → (r ≡ Err (BadLine l)) ⊎ (r ≡ Err Memory)
parsed_refused (Ok own) texts found first l bad = absurd (bad.bad (first_of_script own texts l found))
parsed_refused (Err (BadLine k)) texts found first l bad = inl (ap (λ (n : ℕ). Err (BadLine n)) (same_first texts k l (first k refl) bad))
parsed_refused (Err Memory) texts found first l bad = inr refl

-- what was read where nothing is left
pub read_all : (r : Standing) (bytes : List ℕ) (steps : List Step) → IsAt r bytes steps → r.rest ≡ []
    → Spells (contents_of steps) (lines_of bytes)
read_all r bytes steps at none = record {
  steps = steps;
  is = at.is;
  text = at.text ∙ ap (λ (t : List ℕ). map step_text steps ++ lines_of t) none ∙ append-nil (map step_text steps);
  makes = refl;
}
