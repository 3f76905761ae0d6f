-- Counting on from a code comes back to it only behind all codes: so where not all were drawn, one that wasn't is found in time.
use Rattle.std.proofs.Common.{◌≡◌, ℕ, zero, suc, ◌+◌, ◌<◌, ◌≤◌, Bool, true, false, ◌&&◌, ◌||◌, cond, length, List, [], ◌∷◌, ◌++◌, map}
use Rattle.std.proofs.Common.{get_or, Option, Some, None, refl, sym, ap, ◌∙◌, arith, inl, inr, subst}
use Rattle.std.specs.Prelude.{◌⊎◌, ◌*◌, drop, eqb, ltb, find, ◌==◌, is_some, reverse, IsSome, count_by}
use Rattle.std.specs.Str.{bytes_eq}
use Rattle.std.specs.List.{AllByRecursion, IsDistinct, list_all, list_any}
use Rattle.std.specs.Map.{lookup}
use Rattle.std.proofs.lemmas.Bool.{false≢true, and_parts, eq-eqb, eqb-true, ltb-true}
use Rattle.std.proofs.lemmas.List.{length-append, length-reverse, reverse-reverse}
use Rattle.std.proofs.lemmas.List.Folds.{list_any_at}
use Rattle.std.proofs.lemmas.Map.Steps.{length-le_from_keys}
use Rattle.std.proofs.lemmas.Cmp.{nat_list_eq_equiv}
use Rattle.std.proofs.lemmas.Slice.Eq.{bytes_eq-Decides}
use Rattle.tt_edge.specs.declared.event.Event.{Event}
use Rattle.tt_world.specs.Random.{next_random, below}
use Rattle.tt_attempts.specs.Codes.{alphabet, is_character, IsCode, drawn_code, drawn_character, drawn_characters}
use Rattle.tt_gc_table.specs.Table.{Table, Drawn, NoneTwice, drawn_by}
use Rattle.tt_gc_table.specs.AllCodes.{all_codes}
use Rattle.tt_gc_table.specs.Codes.{follower, carried, counted_on, next_code, undrawn, new_code}
use Rattle.tt_gc_table.specs.declared.setup.GcSetup.{GcSetup}
use Rattle.tt_gc_table.specs.Events.{table_of}
use Rattle.tt_gc_table.specs.Walk.{Registers}
use Rattle.tt_gc_table.proofs.Carried.{carried_to}
use Rattle.tt_gc_table.proofs.CodesLaws.{count_push, none_counted}
use Rattle.tt_gc_table.proofs.DrawnLaws.{code_next, pass_back}

-- ---- the number of a code

-- the place of a character in the alphabet
abbrev place_in : List ℕ → ℕ → ℕ
place_in [] c = 0
place_in (x ∷ xs) c = cond (eqb x c) 0 (suc (place_in xs c))

abbrev place : ℕ → ℕ
place c = place_in alphabet c

-- how many texts of so many characters there are
abbrev all_of : ℕ → ℕ
all_of zero = 1
all_of (suc n) = 32 * all_of n

-- the number of such a text, its last character first
abbrev number_in : List ℕ → ℕ
number_in [] = 0
number_in (c ∷ cs) = place c + 32 * number_in cs

-- ---- what counting on does to a character

-- the place goes up by one, or was the last one
abbrev steps_so : Option ℕ → ℕ → Bool
steps_so (Some next) c = eqb (place next) (suc (place c))
steps_so None c = eqb (place c) 31

of_alphabet : (p : ℕ → Bool) (xs : List ℕ) (c : ℕ) → list_all p xs ≡ true → list_any (λ x. eqb x c) xs ≡ true → p c ≡ true
of_alphabet p [] c all is = absurd (false≢true is)
of_alphabet p (x ∷ xs) c all is =
    let parts = and_parts (p x) (list_all p xs) all in by (eqb x c) refl is parts.0 (of_alphabet p xs c parts.1)
  where
    by : (b : Bool) → eqb x c ≡ b → b || list_any (λ x. eqb x c) xs ≡ true → p x ≡ true
        → (list_any (λ x. eqb x c) xs ≡ true → p c ≡ true) → p c ≡ true
    by true at is own rest = ap p (sym (eqb-true x c at)) ∙ own
    by false at is own rest = rest is

steps : (c : ℕ) → is_character c ≡ true → steps_so (follower alphabet c) c ≡ true
steps c is = of_alphabet (λ c. steps_so (follower alphabet c) c) alphabet c refl is

placed : (c : ℕ) → is_character c ≡ true → place c < 32
placed c is = ltb-true (place c) 32 (of_alphabet (λ c. ltb (place c) 32) alphabet c refl is)

-- ---- what counting on does to a number

number_small : (xs : List ℕ) → list_all is_character xs ≡ true → number_in xs < all_of (length xs)
number_small [] all = omega arith
number_small (c ∷ cs) all =
    let parts = and_parts (is_character c) (list_all is_character cs) all in
    omega (arith, placed c parts.0, number_small cs parts.1)

-- it goes up by one, or was the last one and is the first one then
abbrev Goes : ℕ → ℕ → ℕ → Type 0
Goes all old new = (new ≡ old + 1) ⊎ ((old + 1 ≡ all) × (new ≡ 0))

number_next : (xs : List ℕ) → list_all is_character xs ≡ true → Goes (all_of (length xs)) (number_in xs) (number_in (counted_on xs))
number_next [] all = inr (refl, refl)
number_next (c ∷ cs) all =
    let parts = and_parts (is_character c) (list_all is_character cs) all in
    by (follower alphabet c) (steps c parts.0) (number_next cs parts.1)
  where
    by : (o : Option ℕ) → steps_so o c ≡ true → Goes (all_of (length cs)) (number_in cs) (number_in (counted_on cs))
        → Goes (32 * all_of (length cs)) (place c + 32 * number_in cs) (number_in (carried o cs (counted_on cs)))
    by (Some next) is rest = inl (omega (arith, eqb-true (place next) (suc (place c)) is))
    by None is (inl more) = inl (omega (arith, eqb-true (place c) 31 is, more))
    by None is (inr last) = inr (omega (arith, eqb-true (place c) 31 is, last.0), omega (arith, last.1))

-- ---- codes

abbrev number_of : List ℕ → ℕ
number_of code = number_in (reverse (drop 1 code))

back_length : (code : List ℕ) → IsCode code → length (reverse (drop 1 code)) ≡ 6
back_length [] is = absurd (omega (arith, is.long))
back_length (x ∷ xs) is = omega (arith, is.long, length-reverse xs)

all_are : (code : List ℕ) → IsCode code → all_of (length (reverse (drop 1 code))) ≡ all_codes
all_are code is = ap all_of (back_length code is)

code_small : (code : List ℕ) → IsCode code → number_of code < all_codes
code_small code is = omega (
  arith,
  number_small (reverse (drop 1 code)) (pass_back is_character (drop 1 code) is.each),
  all_are code is,
)

code_goes : (code : List ℕ) → IsCode code → Goes all_codes (number_of code) (number_of (next_code code))
code_goes code is =
    subst (λ (n : ℕ). Goes n (number_of code) (number_of (next_code code))) (all_are code is)
    (subst (λ (xs : List ℕ). Goes (all_of (length (reverse (drop 1 code)))) (number_of code) (number_in xs))
    (sym (reverse-reverse (counted_on (reverse (drop 1 code)))))
    (number_next (reverse (drop 1 code)) (pass_back is_character (drop 1 code) is.each)))

-- ---- the codes behind a code

abbrev run : ℕ → List ℕ → List (List ℕ)
run zero code = []
run (suc n) code = code ∷ run n (next_code code)

run_length : (n : ℕ) (code : List ℕ) → length (run n code) ≡ n
run_length zero code = refl
run_length (suc n) code = ap suc (run_length n (next_code code))

-- the second code is so many steps ahead of the first one
abbrev IsAhead : ℕ → List ℕ → List ℕ → Type 0
IsAhead n from code = (number_of code ≡ number_of from + n) ⊎ (number_of code + all_codes ≡ number_of from + n)

ahead_next : (n : ℕ) (from code : List ℕ) → IsCode from → IsCode code → n + 1 ≤ all_codes → IsAhead n from code
    → IsAhead (n + 1) from (next_code code)
ahead_next n from code own is few ahead = by (code_goes code is) ahead
  where
    by : Goes all_codes (number_of code) (number_of (next_code code)) → IsAhead n from code → IsAhead (n + 1) from (next_code code)
    by (inl up) (inl at) = inl (omega (arith, up, at))
    by (inl up) (inr at) = inr (omega (arith, up, at))
    by (inr last) (inl at) = inr (omega (arith, last.0, last.1, at))
    by (inr last) (inr at) = absurd (omega (arith, last.0, at, code_small from own, few))

-- a code that is fewer steps ahead than there are codes is another one
other_code : (n : ℕ) (from code : List ℕ) → 1 ≤ n → n + 1 ≤ all_codes → IsAhead n from code → bytes_eq from code ≡ false
other_code n from code some few ahead = by (bytes_eq from code) refl ahead
  where
    by : (b : Bool) → bytes_eq from code ≡ b → IsAhead n from code → b ≡ false
    by true is (inl at) = absurd (omega (arith, some, at, ap number_of ((bytes_eq-Decides from code).0 is)))
    by true is (inr at) = absurd (omega (arith, few, at, ap number_of ((bytes_eq-Decides from code).0 is)))
    by false is at = refl

not_in_run : (k n : ℕ) (from code : List ℕ) → IsCode from → IsCode code → 1 ≤ k → k + n ≤ all_codes → IsAhead k from code
    → AllByRecursion (λ (c : List ℕ). bytes_eq from c ≡ false) (run n code)
not_in_run k zero from code own is some few ahead = tt
not_in_run k (suc n) from code own is some few ahead = (
  other_code k from code some (omega (arith, few)) ahead,
  not_in_run (k + 1) n from (next_code code) own (code_next code is) (omega (arith, some)) (omega (arith, few))
      (ahead_next k from code own is (omega (arith, few)) ahead),
)

run_distinct : (n : ℕ) (code : List ℕ) → IsCode code → n ≤ all_codes → IsDistinct bytes_eq (run n code)
unfolding IsDistinct
run_distinct zero code is few = tt
run_distinct (suc n) code is few = (
  not_in_run 1 n code (next_code code) is (code_next code is) (omega arith) (omega (arith, few))
      (ahead_next 0 code code is is (omega arith) (inl (omega arith))),
  run_distinct n (next_code code) (code_next code is) (omega (arith, few)),
)

-- ---- found in time

abbrev by_code : List Drawn → List (List ℕ × Drawn)
by_code drawn = map (λ (d : Drawn). (d.code, d)) drawn

by_code_length : (drawn : List Drawn) → length (by_code drawn) ≡ length drawn
by_code_length [] = refl
by_code_length (d ∷ ds) = ap suc (by_code_length ds)

by_code_finds : (code : List ℕ) (drawn : List Drawn) → lookup (bytes_eq code) (by_code drawn) ≡ find
    (λ (d : Drawn). bytes_eq code d.code) drawn
by_code_finds code [] = refl
by_code_finds code (d ∷ ds) = ap (λ (o : Option Drawn). cond (bytes_eq code d.code) (Some d) o) (by_code_finds code ds)

-- where the walk ends at a drawn code, all on its way were drawn
all_on_the_way : (n : ℕ) (t : Table) (code q : List ℕ) → is_some (drawn_by t (undrawn n t code)) ≡ true
    → list_any (bytes_eq q) (run (suc n) code) ≡ true → is_some (drawn_by t q) ≡ true
all_on_the_way zero t code q is among = by (bytes_eq q code) refl among
  where
    by : (b : Bool) → bytes_eq q code ≡ b → b || false ≡ true → is_some (drawn_by t q) ≡ true
    by true at so = ap (λ (c : List ℕ). is_some (drawn_by t c)) ((bytes_eq-Decides q code).0 at) ∙ is
    by false at so = absurd (false≢true so)
all_on_the_way (suc n) t code q is among = by (is_some (drawn_by t code)) (bytes_eq q code) refl refl is among
    (λ more. all_on_the_way n t (next_code code) q more)
  where
    by : (a b : Bool) → is_some (drawn_by t code) ≡ a → bytes_eq q code ≡ b
        → is_some (drawn_by t (cond a (undrawn n t (next_code code)) code)) ≡ true
        → b || list_any (bytes_eq q) (run (suc n) (next_code code)) ≡ true
        → (is_some (drawn_by t (undrawn n t (next_code code))) ≡ true → list_any (bytes_eq q) (run (suc n) (next_code code)) ≡ true
        → is_some (drawn_by t q) ≡ true) → is_some (drawn_by t q) ≡ true
    by true true drawn at more so rest = ap (λ (c : List ℕ). is_some (drawn_by t c)) ((bytes_eq-Decides q code).0 at) ∙ drawn
    by true false drawn at more so rest = rest more so
    by false b drawn at more so rest = absurd (false≢true (sym drawn ∙ more))

pub undrawn_in_time : (t : Table) (code : List ℕ) → IsCode code → length t.drawn < all_codes
    → is_some (drawn_by t (undrawn (length t.drawn) t code)) ≡ false
undrawn_in_time t code is few = by (is_some (drawn_by t (undrawn (length t.drawn) t code))) refl
  where
    n : ℕ
    n = length t.drawn

    some : (q : List ℕ) → is_some (drawn_by t (undrawn n t code)) ≡ true → list_any (bytes_eq q) (run (suc n) code) ≡ true
        → IsSome (lookup (bytes_eq q) (by_code t.drawn))
    some q last among = subst (λ (o : Option Drawn). IsSome o) (sym (by_code_finds q t.drawn)) (all_on_the_way n t code q last among)

    by : (b : Bool) → is_some (drawn_by t (undrawn n t code)) ≡ b → b ≡ false
    by false at = refl
    by true at =
        let less : length (run (suc n) code) ≤ length (by_code t.drawn) =
        length-le_from_keys nat_list_eq_equiv (run (suc n) code) (by_code t.drawn) (run_distinct (suc n) code is (omega (arith, few)))
        (λ q among. some q at among) in
        absurd (omega (arith, less, run_length (suc n) code, by_code_length t.drawn))

-- ---- a new code

chosen : (k : ℕ) → k < 32 → is_character (get_or alphabet k 0) ≡ true
chosen k lt =
    list_any_at (λ x. x == get_or alphabet k 0) alphabet k 0 (omega arith) (eq-eqb (get_or alphabet k 0) (get_or alphabet k 0) refl)

drawn_is : (words : ℕ × ℕ) → is_character (drawn_character words) ≡ true
drawn_is words = chosen (below (next_random words) 32) (omega arith)

all_drawn : (n : ℕ) (words : ℕ × ℕ) → list_all is_character (drawn_characters n words) ≡ true
all_drawn zero words = refl
all_drawn (suc n) words =
    ap (λ (b : Bool). b && list_all is_character (drawn_characters n (next_random words))) (drawn_is words)
    ∙ all_drawn n (next_random words)

drawn_is_code : (words : ℕ × ℕ) → IsCode (drawn_code words)
drawn_is_code words = record { long = refl; plus = refl; each = all_drawn 6 words }

pub new_is_undrawn : (t : Table) → length t.drawn < all_codes → is_some (drawn_by t (new_code t)) ≡ false
new_is_undrawn t few = undrawn_in_time t (drawn_code t.words) (drawn_is_code t.words) few

-- ---- no code is drawn twice

-- as long as no more were drawn than there are
abbrev IsOnce : Table → Type 0
IsOnce t = length t.drawn ≤ all_codes → NoneTwice t.drawn

once_same : (t u : Table) → u.servers ≡ t.servers → u.drawn ≡ t.drawn → IsOnce t → IsOnce u
once_same t u servers drawn own = subst (λ (ds : List Drawn). length ds ≤ all_codes → NoneTwice ds) (sym drawn) own

once_more : (drawn : List Drawn) (new : Drawn) → NoneTwice drawn → is_some (find (λ (d : Drawn). bytes_eq new.code d.code) drawn) ≡ false
    → NoneTwice (drawn ++ new ∷ [])
once_more drawn new once none code = by (bytes_eq code new.code) refl
  where
    p : Drawn → Bool
    p d = bytes_eq code d.code

    by : (b : Bool) → bytes_eq code new.code ≡ b → count_by p (drawn ++ new ∷ []) ≤ 1
    by true at =
        let here : code ≡ new.code = (bytes_eq-Decides code new.code).0 at in
        let zero : count_by p drawn ≡ 0 =
        none_counted p drawn (ap (λ (c : List ℕ). is_some (find (λ (d : Drawn). bytes_eq c d.code) drawn)) here ∙ none) in
        let one : cond {A = ℕ} (p new) 1 0 ≡ 1 = ap (λ (b : Bool). cond {A = ℕ} b 1 0) at in
        omega (arith, count_push p new drawn, zero, one)
    by false at =
        let none : cond {A = ℕ} (p new) 1 0 ≡ 0 = ap (λ (b : Bool). cond {A = ℕ} b 1 0) at in
        omega (arith, count_push p new drawn, none, once code)

once_registers : (t u : Table) → Registers t u → IsOnce t → IsOnce u
once_registers t u (inl k) own = subst (λ (ds : List Drawn). length ds ≤ all_codes → NoneTwice ds) (sym k.drawn) own
once_registers t u (inr (inl r)) own = subst (λ (ds : List Drawn). length ds ≤ all_codes → NoneTwice ds) (sym r.drawn) own
once_registers t u (inr (inr r)) own = λ few.
    let more : length u.drawn ≡ length t.drawn + 1 = ap length r.drawn ∙ length-append t.drawn (r.new ∷ []) in
    subst NoneTwice (sym r.drawn) (once_more t.drawn r.new (own (omega (arith, more, few)))
    (ap (λ (c : List ℕ). is_some (drawn_by t c)) r.is_new ∙ new_is_undrawn t (omega (arith, more, few))))

pub drawn_once : (s : GcSetup) (es : List Event) → length (table_of s es).drawn ≤ all_codes → NoneTwice (table_of s es).drawn
drawn_once s es few = carried_to s IsOnce (record { same = once_same; registers = once_registers }) (λ few code. omega arith) es few
