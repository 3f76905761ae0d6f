-- The hour script is a script.
use Rattle.std.proofs.Common.{◌≡◌, ℕ, zero, suc, ◌+◌, ◌*◌, ◌<◌, ◌≤◌, List, [], ◌∷◌, ◌++◌, length, map, Bool, true, false, cond, nat_lt}
use Rattle.std.proofs.Common.{inl, refl, sym, ap, subst, ◌∙◌, arith}
use Rattle.std.specs.Prelude.{◌^◌, ◌==◌, codes, sum_by, slice_index}
use Rattle.std.specs.List.{AllByRecursion, flat_map}
use Rattle.std.proofs.Math.Nat.{div-le_of_le-mul, mod-lt, mul-le-mul_left}
use Rattle.std.proofs.lemmas.List.{append-nil}
use Rattle.std.proofs.lemmas.List.Sums.{sum_by-append}
use Rattle.tt_frame.specs.Text.{is_plain}
use Rattle.tt_frame.specs.Packet.{IsBytes}
use Rattle.tt_frame.proofs.TextLaws.{IsText-from_is_plain, is_text-from_IsText}
use Rattle.tt_log.specs.Forms.{IsTextFrom, WordFits}
use Rattle.tt_log.specs.Orders.{order_words, IsOrder}
use Rattle.tt_log.specs.Lines.{IsLine, Holds, openings_of}
use Rattle.tt_log.specs.Steps.{step_text}
use Rattle.tt_log.specs.Script.{IsSteps, Spells, contents_of}
use Rattle.tt_log.specs.Printing.{IsTold, IsScript, script_text}
use Rattle.tt_log.specs.Written.{setting_text, line_text}
use Rattle.tt_log.proofs.PrintLists.{all_append}
use Rattle.tt_log.proofs.PrintLaws.{text_is, spelled_script, told_fits}
use Rattle.tt_hour.proofs.RoundLaws.{name_digit}
use Rattle.tt_log.specs.declared.script.line.Line1.{Line1}
use Rattle.tt_log.specs.declared.script.line.Line1.TheVariants.{Tick, Pump}
use Rattle.tt_log.specs.declared.script.setting.Setting.TheVariants.{Seed}
use Rattle.tt_log.specs.declared.script.step.Step.{Step}
use Rattle.tt_log.specs.declared.script.step.Step.TheVariants.{Set}
use Rattle.tt_world.specs.Random.{next_random, below}
use Rattle.tt_world.specs.Setup.{Fits}
use Rattle.tt_world.specs.declared.command.Command.{Command}
use Rattle.tt_hour.specs.Hour.{
  name_of,
  enter,
  pumps,
  client_of,
  loan,
  repayment,
  gift,
  sign,
  president,
  order_by,
  order_of,
  acting,
  turn,
  entered,
  entering,
  round,
  rounds,
  idle,
  closing,
  hour_lines,
  hour_setup,
  hour_script,
}

-- ---- values

-- what holds of both holds of either
either : {A : Type 0} (P : A → Type 0) (b : Bool) (x y : A) → P x → P y → P (cond b x y)
either P true x y one other = one
either P false x y one other = other

no_byte : (i : ℕ) → slice_index [] i < 256
no_byte i = omega arith

one_byte : (a : ℕ) → a < 256 → (i : ℕ) → slice_index (a ∷ []) i < 256
one_byte a small zero = small
one_byte a small (suc i) = no_byte i

two_bytes : (a b : ℕ) → a < 256 → b < 256 → (i : ℕ) → slice_index (a ∷ b ∷ []) i < 256
two_bytes a b one two zero = one
two_bytes a b one two (suc i) = one_byte b two i

plain_text : (least most : ℕ) (bytes : List ℕ) → IsBytes bytes → is_plain bytes ≡ true → least ≤ length bytes → length bytes ≤ most
    → IsTextFrom least most bytes
plain_text least most bytes are plain some few = record {
  bytes = are;
  some = some;
  text = is_text-from_IsText most bytes (IsText-from_is_plain bytes plain) few;
}

no_text : IsTextFrom 0 32 []
no_text = plain_text 0 32 [] no_byte refl (omega arith) (omega arith)

-- a draw below a limit, which is a number of 32 bits
below_limit : (words : ℕ × ℕ) (limit : ℕ) → below (next_random words) limit ≤ limit
below_limit words limit =
    let word : ℕ = (next_random words).1 in
    let small : word < 4294967296 = mod-lt _ (omega arith) in
    let le : word ≤ 4294967296 = omega (arith, small) in
    let product : limit * word ≤ limit * 4294967296 = mul-le-mul_left limit le in
    let over : word * limit ≤ 4294967296 * limit = omega (arith, product) in
    div-le_of_le-mul 4294967296 over

-- ---- lines

pump_fits : (k : ℕ) → k < 2 ^ 32 → IsLine (Pump k)
pump_fits k small = ((tt, ((omega arith, omega (arith, small), small), tt)), tt)

tick_fits : (n : ℕ) → 1 ≤ n → n ≤ 1000000 → IsLine (Tick n)
tick_fits n some few = ((tt, ((some, few, omega (arith, few)), tt)), tt)

pumps_fit : (k : ℕ) → k < 2 ^ 32 → AllByRecursion IsLine (pumps k)
pumps_fit zero small = tt
pumps_fit (suc k) small =
    let before : k < 2 ^ 32 = omega (arith, small) in
    all_append IsLine (pumps k) (Pump (suc k) ∷ []) (pumps_fit k before) (pump_fits (suc k) small, tt)

enter_fits : (k : ℕ) → k < 2 ^ 32 → IsTextFrom 1 24 (name_of k) → AllByRecursion IsLine (enter k)
enter_fits k small name =
    let pump = pump_fits k small in
    let tick = tick_fits 1 (omega arith) (omega arith) in (
      ((tt, (name, ((omega arith, omega arith, omega arith), (no_text, (no_text, tt))))), tt),
      (pump, (pump, (tick, (pump, (pump, (tick, tt)))))),
    )

name_fits : (k : ℕ) → k < 10 → is_plain (112 ∷ (48 + k) ∷ []) ≡ true → IsTextFrom 1 24 (name_of k)
name_fits k small plain =
    let digit : 48 + k < 256 = omega (arith, small) in
    subst (IsTextFrom 1 24) (name_digit k small) (plain_text 1 24 (112 ∷ (48 + k) ∷ []) (two_bytes 112 (48 + k) (omega arith) digit) plain
    (omega arith) (omega arith))

first_enters : AllByRecursion IsLine (enter 1)
first_enters = enter_fits 1 (omega arith) (name_fits 1 (omega arith) refl)

second_enters : AllByRecursion IsLine (enter 2)
second_enters = enter_fits 2 (omega arith) (name_fits 2 (omega arith) refl)

third_enters : AllByRecursion IsLine (enter 3)
third_enters = enter_fits 3 (omega arith) (name_fits 3 (omega arith) refl)

fourth_enters : AllByRecursion IsLine (enter 4)
fourth_enters = enter_fits 4 (omega arith) (name_fits 4 (omega arith) refl)

-- ---- orders

-- a command that a line can say
abbrev IsSaid : Command × (ℕ × ℕ) → Type 0
IsSaid drawn = AllByRecursion WordFits (order_words drawn.0) × IsOrder drawn.0

loan_said : (words : ℕ × ℕ) → IsSaid (loan words)
loan_said words = ((tt, ((omega arith, omega arith, omega arith), tt)), (refl, refl))

repayment_said : (words : ℕ × ℕ) → IsSaid (repayment words)
repayment_said words = ((tt, ((omega arith, omega arith, omega arith), tt)), (refl, refl))

gift_said : (words : ℕ × ℕ) → IsSaid (gift words)
gift_said words =
    let sum : below (next_random words) 1000 ≤ 1000 = below_limit words 1000 in
    let to : below (next_random (next_random words)) 3 ≤ 3 = below_limit (next_random words) 3 in (
      (
        tt,
        (
          (omega arith, omega (arith, sum), omega (arith, sum)),
          ((omega arith, omega (arith, to), omega (arith, to)), tt),
        ),
      ),
      refl,
    )

sign_said : (words : ℕ × ℕ) → IsSaid (sign words)
sign_said words =
    let tile : below (next_random words) 65536 ≤ 65536 = below_limit words 65536 in
    let text : IsTextFrom 0 31 (codes "s") =
    plain_text 0 31 (codes "s") (one_byte 115 (omega arith)) refl (omega arith) (omega arith) in
    ((tt, ((omega arith, omega (arith, tile), omega (arith, tile)), (text, tt))), refl)

president_said : (words : ℕ × ℕ) → IsSaid (president words)
president_said words =
    let text : IsTextFrom 0 31 (codes "p") =
    plain_text 0 31 (codes "p") (one_byte 112 (omega arith)) refl (omega arith) (omega arith) in
    ((tt, (text, tt)), (refl, refl))

by_said : (kind : ℕ) (words : ℕ × ℕ) → IsSaid (order_by kind words)
by_said kind words =
    either IsSaid (kind == 0) (loan words) _ (loan_said words) (either IsSaid (kind == 1) (repayment words) _ (repayment_said words) (either
    IsSaid (kind == 2) (gift words) _ (gift_said words) (either IsSaid (kind == 3) (sign words) (president words) (sign_said words)
    (president_said words))))

order_said : (words : ℕ × ℕ) → IsSaid (order_of words)
unfolding order_of
order_said words =
    let kind : ℕ × ℕ = next_random (next_random words) in
    by_said (below kind 5) kind

-- ---- rounds

acting_fits : (client : ℕ) (drawn : Command × (ℕ × ℕ)) → client < 2 ^ 32 → IsSaid drawn → AllByRecursion IsLine (acting client drawn.0)
acting_fits client drawn small said =
    let number : (0 ≤ client) × (client ≤ 4294967295) × (client < 2 ^ 32) = (omega arith, omega (arith, small), small) in (
      ((tt, (number, said.0)), said.1),
      (
        ((tt, (number, ((omega arith, omega arith, omega arith), tt))), tt),
        (tick_fits 59 (omega arith) (omega arith), tt),
      ),
    )

turn_fits : (there : ℕ) (words : ℕ × ℕ) → there < 2 ^ 32 → AllByRecursion IsLine (turn there (client_of words) (order_of words).0)
turn_fits there words small =
    let limit : below (next_random words) 3 ≤ 3 = below_limit words 3 in
    let client : client_of words < 2 ^ 32 = omega (arith, limit) in
    all_append IsLine (pumps there) (acting (client_of words) (order_of words).0) (pumps_fit there small)
    (acting_fits (client_of words) (order_of words) client (order_said words))

round_fits : (r : ℕ) (words : ℕ × ℕ) → AllByRecursion IsLine (round r words)
round_fits r words =
    let few : entered r < 2 ^ 32 = either (λ (n : ℕ). n < 2 ^ 32) (nat_lt r 1000) 3 4 (omega arith) (omega arith) in
    let coming : AllByRecursion IsLine (entering r) =
    either (AllByRecursion IsLine) (r == 1000) (enter 4) [] fourth_enters tt in
    all_append IsLine (entering r) (turn (entered r) (client_of words) (order_of words).0) coming (turn_fits (entered r) words few)

rounds_fit : (more r : ℕ) (words : ℕ × ℕ) → AllByRecursion IsLine (rounds more r words)
unfolding rounds
rounds_fit zero r words = tt
rounds_fit (suc more) r words =
    all_append IsLine (round r words) (rounds more (suc r) (order_of words).1) (round_fits r words)
    (rounds_fit more (suc r) (order_of words).1)

idle_fits : (n : ℕ) → 1 ≤ n → n ≤ 1000000 → AllByRecursion IsLine (idle n)
idle_fits n some few = (tick_fits n some few, pumps_fit 4 (omega arith))

closing_fits : (n : ℕ) → AllByRecursion IsLine (closing n)
unfolding closing
closing_fits zero = idle_fits 12 (omega arith) (omega arith)
closing_fits (suc n) = all_append IsLine (idle 60) (closing n) (idle_fits 60 (omega arith) (omega arith)) (closing_fits n)

pub lines_fit : (n : ℕ) → AllByRecursion IsLine (hour_lines n)
unfolding hour_lines
lines_fit n =
    let out : AllByRecursion IsLine (rounds 2000 0 (n, n) ++ closing 33) =
    all_append IsLine (rounds 2000 0 (n, n)) (closing 33) (rounds_fit 2000 0 (n, n)) (closing_fits 33) in
    all_append IsLine (enter 1 ++ enter 2 ++ enter 3) (rounds 2000 0 (n, n) ++ closing 33) (all_append IsLine (enter 1 ++ enter 2) (enter 3)
    (all_append IsLine (enter 1) (enter 2) first_enters second_enters) third_enters) out

-- a line can be printed
pub lines_hold : (lines : List Line1) → AllByRecursion IsLine lines → AllByRecursion Holds lines
lines_hold [] fit = tt
lines_hold (line ∷ lines) fit = (fit.0.1, lines_hold lines fit.1)

-- ---- openings

pumps_open : (k : ℕ) → sum_by openings_of (pumps k) ≡ 0
pumps_open zero = refl
pumps_open (suc k) =
    let none : sum_by openings_of (Pump (suc k) ∷ []) ≡ 0 = refl in
    omega (arith, sum_by-append openings_of (pumps k) (Pump (suc k) ∷ []), pumps_open k, none)

turn_opens : (there client : ℕ) (told : Command) → sum_by openings_of (turn there client told) ≡ 0
turn_opens there client told =
    let none : sum_by openings_of (acting client told) ≡ 0 = refl in
    omega (arith, sum_by-append openings_of (pumps there) (acting client told), pumps_open there, none)

round_opens : (r : ℕ) (words : ℕ × ℕ) → sum_by openings_of (round r words) ≤ 1
round_opens r words =
    let told : Command = (order_of words).0 in
    let acts : List Line1 = turn (entered r) (client_of words) told in
    let one : sum_by openings_of (enter 4) ≤ 1 = omega arith in
    let none : sum_by openings_of [] ≤ 1 = omega arith in
    let coming : sum_by openings_of (entering r) ≤ 1 =
    either (λ (l : List Line1). sum_by openings_of l ≤ 1) (r == 1000) (enter 4) [] one none in
    omega (arith, sum_by-append openings_of (entering r) acts, coming, turn_opens (entered r) (client_of words) told)

rounds_open : (more r : ℕ) (words : ℕ × ℕ) → sum_by openings_of (rounds more r words) ≤ more
unfolding rounds
rounds_open zero r words = omega arith
rounds_open (suc more) r words =
    let rest : List Line1 = rounds more (suc r) (order_of words).1 in
    omega (arith, sum_by-append openings_of (round r words) rest, round_opens r words, rounds_open more (suc r) (order_of words).1)

closing_opens : (n : ℕ) → sum_by openings_of (closing n) ≡ 0
unfolding closing
closing_opens zero = refl
closing_opens (suc n) =
    let none : sum_by openings_of (idle 60) ≡ 0 = refl in
    omega (arith, sum_by-append openings_of (idle 60) (closing n), none, closing_opens n)

lines_open : (n : ℕ) → sum_by openings_of (hour_lines n) ≤ 65535
unfolding hour_lines
lines_open n =
    let front : List Line1 = enter 1 ++ enter 2 ++ enter 3 in
    let out : List Line1 = rounds 2000 0 (n, n) ++ closing 33 in
    let three : sum_by openings_of front ≡ 3 = refl in
    omega (
      arith,
      three,
      sum_by-append openings_of front out,
      sum_by-append openings_of (rounds 2000 0 (n, n)) (closing 33),
      rounds_open 2000
          0 (n, n),
      closing_opens 33,
    )

-- ---- the script

seed_told : (n : ℕ) → n < 2 ^ 32 → IsTold (hour_setup n)
seed_told n small =
    let steps : List Step = Set (Seed n) ∷ [] in
    let is : IsSteps steps = record {
      each = ((tt, ((omega arith, omega (arith, small), small), tt)), tt);
      order = (tt, tt);
      openings = omega arith;
    } in
    let spells : Spells (contents_of steps) (map step_text steps) = record { steps = steps; is = is; text = refl; makes = refl } in
    (spelled_script (contents_of steps) (map step_text steps) spells).setup

pub hour_is : (n : ℕ) → n < 2 ^ 32 → IsScript (hour_script n)
hour_is n small = record { setup = seed_told n small; map = inl refl; lines = lines_fit n; openings = lines_open n }

-- the setup is in its ranges
pub hour_fits : (n : ℕ) → n < 2 ^ 32 → Fits (hour_setup n)
hour_fits n small = told_fits (hour_setup n) (seed_told n small)

-- ---- the text

-- the line of the seed, unless it is 0, and the other lines
pub hour_text : (n : ℕ) → setting_text (Seed n) ++ flat_map line_text (hour_lines n) ≡ script_text (hour_script n)
hour_text n =
    let seed : List ℕ = setting_text (Seed n) in
    let alone : seed ++ [] ++ [] ≡ seed = append-nil (seed ++ []) ∙ append-nil seed in
    ap (λ (t : List ℕ). t ++ flat_map line_text (hour_lines n)) (sym alone) ∙ text_is (hour_setup n) [] (hour_lines n)
