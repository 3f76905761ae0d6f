-- The parts of the hour, one behind the other.
use Rattle.std.proofs.Common.{◌≡◌, ◌≢◌, ℕ, zero, suc, ◌+◌, ◌-◌, ◌<◌, List, [], ◌∷◌, ◌++◌, refl, sym, ap, ap₂, ◌∙◌, arith}
use Rattle.std.proofs.Common.{Some, None, nat_lt}
use Rattle.std.proofs.lemmas.Bool.{ne_eqb}
use Rattle.std.specs.List.{slice_get}
use Rattle.tt_hour.specs.Hour.{acting, client_of, order_of, closing, hour_lines}
use Rattle.tt_hour.specs.Left.{command_of, lines_of, played_out, behind_idle, behind, left}
use Rattle.tt_hour.proofs.ListLaws.{drop_first, drop_past}
use Rattle.tt_hour.proofs.RoundLaws.{plain_round, late_round, late_turn, all_played, round_starts}
use Rattle.tt_hour.specs.declared.player.Player.TheVariants.{First, Fourth}
use Rattle.tt_hour.specs.declared.turn.Turn.{Turn}
use Rattle.tt_hour.specs.declared.part.Part.{Part}
use Rattle.tt_hour.specs.declared.part.Part.TheVariants.{Enter, Round, Idle, Over}
use Rattle.tt_log.specs.declared.script.line.Line1.{Line1}

-- ---- which part follows

-- so it was drawn by the words before it
pub record IsDrawn (drawn : Turn) (words after : ℕ × ℕ) : Type 0 where
  pub client : drawn.client ≡ client_of words
  pub order : command_of drawn.order ≡ (order_of words).0
  pub rest : after ≡ (order_of words).1

-- a round
pub to_round : (more r n : ℕ) (drawn : Turn) (words after : ℕ × ℕ) → more + r ≡ 2000 → r < 2000 → n ≡ r → n ≢ 1000
    → IsDrawn drawn words after → played_out more r words ≡ lines_of (Round n drawn) ++ behind (Round n drawn) after
to_round more r n drawn words after sum lt same other is =
    let all : more ≡ suc (1999 - n) = omega (arith, sum, lt, same) in
    ap₂ (λ (m k : ℕ). played_out m k words) all (sym same)
    ∙ plain_round (1999 - n) n drawn.client (command_of drawn.order) words after (ne_eqb n 1000 other) is.client is.order is.rest

-- the last client's entering
pub to_late : (more r : ℕ) (words : ℕ × ℕ) → more ≡ 1000 → r ≡ 1000
    → played_out more r words ≡ lines_of (Enter Fourth) ++ behind (Enter Fourth) words
to_late more r words all late = ap₂ (λ (m k : ℕ). played_out m k words) all late ∙ late_round words

-- the round in which it entered
pub to_late_turn : (drawn : Turn) (words after : ℕ × ℕ) → IsDrawn drawn words after
    → behind (Enter Fourth) words ≡ lines_of (Round 1000 drawn) ++ behind (Round 1000 drawn) after
to_late_turn drawn words after is = late_turn drawn.client (command_of drawn.order) words after is.client is.order is.rest

-- the end
pub to_idle : (more r : ℕ) (words after : ℕ × ℕ) → more ≡ 0 → played_out more r words ≡ lines_of (Idle 33) ++ behind (Idle 33) after
to_idle more r words after none = ap (λ (m : ℕ). played_out m r words) none ∙ all_played r words

closing_is : (n : ℕ) (words : ℕ × ℕ) → closing n ≡ lines_of (Idle n) ++ behind (Idle n) words
unfolding closing
closing_is zero words = refl
closing_is (suc n) words = refl

pub less_idle : (n : ℕ) (words : ℕ × ℕ) → n ≢ 0 → behind_idle n ≡ lines_of (Idle (n - 1)) ++ behind (Idle (n - 1)) words
less_idle zero words some = absurd (some refl)
less_idle (suc n) words some =
    let one : n ≡ suc n - 1 = omega arith in
    ap closing one ∙ closing_is (suc n - 1) words

-- ---- what is left

pub start_left : (n : ℕ) → left (Enter First) 0 (n, n) ≡ hour_lines n
unfolding left hour_lines
start_left n = refl

-- a line is given
pub line_given : (part : Part) (at : ℕ) (words : ℕ × ℕ) (line : Line1) → slice_get (lines_of part) at ≡ Some line
    → left part at words ≡ line ∷ left part (at + 1) words
unfolding left
line_given part at words line found = ap (λ (l : List Line1). l ++ behind part words) (drop_first (lines_of part) at line found)

-- a part has no line more
part_given : (part : Part) (at : ℕ) (words : ℕ × ℕ) → slice_get (lines_of part) at ≡ None → left part at words ≡ behind part words
unfolding left
part_given part at words none = ap (λ (l : List Line1). l ++ behind part words) (drop_past (lines_of part) at none)

-- the next part is begun
pub part_begun : (part next : Part) (at : ℕ) (words after : ℕ × ℕ) → slice_get (lines_of part) at ≡ None
    → behind part words ≡ lines_of next ++ behind next after → left part at words ≡ left next 0 after
unfolding left
part_begun part next at words after none follows = part_given part at words none ∙ follows

-- nothing is left where the part that is begun has no line
pub nothing_left : (part : Part) (words : ℕ × ℕ) → slice_get (lines_of part) 0 ≡ None → left part 0 words ≡ []
unfolding left
nothing_left (Enter player) words none = absurd cc
nothing_left (Round r drawn) words none = absurd (round_starts (nat_lt r 1000) (acting drawn.client (command_of drawn.order)) none)
nothing_left (Idle n) words none = absurd cc
nothing_left Over words none = refl
