-- What is left of the hour script behind some of its lines.
use Rattle.std.specs.Prelude.{ℕ, zero, suc, ◌-◌, List, [], ◌++◌, codes, drop}
use Rattle.tt_hour.specs.Hour.{enter, turn, entered, idle, closing, rounds, client_of, order_of, command}
use Rattle.tt_hour.specs.declared.player.Player.{Player}
use Rattle.tt_hour.specs.declared.player.Player.TheVariants.{First, Second, Third, Fourth}
use Rattle.tt_hour.specs.declared.turn.Order.{Order}
use Rattle.tt_hour.specs.declared.turn.Order.TheVariants.{Borrow, Repay, Give as Gives, Sign, Name}
use Rattle.tt_hour.specs.declared.part.Part.{Part}
use Rattle.tt_hour.specs.declared.part.Part.TheVariants.{Enter, Round, Idle, Over}
use Rattle.tt_log.specs.declared.script.line.Line1.{Line1}
use Rattle.tt_world.specs.declared.command.Code.TheVariants.{IncreaseLoan, DecreaseLoan, Give, PlaceSign, RenamePresident}
use Rattle.tt_world.specs.declared.command.Command.{Command}

-- a client's number
abbrev pub number_of : Player → ℕ
number_of First = 1
number_of Second = 2
number_of Third = 3
number_of Fourth = 4

-- the command of an order
abbrev pub command_of : Order → Command
command_of Borrow = command IncreaseLoan 10000 0 []
command_of Repay = command DecreaseLoan 10000 0 []
command_of (Gives sum to) = command Give sum to []
command_of (Sign tile) = command PlaceSign tile 0 (codes "s")
command_of Name = command RenamePresident 0 0 (codes "p")

-- the frames that go by while nobody acts, where so many times 60 are still to come
abbrev pub idle_ticks : ℕ → ℕ
idle_ticks zero = 12
idle_ticks (suc n) = 60

-- the lines of a part
abbrev pub lines_of : Part → List Line1
lines_of (Enter player) = enter (number_of player)
lines_of (Round r drawn) = turn (entered r) drawn.client (command_of drawn.order)
lines_of (Idle n) = idle (idle_ticks n)
lines_of Over = []

-- so many rounds more, and the end
abbrev pub played_out : ℕ → ℕ → ℕ × ℕ → List Line1
played_out more r words = rounds more r words ++ closing 33

-- what stands behind a client's entering: the last one enters in round 1,000
abbrev pub behind_entering : Player → ℕ × ℕ → List Line1
behind_entering First words = enter 2 ++ enter 3 ++ played_out 2000 0 words
behind_entering Second words = enter 3 ++ played_out 2000 0 words
behind_entering Third words = played_out 2000 0 words
behind_entering Fourth words = turn 4 (client_of words) (order_of words).0 ++ played_out 999 1001 (order_of words).1

-- what stands behind a while in which nobody acts
abbrev pub behind_idle : ℕ → List Line1
behind_idle zero = []
behind_idle (suc n) = closing n

-- what stands behind a part, by the words behind its draws
abbrev pub behind : Part → ℕ × ℕ → List Line1
behind (Enter player) words = behind_entering player words
behind (Round r drawn) words = played_out (1999 - r) (suc r) words
behind (Idle n) words = behind_idle n
behind Over words = []

-- what is left where so many lines of a part were given
unfoldable pub left : Part → ℕ → ℕ × ℕ → List Line1
left part at words = drop at (lines_of part) ++ behind part words
