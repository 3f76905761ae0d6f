-- The hour script: a game of an hour with four clients, made from a number alone.
use Rattle.std.specs.Prelude.{ℕ, zero, suc, ◌+◌, ◌==◌, nat_lt, List, [], ◌∷◌, ◌++◌, codes, if◌then◌else◌}
use Rattle.std.specs.Fmt.{decimal}
use Rattle.tt_log.specs.Contents.{Contents}
use Rattle.tt_log.specs.declared.script.line.Line1.{Line1}
use Rattle.tt_log.specs.declared.script.line.Line1.TheVariants.{Tick, Join, Up, Pump, Do}
use Rattle.tt_world.specs.Random.{next_random, below}
use Rattle.tt_world.specs.Setup.{plain}
use Rattle.tt_world.specs.declared.command.Code.{Code}
use Rattle.tt_world.specs.declared.command.Code.TheVariants.{IncreaseLoan, DecreaseLoan, Give, PlaceSign, RenamePresident}
use Rattle.tt_world.specs.declared.command.Command.{Command}
use Rattle.tt_world.specs.declared.setup.Setup.{Setup}

-- ---- a client enters

-- a client's name is `p` and its number
abbrev pub name_of : ℕ → List ℕ
name_of k = codes "p" ++ decimal k

-- Client k comes for a company of its own, without passwords: it asks for the map, loads it, and plays.
abbrev pub enter : ℕ → List Line1
enter k = Join (name_of k) 254 [] [] ∷ Pump k ∷ Pump k ∷ Tick 1 ∷ Pump k ∷ Pump k ∷ Tick 1 ∷ []

-- clients 1 to k are pumped, in rising order
abbrev pub pumps : ℕ → List Line1
pumps zero = []
pumps (suc k) = pumps k ++ Pump (suc k) ∷ []

-- ---- what is drawn for a round

-- The first draw of a round is the client that acts, one of the first three.
abbrev pub client_of : ℕ × ℕ → ℕ
client_of words = 1 + below (next_random words) 3

-- a command
abbrev pub command : Code → ℕ → ℕ → List ℕ → Command
command code n to text = record { code = code; number = n; to = to; text = text }

-- A command and the words behind all draws for it, from the words before these: a loan and its paying back take no draw, a
-- gift draws its sum and who gets it, a sign its tile, and a president's name takes no draw.
abbrev pub loan : ℕ × ℕ → Command × (ℕ × ℕ)
loan words = (command IncreaseLoan 10000 0 [], words)

abbrev pub repayment : ℕ × ℕ → Command × (ℕ × ℕ)
repayment words = (command DecreaseLoan 10000 0 [], words)

abbrev pub gift : ℕ × ℕ → Command × (ℕ × ℕ)
gift words = let sum = next_random words in let receiver = next_random sum in
    (command Give (1 + below sum 1000) (below receiver 3) [], receiver)

abbrev pub sign : ℕ × ℕ → Command × (ℕ × ℕ)
sign words = let tile = next_random words in (command PlaceSign (below tile 65536) 0 (codes "s"), tile)

abbrev pub president : ℕ × ℕ → Command × (ℕ × ℕ)
president words = (command RenamePresident 0 0 (codes "p"), words)

-- which of the five it is, by a number below 5
abbrev pub order_by : ℕ → ℕ × ℕ → Command × (ℕ × ℕ)
order_by kind words =
    if kind == 0 then loan words else if kind == 1 then repayment words else if kind == 2 then gift words
    else if kind == 3 then sign words else president words

-- The second draw of a round is which command the client is told; what that one takes is drawn behind it.
unfoldable pub order_of : ℕ × ℕ → Command × (ℕ × ℕ)
order_of words = let kind = next_random (next_random words) in order_by (below kind 5) kind

-- ---- a round

-- as many bytes as there are
abbrev pub all : ℕ
all = 4294967295

-- a client is told a command and says it, and 59 frames go by
abbrev pub acting : ℕ → Command → List Line1
acting client told = Do client told ∷ Up client all ∷ Tick 59 ∷ []

-- so many clients are pumped, and one of the first three acts
abbrev pub turn : ℕ → ℕ → Command → List Line1
turn there client told = pumps there ++ acting client told

-- how many clients have entered when it is round r: the fourth one enters at the beginning of round 1,000
abbrev pub entered : ℕ → ℕ
entered r = if nat_lt r 1000 then 3 else 4

abbrev pub entering : ℕ → List Line1
entering r = if r == 1000 then enter 4 else []

-- round r, by the words before it
abbrev pub round : ℕ → ℕ × ℕ → List Line1
round r words = entering r ++ turn (entered r) (client_of words) (order_of words).0

-- so many rounds from round r on, each with the words behind the one before
unfoldable pub rounds : ℕ → ℕ → ℕ × ℕ → List Line1
rounds zero r words = []
rounds (suc more) r words = round r words ++ rounds more (suc r) (order_of words).1

-- ---- the end

-- so many frames go by, and all four clients are pumped
abbrev pub idle : ℕ → List Line1
idle ticks = Tick ticks ∷ pumps 4

-- so often 60 frames, and then 12
unfoldable pub closing : ℕ → List Line1
closing zero = idle 12
closing (suc n) = idle 60 ++ closing n

-- ---- the whole

-- Three clients enter, 2,000 rounds are played, and the hour goes out: 120,000 frames. All draws come from one generator,
-- which starts from the number.
unfoldable pub hour_lines : ℕ → List Line1
hour_lines n = enter 1 ++ enter 2 ++ enter 3 ++ (rounds 2000 0 (n, n) ++ closing 33)

-- the setup of that game: the plain one, but for the seed
abbrev pub hour_setup : ℕ → Setup
hour_setup n = record plain { seed = n }

abbrev pub hour_script : ℕ → Contents
hour_script n = record { setup = hour_setup n; saved = []; lines = hour_lines n }
