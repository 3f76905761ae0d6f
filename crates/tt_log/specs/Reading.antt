-- The tables by which lines are read: the word that a line is known by, the forms of the words behind it, and what they make.
use Rattle.std.specs.Prelude.{ℕ, List, [], ◌∷◌, codes, Option}
use Rattle.tt_log.specs.Forms.{number, text, hex, saved, key}
use Rattle.tt_log.specs.Lines.{any}
use Rattle.tt_log.specs.Rows.{Row, Branch, ◌▸◌, end, all, row, pick, row_at}
use Rattle.tt_log.specs.declared.script.line.Line1.TheVariants.{Open, Side, Bytes, Shut, Tick, Stop, Join, Up, Down, Run, Pump, Do, Forge}
use Rattle.tt_log.specs.declared.script.line.Line1.TheVariants.{Expect}
use Rattle.tt_log.specs.declared.script.setting.Setting.TheVariants.{Seed, FrameFreq, SyncFreq, Clients, Init, PassLimit, Download}
use Rattle.tt_log.specs.declared.script.setting.Setting.TheVariants.{Join as JoinLimit, Lag, Cost, Pw, Admin}
use Rattle.tt_log.specs.declared.script.step.Step.{Step}
use Rattle.tt_log.specs.declared.script.step.Step.TheVariants.{Set, Saved, Line}
use Rattle.tt_world.specs.declared.command.Code.{Code}
use Rattle.tt_world.specs.declared.command.Code.TheVariants.{IncreaseLoan, DecreaseLoan, Give, PlaceSign, RenameSign, RenameCompany}
use Rattle.tt_world.specs.declared.command.Code.TheVariants.{RenamePresident}

-- behind `set`
abbrev pub settings : List (Branch Step)
settings =
    row (codes "seed") (number 0 4294967295 ▸ λ n. end (Set (Seed n)))
    ∷ row (codes "frame_freq") (number 0 64 ▸ λ n. end (Set (FrameFreq n)))
    ∷ row (codes "sync_freq") (number 1 1000 ▸ λ n. end (Set (SyncFreq n)))
    ∷ row (codes "clients") (number 1 255 ▸ λ n. end (Set (Clients n)))
    ∷ row (codes "init") (number 1 65535 ▸ λ n. end (Set (Init n)))
    ∷ row (codes "password") (number 1 65535 ▸ λ n. end (Set (PassLimit n)))
    ∷ row (codes "download") (number 1 65535 ▸ λ n. end (Set (Download n)))
    ∷ row (codes "join") (number 1 65535 ▸ λ n. end (Set (JoinLimit n)))
    ∷ row (codes "lag") (number 1 65535 ▸ λ n. end (Set (Lag n)))
    ∷ row (codes "cost") (number 64 1073741824 ▸ λ n. end (Set (Cost n)))
    ∷ row (codes "pw") (text 0 32 ▸ λ bytes. end (Set (Pw bytes)))
    ∷ row (codes "admin") (text 0 32 ▸ λ bytes. end (Set (Admin bytes)))
    ∷ row (codes "map") (saved ▸ λ map. end (Saved map))
    ∷ []

-- a line that tells a client what to do
abbrev pub order : ℕ → Code → ℕ → ℕ → List ℕ → Row Step
order conn code n to bytes = end (Line (Do conn (record { code = code; number = n; to = to; text = bytes })))

-- a sum of money
abbrev pub money : ℕ → Code → Row Step
money conn code = any ▸ λ n. order conn code n 0 []

-- a sum of money and who gets it
abbrev pub giving : ℕ → Row Step
giving conn = any ▸ λ n. number 0 255 ▸ λ to. order conn Give n to []

-- a sign's tile or id, and what it says
abbrev pub placing : ℕ → Code → Row Step
placing conn code = any ▸ λ n. text 0 31 ▸ λ content. order conn code n 0 content

-- a name
abbrev pub naming : ℕ → Code → Row Step
naming conn code = text 0 31 ▸ λ content. order conn code 0 0 content

-- behind `do C`
abbrev pub orders : ℕ → List (Branch Step)
orders conn =
    row (codes "loan") (money conn IncreaseLoan)
    ∷ row (codes "repay") (money conn DecreaseLoan)
    ∷ row (codes "give") (giving conn)
    ∷ row (codes "sign") (placing conn PlaceSign)
    ∷ row (codes "resign") (placing conn RenameSign)
    ∷ row (codes "company") (naming conn RenameCompany)
    ∷ row (codes "president") (naming conn RenamePresident)
    ∷ []

-- a setting
abbrev pub sets : Row Step
sets = key ▸ λ word. pick settings word

-- a piece of a connection, and bytes that are forged for a client
abbrev pub pieces : Row Step
pieces = any ▸ λ conn. hex ▸ λ piece. end (Line (Bytes conn piece))

abbrev pub forges : Row Step
forges = any ▸ λ conn. hex ▸ λ piece. end (Line (Forge conn piece))

-- the events besides pieces
abbrev pub shuts : Row Step
shuts = any ▸ λ conn. end (Line (Shut conn))

abbrev pub ticks : Row Step
ticks = number 1 1000000 ▸ λ n. end (Line (Tick n))

-- a client that joins
abbrev pub joins : Row Step
joins =
    text 1 24 ▸ λ name. number 0 255 ▸ λ company. text 0 32 ▸ λ password. text 0 32 ▸ λ other.
    end (Line (Join name company password other))

-- what goes on between a client and its connection
abbrev pub ups : Row Step
ups = any ▸ λ conn. any ▸ λ n. end (Line (Up conn n))

abbrev pub downs : Row Step
downs = any ▸ λ conn. any ▸ λ n. end (Line (Down conn n))

abbrev pub runs : Row Step
runs = any ▸ λ conn. any ▸ λ n. end (Line (Run conn n))

abbrev pub pumps : Row Step
pumps = any ▸ λ conn. end (Line (Pump conn))

-- what a client is told to do
abbrev pub acts : Row Step
acts = any ▸ λ conn. key ▸ λ word. pick (orders conn) word

-- an expected line
abbrev pub expects : Row Step
expects = all (λ content. Line (Expect content))

-- the lines
abbrev pub lines : List (Branch Step)
lines =
    row (codes "set") sets
    ∷ row (codes "open") (end (Line Open))
    ∷ row (codes "side") (end (Line Side))
    ∷ row (codes "bytes") pieces
    ∷ row (codes "shut") shuts
    ∷ row (codes "tick") ticks
    ∷ row (codes "stop") (end (Line Stop))
    ∷ row (codes "join") joins
    ∷ row (codes "up") ups
    ∷ row (codes "down") downs
    ∷ row (codes "run") runs
    ∷ row (codes "pump") pumps
    ∷ row (codes "do") acts
    ∷ row (codes "forge") forges
    ∷ row (codes "=") expects
    ∷ []

-- what a line without its line feed gives
abbrev pub step_at : List ℕ → Option Step
step_at line = row_at (key ▸ λ word. pick lines word) (32 ∷ line)
