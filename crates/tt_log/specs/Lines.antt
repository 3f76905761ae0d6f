-- The table of lines: the words of each.
use Rattle.std.specs.Prelude.{ℕ, List, [], ◌∷◌, codes}
use Rattle.std.specs.List.{AllByRecursion}
use Rattle.tt_log.specs.Forms.{Form, Word, word, named, rest, number, text, hex, WordFits}
use Rattle.tt_log.specs.Orders.{order_words, IsOrder}
use Rattle.tt_log.specs.declared.script.line.Line1.{Line1}
use Rattle.tt_log.specs.declared.script.line.Line1.TheVariants.{Open, Side, Bytes, Shut, Tick, Stop, Join, Up, Down, Run, Pump, Do, Forge}
use Rattle.tt_log.specs.declared.script.line.Line1.TheVariants.{Expect}

-- any number of 32 bits
abbrev pub any : Form
any = number 0 4294967295

-- the words of a line
abbrev pub line_words : Line1 → List Word
line_words Open = named (codes "open") ∷ []
line_words Side = named (codes "side") ∷ []
line_words (Bytes conn piece) = named (codes "bytes") ∷ word any conn ∷ word hex piece ∷ []
line_words (Shut conn) = named (codes "shut") ∷ word any conn ∷ []
line_words (Tick n) = named (codes "tick") ∷ word (number 1 1000000) n ∷ []
line_words Stop = named (codes "stop") ∷ []
line_words (Join name company password other) =
    named (codes "join") ∷ word (text 1 24) name ∷ word (number 0 255) company ∷ word (text 0 32) password ∷ word (text 0 32) other ∷ []
line_words (Up conn n) = named (codes "up") ∷ word any conn ∷ word any n ∷ []
line_words (Down conn n) = named (codes "down") ∷ word any conn ∷ word any n ∷ []
line_words (Run conn n) = named (codes "run") ∷ word any conn ∷ word any n ∷ []
line_words (Pump conn) = named (codes "pump") ∷ word any conn ∷ []
line_words (Do conn command) = named (codes "do") ∷ word any conn ∷ order_words command
line_words (Forge conn piece) = named (codes "forge") ∷ word any conn ∷ word hex piece ∷ []
line_words (Expect bytes) = named (codes "=") ∷ rest bytes ∷ []

-- what a line may hold besides its words
abbrev pub Holds : Line1 → Type 0
Holds (Do conn command) = IsOrder command
Holds line = Unit {0}

-- a line whose values are in their ranges
abbrev pub IsLine : Line1 → Type 0
IsLine line = AllByRecursion WordFits (line_words line) × Holds line

-- how many connections a line opens
abbrev pub openings_of : Line1 → ℕ
openings_of Open = 1
openings_of Side = 1
openings_of (Join name company password other) = 1
openings_of line = 0
