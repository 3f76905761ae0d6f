-- The command file of an admin: its lines, one thing to say or to wait for each.
use Rattle.std.specs.Prelude.{◌≡◌, ℕ, List, [], ◌∷◌, map, codes}
use Rattle.std.specs.List.{AllByRecursion}
use Rattle.tt_log.specs.Forms.{Word, word, named, number, text, WordFits, parted}
use Rattle.tt_log.specs.Lines.{any}
use Rattle.tt_admin_file.specs.declared.command.Command.{Command}
use Rattle.tt_admin_file.specs.declared.command.Command.TheVariants.{Ping, Update, Poll, Chat, Rcon, Wait, Quit}

-- The words of a line. A number or a text has the range of the field that it is sent in.
abbrev pub line_words : Command → List Word
line_words (Ping id) = named (codes "ping") ∷ word any id ∷ []
line_words (Update kind bits) = named (codes "update") ∷ word (number 0 65535) kind ∷ word (number 0 65535) bits ∷ []
line_words (Poll kind id) = named (codes "poll") ∷ word (number 0 255) kind ∷ word any id ∷ []
line_words (Chat content) = named (codes "chat") ∷ word (text 0 899) content ∷ []
line_words (Rcon content) = named (codes "rcon") ∷ word (text 0 899) content ∷ []
line_words (Wait ticks) = named (codes "wait") ∷ word any ticks ∷ []
line_words Quit = named (codes "quit") ∷ []

-- a line's bytes, without its line feed
abbrev pub line_text : Command → List ℕ
line_text line = parted (line_words line)

-- each value in its range
abbrev pub IsLine : Command → Type 0
IsLine line = AllByRecursion WordFits (line_words line)

-- the texts are these lines
pub record Spells (lines : List Command) (texts : List (List ℕ)) : Type 0 where
  pub each : AllByRecursion IsLine lines
  pub text : texts ≡ map line_text lines

-- the lines of an input are a command file
abbrev pub IsFile : List (List ℕ) → Type 0
IsFile texts = (lines : List Command) × Spells lines texts
