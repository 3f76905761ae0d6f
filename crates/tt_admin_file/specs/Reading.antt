-- The table by which lines are read: the word that a line is known by, the forms of the words behind it, and what they make.
use Rattle.std.specs.Prelude.{ℕ, List, [], ◌∷◌, codes, Option}
use Rattle.tt_log.specs.Forms.{number, text, key}
use Rattle.tt_log.specs.Lines.{any}
use Rattle.tt_log.specs.Rows.{Row, Branch, ◌▸◌, end, row, pick, row_at}
use Rattle.tt_admin_file.specs.declared.command.Command.{Command}
use Rattle.tt_admin_file.specs.declared.command.Command.TheVariants.{Ping, Update, Poll, Chat, Rcon, Wait, Quit}

-- what stands behind each word
abbrev pub pings : Row Command
pings = any ▸ λ id. end (Ping id)

abbrev pub updates : Row Command
updates = number 0 65535 ▸ λ kind. number 0 65535 ▸ λ bits. end (Update kind bits)

abbrev pub polls : Row Command
polls = number 0 255 ▸ λ kind. any ▸ λ id. end (Poll kind id)

abbrev pub chats : Row Command
chats = text 0 899 ▸ λ content. end (Chat content)

abbrev pub rcons : Row Command
rcons = text 0 899 ▸ λ content. end (Rcon content)

abbrev pub waits : Row Command
waits = any ▸ λ ticks. end (Wait ticks)

-- the lines
abbrev pub lines : List (Branch Command)
lines =
    row (codes "ping") pings
    ∷ row (codes "update") updates
    ∷ row (codes "poll") polls
    ∷ row (codes "chat") chats
    ∷ row (codes "rcon") rcons
    ∷ row (codes "wait") waits
    ∷ row (codes "quit") (end Quit)
    ∷ []

-- what a line without its line feed gives
abbrev pub line_at : List ℕ → Option Command
line_at line = row_at (key ▸ λ word. pick lines word) (32 ∷ line)
