-- What an admin says, and from when on each message is due.
use Rattle.std.specs.Prelude.{ℕ, ◌+◌, Bool, true, false, List, [], ◌∷◌, ◌++◌, nat_le, Option, Some, None, if◌then◌else◌}
use Rattle.std.specs.List.{flat_map, list_any}
use Rattle.tt_frame.specs.Packet.{packet}
use Rattle.tt_admin.specs.declared.message.AdminMsg.{AdminMsg}
use Rattle.tt_admin.specs.declared.message.AdminMsg.TheVariants.{AdminQuit, AdminUpdateFrequency, AdminPoll, AdminChat, AdminRcon}
use Rattle.tt_admin.specs.declared.message.AdminMsg.TheVariants.{AdminPing}
use Rattle.tt_admin.specs.Apart.{kind_of, body_bytes}
use Rattle.tt_admin_file.specs.declared.command.Command.{Command}
use Rattle.tt_admin_file.specs.declared.command.Command.TheVariants.{Ping, Update, Poll, Chat, Rcon, Wait, Quit}

-- the bytes of a message
abbrev pub message_bytes : AdminMsg → List ℕ
message_bytes m = packet (kind_of m) (body_bytes m)

-- what a line says: a wait says nothing, and a chat is for all
abbrev pub said : Command → Option AdminMsg
said (Ping id) = Some (AdminPing id)
said (Update kind bits) = Some (AdminUpdateFrequency kind bits)
said (Poll kind id) = Some (AdminPoll kind id)
said (Chat content) = Some (AdminChat 0 0 content)
said (Rcon content) = Some (AdminRcon content)
said (Wait ticks) = None
said Quit = Some AdminQuit

-- how many ticks a line waits
abbrev pub wait_of : Command → ℕ
wait_of (Wait ticks) = ticks
wait_of line = 0

abbrev pub is_quit : Command → Bool
is_quit Quit = true
is_quit line = false

-- a message, and how many ticks must have been told before it is due
pub record Timed : Type 0 where
  pub after : ℕ
  pub message : AdminMsg

-- what a line says in front of what the others say
abbrev pub before : ℕ → Option AdminMsg → List Timed → List Timed
before sum None later = later
before sum (Some m) later = record { after = sum; message = m } ∷ later

-- What the lines of a file say, up to the first `quit`, where those in front of them wait so many ticks: each message with the
-- sum of all waits before it.
abbrev pub timed : ℕ → List Command → List Timed
timed sum [] = []
timed sum (line ∷ lines) = before sum (said line) (if is_quit line then [] else timed (sum + wait_of line) lines)

abbrev pub timed_bytes : Timed → List ℕ
timed_bytes t = message_bytes t.message

-- the messages that are due after so many ticks: those in front of the first whose waits are not over
abbrev pub due : ℕ → List Timed → List Timed
due ticks [] = []
due ticks (t ∷ later) = if nat_le t.after ticks then t ∷ due ticks later else []

-- The bytes that are due: those of the JOIN from the start on, and once WELCOME came those of the lines whose waits are over.
abbrev pub due_bytes : AdminMsg → List Command → Bool → ℕ → List ℕ
due_bytes join lines welcome ticks =
    message_bytes join ++ (if welcome then flat_map timed_bytes (due ticks (timed 0 lines)) else [])

-- all that is ever said
abbrev pub all_bytes : AdminMsg → List Command → List ℕ
all_bytes join lines = message_bytes join ++ flat_map timed_bytes (timed 0 lines)

-- a file with a `quit`
abbrev pub quits : List Command → Bool
quits lines = list_any is_quit lines
