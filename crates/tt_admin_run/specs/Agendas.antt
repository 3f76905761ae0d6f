-- One text of all that is said, and where each message ends in it.
use Rattle.std.specs.Prelude.{◌≡◌, ℕ, ◌+◌, List, [], ◌∷◌, ◌++◌, length, Option, Some, None}
use Rattle.tt_admin.specs.declared.message.AdminMsg.{AdminMsg}
use Rattle.tt_admin_file.specs.declared.command.Command.{Command}
use Rattle.tt_admin_run.specs.declared.sending.Mark.{Mark}
use Rattle.tt_admin_run.specs.declared.sending.Agenda.{Agenda}
use Rattle.tt_admin_run.specs.Sending.{Timed, message_bytes, timed, timed_bytes, all_bytes, quits}

-- the marks of messages, the first of which begins there: when each is due, and where it ends
abbrev pub AreMarks : ℕ → List Timed → List Mark → Type 0
AreMarks at [] [] = Unit {0}
AreMarks at [] (m ∷ ms) = ⊥
AreMarks at (t ∷ ts) [] = ⊥
AreMarks at (t ∷ ts) (m ∷ ms) = (m.after ≡ t.after) × (m.end ≡ at + length (timed_bytes t)) × AreMarks m.end ts ms

-- it has all that the JOIN and the lines say
pub record IsAgenda (first : AdminMsg) (lines : List Command) (a : Agenda) : Type 0 where
  pub bytes : a.bytes.items ≡ all_bytes first lines
  pub join : a.join ≡ length (message_bytes first)
  pub marks : AreMarks a.join (timed 0 lines) a.marks.items
  pub quits : a.quits ≡ quits lines

-- some JOIN and lines say all of it
abbrev pub IsMade : Agenda → Type 0
IsMade a = (join : AdminMsg) × (lines : List Command) × IsAgenda join lines a

-- a message more, due after so many ticks
pub record PutsMessage (old new : Agenda) (after : ℕ) (m : AdminMsg) : Type 0 where
  pub bytes : new.bytes.items ≡ old.bytes.items ++ message_bytes m
  pub marks : new.marks.items ≡ old.marks.items ++ record { after = after; end = length new.bytes.items } ∷ []
  pub join : new.join ≡ old.join
  pub quits : new.quits ≡ old.quits

-- what a line says more
abbrev pub Puts : Agenda → Agenda → ℕ → Option AdminMsg → Type 0
Puts old new after None = new ≡ old
Puts old new after (Some m) = PutsMessage old new after m
