-- What is in range: the numbers and texts of a table that go into messages.
use Rattle.std.specs.Prelude.{◌≡◌, ◌<◌, ◌≤◌, ◌^◌, ℕ, true, length}
use Rattle.std.specs.List.{AllByRecursion}
use Rattle.tt_frame.specs.Text.{is_text}
use Rattle.tt_world.specs.declared.command.Command.{Command}
use Rattle.tt_world.specs.declared.command.Entry.{Entry}
use Rattle.tt_log.specs.Member.{Member}

-- a command's number, company and text
pub record FitsCommand (c : Command) : Type 0 where
  pub number : c.number < 2 ^ 32
  pub to : c.to < 2 ^ 8
  pub text : is_text 31 c.text ≡ true

-- an entry of the journal
pub record FitsEntry (e : Entry) : Type 0 where
  pub frame : e.frame < 2 ^ 32
  pub sender : e.sender < 2 ^ 32
  pub company : e.company < 2 ^ 8
  pub command : FitsCommand e.command

-- a command that waits, with its company
abbrev pub FitsWaiting : ℕ × Command → Type 0
FitsWaiting w = (w.0 < 2 ^ 8) × FitsCommand w.1

-- a member: its name is a text of 1 to 24 bytes
pub record FitsMember (m : Member) : Type 0 where
  pub client : m.client < 2 ^ 32
  pub asked : m.asked < 2 ^ 8
  pub company : m.company < 2 ^ 8
  pub name : is_text 24 m.name ≡ true
  pub some : 1 ≤ length m.name
  pub waiting : AllByRecursion FitsWaiting m.waiting
