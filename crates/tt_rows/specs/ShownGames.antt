-- What streams show: streams told in digits, and what is read of what they show.
use Rattle.std.specs.Prelude.{ℕ, List, [], codes}
use Rattle.tt_world.specs.World.{WorldState}
use Rattle.tt_world.specs.declared.command.Entry.{Entry}
use Rattle.tt_lockstep.specs.Shown as lockstep
use Rattle.tt_log.specs.Shown.{Shown, shown}
use Rattle.tt_rows.specs.Words.{hex, plain_game}

-- what a stream of a plain game shows
abbrev pub seen_in : List ℕ → Shown
seen_in bytes = shown plain_game bytes

-- WELCOME as client 2: the first 14 bytes of a stream
abbrev pub welcome : List ℕ
welcome = hex (codes "0e000c0200000000000000747400")

-- FRAME 1, with 1 as the permitted frame
abbrev pub frame_1 : List ℕ
frame_1 = hex (codes "0c0015010000000100000000")

-- ERROR with a byte too many
abbrev pub no_message : List ℕ
no_message = hex (codes "0500030800")

-- the commands that a client was told
abbrev pub entries_in : lockstep.Shown WorldState Entry → List Entry
entries_in (lockstep.Running view) = view.entries
entries_in (lockstep.Ended view) = view.entries
entries_in (lockstep.Wrong view) = view.entries
entries_in _ = []

-- the frame up to which it may run
abbrev pub permitted_in : lockstep.Shown WorldState Entry → ℕ
permitted_in (lockstep.Running view) = view.permitted
permitted_in (lockstep.Ended view) = view.permitted
permitted_in (lockstep.Wrong view) = view.permitted
permitted_in _ = 0
