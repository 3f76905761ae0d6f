use Rattle.std.proofs.Common.{◌≡◌, ℕ, ◌++◌}
use Rattle.std.specs.Prelude.{filter}
use Rattle.tt_attempts.specs.declared.attempt.Heard.TheVariants.{ServerGone}
use Rattle.tt_gc_table.specs.declared.setup.GcSetup.{GcSetup}
use Rattle.tt_gc_table.specs.OpenAttempts.{meetings_of}
use Rattle.tt_gc_table.specs.Parts.{is_lost}
use Rattle.tt_gc_table.specs.Hearing.{told_each}
use Rattle.tt_gc_table.specs.Tells.{told_to}
use Rattle.tt_gc_table.specs.ByConnection.{all_numbered}
use Rattle.tt_gc_table.proofs.meetings.Meetings.tell_lost.Given as goal

abbrev pub invariant-loop-number : goal.invariant-loop-number
invariant-loop-number l =
    (s : GcSetup) → s.turn_host ≡ l.turn_host → (c : ℕ) → told_to c l.out ++ told_each s ServerGone l.parts c
    (filter (is_lost l.conn) (all_numbered l.number-iterator l.self))
    ≡ told_to c l.initial.out ++ told_each s ServerGone l.parts c (filter (is_lost l.conn) (meetings_of l.self))
