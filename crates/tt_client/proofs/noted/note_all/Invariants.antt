use Rattle.std.specs.Prelude.{take}
use Rattle.tt_client.specs.Notes.{AreNoted, KeepsNotes}
use Rattle.tt_client.proofs.noted.note_all.Given as goal

abbrev pub invariant-loop-i : goal.invariant-loop-i
invariant-loop-i l = record {
  kept : KeepsNotes l.initial.noted l.noted;
  noted : AreNoted 0 l.noted (take l.i l.syncs.items);
}
