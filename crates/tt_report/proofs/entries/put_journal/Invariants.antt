use Rattle.std.proofs.Common.{◌≡◌, ◌++◌, take}
use Rattle.tt_report.specs.Entries.{entry_lines}
use Rattle.tt_report.proofs.entries.put_journal.Given as goal

-- the lines of the commands so far
abbrev pub invariant-loop-entry : goal.invariant-loop-entry
invariant-loop-entry l = record {
  text : l.text.items ≡ l.fn.text.items ++ entry_lines (take l.entry-index l.journal);
}
