use Rattle.std.proofs.Common.{◌≡◌, ◌++◌, length}
use Rattle.std.specs.List.{AllByRecursion, flat_map}
use Rattle.tt_log.specs.Lines.{Holds}
use Rattle.tt_log.specs.Written.{line_text}
use Rattle.tt_hour.proofs.hour.put_lines.Given as goal

-- what was written and what is left is all that there was to write
abbrev pub invariant-loop-line : goal.invariant-loop-line
invariant-loop-line l = record {
  hold : AllByRecursion Holds l.lines;
  text : l.out.items ++ flat_map line_text l.lines ≡ l.fn.out.items ++ flat_map line_text l.fn.lines;
}

abbrev pub decreases-loop-line : goal.decreases-loop-line
decreases-loop-line l = length l.lines
