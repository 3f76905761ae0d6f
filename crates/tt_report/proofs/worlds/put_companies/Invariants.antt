use Rattle.std.proofs.Common.{◌≡◌, ◌++◌}
use Rattle.tt_report.specs.Worlds.{company_lines}
use Rattle.tt_report.proofs.worlds.put_companies.Given as goal

-- the lines of the companies so far
abbrev pub invariant-loop-number : goal.invariant-loop-number
invariant-loop-number l = record {
  text : l.text.items ≡ l.fn.text.items ++ company_lines l.world l.number;
}
