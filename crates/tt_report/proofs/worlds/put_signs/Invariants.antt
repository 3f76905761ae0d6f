use Rattle.std.proofs.Common.{◌≡◌, ◌++◌, take}
use Rattle.std.specs.List.{flat_map}
use Rattle.tt_report.specs.Worlds.{sign_line}
use Rattle.tt_report.proofs.worlds.put_signs.Given as goal

-- the lines of the signs so far
abbrev pub invariant-loop-sign : goal.invariant-loop-sign
invariant-loop-sign l = record {
  text : l.text.items ≡ l.fn.text.items ++ flat_map sign_line (take l.sign-index l.signs);
}
