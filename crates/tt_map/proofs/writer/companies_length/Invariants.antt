use Rattle.std.proofs.Common.{◌≡◌, ◌≤◌, ◌+◌, ◌*◌, length, take}
use Rattle.std.specs.List.{flat_map}
use Rattle.tt_map.specs.declared.version.Version.TheVariants.{Second}
use Rattle.tt_map.specs.Layout.{live_from, company_bytes}
use Rattle.tt_map.proofs.writer.companies_length.Given as goal

abbrev pub invariant-loop-n : goal.invariant-loop-n
invariant-loop-n l = record {
  fits : l.size ≤ 1 + 88 * l.n;
  same : l.size ≡ 1 + length (flat_map (company_bytes Second) (live_from 0 (take l.n l.world.companies)));
}
