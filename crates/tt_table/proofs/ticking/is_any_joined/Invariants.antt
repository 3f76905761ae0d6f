use Rattle.std.proofs.Common.{◌≡◌}
use Rattle.std.specs.Prelude.{drop}
use Rattle.std.specs.List.{list_any}
use Rattle.tt_log.specs.Admin.{Admin}
use Rattle.tt_table.proofs.ticking.is_any_joined.Given as goal

abbrev pub invariant-loop-admin : goal.invariant-loop-admin
invariant-loop-admin l = list_any (λ (a : Admin). a.joined) l.admins ≡ list_any (λ (a : Admin). a.joined) (drop l.admin-index l.admins)
