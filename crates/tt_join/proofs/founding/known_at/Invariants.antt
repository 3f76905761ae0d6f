use Rattle.std.proofs.Common.{◌≡◌, ◌++◌}
use Rattle.std.specs.Prelude.{drop}
use Rattle.tt_join.specs.Ticking.{clients_at}
use Rattle.tt_join.proofs.founding.known_at.Given as goal

abbrev pub invariant-loop-founder : goal.invariant-loop-founder
invariant-loop-founder l = l.clients.items ++ clients_at l.frame (drop l.founder-index l.known) ≡ clients_at l.frame l.known
