use Rattle.std.proofs.Common.{◌≡◌, drop}
use Rattle.std.specs.Prelude.{◌==◌, find, is_some}
use Rattle.tt_table.proofs.answers.has_client.Given as goal

-- nobody with the number so far
abbrev pub invariant-loop-m : goal.invariant-loop-m
invariant-loop-m l = is_some (find (λ m. m.client == l.client) l.members)
    ≡ is_some (find (λ m. m.client == l.client) (drop l.m-index l.members))
