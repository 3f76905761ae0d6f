use Rattle.std.proofs.Common.{◌≡◌, ◌≤◌, ◌+◌, drop, length}
use Rattle.std.specs.Prelude.{◌==◌, filter}
use Rattle.tt_outgoing.proofs.companies.signs_of.Given as goal

abbrev pub invariant-loop-sign : goal.invariant-loop-sign
invariant-loop-sign l = (length (filter (λ g. g.owner == l.owner) l.signs) ≡ l.count
    + length (filter (λ g. g.owner == l.owner) (drop l.sign-index l.signs))) × (l.count ≤ l.sign-index)
