use Rattle.std.proofs.Common.{◌≡◌, ◌+◌, drop}
use Rattle.tt_world.specs.Commands.{new_number}
use Rattle.tt_outgoing.proofs.news.free_number.Given as goal

abbrev pub invariant-loop-number : goal.invariant-loop-number
invariant-loop-number l = new_number l.world.companies ≡ l.number + new_number (drop l.number l.world.companies)
