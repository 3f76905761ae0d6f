use Rattle.std.proofs.Common.{◌≡◌}
use Rattle.tt_outgoing.specs.Waiting.{opened}
use Rattle.tt_tests_rules.proofs.outs.calls_by_chance_are_those_of_plain_lists.Given as goal

-- two connections are opened
abbrev pub invariant-loop-turn : goal.invariant-loop-turn
invariant-loop-turn g l = record { opened : opened l.outs ≡ 2 }
