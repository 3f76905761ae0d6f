use Rattle.std.proofs.Common.{◌≡◌, ◌++◌, drop}
use Rattle.tt_table.proofs.AnswerLists.{clients_in}
use Rattle.tt_table.specs.Coming.{answered}
use Rattle.tt_table.proofs.answers.tell_clients.Given as goal

-- what is told of those before, and then of those behind
abbrev pub invariant-loop-m : goal.invariant-loop-m
invariant-loop-m l = l.initial.steps ++ answered l.conn (clients_in l.id l.members)
    ≡ l.steps ++ answered l.conn (clients_in l.id (drop l.m-index l.members))
