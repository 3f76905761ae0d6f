use Rattle.std.proofs.Common.{◌≡◌, ◌++◌, drop}
use Rattle.tt_table.proofs.AnswerLists.{lines_in}
use Rattle.tt_table.specs.Coming.{answered}
use Rattle.tt_table.proofs.answers.tell_client_lines.Given as goal

-- what is told of those before, and then of those behind
abbrev pub invariant-loop-m : goal.invariant-loop-m
invariant-loop-m l = l.initial.steps ++ answered l.conn (lines_in l.members)
    ≡ l.steps ++ answered l.conn (lines_in (drop l.m-index l.members))
