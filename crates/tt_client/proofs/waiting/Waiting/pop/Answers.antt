use Rattle.std.proofs.Common.{◌∙◌, ap, ◌++◌, drop}
use Rattle.tt_client.specs.Saying.{Saying, ack_bytes, bytes_of, less_one}
use Rattle.tt_client.proofs.Less.{less_gone, less_gone_one}
use Rattle.tt_client.proofs.waiting.Waiting.pop.Goals as goal

pub returns-then-self-lt8-clause-left : goal.returns-then-self-lt8-clause-left
returns-then-self-lt8-clause-left c =
    let i = c.self.inside in
    less_gone i.gone c.if-self-lt8.true i.begun (i.before.items ++ (ack_bytes i.ack ++ i.behind.items)) ∙ ap (λ (s : Saying). drop 1
    (bytes_of s)) c.self.view_is

pub returns-then-self-lt8-clause-rest : goal.returns-then-self-lt8-clause-rest
returns-then-self-lt8-clause-rest c =
    let i = c.self.inside in
    less_gone_one i.gone c.if-self-lt8.true i.begun i.before.items i.ack i.behind.items i.owed ∙ ap (λ (s : Saying). less_one s)
    c.self.view_is
