use Rattle.std.proofs.Common.{◌∙◌, [], ◌∷◌, ap, sym}
use Rattle.tt_members.specs.Steps.{conns_of}
use Rattle.tt_outgoing.proofs.Packets.{on_ok, staged_step}
use Rattle.tt_outgoing.proofs.staged.Staged.stage.Goals as goal

pub returns-in-One-clause-staged : goal.returns-in-One-clause-staged
returns-in-One-clause-staged c =
    let a = c.args.admins.now in
    on_ok c.say.result (λ said o f at. staged_step o f a c.args.step.now (c.in-One.conn ∷ []) c.args.self.now c.say.new.staged
    (ap (conns_of a) c.in-One.is) (said o f at)) c.say.ensures.said

pub returns-in-Several-clause-staged : goal.returns-in-Several-clause-staged
returns-in-Several-clause-staged c =
    let a = c.args.admins.now in
    on_ok c.say-in-Several.result (λ said o f at. staged_step o f a c.args.step.now c.numbers.result.now c.args.self.now
    c.say-in-Several.new.staged
    (ap (conns_of a) c.in-Several.is ∙ sym c.numbers.ensures.numbers) (said o f at)) c.say-in-Several.ensures.said

pub returns-in_ok-conns-in-Watching-clause-staged : goal.returns-in_ok-conns-in-Watching-clause-staged
returns-in_ok-conns-in-Watching-clause-staged c =
    let a = c.args.admins.now in
    on_ok c.say-in-Watching.result (λ said o f at. staged_step o f a c.args.step.now c.as_slice.result.now c.args.self.now
    c.say-in-Watching.new.staged
    (ap (conns_of a) c.in-Watching.is ∙ sym (c.as_slice.ensures.value ∙ c.in_ok-conns-in-Watching.ensures.conns)) (said o f at))
    c.say-in-Watching.ensures.said
