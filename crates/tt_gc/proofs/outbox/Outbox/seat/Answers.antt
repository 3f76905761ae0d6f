use Rattle.std.proofs.Common.{◌++◌, ◌∷◌, [], List, ap, ◌∙◌}
use Rattle.tt_gc.specs.Queues.{Queue, queue_of}
use Rattle.tt_gc.proofs.QueuesLaws.{pushed_queue}
use Rattle.tt_gc.proofs.outbox.Outbox.seat.Goals as goal

pub returns-in_ok-push : goal.returns-in_ok-push
returns-in_ok-push c = λ x.
    let qs : List Queue = c.self.inside.queues.items in
    ap (λ (ps : List Queue). queue_of ps x) (c.in_ok-push.ensures.items ∙ ap (λ (q : Queue). qs ++ q ∷ []) c.new.ensures)
    ∙ pushed_queue qs x ∙ ap (λ (ps : List Queue). queue_of ps x) c.self.view_is
