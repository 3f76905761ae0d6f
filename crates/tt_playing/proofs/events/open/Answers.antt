use Rattle.std.proofs.Common.{refl, arith, ap, sym, None, ◌+◌}
use Rattle.tt_edge.specs.Event.{opens}
use Rattle.tt_playing.specs.Attached.{client_in, given_in}
use Rattle.tt_playing.specs.declared.play.Play.{Play}
use Rattle.tt_playing.specs.declared.play.Connection.{Connection}
use Rattle.tt_playing.proofs.Plays.{at_opening}
use Rattle.tt_playing.proofs.events.open.Goals as goal

pub returns-clause-at : goal.returns-clause-at
returns-clause-at c o p at =
    let old = c.args.play.now in
    let next : Play = record old { hub = c.put_opening.new.hub; connections = c.push.new.self } in
    let new : Connection = record { door = c.args.door; rest = c.new.result; client = None; told = c.new-2.result } in
    let bare = at.bare (opens p.events + 1) (omega arith) in
    at_opening o old next p c.args.door new p.clients at c.in_ok-put_opening.ensures.origin c.in_ok-put_opening.ensures.events
    c.in_ok-put_opening.ensures.taken refl refl refl c.in_ok-push.ensures.items refl c.new.ensures.items c.new-2.ensures.items
    (λ conn apart. refl) (sym (ap client_in bare)) (ap given_in bare)
