use Rattle.std.proofs.Common.{refl, arith, ap, sym, ◌∙◌, subst, ◌<◌, ℕ}
use Rattle.std.specs.Vec.{with_item}
use Rattle.tt_edge.specs.Event.{opens}
use Rattle.tt_playing.specs.declared.play.Play.{Play}
use Rattle.tt_playing.specs.declared.play.Connection.{Connection}
use Rattle.tt_playing.proofs.Plays.{at_piece}
use Rattle.tt_playing.proofs.events.feed.Goals as goal

pub index_mut-requires : goal.index_mut-requires
index_mut-requires c =
    let stands = c.requires.stands.2 in
    omega (arith, c.place_of-place.ensures.within, stands.count, ap opens stands.events)

pub returns-clause-at : goal.returns-clause-at
returns-clause-at c o p at =
    let place = c.place_of-place.result in
    let play = c.args.play.now in
    let old : Connection = c.index_mut.result.now in
    let new : Connection = record old { rest = c.feed_rest.new.rest } in
    let next : Play = record play { hub = c.feed_rest.new.hub; connections = with_item play.connections place new } in
    let fed = c.in_ok-feed_rest.ensures in
    at_piece o play next p c.args.conn place c.args.piece.now old new at (λ i. omega (arith, c.type_inv.piece i)) c.requires.live
    c.place_of-place.ensures.place fed.origin fed.events fed.taken refl refl refl c.index_mut.ensures.value refl refl refl refl fed.kept
    fed.rest
