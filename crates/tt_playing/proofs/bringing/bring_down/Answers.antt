use Rattle.std.proofs.Common.{refl, ap, ◌∙◌, ◌++◌, ℕ, List}
use Rattle.std.specs.Vec.{with_item}
use Rattle.tt_client.specs.Calls.{Feed}
use Rattle.tt_playing.specs.Attached.{after_call}
use Rattle.tt_playing.specs.declared.play.Play.{Play}
use Rattle.tt_playing.specs.declared.play.Connection.{Connection}
use Rattle.tt_playing.proofs.Lines.{at_down}
use Rattle.tt_playing.proofs.bringing.bring_down.Goals as goal

pub returns-clause-at : goal.returns-clause-at
returns-clause-at c o p at =
    let play = c.args.play.now in
    let place = c.place_with-place.result in
    let old : Connection = c.index_mut.result.now in
    let new : Connection = c.hand.new.connection in
    let next : Play = record play { hub = c.take_sent.new.hub; connections = with_item play.connections place new } in
    let handed = c.in_ok-hand.ensures in
    let took = c.in_ok-piece.ensures in
    at_down o play p c.args.conn place c.args.n old new next c.in_ok-piece.piece.items at c.requires.client
    c.place_with-place.ensures.place c.place_with-place.ensures.within c.index_mut.ensures.value
    (record {
      made = took.origin;
      events = took.events;
      others = took.others;
      refused = refl;
      revision = refl;
      keeps = refl;
      written = refl;
    })
    took.bytes took.taken handed.door handed.rest
    (handed.client ∙ ap (λ (xs : List ℕ). after_call (Feed xs) old.client) c.deref.ensures.value)
    (λ keeps. handed.told keeps ∙ ap (λ (xs : List ℕ). old.told.items ++ xs) c.deref.ensures.value)
