use Rattle.std.proofs.Common.{refl, ap, sym, ◌∙◌, ◌≡◌, Some, subst, length, List, ℕ}
use Rattle.std.specs.Prelude.{OnOk}
use Rattle.std.specs.Vec.{with_item}
use Rattle.tt_client.specs.Calls.{Take}
use Rattle.tt_log.specs.Origin.{Origin}
use Rattle.tt_playing.specs.Attached.{after_call, called, client_in, waiting_in}
use Rattle.tt_playing.specs.Played.{Played, on_client, with_piece}
use Rattle.tt_playing.specs.Playing.{IsAt}
use Rattle.tt_playing.specs.declared.play.Play.{Play}
use Rattle.tt_playing.specs.declared.play.Connection.{Connection}
use Rattle.tt_playing.proofs.Lines.{at_call, client_called, client_is, client_there, sayings_there}
use Rattle.tt_playing.proofs.bringing.bring_up.Goals as goal

pub take_said-requires : goal.take_said-requires
take_said-requires c =
    let stands = c.requires.stands in
    record {
      saying = sayings_there stands.0 c.args.play.now stands.1 c.args.conn _ c.index_mut.result.now stands.2
          c.place_with-place.ensures.place c.place_with-place.ensures.within c.index_mut.ensures.value;
    }

pub feed-requires : goal.feed-requires
feed-requires c =
    let play = c.args.play.now in
    let place = c.place_with-place.result in
    let old : Connection = c.index_mut.result.now in
    let new : Connection = record old { client = c.take_said.new.client } in
    let next : Play = record play { connections = with_item play.connections place new } in
    let call = Take (length c.in_ok-piece.piece.items) in
    let stands = c.requires.stands in
    record {
      live = c.requires.live;
      stands = (
        stands.0,
        on_client c.args.conn (called call) stands.1,
        at_call stands.0 play stands.1 c.args.conn place old new next (called call) stands.2 c.requires.client
            c.place_with-place.ensures.place c.place_with-place.ensures.within c.index_mut.ensures.value
            (record {
              made = refl;
              events = refl;
              others = λ other apart. refl;
              refused = refl;
              revision = refl;
              keeps = refl;
              written = refl;
            })
            refl refl refl refl (λ a. refl)
            (λ a is. c.in_ok-piece.ensures.client ∙ ap (after_call call) is ∙ ap Some (sym (client_called a call))),
      );
    }

pub returns-clause-at : goal.returns-clause-at
returns-clause-at c o p at =
    let play = c.args.play.now in
    let conn = c.args.conn in
    let place = c.place_with-place.result in
    let old : Connection = c.index_mut.result.now in
    let new : Connection = record old { client = c.take_said.new.client } in
    let next : Play = record play { connections = with_item play.connections place new } in
    let bytes = c.in_ok-piece.piece.items in
    let call = Take (length bytes) in
    let mid = at_call o play p conn place old new next (called call) at c.requires.client
    c.place_with-place.ensures.place c.place_with-place.ensures.within c.index_mut.ensures.value
    (record { made = refl; events = refl; others = λ other apart. refl; refused = refl; revision = refl; keeps = refl; written = refl })
    refl refl refl refl (λ a. refl)
    (λ a is. c.in_ok-piece.ensures.client ∙ ap (after_call call) is ∙ ap Some (sym (client_called a call))) in
    let is : bytes ≡ waiting_in c.args.n (client_in (p.clients conn)) = c.in_ok-piece.ensures.bytes
    ∙ ap (waiting_in c.args.n) (sym (client_there play conn place old c.place_with-place.ensures.place c.place_with-place.ensures.within
    c.index_mut.ensures.value) ∙ client_is o play p conn at) in
    subst (λ (xs : List ℕ). OnOk c.feed.result (IsAt o c.feed.new.play (with_piece o conn xs (on_client conn (called (Take
    (length xs))) p)))) is
    (subst (λ (xs : List ℕ). OnOk c.feed.result (IsAt o c.feed.new.play (with_piece o conn xs (on_client conn (called call) p))))
    c.deref.ensures.value (c.feed.ensures.at o (on_client conn (called call) p) mid))
