use Rattle.std.proofs.Common.{refl, ap, sym, ◌∙◌, Some}
use Rattle.std.specs.Vec.{with_item}
use Rattle.tt_client.specs.Calls.{Advance}
use Rattle.tt_client.specs.Held.{Held}
use Rattle.tt_playing.specs.Attached.{after_call, called}
use Rattle.tt_playing.specs.declared.play.Play.{Play}
use Rattle.tt_playing.specs.declared.play.Connection.{Connection}
use Rattle.tt_playing.proofs.Lines.{at_call, client_called}
use Rattle.tt_playing.proofs.attached.run.Goals as goal

pub returns-clause-at : goal.returns-clause-at
returns-clause-at c o p at =
    let play = c.args.play.now in
    let place = c.place_with-place.result in
    let call = Advance c.args.n in
    let old : Connection = c.index_mut.result.now in
    let new : Connection = record old { client = c.advance.new.client } in
    let next : Play = record play { connections = with_item play.connections place new } in
    at_call o play p c.args.conn place old new next (called call) at c.requires.client c.place_with-place.ensures.place
    c.place_with-place.ensures.within c.index_mut.ensures.value
    (record { made = refl; events = refl; others = λ other apart. refl; refused = refl; revision = refl; keeps = refl; written = refl })
    refl refl refl refl (λ a. refl)
    (λ a is. c.advance.ensures.client ∙ ap (after_call call) is ∙ ap Some (sym (client_called a call)))
