use Rattle.std.proofs.Common.{refl, ap, sym, ◌∙◌, Some}
use Rattle.std.specs.Vec.{with_item}
use Rattle.tt_client.specs.Calls.{Submit}
use Rattle.tt_playing.specs.Attached.{after_order, client_of, ordered}
use Rattle.tt_playing.specs.declared.play.Play.{Play}
use Rattle.tt_playing.specs.declared.play.Connection.{Connection}
use Rattle.tt_playing.proofs.Lines.{at_call, client_called, runs_some, running_there}
use Rattle.tt_playing.proofs.attached.order.Goals as goal

pub place_with-place-requires : goal.place_with-place-requires
place_with-place-requires c = record { client = runs_some _ c.requires.running }

pub submit-requires : goal.submit-requires
submit-requires c =
    record {
      running = running_there c.args.play.now c.args.conn _ c.index_mut.result.now c.place_with-place.ensures.place
          c.place_with-place.ensures.within c.index_mut.ensures.value c.requires.running;
    }

pub returns-clause-at : goal.returns-clause-at
returns-clause-at c o p at =
    let play = c.args.play.now in
    let place = c.place_with-place.result in
    let command = c.args.command.now in
    let old : Connection = c.index_mut.result.now in
    let new : Connection = record old { client = c.submit.new.client } in
    let next : Play = record play { connections = with_item play.connections place new } in
    at_call o play p c.args.conn place old new next (ordered command) at (runs_some _ c.requires.running)
    c.place_with-place.ensures.place c.place_with-place.ensures.within c.index_mut.ensures.value
    (record { made = refl; events = refl; others = λ other apart. refl; refused = refl; revision = refl; keeps = refl; written = refl })
    refl refl refl refl (λ a. refl)
    (λ a is. c.in_ok-submit.ensures.client ∙ ap (after_order command) is ∙ ap Some (sym (client_called a (Submit
    (client_of a).player.company
    command))))
