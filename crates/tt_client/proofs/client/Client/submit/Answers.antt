use Rattle.std.proofs.Common.{◌≡◌, ◌↔◌, ◌∙◌, ap, subst, false}
use Rattle.std.proofs.lemmas.Result.{on_ok_weaker}
use Rattle.std.specs.Result.{IsErrOf}
use Rattle.tt_lockstep.specs.Runner.{Runner}
use Rattle.tt_world.specs.declared.command.Entry.{Entry}
use Rattle.tt_world.specs.World.{WorldState}
use Rattle.tt_client.specs.declared.state.SubmitErr.TheVariants as refusal
use Rattle.tt_client.specs.Calls.{Say}
use Rattle.tt_client.specs.Held.{Held, held_on}
use Rattle.tt_client.specs.Player.{Player}
use Rattle.tt_client.specs.State.{is_running, state_of}
use Rattle.tt_client.proofs.client.Client.submit.Goals as goal

pub returns-clause-said : goal.returns-clause-said
returns-clause-said c =
    let i = c.self.inside in
    let with = λ (p : Player (Runner WorldState Entry)). let h : Held = record {
      login = i.login;
      player = p;
      rest = i.rest.items;
      at =
          i.at;
    } in h in
    on_ok_weaker c.submit.result
    (λ said. ap with (said i.login) ∙ ap (λ (h : Held). held_on (Say c.args.company c.args.command) h) c.self.view_is) c.submit.ensures.said

pub returns-clause-not_running : goal.returns-clause-not_running
returns-clause-not_running c =
    subst (λ (h : Held). IsErrOf c.submit.result refusal.NotRunning ↔ (is_running (state_of h.player) ≡ false)) c.self.view_is
    c.submit.ensures.not_running
