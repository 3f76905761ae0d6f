use Rattle.std.proofs.Common.{◌∙◌, ap}
use Rattle.tt_lockstep.specs.Runner.{Runner}
use Rattle.tt_world.specs.declared.command.Entry.{Entry}
use Rattle.tt_world.specs.World.{WorldState}
use Rattle.tt_client.specs.Calls.{Run}
use Rattle.tt_client.specs.Held.{Held, held_on}
use Rattle.tt_client.specs.Player.{Player}
use Rattle.tt_client.proofs.Lockstep.{advances}
use Rattle.tt_client.proofs.client.Client.advance.Goals as goal

pub returns-clause-advanced : goal.returns-clause-advanced
returns-clause-advanced c =
    let i = c.self.inside in
    let with = λ (p : Player (Runner WorldState Entry)). let h : Held = record {
      login = i.login;
      player = p;
      rest = i.rest.items;
      at =
          i.at;
    } in h in
    ap with (c.advance.ensures.advanced i.login) ∙ ap (λ (h : Held). held_on (Run c.args.n) h) c.self.view_is

pub returns-clause-in_step : goal.returns-clause-in_step
returns-clause-in_step c =
    let i = c.self.inside in
    let new : Held = record { login = i.login; player = c.advance.new.self; rest = i.rest.items; at = i.at } in
    advances c.clients_are_in_step.ensures.sent c.args.self.now new c.args.n (returns-clause-advanced c)
