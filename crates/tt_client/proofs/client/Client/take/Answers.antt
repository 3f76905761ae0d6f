use Rattle.std.proofs.Common.{◌∙◌, ap}
use Rattle.tt_lockstep.specs.Runner.{Runner}
use Rattle.tt_world.specs.declared.command.Entry.{Entry}
use Rattle.tt_world.specs.World.{WorldState}
use Rattle.tt_client.specs.Calls.{Give}
use Rattle.tt_client.specs.Held.{Held, held_on}
use Rattle.tt_client.specs.Player.{Player}
use Rattle.tt_client.proofs.client.Client.take.Goals as goal

pub returns-clause-taken : goal.returns-clause-taken
returns-clause-taken c =
    let i = c.self.inside in
    let with = λ (p : Player (Runner WorldState Entry)). let h : Held = record {
      login = i.login;
      player = p;
      rest = i.rest.items;
      at =
          i.at;
    } in h in
    ap with (c.take.ensures.taken i.login) ∙ ap (λ (h : Held). held_on (Give c.take.result) h) c.self.view_is
