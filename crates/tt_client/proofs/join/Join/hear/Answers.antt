use Rattle.std.proofs.Common.{◌≡◌, Option, None, refl, ◌∙◌, sym, ap, arith}
use Rattle.tt_game.specs.declared.message.GameMsg.{GameMsg}
use Rattle.tt_log.specs.Shown.{Item}
use Rattle.tt_client.specs.declared.join.Join.{Join}
use Rattle.tt_client.specs.Player.{heard, told_place}
use Rattle.tt_client.specs.Runs.{running}
use Rattle.tt_client.specs.Planned.{joined_by}
use Rattle.tt_client.proofs.Joining.{strayed}
use Rattle.tt_client.proofs.join.Join.hear.Goals as goal

pub returns-in_default-clause-heard : goal.returns-in_default-clause-heard
returns-in_default-clause-heard c = λ saying acked.
    let i = c.item.inside in
    let come = c.args.come.now in
    let old = c.args.self.now in
    let place : told_place i.at ≡ i.at = omega (arith, c.item.invariant) in
    ap (λ (j : Join). joined_by come j saying acked) c.end.ensures.ended
    ∙ strayed c.args.login.now come old None i.at saying acked c.requires.stands refl place
    ∙ ap (λ (m : Option GameMsg). let x : Item = record { at = i.at; msg = m } in heard running c.args.login.now x (joined_by come old
    saying acked)) (sym c.in_default.is)
    ∙ ap (λ (x : Item). heard running c.args.login.now x (joined_by come old saying acked)) c.item.view_is
