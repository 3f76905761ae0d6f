use Rattle.std.proofs.Common.{◌≡◌, sym, ◌∙◌, subst, Bool, true, false, ap₂, List}
use Rattle.std.specs.Prelude.{OnOk, if◌then◌else◌}
use Rattle.tt_client.specs.Calls.{Advance}
use Rattle.tt_edge.specs.declared.event.Event.{Event}
use Rattle.tt_hub.specs.Hub.{origin}
use Rattle.tt_log.specs.Origin.{Origin}
use Rattle.tt_playing.specs.Attached.{called}
use Rattle.tt_playing.specs.Played.{brought_down, brought_up, is_gone, most, on_client, pumped}
use Rattle.tt_playing.specs.Playing.{IsAt}
use Rattle.tt_playing.proofs.Lines.{gone_live, still_some}
use Rattle.tt_playing.proofs.bringing.pump.Goals as goal

pub run-requires : goal.run-requires
run-requires c =
    let stands = c.requires.stands in
    record {
      client = still_some stands.0 c.args.play.now _ stands.1 c.args.conn _ stands.2 c.requires.client
          (c.in_ok-bring_down.ensures.at stands.0 stands.1 stands.2);
    }

pub bring_up-requires : goal.bring_up-requires
bring_up-requires c =
    let stands = c.requires.stands in
    let conn = c.args.conn in
    let down = c.in_ok-bring_down.ensures.at stands.0 stands.1 stands.2 in
    let some = still_some stands.0 c.args.play.now _ stands.1 conn _ stands.2 c.requires.client down in
    let q = brought_down stands.0 conn most stands.1 in
    let run = c.in_ok-run.ensures.at stands.0 q down in
    record {
      stands = (stands.0, on_client conn (called (Advance most)) q, run);
      client = still_some stands.0 _ _ q conn _ down some run;
      live = gone_live _ _ (sym c.is_gone.ensures.gone ∙ c.if-is_gone.false);
    }

pub returns-then-is_gone-clause-at : goal.returns-then-is_gone-clause-at
returns-then-is_gone-clause-at c o p at =
    let conn = c.args.conn in
    let q = brought_down o conn most p in
    let run = c.in_ok-run.ensures.at o q (c.in_ok-bring_down.ensures.at o p at) in
    let after = on_client conn (called (Advance most)) q in
    let gone : is_gone o p.events conn ≡ true = ap₂ (λ (g : Origin) (es : List Event). is_gone g es conn) (sym run.made) (sym run.events)
    ∙ sym c.is_gone.ensures.gone ∙ c.if-is_gone.true in
    subst (λ (b : Bool). IsAt o c.run.new.play (if b then after else brought_up o conn most after)) (sym gone) run

pub returns-else-is_gone-clause-at : goal.returns-else-is_gone-clause-at
returns-else-is_gone-clause-at c o p at =
    let conn = c.args.conn in
    let q = brought_down o conn most p in
    let run = c.in_ok-run.ensures.at o q (c.in_ok-bring_down.ensures.at o p at) in
    let after = on_client conn (called (Advance most)) q in
    let gone : is_gone o p.events conn ≡ false = ap₂ (λ (g : Origin) (es : List Event). is_gone g es conn) (sym run.made) (sym run.events)
    ∙ sym c.is_gone.ensures.gone ∙ c.if-is_gone.false in
    subst (λ (b : Bool). OnOk c.bring_up.result (IsAt o c.bring_up.new.play (if b then after else brought_up o conn most after))) (sym gone)
    (c.bring_up.ensures.at o after run)
