use Rattle.std.proofs.Common.{List, ℕ, sym, subst, ap, ◌∙◌}
use Rattle.tt_gc_table.specs.declared.setup.GcSetup.{GcSetup}
use Rattle.tt_gc_table.specs.Table.{Table}
use Rattle.tt_gc_table.specs.PacketRules.{on_result}
use Rattle.tt_gc.specs.declared.change.Change.{Change}
use Rattle.tt_gc.specs.Changes.{IsPlanned, heard_change}
use Rattle.tt_gc.proofs.ChangesLaws.{heard_done, heard_fits}
use Rattle.tt_gc.proofs.packets.plan_stun_result.Goals as goal

pub returns : goal.returns
returns c =
    let s : GcSetup = c.args.rules.now in
    let t : Table = c.args.parts.now in
    let key : List ℕ = c.bytes.result.now in
    let h = c.in_ok-heard.heard in
    subst (λ (change : Change). IsPlanned s (on_result s c.args.conn c.args.token.now c.args.side c.args.ok t) t c.args.out.now
    c.plan_result.new.out change)
    (sym (c.hearing.ensures ∙ ap (λ (k : List ℕ). heard_change k h) c.copy.ensures)) (subst (λ (k : List ℕ).
    IsPlanned s (on_result s c.args.conn k c.args.side c.args.ok t) t c.args.out.now
    c.plan_result.new.out (heard_change k h)) c.bytes.ensures.same (record {
      told = c.in_ok-heard.ensures.told s c.turn_host.ensures;
      done = heard_done s key h t (on_result s c.args.conn key c.args.side c.args.ok t).table (c.in_ok-heard.ensures.done s);
      fits = heard_fits s key h t (on_result s c.args.conn key c.args.side c.args.ok t).table (c.in_ok-heard.ensures.done s);
    }))
