use Rattle.std.proofs.Common.{sym, subst}
use Rattle.tt_members.specs.Rules.{Rise}
use Rattle.tt_join.specs.declared.input.Input.TheVariants.{Tick}
use Rattle.tt_join.specs.Inputs.{Plans}
use Rattle.tt_join.specs.Members.{IsOrdered}
use Rattle.tt_join.proofs.Finding.{kept_few, kept_rise, ok_so}
use Rattle.tt_join.proofs.Ordered.{kept_tick}
use Rattle.tt_join.proofs.TickOrder.{tick_orders}
use Rattle.tt_join.proofs.Ticked.{tick_plans}
use Rattle.tt_join.proofs.members.Members.tick.Goals as goal

pub returns : goal.returns
returns c =
    let s = c.args.self.now.setup in
    let k = c.args.self.now.crew in
    let now = c.args.now.now in
    let rise : Rise k.members = kept_rise _ c.args.self.now c.self.view_is c.self.invariant.0 in
    let few = kept_few _ c.args.self.now c.self.view_is c.self.invariant.2 in
    let whole = ok_so c.tick.result c.tick.ensures.ticks (λ is.
    kept_tick _ c.args.self.now c.deref.result.now c.deref-2.result.now c.deref-3.result.now now c.tick.new.plan c.self.view_is
    c.deref.ensures.value c.deref-2.ensures.value c.deref-3.ensures.value is) in
    record {
      plans = ok_so c.tick.result whole (λ is. subst (λ p. Plans s k now Tick p) (sym is) (tick_plans s k now rise));
      ordered = ok_so c.tick.result whole (λ is. subst (λ p. IsOrdered k p) (sym is) (tick_orders s k now rise few));
    }
