use Rattle.std.proofs.Common.{◌≡◌, ◌<◌, ◌+◌, ◌-◌, ◌/◌, ℕ, sym, ap, ◌∙◌, arith, length}
use Rattle.std.specs.Prelude.{slice_index_or}
use Rattle.tt_log.specs.Member.{Member}
use Rattle.tt_members.proofs.Places.{all_below, all_above, found_at, none_between, same_within}
use Rattle.tt_members.proofs.order.place_of.Goals as goal

pub returns-then-one-conn-clause-found : goal.returns-then-one-conn-clause-found
returns-then-one-conn-clause-found c = λ d.
    let ms = c.args.members.now in
    let middle : ℕ = c.loop-low.low + (c.loop-low.high - c.loop-low.low) / 2 in
    let within : middle < length ms = omega (arith, c.loop-low-test.true, c.loop-low.invariant.within) in
    let here : (slice_index_or ms middle d).conn ≡ c.args.conn = ap (λ (m : Member). m.conn) (same_within middle d
    c.index-members-middle.result ms within ∙ sym c.index-members-middle.is) ∙ sym c.conn-one.ensures.conn ∙ c.if-one-conn.true in
    found_at 0 c.args.conn middle d ms c.requires within here

pub loop-low-preserved-then-one-conn-2 : goal.loop-low-preserved-then-one-conn-2
loop-low-preserved-then-one-conn-2 c =
    let ms = c.args.members.now in
    let middle : ℕ = c.loop-low.low + (c.loop-low.high - c.loop-low.low) / 2 in
    let inside : middle < c.loop-low.high = omega (arith, c.loop-low-test.true) in
    let within : middle < length ms = omega (arith, inside, c.loop-low.invariant.within) in
    let here : (slice_index_or ms middle c.index-members-middle.result).conn ≡ c.conn-one.result = ap (λ (m : Member). m.conn) (sym
    c.index-members-middle.is) ∙ sym c.conn-one.ensures.conn in
    record {
      order = omega (arith, inside);
      within = c.loop-low.invariant.within;
      below = all_below 0 c.args.conn middle c.index-members-middle.result ms c.requires within (omega (arith, here, c.if-one-conn-2.true));
      above = c.loop-low.invariant.above;
    }

pub loop-low-preserved : goal.loop-low-preserved
loop-low-preserved c =
    let ms = c.args.members.now in
    let middle : ℕ = c.loop-low.low + (c.loop-low.high - c.loop-low.low) / 2 in
    let inside : middle < c.loop-low.high = omega (arith, c.loop-low-test.true) in
    let within : middle < length ms = omega (arith, inside, c.loop-low.invariant.within) in
    let here : (slice_index_or ms middle c.index-members-middle.result).conn ≡ c.conn-one.result = ap (λ (m : Member). m.conn) (sym
    c.index-members-middle.is) ∙ sym c.conn-one.ensures.conn in
    record {
      order = omega arith;
      within = omega (arith, within);
      below = c.loop-low.invariant.below;
      above = all_above 0 c.args.conn middle c.index-members-middle.result ms c.requires within (omega (
        arith,
        here,
        c.if-one-conn.false,
        c.if-one-conn-2.false,
      ));
    }

pub returns-clause-none : goal.returns-clause-none
returns-clause-none c =
    let ms = c.args.members.now in
    let met : c.loop-low.high ≡ c.loop-low.low = omega (arith, c.loop-low-test.false, c.loop-low.invariant.order) in
    none_between c.args.conn c.loop-low.low ms c.loop-low.invariant.below (rw (sym met) c.loop-low.invariant.above)
