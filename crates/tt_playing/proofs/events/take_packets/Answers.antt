use Rattle.std.proofs.Common.{◌≡◌, ◌∙◌, ap, sym, true, false, arith}
use Rattle.std.proofs.lemmas.List.{take_rest}
use Rattle.tt_hub.specs.Hub.{origin}
use Rattle.tt_log.specs.Origin.{Origin}
use Rattle.tt_playing.specs.Played.{is_live}
use Rattle.tt_playing.proofs.Plays.{next_packet, partial_events, partial_rest, broken_events, ended_events}
use Rattle.tt_playing.proofs.events.take_packets.Goals as goal

pub packets-preserved : goal.packets-preserved
packets-preserved c =
    let so_far = c.packets.invariant in
    let o = origin c.args.hub.now in
    let live : is_live o c.packets.hub.events c.args.conn ≡ true =
    ap (λ (g : Origin). is_live g c.packets.hub.events c.args.conn) (sym so_far.origin) ∙ sym c.live.ensures.live ∙ c.packets-test.true in
    let first = rw take_rest at c.in-Packet.ensures in
    let next = next_packet o c.args.conn c.args.bytes.now c.packets.end c.in-Packet.kind c.in-Packet.body.now first.0
    c.args.hub.now.events c.packets.hub.events c.put_packet.new.hub.events (λ i. omega (arith, c.type_inv.bytes i)) so_far.within
    first.1 live c.in_ok-put_packet-in-Packet.ensures.events so_far.events so_far.rest in
    record {
      within = next.within;
      events = next.events;
      rest = next.rest;
      origin = c.in_ok-put_packet-in-Packet.ensures.origin ∙ so_far.origin;
      taken = λ conn. c.in_ok-put_packet-in-Packet.ensures.taken conn ∙ so_far.taken conn;
    }

pub returns-in-Partial-clause-events : goal.returns-in-Partial-clause-events
returns-in-Partial-clause-events c =
    partial_events (origin c.args.hub.now) c.args.conn c.args.bytes.now c.packets.end c.args.hub.now.events c.packets.hub.events
    (λ i. omega (arith, c.type_inv.bytes i)) (rw take_rest at c.in-Partial.ensures) c.packets.invariant.events

pub returns-in-Partial-clause-rest : goal.returns-in-Partial-clause-rest
returns-in-Partial-clause-rest c = λ there. partial_rest c.args.bytes.now c.packets.end (λ i. omega (arith, c.type_inv.bytes i))
    (rw take_rest at c.in-Partial.ensures) c.packets.invariant.rest

pub returns-in-BadSize-clause-events : goal.returns-in-BadSize-clause-events
returns-in-BadSize-clause-events c =
    let so_far = c.packets.invariant in
    let o = origin c.args.hub.now in
    let live : is_live o c.packets.hub.events c.args.conn ≡ true =
    ap (λ (g : Origin). is_live g c.packets.hub.events c.args.conn) (sym so_far.origin) ∙ sym c.live.ensures.live ∙ c.packets-test.true in
    broken_events o c.args.conn c.args.bytes.now c.packets.end c.in-BadSize.field-0 c.args.hub.now.events
    c.packets.hub.events c.put_broken.new.hub.events (λ i. omega (arith, c.type_inv.bytes i))
    (rw take_rest at c.in-BadSize.ensures) live c.in_ok-put_broken-in-BadSize.ensures.events so_far.events

pub returns-clause-events : goal.returns-clause-events
returns-clause-events c =
    let so_far = c.packets.invariant in
    let o = origin c.args.hub.now in
    let dead : is_live o c.packets.hub.events c.args.conn ≡ false =
    ap (λ (g : Origin). is_live g c.packets.hub.events c.args.conn) (sym so_far.origin) ∙ sym c.live.ensures.live ∙ c.packets-test.false in
    ended_events o c.args.conn c.args.hub.now.events c.packets.hub.events _ _ dead so_far.events
