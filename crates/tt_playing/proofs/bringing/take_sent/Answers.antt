use Rattle.std.proofs.Common.{◌≡◌, ◌-◌, ◌≤◌, ◌<◌, ◌∙◌, ℕ, List, length, ap₂, arith}
use Rattle.tt_edge.specs.declared.event.Event.{Event}
use Rattle.tt_hub.specs.Hub.{origin, taken}
use Rattle.tt_log.specs.Origin.{Origin}
use Rattle.tt_log.specs.Told.{sent}
use Rattle.tt_playing.proofs.Pieces.{taken_on, taken_all, taken_so}
use Rattle.tt_playing.proofs.bringing.take_sent.Goals as goal

pub pieces-preserved : goal.pieces-preserved
pieces-preserved c =
    let so_far = c.pieces.invariant in
    let put = c.in_ok-count.ensures in
    let hub = c.pieces.hub in
    let first = c.args.hub.now in
    let conn = c.args.conn in
    let whole = sent (origin first) first.events conn in
    let same : sent (origin hub) hub.events conn ≡ whole = ap₂ (λ (g : Origin) (es : List Event). sent g es conn) so_far.origin
    so_far.events in
    let next = rw same at put.bytes in
    let count = rw same at put.count in
    let on = taken_on whole c.pieces.bytes.items _ (taken first conn) (taken hub conn) _ c.in_ok-count.count so_far.bytes (omega
    (arith, count))
    next put.taken in
    record {
      bytes = on.0;
      within = omega (arith, on.1, count, so_far.within);
      others = λ other apart. put.others other apart ∙ so_far.others other apart;
      origin = put.origin ∙ so_far.origin;
      events = put.events ∙ so_far.events;
    }
