use Rattle.std.proofs.Common.{refl}
use Rattle.tt_edge.specs.declared.event.Event.TheVariants.{Packet}
use Rattle.tt_hub.specs.Hub.{origin}
use Rattle.tt_playing.proofs.Histories.{live-taken}
use Rattle.tt_playing.proofs.events.put_packet.Goals as goal

pub put-requires : goal.put-requires
put-requires c = record {
  takes = live-taken (origin c.args.hub.now) c.args.hub.now.events (Packet c.args.conn c.args.kind c.in_ok-body.body) c.args.conn
      c.requires.live refl;
}
