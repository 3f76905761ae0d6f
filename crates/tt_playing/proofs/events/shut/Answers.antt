use Rattle.std.proofs.Common.{refl}
use Rattle.tt_edge.specs.declared.event.Event.TheVariants.{Shut}
use Rattle.tt_hub.specs.Hub.{origin}
use Rattle.tt_playing.proofs.Histories.{live-taken}
use Rattle.tt_playing.proofs.Plays.{at_event}
use Rattle.tt_playing.proofs.events.shut.Goals as goal

pub put-requires : goal.put-requires
put-requires c = record {
  takes = live-taken (origin c.args.play.now.hub) c.args.play.now.hub.events (Shut c.args.conn) c.args.conn c.requires.live refl;
}

pub returns-clause-at : goal.returns-clause-at
returns-clause-at c o p at =
    at_event o c.args.play.now c.put.new.hub p (Shut c.args.conn) at refl c.in_ok-put.ensures.origin c.in_ok-put.ensures.ok
    c.in_ok-put.ensures.taken
