use Rattle.std.proofs.Common.{refl}
use Rattle.tt_edge.specs.declared.event.Event.TheVariants.{Open}
use Rattle.tt_hub.specs.Hub.{origin}
use Rattle.tt_playing.specs.Played.{nobody}
use Rattle.tt_playing.proofs.Histories.{is-taken}
use Rattle.tt_playing.proofs.events.put_opening.Goals as goal

pub put-requires : goal.put-requires
put-requires c = record {
  takes = is-taken (origin c.args.hub.now) c.args.hub.now.events (Open c.args.door nobody) c.requires.going refl;
}
