use Rattle.std.proofs.Common.{refl}
use Rattle.tt_edge.specs.declared.event.Event.TheVariants.{Stop}
use Rattle.tt_hub.specs.Hub.{origin}
use Rattle.tt_playing.proofs.Histories.{is-taken}
use Rattle.tt_playing.proofs.Plays.{at_event}
use Rattle.tt_playing.proofs.events.stop.Goals as goal

pub put-requires : goal.put-requires
put-requires c = record { takes = is-taken (origin c.args.play.now.hub) c.args.play.now.hub.events Stop c.requires.going refl }

pub returns-clause-at : goal.returns-clause-at
returns-clause-at c o p at =
    at_event o c.args.play.now c.put.new.hub p Stop at refl c.in_ok-put.ensures.origin c.in_ok-put.ensures.ok c.in_ok-put.ensures.taken
