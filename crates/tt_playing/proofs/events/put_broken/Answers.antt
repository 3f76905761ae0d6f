use Rattle.std.proofs.Common.{◌∙◌, ap, refl, List}
use Rattle.tt_edge.specs.declared.event.Event.{Event}
use Rattle.tt_edge.specs.declared.event.Event.TheVariants.{Broken}
use Rattle.tt_hub.specs.Hub.{origin}
use Rattle.tt_playing.specs.Played.{is_live}
use Rattle.tt_playing.proofs.Histories.{live-taken, broken-ends}
use Rattle.tt_playing.proofs.events.put_broken.Goals as goal

pub put-requires : goal.put-requires
put-requires c = record {
  takes = live-taken (origin c.args.hub.now) c.args.hub.now.events (Broken c.args.conn) c.args.conn c.requires.live refl;
}

pub returns-clause-ended : goal.returns-clause-ended
returns-clause-ended c =
    let o = origin c.args.hub.now in
    ap (λ (es : List Event). is_live o es c.args.conn) c.in_ok-put.ensures.ok
    ∙ broken-ends o c.args.hub.now.events c.args.conn c.requires.live
