use Rattle.tt_playing.proofs.Plays.{at_ticks}
use Rattle.tt_playing.proofs.events.run_ticks.Goals as goal

pub returns-clause-at : goal.returns-clause-at
returns-clause-at c o p at =
    at_ticks o c.args.play.now c.put_ticks.new.hub p c.args.n at c.in_ok-put_ticks.ensures.origin c.in_ok-put_ticks.ensures.events
    c.in_ok-put_ticks.ensures.taken
