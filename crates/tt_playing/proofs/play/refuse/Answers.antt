use Rattle.tt_playing.proofs.Plays.{at_refused}
use Rattle.tt_playing.proofs.play.refuse.Goals as goal

pub returns-clause-at : goal.returns-clause-at
returns-clause-at c o p at = at_refused o c.args.play.now p c.in_ok-play.field-0 at c.in_ok-play.ensures.next
