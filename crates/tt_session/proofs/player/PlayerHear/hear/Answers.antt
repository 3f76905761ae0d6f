use Rattle.tt_client.specs.Calls.{Feed}
use Rattle.tt_session.proofs.Sounds.{either_sound}
use Rattle.tt_session.proofs.player.PlayerHear.hear.Goals as goal

pub invariant_of-self : goal.invariant_of-self
invariant_of-self c = either_sound c.feed.result c.self.inside.client c.feed.new.self (Feed c.args.piece.now) c.feed.ensures.fed
    c.feed.ensures.same c.self.invariant
