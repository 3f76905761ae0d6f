use Rattle.std.proofs.Common.{◌≡◌, length}
use Rattle.tt_rounds.specs.Links.{link_now}
use Rattle.tt_rounds.specs.Saying.{Moves}
use Rattle.tt_rounds.proofs.saying.say_round.Given as goal

-- what was given so far was written, but for what waits
abbrev pub invariant-saying : goal.invariant-saying
invariant-saying g l =
    let link = g.L.Link in
    let now = link_now link.counts link.left link.was_read link.held in
    record {
      moves : Moves g.P.Say.due g.P.Say.says l.fn.speaker l.speaker l.fn.outbox l.outbox (now l.fn.link) (now l.link);
      counts : link.counts l.link ≡ record (link.counts l.fn.link) { stalled = (link.counts l.link).stalled };
    }

abbrev pub decreases-saying : goal.decreases-saying
decreases-saying g l = length (g.P.Say.due l.speaker)
