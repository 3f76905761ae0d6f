use Rattle.std.proofs.Common.{length}
use Rattle.tt_rounds.specs.Links.{link_now}
use Rattle.tt_rounds.proofs.Sayings.{Written}
use Rattle.tt_rounds.proofs.outbox.Outbox.flush.Given as goal

-- a front of what waited was written
abbrev pub invariant-writing : goal.invariant-writing
invariant-writing g l =
    let link = g.L.Link in
    Written l.fn.self l.self (link_now link.counts link.left link.was_read link.held l.fn.link)
    (link_now link.counts link.left link.was_read link.held l.link)

abbrev pub decreases-writing : goal.decreases-writing
decreases-writing g l = length l.self
