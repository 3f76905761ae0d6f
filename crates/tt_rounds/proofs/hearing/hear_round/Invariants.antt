use Rattle.tt_rounds.specs.Links.{link_now}
use Rattle.tt_rounds.proofs.Hearings.{HearsSoFar}
use Rattle.tt_rounds.proofs.hearing.hear_round.Given as goal

-- each read so far gave a piece, and it was heard
abbrev pub invariant-hearing : goal.invariant-hearing
invariant-hearing g l =
    let link = g.L.Link in
    HearsSoFar g.H.Hear.hears l.fn.hearer l.hearer (link_now link.counts link.left link.was_read link.held l.fn.link)
    (link_now link.counts link.left link.was_read link.held l.link) l._reads
