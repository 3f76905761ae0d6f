use Rattle.tt_rules.proofs.live.Live.of.Given as goal
use Rattle.tt_rules.proofs.Places.{IsCopied}

abbrev pub invariant-loop-n : goal.invariant-loop-n
invariant-loop-n l = IsCopied l.world l.n l.places
