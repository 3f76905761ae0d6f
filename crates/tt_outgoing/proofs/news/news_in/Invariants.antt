use Rattle.std.proofs.Common.{◌≡◌, ◌++◌, ℕ, List, drop}
use Rattle.tt_log.specs.Reports.{news_in}
use Rattle.tt_outgoing.specs.Sources.{AreLocks}
use Rattle.tt_outgoing.proofs.news.news_in.Given as goal

abbrev pub invariant-loop-entry : goal.invariant-loop-entry
invariant-loop-entry l = (digests : List (ℕ × List ℕ)) → AreLocks l.locked digests
    → news_in digests l.initial.world l.entries ≡ l.messages.items ++ news_in digests l.world (drop l.entry-index l.entries)
