use Rattle.std.proofs.Common.{◌≡◌, drop}
use Rattle.std.specs.List.{list_any}
use Rattle.tt_outgoing.specs.Companies.{has_news}
use Rattle.tt_outgoing.proofs.news.is_any_news.Given as goal

abbrev pub invariant-loop-entry : goal.invariant-loop-entry
invariant-loop-entry l = list_any (λ e. has_news e.command.code) l.entries ≡ list_any (λ e. has_news e.command.code) (drop l.entry-index
    l.entries)
