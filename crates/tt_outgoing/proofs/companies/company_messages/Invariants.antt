use Rattle.std.proofs.Common.{◌≡◌, ◌++◌, ℕ, List, drop, map}
use Rattle.std.specs.Prelude.{filter}
use Rattle.tt_world.specs.declared.company.Company.{Company}
use Rattle.tt_map.specs.Layout.{live_from}
use Rattle.tt_log.specs.Polls.{is_asked}
use Rattle.tt_outgoing.specs.Companies.{AreKnown, company_message, company_messages}
use Rattle.tt_outgoing.proofs.companies.company_messages.Given as goal

abbrev pub invariant-loop-number : goal.invariant-loop-number
invariant-loop-number l = (digests : List (ℕ × List ℕ)) → AreKnown l.topic l.locked digests
    → company_messages l.topic digests l.id l.world ≡ l.messages.items ++ map (company_message l.topic digests l.world)
    (filter (λ (live : ℕ × Company). is_asked l.id live.0) (live_from l.number (drop l.number l.world.companies)))
