use Rattle.std.proofs.Common.{◌≡◌, ◌++◌, drop, map}
use Rattle.tt_log.specs.Deed.{admin}
use Rattle.tt_outgoing.specs.Staging.{Grows, packets_to}
use Rattle.tt_outgoing.proofs.staging.tell_reports.Given as goal

abbrev pub invariant-loop-message : goal.invariant-loop-message
invariant-loop-message l = record {
  told : l.staged ++ packets_to l.to (map admin (drop l.message-index l.messages))
      ≡ l.initial.staged ++ packets_to l.to (map admin l.messages);
  kept : Grows l.initial.staged l.staged;
}
