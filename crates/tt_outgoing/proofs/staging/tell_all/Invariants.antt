use Rattle.std.proofs.Common.{◌≡◌, ◌++◌, drop, map}
use Rattle.tt_log.specs.Deed.{game}
use Rattle.tt_outgoing.specs.Staging.{Grows, packets_to}
use Rattle.tt_outgoing.proofs.staging.tell_all.Given as goal

abbrev pub invariant-loop-message : goal.invariant-loop-message
invariant-loop-message l = record {
  told : l.staged ++ packets_to l.to (map game (drop l.message-index l.messages))
      ≡ l.initial.staged ++ packets_to l.to (map game l.messages);
  kept : Grows l.initial.staged l.staged;
}
