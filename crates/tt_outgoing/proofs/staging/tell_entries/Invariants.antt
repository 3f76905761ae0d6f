use Rattle.std.proofs.Common.{◌≡◌, ◌++◌, drop, map}
use Rattle.tt_log.specs.Deed.{game}
use Rattle.tt_log.specs.PacketRules.{told_command}
use Rattle.tt_outgoing.specs.Staging.{Grows, packets_to}
use Rattle.tt_outgoing.proofs.staging.tell_entries.Given as goal

abbrev pub invariant-loop-entry : goal.invariant-loop-entry
invariant-loop-entry l = record {
  told : l.staged ++ packets_to l.to (map (λ e. game (told_command e)) (drop l.entry-index l.entries))
      ≡ l.initial.staged ++ packets_to l.to (map (λ e. game (told_command e)) l.entries);
  kept : Grows l.initial.staged l.staged;
}
