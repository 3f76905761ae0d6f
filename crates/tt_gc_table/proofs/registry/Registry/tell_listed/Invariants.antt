use Rattle.std.proofs.Common.{◌≡◌, ℕ, ◌++◌, map}
use Rattle.std.specs.Prelude.{filter}
use Rattle.tt_gc_table.specs.Deed.{each}
use Rattle.tt_gc_table.specs.Told.{bytes_to}
use Rattle.tt_gc_table.specs.Tells.{told_to}
use Rattle.tt_gc_table.specs.Registry.{servers_of, server_at}
use Rattle.tt_gc_table.specs.PacketRules.{is_listed, tells_server}
use Rattle.tt_gc_table.proofs.registry.Registry.tell_listed.Given as goal

abbrev pub invariant-loop-code : goal.invariant-loop-code
invariant-loop-code l =
    (c : ℕ) → told_to c l.out ++ bytes_to c (each (filter (is_listed l.revision) (map server_at l.code-iterator)) (tells_server l.conn)
    l.parts).told
    ≡ told_to c l.initial.out ++ bytes_to c (each (filter (is_listed l.revision) (servers_of l.self)) (tells_server l.conn) l.parts).told
