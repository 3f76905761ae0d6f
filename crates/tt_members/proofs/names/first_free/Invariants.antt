use Rattle.std.proofs.Common.{◌≡◌, ◌+◌, ◌-◌, length}
use Rattle.tt_log.specs.Names.{first_free_name}
use Rattle.tt_log.specs.Table.{Table}
use Rattle.tt_members.specs.Places.{seated}
use Rattle.tt_members.proofs.names.first_free.Given as goal

-- the names so far were taken
abbrev pub invariant-loop-tried : goal.invariant-loop-tried
invariant-loop-tried l = (t : Table) → first_free_name (seated t l.taken) l.conn l.wanted 1 (length l.taken)
    ≡ first_free_name (seated t l.taken) l.conn l.wanted (l.tried + 1) (length l.taken - l.tried)
