use Rattle.std.proofs.Common.{◌≡◌, ◌++◌, drop}
use Rattle.tt_members.specs.Steps.{watching}
use Rattle.tt_outgoing.proofs.audience.watching.Given as goal

abbrev pub invariant-loop-admin : goal.invariant-loop-admin
invariant-loop-admin l = watching l.kind l.admins ≡ l.conns.items ++ watching l.kind (drop l.admin-index l.admins)
