use Rattle.std.proofs.Common.{◌≡◌, drop}
use Rattle.std.specs.Prelude.{find}
use Rattle.tt_log.specs.Table.{is_admin_on}
use Rattle.tt_admin_desk.proofs.desk.admin_on.Given as goal

-- nobody on the connection so far
abbrev pub invariant-loop-admin : goal.invariant-loop-admin
invariant-loop-admin l = find (is_admin_on l.conn) l.admins ≡ find (is_admin_on l.conn) (drop l.admin-index l.admins)
