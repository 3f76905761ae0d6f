use Rattle.std.proofs.Common.{◌≡◌, drop}
use Rattle.std.specs.Prelude.{find, is_some}
use Rattle.tt_log.specs.Table.{is_admin_on}
use Rattle.tt_table.proofs.game.is_admin.Given as goal

-- nobody on the connection so far
abbrev pub invariant-loop-admin : goal.invariant-loop-admin
invariant-loop-admin l =
    is_some (find (is_admin_on l.conn) l.admins) ≡ is_some (find (is_admin_on l.conn) (drop l.admin-index l.admins))
