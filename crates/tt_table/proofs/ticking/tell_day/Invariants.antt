use Rattle.std.proofs.Common.{◌≡◌, ◌++◌}
use Rattle.std.specs.Prelude.{drop, find, flat_map}
use Rattle.tt_log.specs.Admin.{Admin}
use Rattle.tt_log.specs.Table.{is_admin_on}
use Rattle.tt_table.specs.Ticking.{day_steps, period_steps}
use Rattle.tt_table.proofs.ticking.tell_day.Given as goal

-- what is told so far, and what is left to tell
abbrev pub invariant-loop-admin : goal.invariant-loop-admin
invariant-loop-admin l = l.last
    ++ flat_map (λ (a : Admin). period_steps l.day (find (is_admin_on a.conn) l.desk) a.conn) (drop l.admin-index l.admins)
    ≡ l.initial.last ++ day_steps l.day l.desk
