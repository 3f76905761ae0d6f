use Rattle.std.proofs.Common.{◌≡◌, ◌++◌, take, drop}
use Rattle.tt_admin_desk.specs.Seats.{placed}
use Rattle.tt_admin_desk.proofs.desk.place.Given as goal

abbrev pub invariant-loop-admin : goal.invariant-loop-admin
invariant-loop-admin l =
    placed l.next l.initial.admins ≡ take l.admin-index l.admins ++ placed l.next (drop l.admin-index l.admins)
