-- What was heard is what the rules do.
use Rattle.std.proofs.Common.{◌≡◌, ℕ, true, refl, ap}
use Rattle.tt_log.specs.Admin.{Admin}
use Rattle.tt_log.specs.Table.{Table}
use Rattle.tt_admin_desk.specs.declared.heard.Heard.{Heard}
use Rattle.tt_admin_desk.specs.declared.heard.Heard.TheVariants.{Joined, Bits, Ask, Say, Console, Pong, Nothing, Leave, Ends}
use Rattle.tt_admin_desk.specs.Asked.{meant}
use Rattle.tt_admin_desk.specs.Hearing.{does}
use Rattle.tt_admin_desk.specs.Seats.{committed, stays}
use Rattle.tt_admin_desk.proofs.AdminsKept.{console-kept}

pub stays-kept : (h : Heard) (a : Admin) (t : Table) → stays h ≡ true → (does h a t).table.admins ≡ (committed h a t).admins
stays-kept Joined a t is = refl
stays-kept (Bits kind bits) a t is = refl
stays-kept (Ask question) a t is = refl
stays-kept (Say scope to text) a t is = refl
stays-kept (Console text command) a t is = console-kept (meant command) t
stays-kept (Pong id) a t is = refl
stays-kept Nothing a t is = refl
stays-kept Leave a t is = cc
stays-kept (Ends code) a t is = cc
