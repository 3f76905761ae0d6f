use Rattle.std.proofs.Common.{refl}
use Rattle.tt_join.specs.Playing.{ordering}
use Rattle.tt_join.proofs.Ordered.{kept_calm}
use Rattle.tt_join.proofs.members.Members.own.Goals as goal

pub returns-clause-ordered : goal.returns-clause-ordered
returns-clause-ordered c =
    kept_calm _ c.args.self.now (ordering c.args.command) c.order.new.plan c.self.view_is c.self.invariant.0 c.self.invariant.2
    (record { arrives = refl; counts = refl; offers = refl }) c.order.ensures.plan
