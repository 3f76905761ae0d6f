use Rattle.std.proofs.Common.{refl}
use Rattle.tt_join.proofs.Finding.{ok_so}
use Rattle.tt_join.proofs.Ordered.{kept_calm}
use Rattle.tt_join.proofs.members.Members.say.Goals as goal

pub returns-clause-ordered : goal.returns-clause-ordered
returns-clause-ordered c = ok_so c.chat.result c.chat.ensures.plan (λ same.
    kept_calm _ c.args.self.now _ c.chat.new.plan c.self.view_is c.self.invariant.0 c.self.invariant.2
    (record { arrives = refl; counts = refl; offers = refl }) same)
