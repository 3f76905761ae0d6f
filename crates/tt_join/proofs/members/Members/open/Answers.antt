use Rattle.tt_join.proofs.Finding.{ok_so}
use Rattle.tt_join.proofs.Ordered.{kept_open}
use Rattle.tt_join.proofs.members.Members.open.Goals as goal

pub returns-clause-ordered : goal.returns-clause-ordered
returns-clause-ordered c = ok_so c.open.result c.open.ensures.plan (λ same.
    kept_open _ c.args.self.now _ c.args.conn c.in-Some.client c.args.now.now.frame c.open.new.plan c.self.view_is c.self.invariant.0
    c.in-Some.ensures.0 c.requires.taken same)
