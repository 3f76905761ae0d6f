use Rattle.std.proofs.Common.{None, refl}
use Rattle.tt_log.specs.Events.{heard}
use Rattle.tt_log.specs.Member.{Member}
use Rattle.tt_log.specs.Table.{member_of}
use Rattle.tt_members.specs.Planned.{nothing}
use Rattle.tt_members.specs.Rules.{Rise}
use Rattle.tt_members.proofs.Behind.{does_by}
use Rattle.tt_join.proofs.Finding.{found_in, kept_found, kept_rise, ok_so}
use Rattle.tt_join.proofs.Heard.{bad_does, to_found}
use Rattle.tt_join.proofs.Ordered.{kept_calm}
use Rattle.tt_join.proofs.members.Members.bad.Goals as goal

pub returns : goal.returns
returns c =
    let m : Member = c.index.result.now in
    let s = c.args.self.now.setup in
    let k = c.args.self.now.crew in
    let here = found_in c.args.conn c.in-Some.at c.deref.result.now c.self.inside.members.items m c.deref.ensures.value c.index.ensures
    (c.in-Some.ensures.found m) in
    let is = kept_found _ c.args.self.now c.args.conn m c.self.view_is here in
    let rise : Rise k.members = kept_rise _ c.args.self.now c.self.view_is c.self.invariant.0 in
    record {
      plans = ok_so c.end_with.result c.end_with.ensures.plan (λ same r at.
          let d = bad_does s k c.args.now.now r m rise at.queued in
          let e = does_by s k c.args.now.now.frame c.args.now.now.top r _ c.end_with.new.plan _ same d in
          let f = to_found s k c.args.now.now.frame c.args.now.now.top r (λ t. member_of t c.args.conn) m (λ o k t. heard o None k t)
          c.end_with.new.plan is
          (record { told = e.told; table = e.table }) in
          record { told = f.told; table = f.table });
      ordered = ok_so c.end_with.result c.end_with.ensures.plan (λ same.
          kept_calm _ c.args.self.now _ c.end_with.new.plan c.self.view_is c.self.invariant.0 c.self.invariant.2
          (record { arrives = refl; counts = refl; offers = refl }) same);
    }

pub returns-in_default-clause-ordered : goal.returns-in_default-clause-ordered
returns-in_default-clause-ordered c =
    kept_calm _ c.args.self.now nothing c.args.plan.now c.self.view_is c.self.invariant.0 c.self.invariant.2
    (record { arrives = refl; counts = refl; offers = refl }) c.requires
