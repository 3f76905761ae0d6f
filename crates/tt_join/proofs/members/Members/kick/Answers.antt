use Rattle.std.proofs.Common.{refl, sym}
use Rattle.tt_log.specs.Console.{kicks_out}
use Rattle.tt_log.specs.Member.{Member}
use Rattle.tt_log.specs.Table.{member_with}
use Rattle.tt_members.specs.Planned.{nothing}
use Rattle.tt_members.specs.Rules.{Rise}
use Rattle.tt_members.proofs.Behind.{does_by}
use Rattle.tt_join.proofs.Enters.{end_does}
use Rattle.tt_join.proofs.Finding.{kept_rise, ok_so}
use Rattle.tt_join.proofs.Heard.{to_found}
use Rattle.tt_join.proofs.Ordered.{kept_calm, kept_client}
use Rattle.tt_join.proofs.members.Members.kick.Goals as goal

pub returns-in_default-clause-ordered : goal.returns-in_default-clause-ordered
returns-in_default-clause-ordered c =
    kept_calm _ c.args.self.now nothing c.args.plan.now c.self.view_is c.self.invariant.0 c.self.invariant.2
    (record { arrives = refl; counts = refl; offers = refl }) c.requires.empty

pub returns : goal.returns
returns c =
    let m : Member = c.in-Some.m.now in
    let s = c.args.self.now.setup in
    let k = c.args.self.now.crew in
    let frame = c.args.now.now.frame in
    let top = c.args.now.now.top in
    let is = kept_client _ c.args.self.now c.args.client c.deref.result.now m c.self.view_is c.deref.ensures.value
    (sym c.in-Some.ensures.found) in
    let rise : Rise k.members = kept_rise _ c.args.self.now c.self.view_is c.self.invariant.0 in
    record {
      plans = ok_so c.end_with.result c.end_with.ensures.plan (λ same r at.
          let d = end_does s k frame top r m 12 rise at.queued in
          let e = does_by s k frame top r _ c.end_with.new.plan _ same d in
          let f = to_found s k frame top r (λ t. member_with c.args.client t) m (λ o k t. kicks_out k t) c.end_with.new.plan is
          (record { told = e.told; table = e.table }) in
          record { told = f.told; table = f.table });
      ordered = ok_so c.end_with.result c.end_with.ensures.plan (λ same.
          kept_calm _ c.args.self.now _ c.end_with.new.plan c.self.view_is c.self.invariant.0 c.self.invariant.2
          (record { arrives = refl; counts = refl; offers = refl }) same);
    }
