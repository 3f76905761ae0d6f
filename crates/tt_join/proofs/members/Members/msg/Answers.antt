use Rattle.std.proofs.Common.{refl, subst, sym, Some}
use Rattle.tt_log.specs.Events.{heard}
use Rattle.tt_log.specs.Judged.{judged_by}
use Rattle.tt_log.specs.Member.{Member}
use Rattle.tt_log.specs.Origin.{origin_of}
use Rattle.tt_log.specs.Table.{member_of}
use Rattle.tt_members.specs.Crew.{Rest, origin_at, table_at}
use Rattle.tt_members.specs.Planned.{nothing}
use Rattle.tt_members.specs.Rules.{Rise}
use Rattle.tt_members.proofs.Behind.{does_by}
use Rattle.tt_members.proofs.Marked.{own_found}
use Rattle.tt_join.specs.Joining.{bare, made_from, with_crew}
use Rattle.tt_join.specs.Members.{IsOrdered}
use Rattle.tt_join.proofs.Finding.{found_in, kept_few, kept_found, kept_rise, ok_each, ok_so}
use Rattle.tt_join.proofs.Heard.{heard_does, to_found}
use Rattle.tt_join.proofs.Ordered.{heard_ordered, kept_calm}
use Rattle.tt_join.proofs.members.Members.msg.Goals as goal

pub returns : goal.returns
returns c =
    let m : Member = c.index.result.now in
    let s = c.args.self.now.setup in
    let k = c.args.self.now.crew in
    let now = c.args.now.now in
    let said = c.args.msg.now in
    let here = found_in c.args.conn c.in-Some.at c.deref.result.now c.self.inside.members.items m c.deref.ensures.value c.index.ensures
    (c.in-Some.ensures.found m) in
    let is = kept_found _ c.args.self.now c.args.conn m c.self.view_is here in
    let rise : Rise k.members = kept_rise _ c.args.self.now c.self.view_is c.self.invariant.0 in
    record {
      plans = ok_each c.hear.result (λ (r : Rest). c.hear.ensures.heard (origin_at s r) (table_at k now.frame now.top r)) (λ r same at.
          let own = own_found c.args.conn m (table_at k now.frame now.top r) is in
          let d = heard_does (judged_by now.live (origin_at s r) (table_at k now.frame now.top r) m said) said s k now r m rise own
          at.queued at.live at.many refl in
          let e = does_by s k now.frame now.top r _ c.hear.new.plan _ same d in
          let f = to_found s k now.frame now.top r (λ t. member_of t c.args.conn) m (λ o k t. heard o (Some said) k t) c.hear.new.plan is
          (record { told = e.told; table = e.table }) in
          record { told = f.told; table = f.table });
      ordered = ok_so c.hear.result (c.hear.ensures.heard (origin_of s) (bare k.members)) (λ same.
          let own = own_found c.args.conn m (bare k.members) is in
          let few = kept_few _ c.args.self.now c.self.view_is c.self.invariant.2 in
          let o = made_from s (origin_of s) in
          let t = with_crew k.members k.digests (bare k.members) in
          subst (IsOrdered k) (sym same) (heard_ordered (judged_by now.live o t m said) o t said s k now m rise few own refl));
    }

pub returns-in_default-clause-ordered : goal.returns-in_default-clause-ordered
returns-in_default-clause-ordered c =
    kept_calm _ c.args.self.now nothing c.args.plan.now c.self.view_is c.self.invariant.0 c.self.invariant.2
    (record { arrives = refl; counts = refl; offers = refl }) c.requires
