use Rattle.std.proofs.Common.{sym, subst}
use Rattle.tt_members.specs.Rules.{Rise}
use Rattle.tt_members.proofs.Found.{rise_renamed, rise_offered}
use Rattle.tt_members.proofs.plan.Plan.put_members.Goals as goal

pub offer-requires-clause-rise : goal.offer-requires-clause-rise
offer-requires-clause-rise c = subst Rise (sym c.rename.ensures.members) (rise_renamed c.take.result c.args.members.now.items
    c.requires.rise)

pub apply_all-requires : goal.apply_all-requires
apply_all-requires c = subst Rise (sym c.offer.ensures.members) (rise_offered c.take-2.result c.rename.new.members.items
    (subst Rise (sym c.rename.ensures.members) (rise_renamed c.take.result c.args.members.now.items c.requires.rise)))
