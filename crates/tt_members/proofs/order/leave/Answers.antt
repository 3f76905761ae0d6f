use Rattle.std.proofs.Common.{sym, ◌∙◌, rules}
use Rattle.tt_log.specs.Member.{Member, new_member}
use Rattle.tt_members.proofs.Places.{remove_in, none_out}
use Rattle.tt_members.proofs.order.leave.Goals as goal

pub returns-in-Some-clause-members : goal.returns-in-Some-clause-members
returns-in-Some-clause-members c =
    let d : Member = new_member 0 0 0 in
    let some = c.in-Some.ensures in
    c.remove.ensures.items
    ∙ remove_in c.args.conn c.in-Some.at d c.deref.result.now c.args.members.now.items c.deref.ensures.value c.requires some.within
    (some.found d)

pub returns-in_default-clause-members : goal.returns-in_default-clause-members
returns-in_default-clause-members c = sym (none_out c.args.conn c.deref.result.now c.args.members.now.items c.deref.ensures.value (search
    (rules)))
