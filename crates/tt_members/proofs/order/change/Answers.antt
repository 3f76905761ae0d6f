use Rattle.std.proofs.Common.{sym, ap, ◌∙◌, rules}
use Rattle.std.specs.Prelude.{slice_set}
use Rattle.tt_log.specs.Member.{Member}
use Rattle.tt_members.specs.Edits.{turned}
use Rattle.tt_members.proofs.Places.{set_in, none_in}
use Rattle.tt_members.proofs.order.change.Goals as goal

pub returns-in-Some-clause-members : goal.returns-in-Some-clause-members
returns-in-Some-clause-members c =
    let d : Member = c.index_mut.result.now in
    let ms = c.args.members.now.items in
    let some = c.in-Some.ensures in
    ap (slice_set ms c.in-Some.at) (c.turn.ensures.turned ∙ ap (turned c.args.edit) c.index_mut.ensures.value)
    ∙ set_in c.args.conn c.in-Some.at (turned c.args.edit) d c.deref.result.now ms c.deref.ensures.value c.requires some.within (some.found
    d)

pub returns-in_default-clause-members : goal.returns-in_default-clause-members
returns-in_default-clause-members c =
    sym (none_in c.args.conn (turned c.args.edit) c.deref.result.now c.args.members.now.items c.deref.ensures.value (search (rules)))
