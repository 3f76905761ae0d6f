use Rattle.std.proofs.Common.{sym, ap, ◌∙◌, rules}
use Rattle.std.specs.Prelude.{slice_set}
use Rattle.tt_log.specs.Member.{Member}
use Rattle.tt_members.specs.Done.{renamed}
use Rattle.tt_members.proofs.Places.{set_in, none_in}
use Rattle.tt_members.proofs.order.rename.Goals as goal

pub returns-in-Some-place_of-clause-members : goal.returns-in-Some-place_of-clause-members
returns-in-Some-place_of-clause-members c =
    let d : Member = c.index_mut-m.result.now in
    let ms = c.args.members.now.items in
    let f : Member → Member = λ m. record m { name = c.in-Some.name } in
    let some = c.in-Some-place_of.ensures in
    ap (slice_set ms c.in-Some-place_of.at) (c.rename.ensures.renamed ∙ ap f c.index_mut-m.ensures.value)
    ∙ set_in c.in-Some.conn c.in-Some-place_of.at f d c.deref.result.now ms c.deref.ensures.value c.requires some.within (some.found d)
    ∙ ap (λ n. renamed n ms) (sym c.in-Some.is)

pub returns-in_default-place_of-clause-members : goal.returns-in_default-place_of-clause-members
returns-in_default-place_of-clause-members c =
    let ms = c.args.members.now.items in
    let f : Member → Member = λ m. record m { name = c.in-Some.name } in
    sym (none_in c.in-Some.conn f c.deref.result.now ms c.deref.ensures.value (search (rules))) ∙ ap (λ n. renamed n ms) (sym c.in-Some.is)
