use Rattle.std.proofs.Common.{◌≡◌, ◌++◌, ◌∷◌, [], ◌<◌, sym, subst, ap, ◌∙◌, rules, List, length}
use Rattle.std.specs.Prelude.{slice_set, slice_index_or}
use Rattle.tt_log.specs.Member.{Member}
use Rattle.tt_members.specs.Done.{offered}
use Rattle.tt_members.specs.Rules.{HasRoom}
use Rattle.tt_members.proofs.Found.{found_on}
use Rattle.tt_members.proofs.Places.{set_in, none_in, holds_found}
use Rattle.tt_members.proofs.order.offer.Goals as goal

pub returns-in-Some-place_of-clause-members : goal.returns-in-Some-place_of-clause-members
returns-in-Some-place_of-clause-members c =
    let d : Member = c.index_mut-m.result.now in
    let ms = c.args.members.now.items in
    let w = c.in-Some.offer in
    let at = c.in-Some-place_of.at in
    let f : Member → Member = λ m. record m { waiting = m.waiting ++ (w.company, w.command) ∷ [] } in
    let some = c.in-Some-place_of.ensures in
    let within : at < length ms = subst (λ (ys : List Member). at < length ys) c.deref.ensures.value some.within in
    let on_it = found_on w.conn (slice_index_or c.deref.result.now at d) c.deref.result.now (some.found d) in
    let here = subst (λ (ys : List Member). (slice_index_or ys at d).conn ≡ w.conn) c.deref.ensures.value on_it in
    let room : length (slice_index_or ms at d).waiting < 16 =
    holds_found w.conn at (λ m. length m.waiting < 16) d ms (subst (λ o. HasRoom o ms) c.in-Some.is c.requires.room) within here in
    let small : length d.waiting < 16 = subst (λ (m : Member). length m.waiting < 16) (sym c.index_mut-m.ensures.value) room in
    ap (slice_set ms at) (c.offer.ensures.last (c.offer.ensures.room.1 small) ∙ ap f c.index_mut-m.ensures.value)
    ∙ set_in w.conn at f d c.deref.result.now ms c.deref.ensures.value c.requires.rise some.within (some.found d)
    ∙ ap (λ o. offered o ms) (sym c.in-Some.is)

pub returns-in_default-place_of-clause-members : goal.returns-in_default-place_of-clause-members
returns-in_default-place_of-clause-members c =
    let ms = c.args.members.now.items in
    let w = c.in-Some.offer in
    let f : Member → Member = λ m. record m { waiting = m.waiting ++ (w.company, w.command) ∷ [] } in
    sym (none_in w.conn f c.deref.result.now ms c.deref.ensures.value (search (rules))) ∙ ap (λ o. offered o ms) (sym c.in-Some.is)
