use Rattle.std.proofs.Common.{◌≡◌, true, ◌∙◌, sym, ap}
use Rattle.std.specs.BTreeMap.{get}
use Rattle.std.specs.Ordering.{nat_cmp}
use Rattle.tt_client.specs.Notes.{is_alone}
use Rattle.tt_client.proofs.Notes.{apart, none_other, noted_next}
use Rattle.tt_client.proofs.noted.other_word.Goals as goal

pub returns-then-is_alone-clause-other : goal.returns-then-is_alone-clause-other
returns-then-is_alone-clause-other c =
    let old = c.args.noted.now in
    let alone : is_alone (get nat_cmp old c.args.frame) c.args.mine ≡ true = ap (λ o. is_alone o c.args.mine) (sym
    c.remove-told.ensures.value) ∙ sym c.is_alone.ensures.alone ∙ c.if-is_alone.true in
    sym (none_other c.args.frame c.args.mine old c.args.syncs.now.items c.requires.noted alone)

pub returns-then-is_alone-clause-noted : goal.returns-then-is_alone-clause-noted
returns-then-is_alone-clause-noted c =
    noted_next c.args.frame c.args.noted.now c.remove-told.new.self c.args.syncs.now.items
    (λ g le. c.remove-told.ensures.updates.2 g (apart c.args.frame g le)) c.requires.noted

pub returns-clause-noted : goal.returns-clause-noted
returns-clause-noted c =
    noted_next c.args.frame c.args.noted.now c.remove-told.new.self c.args.syncs.now.items
    (λ g le. c.remove-told.ensures.updates.2 g (apart c.args.frame g le)) c.requires.noted
