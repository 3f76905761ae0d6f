use Rattle.std.proofs.Common.{◌≡◌, true, false, ap, sym, ◌∙◌}
use Rattle.std.specs.Prelude.{not}
use Rattle.tt_log.specs.Judged.{is_empty}
use Rattle.tt_join.specs.Joining.{with_crew}
use Rattle.tt_join.proofs.Refusals.{empty-is, holds, passed, passes}
use Rattle.tt_join.proofs.refusing.join_refused.Goals as goal

pub returns-then-not-is_same_game-clause-refused : goal.returns-then-not-is_same_game-clause-refused
returns-then-not-is_same_game-clause-refused c = λ o t.
    holds _ _ _ (ap not (sym (c.is_same_game.ensures.same o) ∙ c.if-not-is_same_game.true))

pub returns-then-is_empty-clause-refused : goal.returns-then-is_empty-clause-refused
returns-then-is_empty-clause-refused c = λ o t.
    let empty : is_empty c.args.name.now ≡ true = ap is_empty (sym c.bytes.ensures.same) ∙ empty-is c.bytes.result.now ∙ sym
    c.is_empty.ensures
    ∙ c.if-is_empty.true in
    passes _ _ _ _ (ap not (sym (c.is_same_game.ensures.same o) ∙ c.if-not-is_same_game.false)) (holds _ _ _ empty)

pub returns-then-not-may_ask_for-clause-refused : goal.returns-then-not-may_ask_for-clause-refused
returns-then-not-may_ask_for-clause-refused c = λ o t.
    let some : is_empty c.args.name.now ≡ false = ap is_empty (sym c.bytes.ensures.same) ∙ empty-is c.bytes.result.now ∙ sym
    c.is_empty.ensures
    ∙ c.if-is_empty.false in
    passes _ _ _ _ (ap not (sym (c.is_same_game.ensures.same o) ∙ c.if-not-is_same_game.false))
    (passes _ _ _ _ some (holds _ _ _ (ap not (sym c.may_ask_for.ensures.may ∙ c.if-not-may_ask_for.true))))

pub returns-clause-refused : goal.returns-clause-refused
returns-clause-refused c = λ o t.
    let some : is_empty c.args.name.now ≡ false = ap is_empty (sym c.bytes.ensures.same) ∙ empty-is c.bytes.result.now ∙ sym
    c.is_empty.ensures
    ∙ c.if-is_empty.false in
    passes _ _ _ _ (ap not (sym (c.is_same_game.ensures.same o) ∙ c.if-not-is_same_game.false))
    (passes _ _ _ _ some (passes _ _ _ _ (ap not (sym c.may_ask_for.ensures.may ∙ c.if-not-may_ask_for.false))
    (c.name_refused.ensures.refused (with_crew c.args.scene.members.now c.args.scene.digests.now t) ∙ passed _ _ _ some)))
