-- What founders are told and change, one list behind another.
use Rattle.std.proofs.Common.{◌≡◌, ℕ, List, [], ◌∷◌, ◌++◌, refl, sym, ap, ◌∙◌, append_assoc}
use Rattle.tt_log.specs.Member.{Member}
use Rattle.tt_members.specs.declared.edit.Edit.{Edit}
use Rattle.tt_members.specs.declared.step.Step.{Step}
use Rattle.tt_join.specs.Ticking.{founding_edits, founding_steps, member_by, moving_edits, moving_steps}

pub steps_append : (conns : List ℕ) (ms : List Member) (fs gs : List (ℕ × ℕ))
    → founding_steps conns ms (fs ++ gs) ≡ founding_steps conns ms fs ++ founding_steps conns ms gs
steps_append conns ms [] gs = refl
steps_append conns ms (f ∷ fs) gs =
    ap (λ (ss : List Step). moving_steps conns f.1 (member_by f.0 ms) ++ ss) (steps_append conns ms fs gs)
    ∙ sym (append_assoc (moving_steps conns f.1 (member_by f.0 ms)) (founding_steps conns ms fs) (founding_steps conns ms gs))

pub edits_append : (ms : List Member) (fs gs : List (ℕ × ℕ)) → founding_edits ms (fs ++ gs) ≡ founding_edits ms fs ++ founding_edits ms gs
edits_append ms [] gs = refl
edits_append ms (f ∷ fs) gs =
    ap (λ (es : List Edit). moving_edits f.1 (member_by f.0 ms) ++ es) (edits_append ms fs gs)
    ∙ sym (append_assoc (moving_edits f.1 (member_by f.0 ms)) (founding_edits ms fs) (founding_edits ms gs))
