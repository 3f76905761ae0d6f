-- A plan to which nothing but changes and steps was added is the same plan with other changes and steps.
use Rattle.std.proofs.Common.{◌≡◌, List, [], ◌++◌, refl, sym, ap₂, ◌∙◌, append-nil}
use Rattle.tt_members.specs.declared.edit.Edit.{Edit}
use Rattle.tt_members.specs.declared.step.Step.{Step}
use Rattle.tt_members.specs.Planned.{Planned, IsPlain}
use Rattle.tt_join.specs.Ticking.{adds}

pub plain_is : (p q : Planned) → IsPlain p q → q ≡ record p { edits = q.edits; steps = q.steps }
plain_is p q plain = rw (
  plain.names,
  plain.offers,
  plain.asks,
  plain.counts,
  plain.arrives,
  plain.orders,
  plain.locks,
  plain.words,
  plain.beat,
) refl

-- the same, where they were added
pub added : (p q : Planned) (es : List Edit) (ss : List Step) → IsPlain p q → q.edits ≡ p.edits ++ es → q.steps ≡ p.steps ++ ss → q ≡ adds
    es ss p
added p q es ss plain edits steps =
    plain_is p q plain ∙ ap₂ (λ (xs : List Edit) (ys : List Step). record p { edits = xs; steps = ys }) edits steps

pub added_steps : (p q : Planned) (ss : List Step) → IsPlain p q → q.edits ≡ p.edits → q.steps ≡ p.steps ++ ss → q ≡ adds [] ss p
added_steps p q ss plain edits steps = added p q [] ss plain (edits ∙ sym (append-nil p.edits)) steps
