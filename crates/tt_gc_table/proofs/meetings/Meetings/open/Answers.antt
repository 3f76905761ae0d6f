use Rattle.std.proofs.Common.{rules, ◌≡◌, ◌<◌, ◌∷◌, [], ◌++◌, ◌||◌, ℕ, List, sym, subst, ap, ◌∙◌}
use Rattle.std.specs.Prelude.{eqb}
use Rattle.std.specs.BTreeMap.{insert_entry}
use Rattle.std.specs.List.{AllByRecursion}
use Rattle.std.specs.Ordering.{nat_cmp}
use Rattle.tt_gc_table.specs.Table.{Meeting}
use Rattle.tt_gc_table.specs.OpenAttempts.{IsNumbered}
use Rattle.tt_gc_table.specs.ByConnection.{numbers_at, numbers_of}
use Rattle.tt_gc_table.proofs.ByToken.{put_last, numbered_last}
use Rattle.tt_gc_table.proofs.ByConnectionLaws.{numbers_below, undone, indexed_too}
use Rattle.tt_gc_table.proofs.meetings.Meetings.open.Goals as goal

pub add_both-requires : goal.add_both-requires
add_both-requires c =
    let es : List (ℕ × Meeting) = c.self.inside.by_number.entries in
    let above : AllByRecursion (λ (e : ℕ × Meeting). e.0 < c.args.number) es =
    subst (λ (es : List (ℕ × Meeting)). AllByRecursion (λ (e : ℕ × Meeting). e.0 < c.args.number) es) (sym c.self.view_is)
    c.requires.above in
    record {
      above = λ x. subst (AllByRecursion (λ (k : ℕ). k < c.args.number)) (sym (c.self.invariant.2 x))
          (numbers_below x c.args.number es above);
    }

pub invariant_of-self-then-is_err : goal.invariant_of-self-then-is_err
invariant_of-self-then-is_err c =
    let es : List (ℕ × Meeting) = c.self.inside.by_number.entries in
    let above : AllByRecursion (λ (e : ℕ × Meeting). e.0 < c.args.number) es =
    subst (λ (es : List (ℕ × Meeting)). AllByRecursion (λ (e : ℕ × Meeting). e.0 < c.args.number) es) (sym c.self.view_is)
    c.requires.above in
    let kept : c.insert.new.self.entries ≡ es = search rules in (
      subst IsNumbered (sym kept) c.self.invariant.0,
      c.insert.ensures.ordered,
      λ x. undone (λ (k : ℕ). eqb c.ends-ends.result.0 k || eqb c.ends-ends.result.1 k) (numbers_at c.self.inside.by_connection)
          (numbers_at c.add_both.new.self) (numbers_at c.forget_both.new.self) c.args.number
          (λ k. subst (AllByRecursion (λ (k : ℕ). k < c.args.number)) (sym (c.self.invariant.2 k)) (numbers_below k c.args.number es above))
          c.in_ok-add_both.ensures.ok c.forget_both.ensures x
          ∙ c.self.invariant.2 x ∙ ap (numbers_of x) (sym kept),
    )

pub invariant_of-self-else-is_err : goal.invariant_of-self-else-is_err
invariant_of-self-else-is_err c =
    let es : List (ℕ × Meeting) = c.self.inside.by_number.entries in
    let above : AllByRecursion (λ (e : ℕ × Meeting). e.0 < c.args.number) es =
    subst (λ (es : List (ℕ × Meeting)). AllByRecursion (λ (e : ℕ × Meeting). e.0 < c.args.number) es) (sym c.self.view_is)
    c.requires.above in
    let put : c.insert.new.self.entries ≡ insert_entry nat_cmp es c.args.number c.args.meeting = search rules in
    let are : c.insert.new.self.entries ≡ es ++ (c.args.number, c.args.meeting) ∷ [] =
    put ∙ put_last c.args.number c.args.meeting es above in (
      subst IsNumbered (sym are) (numbered_last c.args.number c.args.meeting es c.requires.token c.self.invariant.0),
      c.insert.ensures.ordered,
      λ x. indexed_too c.args.number c.ends-ends.result.0 c.ends-ends.result.1 es c.args.meeting c.self.inside.by_connection
          c.add_both.new.self c.ends-ends.ensures.server c.ends-ends.ensures.client c.self.invariant.2
          c.in_ok-add_both.ensures.ok x ∙ ap (numbers_of x) (sym are),
    )

pub returns-clause-ok : goal.returns-clause-ok
returns-clause-ok c =
    let es : List (ℕ × Meeting) = c.self.inside.by_number.entries in
    let above : AllByRecursion (λ (e : ℕ × Meeting). e.0 < c.args.number) es =
    subst (λ (es : List (ℕ × Meeting)). AllByRecursion (λ (e : ℕ × Meeting). e.0 < c.args.number) es) (sym c.self.view_is)
    c.requires.above in
    let put : c.insert.new.self.entries ≡ insert_entry nat_cmp es c.args.number c.args.meeting = search rules in
    put ∙ put_last c.args.number c.args.meeting es above
    ∙ ap (λ (es : List (ℕ × Meeting)). es ++ (c.args.number, c.args.meeting) ∷ []) c.self.view_is
