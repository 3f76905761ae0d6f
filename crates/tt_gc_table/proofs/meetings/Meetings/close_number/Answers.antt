use Rattle.std.proofs.Common.{◌≡◌, ℕ, List, Some, sym, subst, ap, ◌∙◌}
use Rattle.std.specs.Ordering.{nat_cmp, eq_by_cmp}
use Rattle.std.specs.Map.{lookup}
use Rattle.tt_gc_table.specs.Table.{Meeting}
use Rattle.tt_gc_table.specs.OpenAttempts.{IsNumbered}
use Rattle.tt_gc_table.specs.ByConnection.{numbers_of}
use Rattle.tt_gc_table.proofs.ByToken.{numbered_remove}
use Rattle.tt_gc_table.proofs.ByConnectionLaws.{still_indexed}
use Rattle.tt_gc_table.proofs.meetings.Meetings.close_number.Goals as goal

pub invariant_of-self-2 : goal.invariant_of-self-2
invariant_of-self-2 c =
    let es : List (ℕ × Meeting) = c.self.inside.by_number.entries in
    let found : lookup (eq_by_cmp nat_cmp c.args.number) es ≡ Some c.in-Some.meeting = sym c.in-Some.ensures.value in (
      subst IsNumbered (sym c.in-Some.ensures.entries) (numbered_remove c.args.number es c.self.invariant.0),
      c.in-Some.ensures.ordered,
      λ x. still_indexed c.args.number c.ends-ends.result.0 c.ends-ends.result.1 es c.in-Some.meeting c.self.inside.by_connection
          c.forget_both.new.self found c.ends-ends.ensures.server c.ends-ends.ensures.client c.self.invariant.2 c.forget_both.ensures x
          ∙ ap (numbers_of x) (sym c.in-Some.ensures.entries),
    )
