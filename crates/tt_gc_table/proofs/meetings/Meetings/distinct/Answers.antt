use Rattle.std.proofs.Common.{List, ℕ, subst}
use Rattle.std.specs.Ordering.{nat_cmp}
use Rattle.std.specs.Map.{keys_of}
use Rattle.std.proofs.lemmas.Map.Keys.{IsDistinct-from_sorted}
use Rattle.tt_gc_table.specs.Table.{Meeting}
use Rattle.tt_gc_table.specs.OpenAttempts.{meetings_of, Distinct}
use Rattle.tt_gc_table.proofs.LeavingLaws.{distinct_of}
use Rattle.tt_gc_table.proofs.meetings.Meetings.distinct.Goals as goal

pub returns : goal.returns
returns c =
    let es : List (ℕ × Meeting) = c.self.inside.by_number.entries in
    subst (λ (xs : List (ℕ × Meeting)). Distinct (meetings_of xs)) c.self.view_is (distinct_of es c.self.invariant.0
    (IsDistinct-from_sorted nat_cmp (keys_of es) c.self.invariant.1))
