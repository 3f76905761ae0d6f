use Rattle.std.proofs.Common.{ℕ, List, subst}
use Rattle.std.specs.Ordering.{nat_cmp, eq_by_cmp}
use Rattle.std.specs.List.{IsDistinct}
use Rattle.std.specs.Map.{keys_of}
use Rattle.std.proofs.lemmas.Map.Keys.{IsDistinct-from_sorted}
use Rattle.tt_gc_table.specs.Table.{Meeting}
use Rattle.tt_gc_table.proofs.meetings.Meetings.numbers.Goals as goal

pub returns-clause-apart : goal.returns-clause-apart
returns-clause-apart c =
    subst (λ (es : List (ℕ × Meeting)). IsDistinct (eq_by_cmp nat_cmp) (keys_of es)) c.self.view_is
    (IsDistinct-from_sorted nat_cmp (keys_of c.self.inside.by_number.entries) c.self.invariant.1)
