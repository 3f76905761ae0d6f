use Rattle.std.proofs.Common.{◌≡◌, ◌+◌, not, length, List, subst, arith}
use Rattle.std.specs.Prelude.{filter}
use Rattle.tt_gc_table.specs.declared.lines.Line.{Line}
use Rattle.tt_gc_table.specs.Table.{Table, is_on}
use Rattle.tt_gc_table.proofs.LinesLaws.{kept_above}
use Rattle.tt_gc_table.proofs.parts.Parts.next_is_new.Goals as goal

pub returns : goal.returns
returns c =
    let ls : List Line = c.self.inside.lines.lines in
    subst (λ (t : Table). filter (λ c. not (is_on (t.openings + 1) c)) t.connections ≡ t.connections) c.self.view_is
    (kept_above 1 (length ls + 1) ls (omega arith))
