use Rattle.std.proofs.Common.{ap, ◌∙◌, subst}
use Rattle.tt_gc_table.specs.Table.{Table}
use Rattle.tt_gc_table.specs.OpenAttempts.{Distinct}
use Rattle.tt_gc_table.specs.Parts.{without_meetings_of}
use Rattle.tt_gc_table.proofs.LeavingLaws.{leaves_table}
use Rattle.tt_gc_table.proofs.parts.Parts.quit.Goals as goal

pub returns : goal.returns
returns c = λ s.
    c.leave.ensures ∙ ap (without_meetings_of c.args.conn) c.end.ensures
    ∙ leaves_table s c.args.conn c.args.self.now (subst (λ (t : Table). Distinct t.meetings) c.self.view_is c.distinct.ensures)
