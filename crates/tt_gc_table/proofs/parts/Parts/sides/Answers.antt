use Rattle.std.proofs.Common.{sym, ap, ◌∙◌}
use Rattle.tt_gc_table.specs.Table.{live_sides}
use Rattle.tt_gc_table.proofs.LinesLaws.{sides_live}
use Rattle.tt_gc_table.proofs.parts.Parts.sides.Goals as goal

pub returns : goal.returns
returns c = c.sides.ensures ∙ sym (sides_live c.self.inside.lines.lines) ∙ ap live_sides c.self.view_is
