use Rattle.std.proofs.Common.{sym, ◌∙◌}
use Rattle.tt_gc_table.proofs.HeardLaws.{over_table, stage_table}
use Rattle.tt_gc_table.proofs.parts.Parts.reach.Goals as goal

pub returns-then-is_over : goal.returns-then-is_over
returns-then-is_over c = λ s m is at. c.close.ensures m is
    ∙ over_table s c.args.heard m c.args.self.now c.args.token.now c.args.stage is at (sym c.is_over.ensures ∙ c.if-is_over.true)

pub returns : goal.returns
returns c = λ s m is at. c.hear.ensures m is
    ∙ stage_table s c.args.heard m c.args.self.now c.args.token.now c.args.stage is at (sym c.is_over.ensures ∙ c.if-is_over.false)
