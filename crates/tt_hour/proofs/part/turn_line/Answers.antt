use Rattle.std.proofs.Common.{ℕ, ◌+◌, Some, ap, sym, ◌∙◌}
use Rattle.tt_hour.specs.Hour.{acting}
use Rattle.tt_hour.specs.Left.{command_of}
use Rattle.tt_hour.proofs.RoundLaws.{pump_at, behind_pumps}
use Rattle.tt_log.specs.declared.script.line.Line1.TheVariants.{Pump}
use Rattle.tt_hour.proofs.part.turn_line.Goals as goal

pub returns-then-at-there-clause-line : goal.returns-then-at-there-clause-line
returns-then-at-there-clause-line c =
    let acts = acting c.args.drawn.now.client (command_of c.args.drawn.now.order) in
    ap (λ (k : ℕ). Some (Pump (k + 1))) c.from.ensures ∙ sym (pump_at c.args.there c.args.at acts c.if-at-there.true)

pub returns-clause-line : goal.returns-clause-line
returns-clause-line c =
    let acts = acting c.args.drawn.now.client (command_of c.args.drawn.now.order) in
    c.acting_line.ensures.line ∙ sym (behind_pumps c.args.there c.args.at acts c.if-at-there.false)
