use Rattle.std.proofs.Common.{List, ℕ, ◌++◌, subst, sym, ap, ap₂, ◌∙◌, append_assoc}
use Rattle.std.specs.List.{AllByRecursion, flat_map}
use Rattle.tt_log.specs.Lines.{Holds}
use Rattle.tt_log.specs.Written.{setting_text, line_text}
use Rattle.tt_log.specs.declared.script.line.Line1.{Line1}
use Rattle.tt_log.specs.declared.script.setting.Setting.TheVariants.{Seed}
use Rattle.tt_hour.specs.Hour.{hour_lines}
use Rattle.tt_hour.proofs.ScriptLaws.{hour_text, lines_fit, lines_hold}
use Rattle.tt_hour.proofs.hour.put_hour.Goals as goal

pub put_lines-requires : goal.put_lines-requires
put_lines-requires c = subst (AllByRecursion Holds) (sym c.new.ensures) (lines_hold (hour_lines c.args.number) (lines_fit c.args.number))

pub returns : goal.returns
returns c =
    let before : List ℕ = c.args.out.now.items in
    let seed : List ℕ = setting_text (Seed c.args.number) in
    let lines : List ℕ = flat_map line_text (hour_lines c.args.number) in
    c.in_ok-put_lines.ensures ∙ ap₂ (λ (a : List ℕ) (b : List Line1). a ++ flat_map line_text b) c.in_ok-put_seed.ensures c.new.ensures
    ∙ append_assoc before seed lines ∙ ap (λ (t : List ℕ). before ++ t) (hour_text c.args.number)
