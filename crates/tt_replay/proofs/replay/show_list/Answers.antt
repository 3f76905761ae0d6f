use Rattle.std.proofs.Common.{◌≡◌, Err, ap, ◌∙◌}
use Rattle.tt_show.specs.declared.list.ShowError.TheVariants.{Line}
use Rattle.tt_replay.proofs.replay.show_list.Goals as goal

pub returns-in-Ok-clause-answer : goal.returns-in-Ok-clause-answer
returns-in-Ok-clause-answer c = let shown = c.in-Ok.ensures.shown in (shown.lines, shown.spelled, shown.shown)

pub returns-in-Err-Line-clause-bad : goal.returns-in-Err-Line-clause-bad
returns-in-Err-Line-clause-bad c line is =
    let told : c.in-Err-Line.line ≡ line = cc in
    c.in-Err-Line.ensures.bad line (ap Err (c.in-Err-Line.field-0-is ∙ ap Line told))
