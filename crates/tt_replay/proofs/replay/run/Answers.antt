use Rattle.std.proofs.Common.{◌≡◌, Err, ap, ◌∙◌}
use Rattle.tt_log.specs.declared.script.bad.ScriptBad.TheVariants.{Line}
use Rattle.tt_replay.proofs.replay.run.Goals as goal

pub returns-in-Err-Line-clause-bad : goal.returns-in-Err-Line-clause-bad
returns-in-Err-Line-clause-bad c line is =
    let told : c.in-Err-Line.line ≡ line = cc in
    c.in-Err-Line.ensures.bad line (ap Err (c.in-Err-Line.field-0-is ∙ ap Line told))
