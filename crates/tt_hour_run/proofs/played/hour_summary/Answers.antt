use Rattle.tt_hour.specs.Hour.{hour_script, hour_lines}
use Rattle.tt_playing.specs.Begun.{origin_in}
use Rattle.tt_playing.specs.Played.{played}
use Rattle.tt_hour_run.proofs.played.hour_summary.Goals as goal

pub returns : goal.returns
returns c =
    let game = origin_in (hour_script c.args.number) in
    c.summary_of.ensures game (played game (hour_lines c.args.number)) c.in_ok-play.ensures
