use Rattle.tt_playing.specs.Begun.{origin_in}
use Rattle.tt_playing.specs.Played.{played}
use Rattle.tt_replay.proofs.replay.report_of_script.Goals as goal

pub report_of-requires : goal.report_of-requires
report_of-requires c =
    let to = c.in_ok-play.ensures.played in
    record { stands = (origin_in to.script, played (origin_in to.script) to.script.lines, to.at); keeps = c.in_ok-play.ensures.keeps }

pub returns : goal.returns
returns c =
    let to = c.in_ok-play.ensures.played in
    record {
      answer = (
        to.script,
        to.spelled,
        c.in_ok-report.ensures.text (origin_in to.script) (played (origin_in to.script) to.script.lines) to.at,
      );
    }
