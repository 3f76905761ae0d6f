use Rattle.std.proofs.Common.{◌≡◌, List, length}
use Rattle.tt_log.specs.Reader as reader
use Rattle.tt_log.specs.Script.{lines_in}
use Rattle.tt_log.specs.declared.script.step.Step.{Step}
use Rattle.tt_playing.specs.Begun.{origin_from}
use Rattle.tt_playing.specs.Played.{played}
use Rattle.tt_playing.specs.Playing.{IsAt}
use Rattle.tt_playing.proofs.play.play_script.Given as goal

-- the reader stands behind some steps, and they were done
abbrev pub invariant-loop-step : goal.invariant-loop-step
invariant-loop-step l = (read : List Step) × (reader.IsAt l.reader l.bytes read
    × IsAt (origin_from l.start.setup l.start.saved.items) l.play (played (origin_from l.start.setup l.start.saved.items) (lines_in read))
    × (l.play.keeps ≡ l.keeps))

abbrev pub decreases-loop-step : goal.decreases-loop-step
decreases-loop-step l = length l.reader.rest
