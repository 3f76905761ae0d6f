use Rattle.std.proofs.Common.{◌≡◌, fold, length}
use Rattle.std.specs.List.{AllByRecursion}
use Rattle.tt_log.specs.Lines.{IsLine}
use Rattle.tt_log.specs.Origin.{Origin}
use Rattle.tt_playing.specs.Played.{Played, done}
use Rattle.tt_playing.specs.Playing.{IsAt}
use Rattle.tt_hour_run.proofs.played.do_lines.Given as goal

-- what was done and what is left is all that there was to do
abbrev pub invariant-loop-line : goal.invariant-loop-line
invariant-loop-line l = record {
  lines : AllByRecursion IsLine l.lines;
  at : (o : Origin) (p : Played) → IsAt o l.fn.play p
      → (q : Played) × IsAt o l.play q × (fold (done o) q l.lines ≡ fold (done o) p l.fn.lines);
}

abbrev pub decreases-loop-line : goal.decreases-loop-line
decreases-loop-line l = length l.lines
