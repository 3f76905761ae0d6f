use Rattle.std.proofs.Common.{◌≡◌, ◌+◌, length}
use Rattle.tt_session.specs.Acting.{Standing}
use Rattle.tt_session.specs.Session.{sink_now}
use Rattle.tt_session.proofs.Doings.{SoFar}
use Rattle.tt_session.proofs.Frames.{owed}
use Rattle.tt_session.proofs.acting.act.Given as goal

-- lines were done and frames were run
abbrev pub invariant-acting : goal.invariant-acting
invariant-acting g l =
    let sink = sink_now g.K.Sink.held g.K.Sink.faults in
    (s : Standing) → s.left ≡ l.fn.left.items → s.client ≡ l.fn.player → SoFar s l.left.items l.player (sink l.fn.sink) (sink l.sink)

-- the lines that are left, and the frames
abbrev pub decreases-acting : goal.decreases-acting
decreases-acting g l = length l.left.items + owed l.player.player.phase l.player.player.runs
