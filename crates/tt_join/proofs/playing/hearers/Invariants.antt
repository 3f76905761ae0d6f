use Rattle.std.proofs.Common.{◌≡◌, ◌++◌}
use Rattle.std.specs.Prelude.{drop}
use Rattle.tt_join.specs.Playing.{hearers}
use Rattle.tt_join.proofs.playing.hearers.Given as goal

-- those so far, and those that are left
abbrev pub invariant-loop-m : goal.invariant-loop-m
invariant-loop-m l = l.conns.items ++ hearers l.scope l.to (drop l.m-index l.members) ≡ hearers l.scope l.to l.members
