use Rattle.std.proofs.Common.{◌≡◌, ◌++◌}
use Rattle.std.specs.Prelude.{drop}
use Rattle.tt_members.specs.Leaving.{playing_in}
use Rattle.tt_members.proofs.leaving.playing.Given as goal

abbrev pub invariant-loop-m : goal.invariant-loop-m
invariant-loop-m l = l.conns.items ++ playing_in (drop l.m-index l.members) ≡ playing_in l.members
