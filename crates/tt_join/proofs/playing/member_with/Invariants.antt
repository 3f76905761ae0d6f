use Rattle.std.proofs.Common.{◌≡◌}
use Rattle.std.specs.Prelude.{◌==◌, drop, find}
use Rattle.tt_join.proofs.playing.member_with.Given as goal

-- none of those so far has it
abbrev pub invariant-loop-m : goal.invariant-loop-m
invariant-loop-m l = find (λ m. m.client == l.client) (drop l.m-index l.members) ≡ find (λ m. m.client == l.client) l.members
