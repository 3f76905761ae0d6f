use Rattle.std.proofs.Common.{◌≡◌, ◌++◌, take, drop}
use Rattle.std.specs.Prelude.{map}
use Rattle.tt_log.specs.Tick.{drawn}
use Rattle.tt_members.proofs.order.draw_all.Given as goal

abbrev pub invariant-loop-m : goal.invariant-loop-m
invariant-loop-m l = map drawn l.initial.m-items ≡ take l.m-index l.m-items ++ map drawn (drop l.m-index l.m-items)
