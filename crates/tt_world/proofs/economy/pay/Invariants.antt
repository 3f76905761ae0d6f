use Rattle.std.proofs.Common.{◌≡◌, ◌++◌, take, drop}
use Rattle.tt_world.specs.Economy.{paid}
use Rattle.tt_world.proofs.economy.pay.Given as goal

abbrev pub invariant-loop-place : goal.invariant-loop-place
invariant-loop-place l = paid l.initial.companies ≡ take l.place-index l.companies ++ paid (drop l.place-index l.companies)
