use Rattle.std.proofs.Common.{◌≡◌, ◌++◌, take, drop}
use Rattle.tt_world.specs.Economy.{earned}
use Rattle.tt_world.proofs.economy.earn.Given as goal

abbrev pub invariant-loop-place : goal.invariant-loop-place
invariant-loop-place l =
    ((earned l.initial.random l.initial.companies).0 ≡ (earned l.random (drop l.place-index l.companies)).0)
    × ((earned l.initial.random l.initial.companies).1 ≡ take l.place-index l.companies
    ++ (earned l.random (drop l.place-index l.companies)).1)
