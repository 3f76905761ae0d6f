use Rattle.std.proofs.Common.{◌≡◌, ◌++◌, take, drop}
use Rattle.tt_world.specs.Commands.{with_text}
use Rattle.tt_world.proofs.signs.change.Given as goal

abbrev pub invariant-loop-sign : goal.invariant-loop-sign
invariant-loop-sign l =
    with_text l.id l.owner l.text l.initial.signs ≡ take l.sign-index l.signs ++ with_text l.id l.owner l.text (drop l.sign-index l.signs)
