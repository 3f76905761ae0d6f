use Rattle.std.proofs.Common.{◌≡◌, ◌++◌, take, drop}
use Rattle.tt_members.specs.Edits.{permitted}
use Rattle.tt_members.proofs.order.permit_all.Given as goal

-- those before are told, and those behind are told by the words that are left
abbrev pub invariant-loop-m : goal.invariant-loop-m
invariant-loop-m l = permitted l.frame l.top l.initial.words l.initial.m-items
    ≡ take l.m-index l.m-items ++ permitted l.frame l.top l.words (drop l.m-index l.m-items)
