use Rattle.std.proofs.Common.{◌-◌, length}
use Rattle.tt_admin_run.proofs.HearingLaws.{SoFar}
use Rattle.tt_admin_run.proofs.hearing.hear.Given as goal

-- the packets so far, and then what is left
abbrev pub invariant-packets : goal.invariant-packets
invariant-packets l = SoFar l.fn.notes l.notes l.bytes l.at l.fn.text.items l.text.items

abbrev pub decreases-packets : goal.decreases-packets
decreases-packets l = length l.bytes - l.at
