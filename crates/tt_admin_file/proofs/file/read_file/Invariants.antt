use Rattle.std.proofs.Common.{length}
use Rattle.tt_admin_file.proofs.FileLaws.{SoFar}
use Rattle.tt_admin_file.proofs.file.read_file.Given as goal

-- the lines so far, and then what is left
abbrev pub invariant-reading : goal.invariant-reading
invariant-reading l = SoFar l.input l.rest l.lines.items l.number

abbrev pub decreases-reading : goal.decreases-reading
decreases-reading l = length l.rest
