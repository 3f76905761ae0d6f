use Rattle.std.proofs.Common.{length}
use Rattle.tt_play_file.proofs.FileLaws.{IsAt}
use Rattle.tt_play_file.proofs.reader.parse_commands.Given as goal

-- the first lines were read
abbrev pub invariant-reading : goal.invariant-reading
invariant-reading l = IsAt l.bytes l.rest l.last l.count l.lines.items

abbrev pub decreases-reading : goal.decreases-reading
decreases-reading l = length l.rest
