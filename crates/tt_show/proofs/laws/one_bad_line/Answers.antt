use Rattle.tt_lines.specs.Lines.{lines_of}
use Rattle.tt_show.proofs.ListLaws.{one_first_bad}
use Rattle.tt_show.proofs.laws.one_bad_line.Goals as goal

pub returns : goal.returns
returns c input l k first other = one_first_bad (lines_of input) l k first other
