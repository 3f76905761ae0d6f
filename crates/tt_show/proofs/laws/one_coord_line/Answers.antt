use Rattle.tt_coord.specs.declared.coord.CoordMsg.{CoordMsg}
use Rattle.tt_show.specs.Packets.{coord}
use Rattle.tt_show.proofs.ShowLaws.{spelled_line, line_spelled}
use Rattle.tt_show.proofs.laws.one_coord_line.Goals as goal

pub returns-clause-line : goal.returns-clause-line
returns-clause-line c m kind body spelled = spelled_line CoordMsg coord kind body m spelled

pub returns-clause-only : goal.returns-clause-only
returns-clause-only c kind body line fits is = line_spelled CoordMsg coord kind body line fits is
