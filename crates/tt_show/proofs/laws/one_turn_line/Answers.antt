use Rattle.tt_coord.specs.declared.turn.TurnMsg.{TurnMsg}
use Rattle.tt_show.specs.Packets.{turn}
use Rattle.tt_show.proofs.ShowLaws.{spelled_line, line_spelled}
use Rattle.tt_show.proofs.laws.one_turn_line.Goals as goal

pub returns-clause-line : goal.returns-clause-line
returns-clause-line c m kind body spelled = spelled_line TurnMsg turn kind body m spelled

pub returns-clause-only : goal.returns-clause-only
returns-clause-only c kind body line fits is = line_spelled TurnMsg turn kind body line fits is
