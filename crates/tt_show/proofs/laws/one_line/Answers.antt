use Rattle.tt_game.specs.declared.message.GameMsg.{GameMsg}
use Rattle.tt_show.specs.Packets.{game}
use Rattle.tt_show.proofs.ShowLaws.{spelled_line, line_spelled}
use Rattle.tt_show.proofs.laws.one_line.Goals as goal

pub returns-clause-line : goal.returns-clause-line
returns-clause-line c m kind body spelled = spelled_line GameMsg game kind body m spelled

pub returns-clause-only : goal.returns-clause-only
returns-clause-only c kind body line fits is = line_spelled GameMsg game kind body line fits is
