use Rattle.tt_admin.specs.declared.message.AdminMsg.{AdminMsg}
use Rattle.tt_show.specs.Packets.{admin}
use Rattle.tt_show.proofs.ShowLaws.{spelled_line, line_spelled}
use Rattle.tt_show.proofs.laws.one_admin_line.Goals as goal

pub returns-clause-line : goal.returns-clause-line
returns-clause-line c m kind body spelled = spelled_line AdminMsg admin kind body m spelled

pub returns-clause-only : goal.returns-clause-only
returns-clause-only c kind body line fits is = line_spelled AdminMsg admin kind body line fits is
