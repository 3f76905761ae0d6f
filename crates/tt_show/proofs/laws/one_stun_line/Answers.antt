use Rattle.tt_coord.specs.declared.stun.StunMsg.{StunMsg}
use Rattle.tt_show.specs.Packets.{stun}
use Rattle.tt_show.proofs.ShowLaws.{spelled_line, line_spelled}
use Rattle.tt_show.proofs.laws.one_stun_line.Goals as goal

pub returns-clause-line : goal.returns-clause-line
returns-clause-line c m kind body spelled = spelled_line StunMsg stun kind body m spelled

pub returns-clause-only : goal.returns-clause-only
returns-clause-only c kind body line fits is = line_spelled StunMsg stun kind body line fits is
