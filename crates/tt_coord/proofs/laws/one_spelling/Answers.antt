use Rattle.tt_frame.proofs.FamilyLaws.{same_spelling}
use Rattle.tt_coord.specs.declared.coord.CoordMsg.{CoordMsg}
use Rattle.tt_coord.specs.Coord.{coord_family}
use Rattle.tt_coord.proofs.CoordLaws.{coord_lawful}
use Rattle.tt_coord.specs.declared.stun.StunMsg.{StunMsg}
use Rattle.tt_coord.specs.Stun.{stun_family}
use Rattle.tt_coord.proofs.StunLaws.{stun_lawful}
use Rattle.tt_coord.specs.declared.turn.TurnMsg.{TurnMsg}
use Rattle.tt_coord.specs.Turn.{turn_family}
use Rattle.tt_coord.proofs.TurnLaws.{turn_lawful}
use Rattle.tt_coord.proofs.laws.one_spelling.Goals as goal

pub returns-clause-coord : goal.returns-clause-coord
returns-clause-coord c m kind other body bytes one two = same_spelling CoordMsg coord_family coord_lawful m kind other body bytes one two

pub returns-clause-stun : goal.returns-clause-stun
returns-clause-stun c m kind other body bytes one two = same_spelling StunMsg stun_family stun_lawful m kind other body bytes one two

pub returns-clause-turn : goal.returns-clause-turn
returns-clause-turn c m kind other body bytes one two = same_spelling TurnMsg turn_family turn_lawful m kind other body bytes one two
