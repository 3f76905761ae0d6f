use Rattle.std.proofs.Common.{◌≡◌, [], ◌∷◌, false, refl, arith}
use Rattle.tt_frame.proofs.SizeLaws.{is_one_of, body_size, body_size_but}
use Rattle.tt_frame.proofs.FamilyLaws.{spelled_size}
use Rattle.tt_coord.specs.declared.coord.CoordMsg.{CoordMsg}
use Rattle.tt_coord.specs.Coord.{coord_messages, coord_family}
use Rattle.tt_coord.proofs.CoordLaws.{coord_lawful}
use Rattle.tt_coord.specs.declared.stun.StunMsg.{StunMsg}
use Rattle.tt_coord.specs.Stun.{stun_messages, stun_family}
use Rattle.tt_coord.proofs.StunLaws.{stun_lawful}
use Rattle.tt_coord.specs.declared.turn.TurnMsg.{TurnMsg}
use Rattle.tt_coord.specs.Turn.{turn_messages, turn_family}
use Rattle.tt_coord.proofs.TurnLaws.{turn_lawful}
use Rattle.tt_coord.proofs.laws.small_packets.Goals as goal

pub returns-clause-coord : goal.returns-clause-coord
returns-clause-coord c m kind body spelled = spelled_size CoordMsg coord_family coord_lawful m kind body spelled

pub returns-clause-stun : goal.returns-clause-stun
returns-clause-stun c m kind body spelled = spelled_size StunMsg stun_family stun_lawful m kind body spelled

pub returns-clause-turn : goal.returns-clause-turn
returns-clause-turn c m kind body spelled = spelled_size TurnMsg turn_family turn_lawful m kind body spelled

pub returns-clause-coord_sent : goal.returns-clause-coord_sent
returns-clause-coord_sent c m kind body spelled no_listing no_lookup =
    let other : is_one_of (5 ∷ 15 ∷ []) kind ≡ false = grind arith in
    omega (arith, body_size_but CoordMsg (5 ∷ 15 ∷ []) 1457 coord_messages m kind body refl other spelled)

pub returns-clause-stun_sent : goal.returns-clause-stun_sent
returns-clause-stun_sent c m kind body spelled = omega (arith, body_size StunMsg 1457 stun_messages m kind body refl spelled)

pub returns-clause-turn_sent : goal.returns-clause-turn_sent
returns-clause-turn_sent c m kind body spelled = omega (arith, body_size TurnMsg 1457 turn_messages m kind body refl spelled)
