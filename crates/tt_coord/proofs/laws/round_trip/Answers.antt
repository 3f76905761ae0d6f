use Rattle.tt_frame.proofs.TableLaws.{again, followed}
use Rattle.tt_coord.specs.Coord.{coord_messages}
use Rattle.tt_coord.specs.Stun.{stun_messages}
use Rattle.tt_coord.specs.Turn.{turn_messages}
use Rattle.tt_coord.proofs.laws.round_trip.Goals as goal

pub returns-clause-coord : goal.returns-clause-coord
returns-clause-coord c m kind body spelled = again coord_messages kind body m spelled

pub returns-clause-coord_followed : goal.returns-clause-coord_followed
returns-clause-coord_followed c m kind body more limit p rest spelled fits small first =
    followed coord_messages m kind body more limit p rest spelled fits small first

pub returns-clause-stun : goal.returns-clause-stun
returns-clause-stun c m kind body spelled = again stun_messages kind body m spelled

pub returns-clause-stun_followed : goal.returns-clause-stun_followed
returns-clause-stun_followed c m kind body more limit p rest spelled fits small first =
    followed stun_messages m kind body more limit p rest spelled fits small first

pub returns-clause-turn : goal.returns-clause-turn
returns-clause-turn c m kind body spelled = again turn_messages kind body m spelled

pub returns-clause-turn_followed : goal.returns-clause-turn_followed
returns-clause-turn_followed c m kind body more limit p rest spelled fits small first =
    followed turn_messages m kind body more limit p rest spelled fits small first
