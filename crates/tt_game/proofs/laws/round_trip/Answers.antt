use Rattle.tt_frame.proofs.TableLaws.{again, followed}
use Rattle.tt_game.specs.Messages.{messages}
use Rattle.tt_game.proofs.laws.round_trip.Goals as goal

pub returns-clause-whole : goal.returns-clause-whole
returns-clause-whole c m kind body spelled = again messages kind body m spelled

pub returns-clause-followed : goal.returns-clause-followed
returns-clause-followed c m kind body more limit p rest spelled fits small first =
    followed messages m kind body more limit p rest spelled fits small first
