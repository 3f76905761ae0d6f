use Rattle.tt_lockstep.proofs.Journals.{world-stable, world-goes_on, world-next}
use Rattle.tt_lockstep.proofs.laws.worlds.Goals as goal

pub returns-clause-stable : goal.returns-clause-stable
returns-clause-stable g c = λ game f n old more a l. world-stable game f n old more a l

pub returns-clause-goes_on : goal.returns-clause-goes_on
returns-clause-goes_on g c = λ game s k journal. world-goes_on game s k journal

pub returns-clause-next : goal.returns-clause-next
returns-clause-next g c = λ game journal f. world-next game journal f
