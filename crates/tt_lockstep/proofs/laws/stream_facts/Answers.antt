use Rattle.tt_lockstep.proofs.Streams.{fronts, compared_holds}
use Rattle.tt_lockstep.proofs.laws.stream_facts.Goals as goal

pub returns-clause-fronts : goal.returns-clause-fronts
returns-clause-fronts g c = λ game steps front later e. fronts game steps front later e

pub returns-clause-compared : goal.returns-clause-compared
returns-clause-compared g c = λ game steps calls later v f g' w few e is. compared_holds game steps calls later v f g' w few e is
