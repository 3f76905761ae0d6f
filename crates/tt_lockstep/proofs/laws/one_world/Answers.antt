use Rattle.tt_lockstep.proofs.Views.{view-next, view-entry}
use Rattle.tt_lockstep.proofs.laws.one_world.Goals as goal

pub returns-clause-next : goal.returns-clause-next
returns-clause-next g c = λ game v f low. view-next game v f low

pub returns-clause-entry : goal.returns-clause-entry
returns-clause-entry g c = λ game v e last f low high. view-entry game v e last f low high
