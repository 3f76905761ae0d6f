use Rattle.tt_lockstep.proofs.Ruled.{stepped_is, told_is, run_is}
use Rattle.tt_lockstep.proofs.games.one_rule_apart.Goals as goal

pub returns-clause-stepped : goal.returns-clause-stepped
returns-clause-stepped g c = λ game server step. stepped_is game server step

pub returns-clause-told : goal.returns-clause-told
returns-clause-told g c = λ game server step. told_is game server step

pub returns-clause-run : goal.returns-clause-run
returns-clause-run g c = λ game runner calls. run_is game runner calls
