use Rattle.tt_in_step.proofs.Promises.{in_step, runs_in_step}
use Rattle.tt_in_step.proofs.all_in_step.Goals as goal

pub returns-clause-in_step : goal.returns-clause-in_step
returns-clause-in_step c o es conn calls later h are e = in_step c.one_map.ensures.there o h es are conn calls later e

pub returns-clause-runs_in_step : goal.returns-clause-runs_in_step
returns-clause-runs_in_step c o es conn calls later h are e = runs_in_step c.one_map.ensures.there o h es are conn calls later e
