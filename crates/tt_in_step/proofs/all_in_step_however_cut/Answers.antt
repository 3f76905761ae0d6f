use Rattle.tt_in_step.proofs.Promises.{cut_in_step, cut_runs_in_step, cut_fed, cut_phase, cut_runs_phase}
use Rattle.tt_in_step.proofs.all_in_step_however_cut.Goals as goal

pub returns-clause-in_step : goal.returns-clause-in_step
returns-clause-in_step c o es conn calls later h are player fits e = cut_in_step c.one_map.ensures.there o h
    es are conn player calls later fits e

pub returns-clause-runs_in_step : goal.returns-clause-runs_in_step
returns-clause-runs_in_step c o es conn calls later h are player fits e = cut_runs_in_step c.one_map.ensures.there o h
    es are conn player calls later fits e

pub returns-clause-fed : goal.returns-clause-fed
returns-clause-fed c o es conn calls later h are player fits e = cut_fed c.one_map.ensures.there o h
    es are conn player calls later fits e

pub returns-clause-phase : goal.returns-clause-phase
returns-clause-phase c o es conn calls later h are player fits e = cut_phase c.one_map.ensures.there o h
    es are conn player calls later fits e

pub returns-clause-runs_phase : goal.returns-clause-runs_phase
returns-clause-runs_phase c o es conn calls later h are player fits e = cut_runs_phase c.one_map.ensures.there o h
    es are conn player calls later fits e
