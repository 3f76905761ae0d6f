use Rattle.tt_in_step.proofs.Promises.{agrees, view-agrees, compared, map-read}
use Rattle.tt_in_step.proofs.fronts_agree.Goals as goal

pub returns-clause-agree : goal.returns-clause-agree
returns-clause-agree c o es conn front later h are e = agrees c.one_map.ensures.there o h es are conn front later e

pub returns-clause-view : goal.returns-clause-view
returns-clause-view c o es conn front later v h are e is = view-agrees c.one_map.ensures.there o h es are conn front later v e is

pub returns-clause-compared : goal.returns-clause-compared
returns-clause-compared c o es conn calls later v f g w h are e is = compared c.one_map.ensures.there o h
    es are conn calls later v f g w e is

pub returns-clause-map : goal.returns-clause-map
returns-clause-map c o es s h are l = map-read c.one_map.ensures.there o h es are 0 s l
