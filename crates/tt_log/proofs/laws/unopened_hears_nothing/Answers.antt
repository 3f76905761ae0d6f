use Rattle.std.proofs.Common.{List, ap}
use Rattle.std.specs.Prelude.{flat_map}
use Rattle.tt_log.specs.Deed.{Said, spelled}
use Rattle.tt_log.proofs.Ended.{unopened, nought}
use Rattle.tt_log.proofs.Counting.{is-counted}
use Rattle.tt_log.proofs.laws.unopened_hears_nothing.Goals as goal

pub returns-clause-openings : goal.returns-clause-openings
returns-clause-openings c o es is = (is-counted o es is).openings

pub returns-clause-not_live : goal.returns-clause-not_live
returns-clause-not_live c o es conn above = (unopened o es conn above).0

pub returns-clause-heard : goal.returns-clause-heard
returns-clause-heard c o es conn above = (unopened o es conn above).1

pub returns-clause-sent : goal.returns-clause-sent
returns-clause-sent c o es conn above = ap (λ (said : List Said). flat_map spelled said) (unopened o es conn above).1

pub returns-clause-nought_not_live : goal.returns-clause-nought_not_live
returns-clause-nought_not_live c o es = (nought o es).0

pub returns-clause-nought_heard : goal.returns-clause-nought_heard
returns-clause-nought_heard c o es = (nought o es).1

pub returns-clause-nought_sent : goal.returns-clause-nought_sent
returns-clause-nought_sent c o es = ap (λ (said : List Said). flat_map spelled said) (nought o es).1
