use Rattle.std.proofs.Common.{List, ap}
use Rattle.std.specs.Prelude.{flat_map}
use Rattle.tt_log.specs.Deed.{Said, spelled}
use Rattle.tt_log.proofs.Ended.{ended-not-live, ended-heard}
use Rattle.tt_log.proofs.laws.ended_stays.Goals as goal

pub returns-clause-not_live : goal.returns-clause-not_live
returns-clause-not_live c o es fs conn opened gone = ended-not-live o es fs conn opened gone

pub returns-clause-heard : goal.returns-clause-heard
returns-clause-heard c o es fs conn opened gone = ended-heard o es fs conn opened gone

pub returns-clause-sent : goal.returns-clause-sent
returns-clause-sent c o es fs conn opened gone = ap (λ (said : List Said). flat_map spelled said) (ended-heard o es fs conn opened gone)
