use Rattle.std.proofs.Common.{refl}
use Rattle.tt_log.proofs.Malformed.{own-is-told, own-ends, others-hear, others-live, others-stand, admins-stand, game-stands}
use Rattle.tt_log.proofs.laws.malformed_ends_its_own.Goals as goal

pub returns-clause-illegal : goal.returns-clause-illegal
returns-clause-illegal c o t m = refl

pub returns-clause-own : goal.returns-clause-own
returns-clause-own c o es e m code is = own-is-told o es e m code is

pub returns-clause-ended : goal.returns-clause-ended
returns-clause-ended c o es e m code is = own-ends o es e m code is

pub returns-clause-told : goal.returns-clause-told
returns-clause-told c o es e m code other is apart = others-hear o es e m code is other apart

pub returns-clause-others_live : goal.returns-clause-others_live
returns-clause-others_live c o es e m code other is going apart = others-live o es e m code is going other apart

pub returns-clause-others_stand : goal.returns-clause-others_stand
returns-clause-others_stand c o es e m code other n is going apart there = others-stand o es e m code is going other apart n there

pub returns-clause-admins_stand : goal.returns-clause-admins_stand
returns-clause-admins_stand c o es e m code is going = admins-stand o es e m code is going

pub returns-clause-game : goal.returns-clause-game
returns-clause-game c o es e m code is = game-stands o es e m code is
