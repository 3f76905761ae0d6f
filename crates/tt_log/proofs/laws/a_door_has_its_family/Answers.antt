use Rattle.tt_log.proofs.Families.{not-of-game, not-of-admins}
use Rattle.tt_log.proofs.laws.a_door_has_its_family.Goals as goal

pub returns-clause-game : goal.returns-clause-game
returns-clause-game c o es conn apart = not-of-game o es conn apart

pub returns-clause-admins : goal.returns-clause-admins
returns-clause-admins c o es conn apart = not-of-admins o es conn apart
