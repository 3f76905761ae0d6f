use Rattle.tt_world.proofs.FoundLaws.{number_is, no_number}
use Rattle.tt_world.proofs.founding.new_number.Goals as goal

pub unreachable-requires : goal.unreachable-requires
unreachable-requires c = no_number c.args.companies.now c.requires c.in-None.ensures

pub returns-clause-number : goal.returns-clause-number
returns-clause-number c = (number_is c.args.companies.now c.in-Some.place c.requires c.in-Some.ensures).0

pub returns-clause-within : goal.returns-clause-within
returns-clause-within c = (number_is c.args.companies.now c.in-Some.place c.requires c.in-Some.ensures).1
