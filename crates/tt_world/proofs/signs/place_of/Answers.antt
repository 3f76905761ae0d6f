use Rattle.tt_world.specs.Commands.{is_sign_of}
use Rattle.tt_world.proofs.SignLaws.{place_is, no_place}
use Rattle.tt_world.proofs.signs.place_of.Goals as goal

pub unreachable-requires : goal.unreachable-requires
unreachable-requires c = no_place (is_sign_of c.args.id c.args.owner) c.args.signs.now c.requires c.in-None.ensures

pub returns-clause-place : goal.returns-clause-place
returns-clause-place c = (place_is (is_sign_of c.args.id c.args.owner) c.args.signs.now c.in-Some.place c.requires c.in-Some.ensures).0

pub returns-clause-within : goal.returns-clause-within
returns-clause-within c = (place_is (is_sign_of c.args.id c.args.owner) c.args.signs.now c.in-Some.place c.requires c.in-Some.ensures).1
