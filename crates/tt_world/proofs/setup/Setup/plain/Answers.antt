use Rattle.std.proofs.Common.{refl, arith}
use Rattle.tt_frame.proofs.TextLaws.{IsText-from_is_plain}
use Rattle.tt_world.proofs.setup.Setup.plain.Goals as goal

pub name_of-requires : goal.name_of-requires
name_of-requires c = record { text = IsText-from_is_plain _ refl; some = omega arith; fits = omega arith }

pub name_of-requires-2 : goal.name_of-requires-2
name_of-requires-2 c = record { text = IsText-from_is_plain _ refl; some = omega arith; fits = omega arith }

pub name_of-requires-3 : goal.name_of-requires-3
name_of-requires-3 c = record { text = IsText-from_is_plain _ refl; some = omega arith; fits = omega arith }
