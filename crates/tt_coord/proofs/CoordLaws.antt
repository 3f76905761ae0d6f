-- What the laws of a family rest on, of the messages of the coordinator: the table computes to it.
use Rattle.std.proofs.Common.{◌≡◌, refl, rules}
use Rattle.tt_frame.proofs.ApartLaws.{AllApart}
use Rattle.tt_frame.proofs.FamilyLaws.{Lawful, remade, spelling}
use Rattle.tt_coord.specs.declared.coord.CoordMsg.{CoordMsg}
use Rattle.tt_coord.specs.declared.coord.CoordMsg.TheVariants.{GcError}
use Rattle.tt_coord.specs.Coord.{coord_messages, coord_family}

coord_same : (m : CoordMsg) → remade coord_family m ≡ m
coord_same = elim [ GcError code detail ↦ refl | _ ↦ refl ]

coord_apart_again : AllApart (spelling coord_family) coord_messages
coord_apart_again = search rules

pub coord_lawful : Lawful coord_family
coord_lawful = record { same = coord_same; apart = coord_apart_again; short = refl }
