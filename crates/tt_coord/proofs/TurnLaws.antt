-- What the laws of a family rest on, of the messages of the TURN server: the table computes to it.
use Rattle.std.proofs.Common.{◌≡◌, refl, rules}
use Rattle.tt_frame.proofs.ApartLaws.{AllApart}
use Rattle.tt_frame.proofs.FamilyLaws.{Lawful, remade, spelling}
use Rattle.tt_coord.specs.declared.turn.TurnMsg.{TurnMsg}
use Rattle.tt_coord.specs.declared.turn.TurnMsg.TheVariants.{TurnError}
use Rattle.tt_coord.specs.Turn.{turn_messages, turn_family}

turn_same : (m : TurnMsg) → remade turn_family m ≡ m
turn_same = elim [ TurnError ↦ refl | _ ↦ refl ]

turn_apart_again : AllApart (spelling turn_family) turn_messages
turn_apart_again = search rules

pub turn_lawful : Lawful turn_family
turn_lawful = record { same = turn_same; apart = turn_apart_again; short = refl }
