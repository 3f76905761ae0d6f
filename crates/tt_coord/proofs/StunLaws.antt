-- What the laws of a family rest on, of the messages to the STUN desk: the table computes to it.
use Rattle.std.proofs.Common.{◌≡◌, refl, rules}
use Rattle.tt_frame.proofs.ApartLaws.{AllApart}
use Rattle.tt_frame.proofs.FamilyLaws.{Lawful, remade, spelling}
use Rattle.tt_coord.specs.declared.stun.StunMsg.{StunMsg}
use Rattle.tt_coord.specs.declared.stun.StunMsg.TheVariants.{SercliStun}
use Rattle.tt_coord.specs.Stun.{stun_messages, stun_family}

stun_same : (m : StunMsg) → remade stun_family m ≡ m
stun_same = elim [ SercliStun token side ↦ refl ]

stun_apart_again : AllApart (spelling stun_family) stun_messages
stun_apart_again = search rules

pub stun_lawful : Lawful stun_family
stun_lawful = record { same = stun_same; apart = stun_apart_again; short = refl }
