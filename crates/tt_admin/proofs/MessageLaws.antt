-- What the laws of a family rest on, of the messages of an admin: the table computes to it.
use Rattle.std.proofs.Common.{◌≡◌, refl, rules}
use Rattle.tt_frame.proofs.ApartLaws.{AllApart}
use Rattle.tt_frame.proofs.FamilyLaws.{Lawful, remade, spelling}
use Rattle.tt_admin.specs.declared.message.AdminMsg.{AdminMsg}
use Rattle.tt_admin.specs.declared.message.AdminMsg.TheVariants.{ServerError}
use Rattle.tt_admin.specs.Messages.{messages}
use Rattle.tt_admin.specs.Apart.{admin_family}

admin_same : (m : AdminMsg) → remade admin_family m ≡ m
admin_same = elim [ ServerError code ↦ refl | _ ↦ refl ]

admin_apart_again : AllApart (spelling admin_family) messages
admin_apart_again = search rules

pub admin_lawful : Lawful admin_family
admin_lawful = record { same = admin_same; apart = admin_apart_again; short = refl }
