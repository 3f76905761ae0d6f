-- What the laws of a family rest on, of the messages of a game: the table computes to it.
use Rattle.std.proofs.Common.{◌≡◌, refl, rules}
use Rattle.tt_frame.proofs.ApartLaws.{AllApart}
use Rattle.tt_frame.proofs.FamilyLaws.{Lawful, remade, spelling}
use Rattle.tt_game.specs.declared.message.GameMsg.{GameMsg}
use Rattle.tt_game.specs.declared.message.GameMsg.TheVariants.{ServerError}
use Rattle.tt_game.specs.Messages.{messages}
use Rattle.tt_game.specs.Apart.{game_family}

game_same : (m : GameMsg) → remade game_family m ≡ m
game_same = elim [ ServerError code ↦ refl | _ ↦ refl ]

game_apart_again : AllApart (spelling game_family) messages
game_apart_again = search rules

pub game_lawful : Lawful game_family
game_lawful = record { same = game_same; apart = game_apart_again; short = refl }
