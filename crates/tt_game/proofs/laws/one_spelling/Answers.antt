use Rattle.tt_frame.proofs.FamilyLaws.{same_spelling}
use Rattle.tt_game.specs.Apart.{game_family}
use Rattle.tt_game.specs.declared.message.GameMsg.{GameMsg}
use Rattle.tt_game.proofs.MessageLaws.{game_lawful}
use Rattle.tt_game.proofs.laws.one_spelling.Goals as goal

pub returns : goal.returns
returns c m kind other body bytes = same_spelling GameMsg game_family game_lawful m kind other body bytes
