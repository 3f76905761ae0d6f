use Rattle.tt_frame.proofs.FamilyLaws.{tells_these}
use Rattle.tt_frame.specs.Parts.{all_said_by}
use Rattle.tt_game.specs.Apart.{game_family}
use Rattle.tt_game.specs.declared.message.GameMsg.{GameMsg}
use Rattle.tt_game.proofs.kinds.told.Goals as goal

pub returns : goal.returns
returns g c = tells_these GameMsg game_family g.W.PartWriter.word (all_said_by c.args.parts.now) c.tell.result _ _
    c.tell.ensures.told c.tell.ensures.err
