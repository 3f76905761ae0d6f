use Rattle.tt_frame.proofs.FamilyLaws.{told_ok, told_err}
use Rattle.tt_game.specs.Apart.{game_family}
use Rattle.tt_game.specs.declared.message.GameMsg.{GameMsg}
use Rattle.tt_game.proofs.message.GameMsg.tell.Goals as goal

pub returns-clause-ok : goal.returns-clause-ok
returns-clause-ok g c = told_ok GameMsg game_family g.W.PartWriter.word c.args.self.now c.tell_parts.result _ _ c.tell_parts.ensures

pub returns-clause-err : goal.returns-clause-err
returns-clause-err g c = told_err GameMsg game_family g.W.PartWriter.word c.args.self.now c.tell_parts.result _ _ c.tell_parts.ensures
