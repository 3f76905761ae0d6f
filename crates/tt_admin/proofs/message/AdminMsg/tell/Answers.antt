use Rattle.tt_frame.proofs.FamilyLaws.{told_ok, told_err}
use Rattle.tt_admin.specs.Apart.{admin_family}
use Rattle.tt_admin.specs.declared.message.AdminMsg.{AdminMsg}
use Rattle.tt_admin.proofs.message.AdminMsg.tell.Goals as goal

pub returns-clause-ok : goal.returns-clause-ok
returns-clause-ok g c = told_ok AdminMsg admin_family g.W.PartWriter.word c.args.self.now c.tell_parts.result _ _ c.tell_parts.ensures

pub returns-clause-err : goal.returns-clause-err
returns-clause-err g c = told_err AdminMsg admin_family g.W.PartWriter.word c.args.self.now c.tell_parts.result _ _ c.tell_parts.ensures
