use Rattle.tt_frame.proofs.FamilyLaws.{told_ok, told_err}
use Rattle.tt_coord.specs.Stun.{stun_family}
use Rattle.tt_coord.specs.declared.stun.StunMsg.{StunMsg}
use Rattle.tt_coord.proofs.stun.StunMsg.tell.Goals as goal

pub returns-clause-ok : goal.returns-clause-ok
returns-clause-ok g c = told_ok StunMsg stun_family g.W.PartWriter.word c.args.self.now c.tell_parts.result _ _ c.tell_parts.ensures

pub returns-clause-err : goal.returns-clause-err
returns-clause-err g c = told_err StunMsg stun_family g.W.PartWriter.word c.args.self.now c.tell_parts.result _ _ c.tell_parts.ensures
