use Rattle.tt_frame.proofs.FamilyLaws.{told_ok, told_err}
use Rattle.tt_coord.specs.Coord.{coord_family}
use Rattle.tt_coord.specs.declared.coord.CoordMsg.{CoordMsg}
use Rattle.tt_coord.proofs.coord.CoordMsg.tell.Goals as goal

pub returns-clause-ok : goal.returns-clause-ok
returns-clause-ok g c = told_ok CoordMsg coord_family g.W.PartWriter.word c.args.self.now c.tell_parts.result _ _ c.tell_parts.ensures

pub returns-clause-err : goal.returns-clause-err
returns-clause-err g c = told_err CoordMsg coord_family g.W.PartWriter.word c.args.self.now c.tell_parts.result _ _ c.tell_parts.ensures
