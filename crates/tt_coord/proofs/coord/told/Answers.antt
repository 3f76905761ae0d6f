use Rattle.tt_frame.proofs.FamilyLaws.{tells_these}
use Rattle.tt_frame.specs.Parts.{all_said_by}
use Rattle.tt_coord.specs.Coord.{coord_family}
use Rattle.tt_coord.specs.declared.coord.CoordMsg.{CoordMsg}
use Rattle.tt_coord.proofs.coord.told.Goals as goal

pub returns : goal.returns
returns g c = tells_these CoordMsg coord_family g.W.PartWriter.word (all_said_by c.args.parts.now) c.tell.result _ _
    c.tell.ensures.told c.tell.ensures.err
