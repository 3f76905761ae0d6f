use Rattle.std.proofs.Common.{◌∙◌}
use Rattle.tt_frame.proofs.FamilyLaws.{head_stands, has_room, told_spells, told_size, sealed_ok, sealed_err}
use Rattle.tt_coord.specs.declared.turn.TurnMsg.{TurnMsg}
use Rattle.tt_coord.specs.Turn.{turn_family}
use Rattle.tt_coord.proofs.TurnLaws.{turn_lawful}
use Rattle.tt_coord.proofs.turn.TurnMsg.encode.Goals as goal

pub finish-requires-clause-header : goal.finish-requires-clause-header
finish-requires-clause-header c = head_stands TurnMsg turn_family turn_lawful c.args.self.now c.tell_parts-written.result _ _
    (c.len-start.ensures ∙ c.args.out.now.ok.0) c.tell_parts-written.new.to.ok.0 c.tell_parts-written.ensures

pub finish-requires-clause-size : goal.finish-requires-clause-size
finish-requires-clause-size c = has_room TurnMsg turn_family turn_lawful c.args.self.now c.tell_parts-written.result _ _
    (c.len-start.ensures ∙ c.args.out.now.ok.0) c.tell_parts-written.new.to.ok.0 c.tell_parts-written.ensures

pub returns-clause-ok : goal.returns-clause-ok
returns-clause-ok c =
    sealed_ok TurnMsg turn_family c.args.self.now c.tell_parts-written.result c.finish.result c.len-start.result _ _ _
    (c.len-start.ensures ∙ c.args.out.now.ok.0) c.finish.ensures.same c.tell_parts-written.ensures c.finish.ensures.exact

pub returns-clause-err : goal.returns-clause-err
returns-clause-err c =
    sealed_err TurnMsg turn_family c.args.self.now c.tell_parts-written.result c.finish.result c.len-start.result _ _ _
    (c.len-start.ensures ∙ c.args.out.now.ok.0) c.finish.ensures.same c.tell_parts-written.ensures c.finish.ensures.err

pub returns-clause-spelled : goal.returns-clause-spelled
returns-clause-spelled c =
    told_spells TurnMsg turn_family turn_lawful c.args.self.now c.tell_parts-written.result _ _ c.tell_parts-written.ensures

pub returns-clause-size : goal.returns-clause-size
returns-clause-size c =
    told_size TurnMsg turn_family turn_lawful c.args.self.now c.tell_parts-written.result _ _ c.tell_parts-written.ensures
