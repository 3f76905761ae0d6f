use Rattle.tt_serving.proofs.Pages.{put-behind, lost-after}
use Rattle.tt_serving.proofs.page.Page.put.Goals as goal

pub returns-in-Ok-write_all-clause-puts : goal.returns-in-Ok-write_all-clause-puts
returns-in-Ok-write_all-clause-puts g c =
    let held = g.K.Sink.held in
    put-behind (held c.args.sink.now) (held c.flush.new.sink) (held c.write_all.new.sink) c.args.self.now c.add.new.self c.flush.new.self
    c.add-2.new.self c.args.bytes.now (c.add.ensures.full c.if-add.false) c.in-Ok.ensures.all c.in-Ok.ensures.empty
    (c.add-2.ensures.full c.if-add-2.false) c.in-Ok-write_all.ensures.all

pub returns-in-Err-write_all-clause-loses : goal.returns-in-Err-write_all-clause-loses
returns-in-Err-write_all-clause-loses g c =
    let held = g.K.Sink.held in
    lost-after (held c.args.sink.now) (held c.flush.new.sink) (held c.write_all.new.sink) c.args.self.now c.add.new.self c.args.bytes.now
    (c.add.ensures.full c.if-add.false) c.in-Ok.ensures.all c.in-Err-write_all.ensures.front
