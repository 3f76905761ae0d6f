use Rattle.std.proofs.Common.{ℕ, List, [], refl, subst}
use Rattle.std.specs.Io.KnownBytes.{Appends}
use Rattle.tt_edge.specs.Sink.{AppendsPart}
use Rattle.tt_rounds.specs.Links.{LinkNow, link_now}
use Rattle.tt_admin_run.specs.Rounds.{SinkNow, sink_now}
use Rattle.tt_admin_run.proofs.HearingLaws.{Answer}
use Rattle.tt_admin_run.proofs.ListenLaws.{listens_memory, listens_sink, listens_all}
use Rattle.tt_admin_run.proofs.listening.listen.Goals as goal

pub returns-in-Memory : goal.returns-in-Memory
returns-in-Memory g c =
    let link : g.row.L.Denot → LinkNow = link_now g.L.Link.counts g.L.Link.left g.L.Link.was_read g.L.Link.held in
    let sink : g.row.K.Denot → SinkNow = sink_now g.K.Sink.faults g.K.Sink.held in
    listens_memory c.args.inbox.now c.hear_round-heard.new.hearer c.hear_round-heard.new.hearer c.args.notes.now c.args.notes.now
    (link c.args.link.now) (link c.hear_round-heard.new.link) (sink c.args.sink.now) (sink c.args.sink.now) c.hear_round-heard.result
    c.hear_round-heard.ensures refl

pub returns-in_default-write_all : goal.returns-in_default-write_all
returns-in_default-write_all g c =
    let link : g.row.L.Denot → LinkNow = link_now g.L.Link.counts g.L.Link.left g.L.Link.was_read g.L.Link.held in
    let sink : g.row.K.Denot → SinkNow = sink_now g.K.Sink.faults g.K.Sink.held in
    let all = c.hear_round-heard.new.hearer in
    let text = c.hear.new.text.items in
    let n = c.args.notes.now in
    let told : Answer n c.hear.new.notes c.bytes.result.now c.new-text.result.items text c.in-Ok.taken = c.in-Ok.ensures in
    let answer = subst (λ (bs : List ℕ). Answer n c.hear.new.notes bs [] text c.in-Ok.taken) c.bytes.ensures
    (subst (λ (t : List ℕ). Answer n c.hear.new.notes c.bytes.result.now t text c.in-Ok.taken) c.new-text.ensures.items told) in
    let part = subst (λ (t : List ℕ). AppendsPart (g.K.Sink.held c.args.sink.now) (g.K.Sink.held c.write_all.new.sink) t)
    c.deref.ensures.value c.in_default-write_all.ensures.front in
    listens_sink c.args.inbox.now all c.forget.new.self n c.hear.new.notes (link c.args.link.now) (link c.hear_round-heard.new.link)
    (sink c.args.sink.now) (sink c.write_all.new.sink) c.hear_round-heard.result text c.in-Ok.taken c.hear_round-heard.ensures
    c.in_default.not-Memory answer c.in-Ok-forget.ensures part c.in_default-write_all.ensures.counted
    c.in_default-write_all.ensures.fault

pub returns : goal.returns
returns g c =
    let link : g.row.L.Denot → LinkNow = link_now g.L.Link.counts g.L.Link.left g.L.Link.was_read g.L.Link.held in
    let sink : g.row.K.Denot → SinkNow = sink_now g.K.Sink.faults g.K.Sink.held in
    let all = c.hear_round-heard.new.hearer in
    let text = c.hear.new.text.items in
    let n = c.args.notes.now in
    let told : Answer n c.hear.new.notes c.bytes.result.now c.new-text.result.items text c.in-Ok.taken = c.in-Ok.ensures in
    let answer = subst (λ (bs : List ℕ). Answer n c.hear.new.notes bs [] text c.in-Ok.taken) c.bytes.ensures
    (subst (λ (t : List ℕ). Answer n c.hear.new.notes c.bytes.result.now t text c.in-Ok.taken) c.new-text.ensures.items told) in
    let whole = subst (λ (t : List ℕ). Appends (g.K.Sink.held c.args.sink.now) (g.K.Sink.held c.write_all.new.sink) t)
    c.deref.ensures.value c.in-Ok-write_all.ensures.all in
    listens_all c.args.inbox.now all c.forget.new.self n c.hear.new.notes (link c.args.link.now) (link c.hear_round-heard.new.link)
    (sink c.args.sink.now) (sink c.write_all.new.sink) c.hear_round-heard.result text c.in-Ok.taken c.ending.result
    c.hear_round-heard.ensures c.in_default.not-Memory answer c.in-Ok-forget.ensures whole c.in-Ok-write_all.ensures.kept
    c.ending.ensures
