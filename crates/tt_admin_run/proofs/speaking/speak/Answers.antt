use Rattle.std.proofs.Common.{refl}
use Rattle.tt_rounds.specs.Links.{LinkNow, link_now}
use Rattle.tt_admin_run.proofs.SpeakLaws.{given_and_left, speaks_so}
use Rattle.tt_admin_run.proofs.speaking.speak.Goals as goal

pub returns : goal.returns
returns g c =
    let link : g.row.L.Denot → LinkNow = link_now g.L.Link.counts g.L.Link.left g.L.Link.was_read g.L.Link.held in
    let all = c.args.agenda.now.bytes.items in
    speaks_so _ _ _ _ all c.args.agenda.now.quits c.is_last-last.result c.args.due c.args.given.now _ c.args.outbox.now
    c.say_round-said.new.outbox (link c.args.link.now) (link c.say_round-said.new.link) c.say_round-said.result c.spoken.result
    c.say_round-said.ensures
    (given_and_left all c.deref.result.now _ c.args.given.now c.args.due c.deref.ensures.value c.requires.given refl) c.requires.due refl
    c.is_last-last.ensures c.spoken.ensures
