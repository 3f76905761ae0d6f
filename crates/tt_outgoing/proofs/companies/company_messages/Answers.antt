use Rattle.std.proofs.Common.{arith}
use Rattle.tt_outgoing.specs.Companies.{company_message, company_messages}
use Rattle.tt_outgoing.proofs.ReportLists.{asked_step}
use Rattle.tt_outgoing.proofs.companies.company_messages.Goals as goal

pub loop-number-preserved : goal.loop-number-preserved
loop-number-preserved c = λ digests known.
    let l = c.loop-number in
    let w = c.args.world.now in
    let places = c.signs-signs.ensures.sound.places in
    asked_step (company_message c.args.topic digests w) c.args.id l.number w.companies (company_messages c.args.topic digests c.args.id w)
    l.messages.items c.tell_asked.new.messages.items (omega (arith, c.loop-number-test.true, places)) (l.invariant digests known)
    (c.in_ok-tell_asked.ensures.told digests known)
