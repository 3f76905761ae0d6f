use Rattle.tt_admin.specs.declared.message.AdminMsg.TheVariants as admins
use Rattle.tt_log.specs.Deed.{admin}
use Rattle.tt_log.specs.Told as book
use Rattle.tt_log.proofs.AdminEnds.{own-told, own-ends, others-told}
use Rattle.tt_hub.specs.Hub.{origin_made}
use Rattle.tt_hub.proofs.Telling.{sent-one, sent-told}
use Rattle.tt_hub.proofs.laws.a_bad_packet_of_an_admin_ends_its_own.Goals as goal

pub returns-clause-own : goal.returns-clause-own
returns-clause-own c made es e a code is =
    let o = origin_made made in
    sent-one o es e a.conn (admin (admins.ServerError code)) (own-told o es e a code is)

pub returns-clause-ended : goal.returns-clause-ended
returns-clause-ended c made es e a code is = own-ends (origin_made made) es e a code is

pub returns-clause-others : goal.returns-clause-others
returns-clause-others c made es e a code other is apart =
    let o = origin_made made in
    record { said = book.told o es e other; bytes = sent-told o es e other; each = others-told o es e a code is other apart }
