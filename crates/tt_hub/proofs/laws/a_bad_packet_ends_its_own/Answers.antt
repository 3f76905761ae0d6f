use Rattle.tt_game.specs.declared.message.GameMsg.TheVariants as games
use Rattle.tt_log.specs.Deed.{game}
use Rattle.tt_log.specs.Told as book
use Rattle.tt_log.proofs.Malformed.{own-is-told, own-ends, others-hear, others-live}
use Rattle.tt_hub.specs.Hub.{origin_made}
use Rattle.tt_hub.proofs.Telling.{sent-one, sent-told}
use Rattle.tt_hub.proofs.laws.a_bad_packet_ends_its_own.Goals as goal

pub returns-clause-own : goal.returns-clause-own
returns-clause-own c made es e m code is =
    let o = origin_made made in
    sent-one o es e m.conn (game (games.ServerError code)) (own-is-told o es e m code is)

pub returns-clause-ended : goal.returns-clause-ended
returns-clause-ended c made es e m code is = own-ends (origin_made made) es e m code is

pub returns-clause-others : goal.returns-clause-others
returns-clause-others c made es e m code other is apart =
    let o = origin_made made in
    record { said = book.told o es e other; bytes = sent-told o es e other; each = others-hear o es e m code is other apart }

pub returns-clause-live : goal.returns-clause-live
returns-clause-live c made es e m code other is going apart = others-live (origin_made made) es e m code is going other apart
