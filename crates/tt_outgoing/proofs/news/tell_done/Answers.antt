use Rattle.tt_outgoing.proofs.Packets.{on_ok}
use Rattle.tt_outgoing.proofs.ReportLists.{news_founded}
use Rattle.tt_outgoing.proofs.news.tell_done.Goals as goal

pub returns-in_ok-push-in-NewCompany : goal.returns-in_ok-push-in-NewCompany
returns-in_ok-push-in-NewCompany c = record {
  news = on_ok c.tell_of.result (λ told digests known. news_founded digests c.args.world.now c.args.code c.args.numbers.0 c.args.numbers.1
      c.args.messages.now.items c.push.new.self.items c.tell_of.new.messages.items c.in-NewCompany.is
      c.in_ok-push-in-NewCompany.ensures.items
      (told digests known)) c.tell_of.ensures.told;
}
