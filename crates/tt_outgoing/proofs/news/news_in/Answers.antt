use Rattle.std.proofs.Common.{◌≡◌, ◌∙◌, ◌+◌, List, ◌∷◌, ap, drop, sym}
use Rattle.std.proofs.lemmas.List.{drop_more}
use Rattle.tt_world.specs.declared.command.Entry.{Entry}
use Rattle.tt_log.specs.Reports.{news_in}
use Rattle.tt_outgoing.proofs.ReportLists.{news_step, no_news}
use Rattle.tt_outgoing.proofs.news.news_in.Goals as goal

pub loop-entry-preserved : goal.loop-entry-preserved
loop-entry-preserved c = λ digests known.
    let l = c.loop-entry in
    let entries = c.args.entries.now in
    let e : Entry = c.entry-item.result in
    let more : List Entry = drop (l.entry-index + 1) entries in
    let first : drop l.entry-index entries ≡ e ∷ more =
    drop_more entries l.entry-index e c.loop-entry-test.true ∙ ap (λ (x : Entry). x ∷ more) (sym c.entry-item.is) in
    news_step digests l.world c.tell_news.new.world (news_in digests c.in_ok-world.world entries) l.messages.items
    c.tell_news.new.messages.items (drop l.entry-index entries) more e first (l.invariant digests known) c.in_ok-tell_news.ensures.world
    (c.in_ok-tell_news.ensures.news digests known)

pub returns-then-not-is_any_news : goal.returns-then-not-is_any_news
returns-then-not-is_any_news c = record {
  news = λ digests known. c.new-messages.ensures.items ∙ sym (no_news digests c.args.before.now c.args.entries.now
      (sym c.is_any_news.ensures.any ∙ c.if-not-is_any_news.true));
}
