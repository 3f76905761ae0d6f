use Rattle.std.proofs.Common.{◌≡◌, ℕ, List, take, subst}
use Rattle.std.specs.Io.KnownBytes.{Appends}
use Rattle.tt_rounds.specs.Links.{LinkNow, link_now}
use Rattle.tt_rounds.proofs.Sayings.{written_more}
use Rattle.tt_rounds.proofs.outbox.Outbox.flush.Goals as goal

pub writing-preserved : goal.writing-preserved
writing-preserved g c =
    let link = g.L.Link in
    let now : g.row.L.Denot → LinkNow = link_now link.counts link.left link.was_read link.held in
    let e = c.in-Count.ensures in
    let n = c.in-Count.n in
    let held : c.rest-in-writing.result.now ≡ c.writing.self = c.rest-in-writing.ensures in
    let more = subst (λ (xs : List ℕ). Appends (link.held c.writing.link) (link.held c.write.new.self) (take n xs)) held e.moved.2 in
    written_more c.args.self.now c.writing.self c.wrote.new.self (now c.args.link.now) (now c.writing.link) (now c.write.new.self) n
    c.writing.invariant more e.read c.wrote.ensures e.counts
