use Rattle.std.proofs.Common.{◌≤◌, ℕ, length, sym, ap, ap₂, ◌+◌, ◌∙◌, arith, inl, inr}
use Rattle.tt_log.specs.Told as book
use Rattle.tt_hub.specs.Hub.{HubState, count_of, made_of, sent}
use Rattle.tt_hub.proofs.Taking.{count-read, nothing-of, told-length}
use Rattle.tt_hub.proofs.hub.Hub.sent_len.Goals.{then-conn-eq0-via-then-conn-eq0, then-conn-eq0-via-else-conn-eq0+then-conn-len}
use Rattle.tt_hub.proofs.hub.Hub.sent_len.Goals as goal

pub returns-then-conn-eq0 : goal.returns-then-conn-eq0
returns-then-conn-eq0 c =
    let hub = c.self.inside in
    let none = nothing-of hub.game hub.outs hub.counts.items hub.most c.args.conn c.self.invariant (elim c.then-conn-eq0.branch [
      | then-conn-eq0-via-then-conn-eq0 w ↦ inl w.if-conn-eq0.true
      | then-conn-eq0-via-else-conn-eq0+then-conn-len w ↦ inr (let l = w.if-conn-len.true in let n = w.len.ensures in omega (arith, l, n))
    ]) in
    record {
      count = sym (ap length none.untold) ∙ ap (λ (h : HubState). length (sent (made_of h) h.events c.args.conn)) c.self.view_is;
    }

pub overflow_add-result : goal.overflow_add-result
overflow_add-result c =
    let hub = c.self.inside in
    let conn = c.args.conn in
    let low : 1 ≤ conn = let no = c.if-conn-eq0.false in omega (arith, no) in
    let high : conn ≤ length hub.counts.items = let l = c.if-conn-len.false in let n = c.len.ensures in omega (arith, l, n) in
    let is = c.self.invariant.each conn low (let size = c.self.invariant.counts_are in omega (arith, high, size)) in
    let all = told-length (book.sent hub.game.origin hub.game.events conn) _ (count_of hub.counts.items conn) hub.most is in
    let most = is.most_is in
    let fits = c.self.invariant.fits in
    let read = count-read hub.counts.items conn c.index.result.now low high c.index.ensures in
    let left = c.left.ensures in
    omega (arith, all, most, fits, read, left)

pub returns : goal.returns
returns c =
    let hub = c.self.inside in
    let conn = c.args.conn in
    let low : 1 ≤ conn = let no = c.if-conn-eq0.false in omega (arith, no) in
    let high : conn ≤ length hub.counts.items = let l = c.if-conn-len.false in let n = c.len.ensures in omega (arith, l, n) in
    let is = c.self.invariant.each conn low (let size = c.self.invariant.counts_are in omega (arith, high, size)) in
    let all = told-length (book.sent hub.game.origin hub.game.events conn) _ (count_of hub.counts.items conn) hub.most is in
    let read = count-read hub.counts.items conn c.index.result.now low high c.index.ensures in
    record {
      count = ap₂ (λ (x y : ℕ). x + y) read c.left.ensures ∙ all
          ∙ ap (λ (h : HubState). length (sent (made_of h) h.events conn)) c.self.view_is;
    }
