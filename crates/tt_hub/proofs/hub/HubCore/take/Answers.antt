use Rattle.std.proofs.Common.{◌≡◌, ◌≤◌, ℕ, ◌+◌, length, ap, subst, ◌∙◌, arith, inl, inr}
use Rattle.std.proofs.Common.{Bool, true, false, ◌-◌}
use Rattle.std.specs.Prelude.{slice_set, ◌↔◌}
use Rattle.std.specs.Bool.{IsTrue}
use Rattle.tt_edge.specs.Core.{IsAllTaken, Takes}
use Rattle.tt_log.specs.History.{table_of}
use Rattle.tt_log.specs.Table as table
use Rattle.tt_log.specs.Told as book
use Rattle.tt_outgoing.specs.Waiting.{list_of}
use Rattle.tt_hub.specs.Hub.{HubState, count_of, is_live, made_of, sent, taken}
use Rattle.tt_hub.proofs.Running.{running-taken}
use Rattle.tt_hub.proofs.Seats.{count-set-same}
use Rattle.tt_hub.proofs.Taking.{count-read, done-nothing, done-some, nothing-of, takes-nothing, takes-some}
use Rattle.tt_hub.proofs.hub.HubCore.take.Goals.{then-conn-eq0-via-then-conn-eq0, then-conn-eq0-via-else-conn-eq0+then-conn-len}
use Rattle.tt_hub.proofs.hub.HubCore.take.Goals as goal

pub returns-then-conn-eq0-clause-bytes : goal.returns-then-conn-eq0-clause-bytes
returns-then-conn-eq0-clause-bytes c =
    let hub = c.self.inside in
    let conn = c.args.conn in
    let out = c.args.out.now in
    let none = nothing-of hub.game hub.outs hub.counts.items hub.most conn c.self.invariant (elim c.then-conn-eq0.branch [
      | then-conn-eq0-via-then-conn-eq0 w ↦ inl w.if-conn-eq0.true
      | then-conn-eq0-via-else-conn-eq0+then-conn-len w ↦ inr (let l = w.if-conn-len.true in let n = w.len.ensures in omega (arith, l, n))
    ]) in
    subst (λ (h : HubState). Takes (sent (made_of h) h.events conn) (taken h conn) (taken h conn) out out 0) c.self.view_is
    (takes-nothing _ out (count_of hub.counts.items conn) none.untold none.untaken)

pub returns-then-conn-eq0-clause-done : goal.returns-then-conn-eq0-clause-done
returns-then-conn-eq0-clause-done c =
    let hub = c.self.inside in
    let conn = c.args.conn in
    let none = nothing-of hub.game hub.outs hub.counts.items hub.most conn c.self.invariant (elim c.then-conn-eq0.branch [
      | then-conn-eq0-via-then-conn-eq0 w ↦ inl w.if-conn-eq0.true
      | then-conn-eq0-via-else-conn-eq0+then-conn-len w ↦ inr (let l = w.if-conn-len.true in let n = w.len.ensures in omega (arith, l, n))
    ]) in
    subst (λ (h : HubState). IsTrue true ↔ IsAllTaken (is_live (made_of h) h.events conn) (sent (made_of h) h.events conn) (taken h conn))
    c.self.view_is (done-nothing _ _ (count_of hub.counts.items conn) none.dead none.untold)

pub invariant_of-self : goal.invariant_of-self
invariant_of-self c =
    let hub = c.self.inside in
    let counts = hub.counts.items in
    let conn = c.args.conn in
    let count = c.take-count.result in
    let low : 1 ≤ conn = let no = c.if-conn-eq0.false in omega (arith, no) in
    let high : conn ≤ length counts = let l = c.if-conn-len.false in let n = c.len.ensures in omega (arith, l, n) in
    let few : count ≤ length (list_of hub.outs conn) = let is = c.take-count.ensures.count in omega (arith, is) in
    let read = count-read counts conn c.index_mut.result.now low high c.index_mut.ensures.value in
    running-taken hub.game hub.outs c.take-count.new.self counts (slice_set counts (conn - 1) (c.index_mut.result.now + count)) hub.most
    conn count c.self.invariant low high few (ap (λ (n : ℕ). slice_set counts (conn - 1) (n + count)) read) c.take-count.ensures.opened
    c.take-count.ensures.rest c.take-count.ensures.others

pub returns-clause-bytes : goal.returns-clause-bytes
returns-clause-bytes c =
    let hub = c.self.inside in
    let counts = hub.counts.items in
    let conn = c.args.conn in
    let count = c.take-count.result in
    let next = c.index_mut.result.now + count in
    let after = count_of (slice_set counts (conn - 1) next) conn in
    let low : 1 ≤ conn = let no = c.if-conn-eq0.false in omega (arith, no) in
    let high : conn ≤ length counts = let l = c.if-conn-len.false in let n = c.len.ensures in omega (arith, l, n) in
    let is = c.self.invariant.each conn low (let size = c.self.invariant.counts_are in omega (arith, high, size)) in
    let read = count-read counts conn c.index_mut.result.now low high c.index_mut.ensures.value in
    subst (λ (h : HubState). Takes (sent (made_of h) h.events conn) (taken h conn) after c.args.out.now c.take-count.new.out count)
    c.self.view_is
    (takes-some (book.sent hub.game.origin hub.game.events conn) (list_of hub.outs conn) c.args.out.now c.take-count.new.out
    (count_of counts conn) after count hub.most is c.take-count.ensures.count c.take-count.ensures.taken
    (count-set-same counts next conn low high ∙ ap (λ (n : ℕ). n + count) read))

pub returns-clause-done : goal.returns-clause-done
returns-clause-done c =
    let hub = c.self.inside in
    let counts = hub.counts.items in
    let conn = c.args.conn in
    let count = c.take-count.result in
    let next = c.index_mut.result.now + count in
    let after = count_of (slice_set counts (conn - 1) next) conn in
    let low : 1 ≤ conn = let no = c.if-conn-eq0.false in omega (arith, no) in
    let high : conn ≤ length counts = let l = c.if-conn-len.false in let n = c.len.ensures in omega (arith, l, n) in
    let few : count ≤ length (list_of hub.outs conn) = let is = c.take-count.ensures.count in omega (arith, is) in
    let read = count-read counts conn c.index_mut.result.now low high c.index_mut.ensures.value in
    let now = running-taken hub.game hub.outs c.take-count.new.self counts (slice_set counts (conn - 1) next) hub.most conn
    count c.self.invariant low high few (ap (λ (n : ℕ). slice_set counts (conn - 1) (n + count)) read) c.take-count.ensures.opened
    c.take-count.ensures.rest c.take-count.ensures.others in
    let is = now.each conn low
    (let size = c.self.invariant.counts_are in let same = c.take-count.ensures.opened in omega (arith, high, size, same)) in
    let done = c.is_done.result in
    subst (λ (h : HubState). IsTrue done ↔ IsAllTaken (is_live (made_of h) h.events conn) (sent (made_of h) h.events conn) after)
    c.self.view_is
    (done-some done (table.is_live (table_of hub.game.origin hub.game.events) conn) (book.sent hub.game.origin hub.game.events conn)
    (list_of c.take-count.new.self conn) after c.left.result hub.most is c.left.ensures
    (subst (λ (b : Bool). IsTrue done ↔ ((b ≡ false) × (c.left.result ≡ 0))) c.live.ensures.live c.is_done.ensures))
