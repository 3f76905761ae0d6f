use Rattle.std.proofs.Common.{◌≡◌, refl, arith}
use Rattle.std.proofs.lemmas.List.{nil_from_length}
use Rattle.tt_rounds.specs.Links.{LinkNow, link_now}
use Rattle.tt_rounds.specs.declared.outbox.Said.TheVariants as said
use Rattle.tt_rounds.proofs.Counting.{said_after}
use Rattle.tt_rounds.proofs.Sayings.{moves_none, moves_flushed, moves_filled, says_ended, held_some, failed_some, all_none}
use Rattle.tt_rounds.proofs.saying.say_round.Goals as goal

pub saying-init : goal.saying-init
saying-init g c =
    let now : g.row.L.Denot → LinkNow = link_now g.L.Link.counts g.L.Link.left g.L.Link.was_read g.L.Link.held in
    record { moves = moves_none g.P.Say.due g.P.Say.says c.args.speaker.now c.args.outbox.now (now c.args.link.now); counts = refl }

pub returns-in-Held : goal.returns-in-Held
returns-in-Held g c =
    let now : g.row.L.Denot → LinkNow = link_now g.L.Link.counts g.L.Link.left g.L.Link.was_read g.L.Link.held in
    says_ended g.P.Say.due g.P.Say.says c.args.speaker.now c.saying.speaker c.args.outbox.now c.saying.outbox c.flush.new.self
    (now c.args.link.now) (now c.saying.link) (now c.flush.new.link) said.Held c.saying.invariant.moves c.saying.invariant.counts
    c.in-Held.ensures (λ is. absurd (held_some is))

pub returns-in-Failed : goal.returns-in-Failed
returns-in-Failed g c =
    let now : g.row.L.Denot → LinkNow = link_now g.L.Link.counts g.L.Link.left g.L.Link.was_read g.L.Link.held in
    says_ended g.P.Say.due g.P.Say.says c.args.speaker.now c.saying.speaker c.args.outbox.now c.saying.outbox c.flush.new.self
    (now c.args.link.now) (now c.saying.link) (now c.flush.new.link) said.Failed c.saying.invariant.moves c.saying.invariant.counts
    c.in-Failed.ensures (λ is. absurd (failed_some is))

pub returns-then-fill-eq0 : goal.returns-then-fill-eq0
returns-then-fill-eq0 g c =
    let now : g.row.L.Denot → LinkNow = link_now g.L.Link.counts g.L.Link.left g.L.Link.was_read g.L.Link.held in
    let f = c.in-All.ensures in
    let none : c.fill.result ≡ 0 = omega (arith, c.if-fill-eq0.true) in
    let moves = moves_flushed g.P.Say.due g.P.Say.says c.args.speaker.now c.saying.speaker c.args.outbox.now c.saying.outbox
    c.flush.new.self (now c.args.link.now) (now c.saying.link) (now c.flush.new.link) said.All c.saying.invariant.moves f in
    record {
      moves = moves_filled g.P.Say.due g.P.Say.says c.args.speaker.now c.saying.speaker c.fill.new.speaker c.args.outbox.now
          c.flush.new.self c.fill.new.self (now c.args.link.now) (now c.flush.new.link) moves (f.all refl) c.fill.ensures.said
          c.fill.ensures.due;
      counts = said_after (g.L.Link.counts c.args.link.now) (g.L.Link.counts c.saying.link) (g.L.Link.counts c.flush.new.link) said.All
          c.saying.invariant.counts f.counts;
      all = λ is. (nil_from_length c.fill.new.self (omega (arith, none, c.fill.ensures.count)), c.fill.ensures.none none);
      some_held = λ is. absurd (all_none is);
    }

pub saying-preserved : goal.saying-preserved
saying-preserved g c =
    let now : g.row.L.Denot → LinkNow = link_now g.L.Link.counts g.L.Link.left g.L.Link.was_read g.L.Link.held in
    let f = c.in-All.ensures in
    let moves = moves_flushed g.P.Say.due g.P.Say.says c.args.speaker.now c.saying.speaker c.args.outbox.now c.saying.outbox
    c.flush.new.self (now c.args.link.now) (now c.saying.link) (now c.flush.new.link) said.All c.saying.invariant.moves f in
    record {
      moves = moves_filled g.P.Say.due g.P.Say.says c.args.speaker.now c.saying.speaker c.fill.new.speaker c.args.outbox.now
          c.flush.new.self c.fill.new.self (now c.args.link.now) (now c.flush.new.link) moves (f.all refl) c.fill.ensures.said
          c.fill.ensures.due;
      counts = said_after (g.L.Link.counts c.args.link.now) (g.L.Link.counts c.saying.link) (g.L.Link.counts c.flush.new.link) said.All
          c.saying.invariant.counts f.counts;
    }
