use Rattle.std.proofs.Common.{◌≡◌, sym, subst, ℕ, take, arith}
use Rattle.tt_lockstep.specs.Journal.{AreUpTo}
use Rattle.tt_log.specs.Origin.{game_of}
use Rattle.tt_table.proofs.Journals.{above-more, at_front, rising-take, up_to-front}
use Rattle.tt_table.proofs.staging.entries_up_to.Goals as goal
use Rattle.tt_table.proofs.staging.entries_up_to.Goals.{then-loop-end-test+else-journal-end, else-loop-end-test}

pub loop-end-preserved : goal.loop-end-preserved
loop-end-preserved c = (
  let most = c.loop-end.invariant.0 in omega (arith, most),
  λ o. above-more o c.args.frame c.loop-end.end c.args.journal.now c.index-journal-end.result c.loop-end-test.true c.loop-end.invariant.0
      c.if-journal-end.true (c.loop-end.invariant.1 o),
)

pub returns-clause-rising : goal.returns-clause-rising
returns-clause-rising c = λ o is. rising-take o 0 c.loop-end.end c.args.journal.now is

pub returns-clause-up_to : goal.returns-clause-up_to
returns-clause-up_to c = λ o is. elim c.loop-end-test.branch [
  | then-loop-end-test+else-journal-end w ↦
      up_to-front o c.args.frame c.args.journal.now c.loop-end.end w.index-journal-end.result is c.loop-end.invariant.0 w.loop-end-test.true
      w.if-journal-end.false
  | else-loop-end-test w ↦
      let none : c.loop-end.end ≡ 0 = omega (arith, w.loop-end-test.false) in
      subst (λ (k : ℕ). AreUpTo (game_of o) c.args.frame (take k c.args.journal.now)) (sym none) tt
]

pub returns-clause-same : goal.returns-clause-same
returns-clause-same c = λ o. at_front o c.args.frame c.args.journal.now c.loop-end.end (c.loop-end.invariant.1 o)
