use Rattle.std.proofs.Common.{◌≡◌, ◌∙◌, ◌++◌, List, ℕ, ap, sym, subst, ◌-◌, ◌≤◌, arith, drop}
use Rattle.std.specs.Prelude.{slice_index_or}
use Rattle.tt_outgoing.specs.declared.outs.seat.Seat.{Seat}
use Rattle.tt_outgoing.specs.Outgoing.{plain, waits_in}
use Rattle.tt_outgoing.proofs.OutsSeats.{one_more_told}
use Rattle.tt_outgoing.proofs.outs.telling.tell_each.Goals as goal

pub loop-conn-preserved : goal.loop-conn-preserved
loop-conn-preserved c =
    let l = c.loop-conn in
    let is = l.invariant in
    let i = l.conn-index in
    let conns = c.args.conns.now in
    let conn = slice_index_or conns i 0 in
    let now = c.tell.ensures in
    let start = c.args.start in
    let bytes = drop (start - c.args.log.now.base) c.args.log.now.tail.items in
    let same : drop (start - l.log.base) l.log.tail.items ≡ bytes =
    ap (λ (b : ℕ). drop (start - b) l.log.tail.items) is.base ∙ ap (λ v. drop (start - c.args.log.now.base) v.items) is.vector in
    record {
      held = now.held;
      told = λ d low. one_more_told conns i d bytes (waits_in (plain c.args.log.now) d) (waits_in (plain l.log) d)
          (waits_in (plain c.tell.new.log) d)
          c.loop-conn-test.true (is.told d low)
          (λ e. ap (λ (n : ℕ). waits_in (plain c.tell.new.log) n) e ∙ now.told
          ∙ ap (λ (n : ℕ). waits_in (plain l.log) n ++ drop (start - l.log.base) l.log.tail.items) (sym e)
          ∙ ap (λ (b : List ℕ). waits_in (plain l.log) d ++ b) same)
          (λ ne. now.others d ne);
      before = now.before;
      vector = now.tail ∙ is.vector;
      base = now.base ∙ is.base;
      parts = omega (arith, is.parts, now.parts);
      size = now.opened ∙ is.size;
      fits = λ d low high fresh. subst (λ (s : Seat). s.left ≤ start) (sym (now.left d low (λ e. fresh i (omega arith) (sym e))))
          (is.fits d low high (λ k lt. fresh k (omega (arith, lt))));
    }
