use Rattle.std.proofs.Common.{arith, ap, ◌∙◌, ◌+◌}
use Rattle.tt_log.proofs.Counting.{is-counted}
use Rattle.tt_table.proofs.Paid.{few_openings}
use Rattle.tt_table.proofs.Playing.{seen}
use Rattle.tt_table.proofs.game.Game.next_opening.Goals as goal

pub overflow_add-result : goal.overflow_add-result
overflow_add-result c =
    let s = (seen _ _ _ _ _ _ c.self.invariant.0 c.self.view_is) in
    let few = few_openings c.args.self.now.origin c.args.self.now.events s.game.fits c.requires.going in
    let is = s.game.held.openings in
    omega (arith, few, is)

pub returns : goal.returns
returns c =
    let s = (seen _ _ _ _ _ _ c.self.invariant.0 c.self.view_is) in
    record {
      next = ap (λ n. n + 1) s.game.held.openings;
      opened = ap (λ n. n + 1) (s.game.held.openings
          ∙ (is-counted c.args.self.now.origin c.args.self.now.events s.game.taken).openings);
    }
