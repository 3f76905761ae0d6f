use Rattle.std.proofs.Common.{ap, ◌∙◌, ◌++◌, ℕ, List, sym, subst}
use Rattle.std.specs.Prelude.{filter}
use Rattle.tt_attempts.specs.declared.attempt.Heard.TheVariants.{ServerGone}
use Rattle.tt_gc_table.specs.Table.{Table}
use Rattle.tt_gc_table.specs.OpenAttempts.{Distinct}
use Rattle.tt_gc_table.specs.Parts.{is_lost}
use Rattle.tt_gc_table.specs.Hearing.{told_each}
use Rattle.tt_gc_table.specs.Tells.{told_to}
use Rattle.tt_gc_table.proofs.LeavingLaws.{leaves_told}
use Rattle.tt_gc_table.proofs.parts.Parts.tell_lost.Goals as goal

pub returns : goal.returns
returns c = record {
  told = λ s host x.
      let t : Table = c.args.self.now in
      c.in_ok-tell_lost.ensures.told s host x
      ∙ ap (λ (u : Table). told_to x c.args.out.now ++ told_each s ServerGone t x (filter (is_lost c.args.conn) u.meetings)) c.self.view_is
      ∙ ap (λ (xs : List ℕ). told_to x c.args.out.now ++ xs) (sym (leaves_told x s c.args.conn t (subst (λ (t : Table). Distinct t.meetings)
      c.self.view_is c.distinct.ensures)));
}
