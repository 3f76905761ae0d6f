use Rattle.std.proofs.Common.{◌++◌, ◌∷◌, [], ℕ, List, append_assoc, sym, ap, ◌∙◌}
use Rattle.tt_coord.specs.declared.coord.CoordMsg.TheVariants.{GcError}
use Rattle.tt_gc_table.specs.Table.{Table}
use Rattle.tt_gc_table.specs.Deed.{Step, tells}
use Rattle.tt_gc_table.specs.Ending.{leaves}
use Rattle.tt_gc_table.specs.Told.{bytes_to}
use Rattle.tt_gc_table.specs.Tells.{told_to}
use Rattle.tt_gc_table.proofs.TellsLaws.{bytes_joined}
use Rattle.tt_gc_table.proofs.leaving.plan_end.Goals as goal

pub returns : goal.returns
returns c = record {
  told = λ s host x.
      let t : Table = c.args.parts.now in
      let said : List Step = (tells (c.args.conn ∷ []) (GcError c.args.code c.args.detail) t).told in
      let gone : List Step = (leaves s c.args.conn t).told in
      c.in_ok-tell_lost.ensures.told s host x ∙ ap (λ (xs : List ℕ). xs ++ bytes_to x gone) (c.in_ok-tell.ensures.told x)
      ∙ append_assoc (told_to x c.args.out.now) (bytes_to x said) (bytes_to x gone)
      ∙ ap (λ (xs : List ℕ). told_to x c.args.out.now ++ xs) (sym (bytes_joined x said gone));
}
