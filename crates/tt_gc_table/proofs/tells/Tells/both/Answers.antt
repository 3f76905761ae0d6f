use Rattle.std.proofs.Common.{ℕ, ◌∷◌, [], ◌++◌, List, append_assoc, sym, ap, ◌∙◌}
use Rattle.tt_gc_table.specs.Deed.{tells}
use Rattle.tt_gc_table.specs.Told.{bytes_to}
use Rattle.tt_gc_table.specs.Tells.{told_to}
use Rattle.tt_gc_table.proofs.TellsLaws.{tells_both}
use Rattle.tt_gc_table.proofs.tells.Tells.both.Goals as goal

pub returns : goal.returns
returns c =
    let said : ℕ → ℕ → List ℕ = λ x conn. bytes_to x (tells (conn ∷ []) c.args.message.now c.args.parts.now).told in
    record {
      told = λ x. c.in_ok-tell-2.ensures.told x ∙ ap (λ (xs : List ℕ). xs ++ said x c.args.second) (c.in_ok-tell.ensures.told x)
          ∙ append_assoc (told_to x c.args.self.now) (said x c.args.first) (said x c.args.second)
          ∙ ap (λ (xs : List ℕ). told_to x c.args.self.now ++ xs) (sym (tells_both x c.args.first c.args.second c.args.message.now
          c.args.parts.now));
    }
