use Rattle.std.proofs.Common.{rules, ◌≡◌, ℕ, ◌∙◌}
use Rattle.std.specs.Prelude.{eqb}
use Rattle.tt_gc_table.specs.ByConnection.{numbers_at}
use Rattle.tt_gc_table.proofs.ByConnectionLaws.{undone}
use Rattle.tt_gc_table.proofs.by_connection.ByConnection.add_both.Goals as goal

pub returns-then-is_err-clause-err : goal.returns-then-is_err-clause-err
returns-then-is_err-clause-err c =
    let kept : (x : ℕ) → numbers_at c.add-2.new.self x ≡ numbers_at c.add.new.self x = search rules in
    undone (eqb c.args.first) (numbers_at c.args.self.now) (numbers_at c.add-2.new.self) (numbers_at c.forget.new.self) c.args.number
    c.requires.above (λ x. kept x ∙ c.in_ok-add.ensures.ok x) c.forget.ensures
