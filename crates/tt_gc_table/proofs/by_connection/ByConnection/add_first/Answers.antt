use Rattle.std.proofs.Common.{◌≡◌, ℕ, ◌++◌, ◌∷◌, [], cond, List, Some, false, is_some, sym, subst, ap, ◌∙◌}
use Rattle.std.specs.Prelude.{eqb}
use Rattle.std.specs.Ordering.{nat_cmp, eq_by_cmp}
use Rattle.std.specs.Map.{lookup}
use Rattle.std.specs.BTreeSet.{BTreeSet, insert_key}
use Rattle.tt_gc_table.specs.ByConnection.{numbers_at}
use Rattle.tt_gc_table.proofs.ByConnectionLaws.{updated, written, none_in}
use Rattle.tt_gc_table.proofs.by_connection.ByConnection.add_first.Goals as goal

pub returns-clause-ok : goal.returns-clause-ok
returns-clause-ok c =
    let m : List (ℕ × BTreeSet ℕ) = c.self.inside.sets.entries in
    let after : List (ℕ × BTreeSet ℕ) = c.insert-2.new.self.entries in
    let own : c.insert.new.self.keys ≡ c.args.number ∷ [] =
    c.in_ok-insert.ensures.keys ∙ ap (λ (l : List ℕ). insert_key nat_cmp l c.args.number) c.new-set.ensures.empty in
    let none : is_some (lookup (eq_by_cmp nat_cmp c.args.conn) m) ≡ false =
    ap (λ (es : List (ℕ × BTreeSet ℕ)). is_some (lookup (eq_by_cmp nat_cmp c.args.conn) es)) c.self.view_is ∙ c.requires.none in
    subst (λ (es : List (ℕ × BTreeSet ℕ)). (x : ℕ) → numbers_at after x
    ≡ cond (eqb c.args.conn x) (numbers_at es x ++ c.args.number ∷ []) (numbers_at es x)) c.self.view_is
    (written m after c.args.conn c.insert.new.self.keys (λ (l : List ℕ). l ++ c.args.number ∷ [])
    (updated m after c.args.conn (Some c.insert.new.self) c.in_ok-insert-2.ensures.updates.0)
    (own ∙ sym (ap (λ (l : List ℕ). l ++ c.args.number ∷ []) (none_in (lookup (eq_by_cmp nat_cmp c.args.conn) m) none))))
