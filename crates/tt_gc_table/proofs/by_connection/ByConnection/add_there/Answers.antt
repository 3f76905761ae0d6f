use Rattle.std.proofs.Common.{◌≡◌, ℕ, ◌++◌, ◌∷◌, [], ◌<◌, cond, List, Some, is_some, sym, subst, ap, ◌∙◌}
use Rattle.std.specs.Prelude.{eqb}
use Rattle.std.specs.Ordering.{nat_cmp, eq_by_cmp}
use Rattle.std.specs.List.{AllByRecursion}
use Rattle.std.specs.Map.{lookup}
use Rattle.std.specs.BTreeSet.{BTreeSet}
use Rattle.tt_gc_table.specs.ByConnection.{numbers_in, numbers_at}
use Rattle.tt_gc_table.proofs.ByConnectionLaws.{updated, written, alike, put_behind, on_err}
use Rattle.tt_gc_table.proofs.by_connection.ByConnection.add_there.Goals as goal

pub returns-in_err-insert-clause-err : goal.returns-in_err-insert-clause-err
returns-in_err-insert-clause-err c =
    let m : List (ℕ × BTreeSet ℕ) = c.self.inside.sets.entries in
    let w : BTreeSet ℕ = c.insert.new.self in
    let after : List (ℕ × BTreeSet ℕ) = (c.get_mut.follows.lender w).entries in
    let was : Some c.in-Some.set.now ≡ lookup (eq_by_cmp nat_cmp c.args.conn) m = c.in-Some.ensures.value in
    on_err c.from_residual.result (subst (λ (es : List (ℕ × BTreeSet ℕ)). (x : ℕ) → numbers_at after x ≡ numbers_at es x) c.self.view_is
    (λ x. written m after c.args.conn w.keys (λ (l : List ℕ). l)
    (updated m after c.args.conn (Some w) ((c.get_mut.follows.holds w).3 (sym (ap is_some was))).0)
    (c.in_err-insert.ensures.err ∙ ap numbers_in was) x ∙ alike (eqb c.args.conn x) (numbers_at m x)))

pub returns-clause-ok : goal.returns-clause-ok
returns-clause-ok c =
    let m : List (ℕ × BTreeSet ℕ) = c.self.inside.sets.entries in
    let w : BTreeSet ℕ = c.insert.new.self in
    let after : List (ℕ × BTreeSet ℕ) = (c.get_mut.follows.lender w).entries in
    let was : Some c.in-Some.set.now ≡ lookup (eq_by_cmp nat_cmp c.args.conn) m = c.in-Some.ensures.value in
    let same : numbers_at c.args.self.now c.args.conn ≡ c.in-Some.set.now.keys =
    sym (ap (λ (es : List (ℕ × BTreeSet ℕ)). numbers_at es c.args.conn) c.self.view_is) ∙ sym (ap numbers_in was) in
    let above : AllByRecursion (λ (k : ℕ). k < c.args.number) c.in-Some.set.now.keys =
    subst (AllByRecursion (λ (k : ℕ). k < c.args.number)) same c.requires.above in
    subst (λ (es : List (ℕ × BTreeSet ℕ)). (x : ℕ) → numbers_at after x
    ≡ cond (eqb c.args.conn x) (numbers_at es x ++ c.args.number ∷ []) (numbers_at es x)) c.self.view_is
    (written m after c.args.conn w.keys (λ (l : List ℕ). l ++ c.args.number ∷ [])
    (updated m after c.args.conn (Some w) ((c.get_mut.follows.holds w).3 (sym (ap is_some was))).0)
    (c.in_ok-insert.ensures.keys ∙ put_behind c.args.number c.in-Some.set.now.keys above
    ∙ ap (λ (l : List ℕ). l ++ c.args.number ∷ []) (ap numbers_in was)))
