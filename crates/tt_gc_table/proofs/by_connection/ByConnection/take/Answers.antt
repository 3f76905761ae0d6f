use Rattle.std.proofs.Common.{◌≡◌, ℕ, cond, List, Some, is_some, sym, subst, ap, ◌∙◌}
use Rattle.std.specs.Prelude.{eqb}
use Rattle.std.specs.Ordering.{nat_cmp, eq_by_cmp}
use Rattle.std.specs.Map.{lookup}
use Rattle.std.specs.BTreeSet.{BTreeSet}
use Rattle.tt_gc_table.specs.ByConnection.{numbers_in, numbers_at, without_number}
use Rattle.tt_gc_table.proofs.ByConnectionLaws.{updated, written}
use Rattle.tt_gc_table.proofs.by_connection.ByConnection.take.Goals as goal

pub returns : goal.returns
returns c =
    let m : List (ℕ × BTreeSet ℕ) = c.self.inside.sets.entries in
    let w : BTreeSet ℕ = c.remove-was.new.self in
    let after : List (ℕ × BTreeSet ℕ) = (c.get_mut.follows.lender w).entries in
    let was : Some c.in-Some.set.now ≡ lookup (eq_by_cmp nat_cmp c.args.conn) m = c.in-Some.ensures.value in
    subst (λ (es : List (ℕ × BTreeSet ℕ)). (x : ℕ) → numbers_at after x
    ≡ cond (eqb c.args.conn x) (without_number c.args.number (numbers_at es x)) (numbers_at es x)) c.self.view_is
    (written m after c.args.conn w.keys (without_number c.args.number)
    (updated m after c.args.conn (Some w) ((c.get_mut.follows.holds w).3 (sym (ap is_some was))).0)
    (c.remove-was.ensures.keys ∙ ap (without_number c.args.number) (ap numbers_in was)))
