use Rattle.std.proofs.Common.{◌≡◌, ℕ, [], List, subst, ap, ◌∙◌}
use Rattle.std.specs.BTreeSet.{BTreeSet}
use Rattle.tt_gc_table.specs.ByConnection.{numbers_at}
use Rattle.tt_gc_table.proofs.ByConnectionLaws.{cleared}
use Rattle.tt_gc_table.proofs.by_connection.ByConnection.tidy.Goals.{in-Some-1, in-None-1}
use Rattle.tt_gc_table.proofs.by_connection.ByConnection.tidy.Goals as goal

pub returns-then-is_bare : goal.returns-then-is_bare
returns-then-is_bare c =
    let m : List (ℕ × BTreeSet ℕ) = c.self.inside.sets.entries in
    let after : List (ℕ × BTreeSet ℕ) = c.remove-bare.new.self.entries in
    let bare : numbers_at m c.args.conn ≡ [] =
    ap (λ (es : List (ℕ × BTreeSet ℕ)). numbers_at es c.args.conn) c.self.view_is ∙ c.is_bare.ensures c.if-is_bare.true in
    let done : (x : ℕ) → numbers_at after x ≡ numbers_at c.args.self.now x =
    subst (λ (es : List (ℕ × BTreeSet ℕ)). (x : ℕ) → numbers_at after x ≡ numbers_at es x) c.self.view_is
    (cleared m after c.args.conn c.remove-bare.ensures.updates.0 bare) in
    elim c.match-bare.branch [
      | in-Some-1 w ↦ λ x. ap (λ (es : List (ℕ × BTreeSet ℕ)). numbers_at es x) w.self-is ∙ done x
      | in-None-1 w ↦ λ x. ap (λ (es : List (ℕ × BTreeSet ℕ)). numbers_at es x) w.self-is ∙ done x
    ]
