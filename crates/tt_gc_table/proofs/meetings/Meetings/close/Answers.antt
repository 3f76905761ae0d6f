use Rattle.std.proofs.Common.{◌≡◌, ℕ, not, List, Option, Some, sym, subst, ap, ◌∙◌}
use Rattle.std.specs.Prelude.{find, filter}
use Rattle.std.specs.Map.{remove_entry}
use Rattle.std.specs.Ordering.{nat_cmp, eq_by_cmp}
use Rattle.tt_gc_table.specs.Table.{Meeting, is_for}
use Rattle.tt_gc_table.specs.Parts.{IsBegun}
use Rattle.tt_gc_table.specs.OpenAttempts.{meetings_of}
use Rattle.tt_gc_table.proofs.Numbers.{nowhere}
use Rattle.tt_gc_table.proofs.ByToken.{Looked, nobody, taken_here, begun_remove}
use Rattle.tt_gc_table.proofs.meetings.Meetings.close.Goals as goal

pub returns-in_default-clause-meetings : goal.returns-in_default-clause-meetings
returns-in_default-clause-meetings c = λ m some.
    nobody (find (is_for c.args.token.now) (meetings_of c.args.self.now)) m (subst (λ (es : List (ℕ × Meeting)).
    find (is_for c.args.token.now) (meetings_of es) ≡ Option.None) c.self.view_is (nowhere c.args.token.now c.in_default.ensures.none
    c.self.inside.by_number.entries c.self.invariant.0)) some

pub returns-in-Some-clause-meetings : goal.returns-in-Some-clause-meetings
returns-in-Some-clause-meetings c =
    let es : List (ℕ × Meeting) = c.self.inside.by_number.entries in
    let l : Looked c.args.token.now c.in-Some.number es =
    record {
      small = c.in-Some.ensures.small;
      digits = c.in-Some.ensures.found;
      numbered = c.self.invariant.0;
      sorted = c.self.invariant.1;
    } in
    let done : c.close_number.new.self ≡ remove_entry (eq_by_cmp nat_cmp c.in-Some.number) es =
    c.close_number.ensures ∙ ap (remove_entry (eq_by_cmp nat_cmp c.in-Some.number)) (sym c.self.view_is) in
    subst (λ (es : List (ℕ × Meeting)). (m : Meeting) → find (is_for c.args.token.now) (meetings_of es) ≡ Some m
    → meetings_of c.close_number.new.self ≡ filter (λ x. not (is_for c.args.token.now x)) (meetings_of es)) c.self.view_is
    (λ m some. ap meetings_of done ∙ taken_here c.args.token.now c.in-Some.number es m l some)

pub returns-in-Some-clause-begun : goal.returns-in-Some-clause-begun
returns-in-Some-clause-begun c = λ last begun.
    subst (IsBegun last) (sym c.close_number.ensures) (begun_remove c.in-Some.number last c.args.self.now begun)
