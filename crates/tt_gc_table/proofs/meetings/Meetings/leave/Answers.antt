use Rattle.std.proofs.Common.{ℕ, not, List, length, sym, subst, ap, ◌∙◌, arith}
use Rattle.std.specs.Prelude.{filter}
use Rattle.std.specs.Ordering.{nat_cmp, eq_by_cmp}
use Rattle.tt_gc_table.specs.Table.{Meeting}
use Rattle.tt_gc_table.specs.OpenAttempts.{meetings_of}
use Rattle.tt_gc_table.specs.Parts.{IsBegun, is_of}
use Rattle.tt_gc_table.specs.ByConnection.{IsEnd}
use Rattle.tt_gc_table.proofs.ByToken.{begun_remove}
use Rattle.tt_gc_table.proofs.LeavingLaws.{none_left}
use Rattle.tt_gc_table.proofs.ByConnectionLaws.{others_stay, one_less}
use Rattle.tt_gc_table.proofs.meetings.Meetings.leave.Goals as goal

pub loop-number-smaller : goal.loop-number-smaller
loop-number-smaller c =
    let e : IsEnd c.args.conn c.in-Some.number c.loop-number.self = c.in-Some.ensures.some in
    omega (arith, ap length c.close_number.ensures, one_less (eq_by_cmp nat_cmp c.in-Some.number) c.loop-number.self e.meeting e.found)

pub loop-number-preserved : goal.loop-number-preserved
loop-number-preserved c =
    let e : IsEnd c.args.conn c.in-Some.number c.loop-number.self = c.in-Some.ensures.some in
    record {
      others = ap (λ (es : List (ℕ × Meeting)). filter (λ m. not (is_of c.args.conn m)) (meetings_of es)) c.close_number.ensures
          ∙ others_stay c.args.conn (eq_by_cmp nat_cmp c.in-Some.number) c.loop-number.self e.meeting e.found e.of
          ∙ c.loop-number.invariant.others;
      begun = λ last begun. subst (IsBegun last) (sym c.close_number.ensures) (begun_remove c.in-Some.number last c.loop-number.self
          (c.loop-number.invariant.begun last begun));
    }

pub returns-clause-meetings : goal.returns-clause-meetings
returns-clause-meetings c =
    sym (none_left (is_of c.args.conn) (meetings_of c.loop-number.self) c.in_default.ensures.none) ∙ c.loop-number.invariant.others
