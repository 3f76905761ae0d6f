use Rattle.std.proofs.Common.{◌≡◌, ◌++◌, ℕ, List, Some, sym, ap, ◌∙◌}
use Rattle.std.specs.Map.{lookup}
use Rattle.std.specs.Ordering.{nat_cmp, eq_by_cmp}
use Rattle.tt_attempts.specs.declared.attempt.Heard.TheVariants.{ServerGone}
use Rattle.tt_gc_table.specs.Table.{Meeting}
use Rattle.tt_gc_table.specs.Tells.{told_to}
use Rattle.tt_gc_table.proofs.ByConnectionLaws.{told_one}
use Rattle.tt_gc_table.proofs.meetings.Meetings.tell_number.Goals as goal

pub returns-in_ok-_stage : goal.returns-in_ok-_stage
returns-in_ok-_stage c =
    let m : Meeting = c.in-Some.meeting.now in
    let found : lookup (eq_by_cmp nat_cmp c.args.number) c.args.self.now ≡ Some m =
    ap (lookup (eq_by_cmp nat_cmp c.args.number)) (sym c.self.view_is) ∙ sym c.in-Some.ensures.value in
    record {
      told = λ s host x. c.in_ok-_stage.ensures.told s host x
          ∙ ap (λ (l : List ℕ). told_to x c.args.out.now ++ l) (told_one s ServerGone c.args.parts.now x c.args.conn c.args.number
          c.args.self.now m found (sym c.is_lost.ensures ∙ c.if-is_lost.true));
    }
