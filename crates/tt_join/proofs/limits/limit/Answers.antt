use Rattle.std.proofs.Common.{◌≡◌, sym, ap, false}
use Rattle.std.specs.Prelude.{is_some}
use Rattle.std.specs.List.{list_any}
use Rattle.tt_log.specs.Tick.{late}
use Rattle.tt_members.specs.Leaving.{playing_in}
use Rattle.tt_join.specs.Ticking.{Limiting, limiting_at}
use Rattle.tt_join.proofs.Limited.{nobody_ends}
use Rattle.tt_join.proofs.limits.limit.Goals as goal

pub returns-clause-steps : goal.returns-clause-steps
returns-clause-steps c =
    let none : list_any (λ m. is_some (late c.args.setup.now c.args.frame m)) c.args.members.now ≡ false = cc in
    let l : Limiting = limiting_at c.args.plan.now.edits c.args.plan.now.steps (playing_in c.args.members.now) c.args.queue.now.conns in
    ap (λ (k : Limiting). k.steps) (sym (nobody_ends c.args.setup.now c.args.frame c.args.members.now l none))

pub returns-clause-edits : goal.returns-clause-edits
returns-clause-edits c =
    let none : list_any (λ m. is_some (late c.args.setup.now c.args.frame m)) c.args.members.now ≡ false = cc in
    let l : Limiting = limiting_at c.args.plan.now.edits c.args.plan.now.steps (playing_in c.args.members.now) c.args.queue.now.conns in
    ap (λ (k : Limiting). k.edits) (sym (nobody_ends c.args.setup.now c.args.frame c.args.members.now l none))
