use Rattle.std.proofs.Common.{◌++◌, ℕ, List, sym, ap, ◌∙◌}
use Rattle.tt_attempts.specs.Attempts.{stepped}
use Rattle.tt_attempts.specs.declared.attempt.Told as word
use Rattle.tt_gc_table.specs.Table.{Meeting}
use Rattle.tt_gc_table.specs.Meetings.{tells_word}
use Rattle.tt_gc_table.specs.Told.{bytes_to}
use Rattle.tt_gc_table.specs.Tells.{told_to}
use Rattle.tt_gc_table.proofs.HeardLaws.{heard_told}
use Rattle.tt_gc_table.proofs.heard.plan_heard.Goals as goal

pub returns-clause-told : goal.returns-clause-told
returns-clause-told c = λ s host x.
    let m : Meeting = c.args.meeting.now in
    c.in_ok-tell_word.ensures.told s host x
    ∙ ap (λ (w : word.Told). told_to x c.args.out.now ++ bytes_to x (tells_word s w m c.args.parts.now).told) (c.ahead-word.ensures.told
    ∙ ap (λ (m : Meeting). (stepped m.state.ways m.state.stage c.args.heard).told) c.meeting.view_is)
    ∙ ap (λ (xs : List ℕ). told_to x c.args.out.now ++ xs) (sym (heard_told x s c.args.heard m c.args.parts.now))
