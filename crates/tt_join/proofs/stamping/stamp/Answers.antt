use Rattle.std.proofs.Common.{ℕ, List, ◌++◌, sym, ap, ◌∙◌, append_assoc}
use Rattle.std.specs.Prelude.{map, flat_map, take}
use Rattle.tt_world.specs.declared.command.Entry.{Entry}
use Rattle.tt_log.specs.Tick.{entry_of, own_entry}
use Rattle.tt_members.specs.declared.step.Step.{Step}
use Rattle.tt_members.specs.Leaving.{playing_in}
use Rattle.tt_join.specs.Ticking.{stamping}
use Rattle.tt_join.proofs.Stamped.{stamping_append}
use Rattle.tt_join.proofs.stamping.stamp.Goals as goal

pub returns-clause-steps : goal.returns-clause-steps
returns-clause-steps c =
    let conns : List ℕ = playing_in c.args.members.now in
    let own : List Entry = map (own_entry c.args.frame) c.args.own.now in
    let theirs : List Entry = flat_map (λ m. map (entry_of c.args.frame m) (take 2 m.waiting)) c.args.members.now in
    c.in_ok-stamp_all.ensures.steps ∙ ap (λ (ss : List Step). ss ++ stamping conns theirs) c.in_ok-stamp_own.ensures.steps
    ∙ append_assoc c.args.plan.now.steps (stamping conns own) (stamping conns theirs)
    ∙ ap (λ (ss : List Step). c.args.plan.now.steps ++ ss) (sym (stamping_append conns own theirs))
