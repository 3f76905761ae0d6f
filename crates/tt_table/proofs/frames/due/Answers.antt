use Rattle.std.proofs.Common.{◌++◌, ◌∙◌, List, ap}
use Rattle.tt_world.specs.declared.command.Entry.{Entry}
use Rattle.tt_members.specs.Steps.{stamped_in}
use Rattle.tt_table.specs.Frames.{for_frame, front}
use Rattle.tt_table.proofs.Due.{due_is}
use Rattle.tt_table.proofs.frames.due.Goals as goal

pub returns : goal.returns
returns c = record {
  due = λ o journal past rise is next.
      let stamped : List Entry = for_frame c.args.frame (stamped_in c.args.steps.now) in
      let waited : List Entry = for_frame c.args.frame (front c.args.frame c.args.left.now) in
      c.in_ok-add_stamped.ensures.due
      ∙ ap (λ (xs : List Entry). xs ++ stamped) (c.in_ok-add_front.ensures.due
      ∙ ap (λ (xs : List Entry). xs ++ waited) c.new-due.ensures.items)
      ∙ due_is o journal c.args.left.now (stamped_in c.args.steps.now) past c.args.frame rise is next;
}
