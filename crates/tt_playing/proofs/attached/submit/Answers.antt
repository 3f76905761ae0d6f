use Rattle.std.proofs.Common.{ℕ, ap, ap₂, sym, ◌∙◌, Some}
use Rattle.tt_client.specs.Calls.{Submit}
use Rattle.tt_client.specs.Held.{with_call}
use Rattle.tt_world.specs.declared.command.Command.{Command}
use Rattle.tt_playing.specs.Attached.{after_order}
use Rattle.tt_playing.proofs.attached.submit.Goals as goal

pub returns-in-Ok : goal.returns-in-Ok
returns-in-Ok c = record {
  client = ap Some (c.in-Ok.ensures.said ∙ ap₂ (λ (k : ℕ) (m : Command). with_call c.in-Some.client (Submit k m)) c.company.ensures.company
      c.copy_of.ensures.same) ∙ sym (ap (after_order c.args.command.now) c.in-Some.is);
}
