use Rattle.std.proofs.Common.{◌∙◌, sym, ap, Some}
use Rattle.tt_client.specs.declared.stage.Stage.{Stage}
use Rattle.tt_client.specs.Answers.{answer}
use Rattle.tt_client.specs.Held.{place_of}
use Rattle.tt_client.proofs.join.answer.Goals as goal

pub returns-in-Asking : goal.returns-in-Asking
returns-in-Asking c = record {
  said = λ bytes. c.answer_asking.ensures.said bytes
      ∙ ap (λ (stage : Stage). answer c.args.login.now (place_of stage bytes) (Some c.args.msg.now)) (sym c.in-Asking.is);
}
