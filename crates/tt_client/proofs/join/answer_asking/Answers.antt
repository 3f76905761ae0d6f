use Rattle.std.proofs.Common.{◌∙◌, sym, ap, Some, List, ℕ}
use Rattle.tt_game.specs.declared.message.GameMsg.{GameMsg}
use Rattle.tt_game.specs.declared.message.GameMsg.TheVariants.{ClientGamePassword, ClientCompanyPassword}
use Rattle.tt_log.specs.Shown.{Asking}
use Rattle.tt_client.specs.Answers.{answer}
use Rattle.tt_client.specs.Saying.{spelling}
use Rattle.tt_client.proofs.join.answer_asking.Goals as goal

pub returns-in-ServerNeedGamePassword : goal.returns-in-ServerNeedGamePassword
returns-in-ServerNeedGamePassword c = record {
  said = λ bytes. ap (λ (xs : List ℕ). spelling (ClientGamePassword xs)) c.digest_for.ensures.digest
      ∙ sym (ap (λ (m : GameMsg). answer c.args.login.now Asking (Some m)) c.in-ServerNeedGamePassword.is);
}

pub returns-in-ServerNeedCompanyPassword : goal.returns-in-ServerNeedCompanyPassword
returns-in-ServerNeedCompanyPassword c = record {
  said = λ bytes. ap (λ (xs : List ℕ). spelling (ClientCompanyPassword xs)) c.digest_for-in-ServerNeedCompanyPassword.ensures.digest
      ∙ sym (ap (λ (m : GameMsg). answer c.args.login.now Asking (Some m)) c.in-ServerNeedCompanyPassword.is);
}
