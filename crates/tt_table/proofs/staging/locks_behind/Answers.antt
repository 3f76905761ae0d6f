use Rattle.std.proofs.Common.{◌∙◌, arith}
use Rattle.tt_table.proofs.Passwords.{locked-is}
use Rattle.tt_table.proofs.staging.locks_behind.Goals as goal

pub returns : goal.returns
returns c = record {
  locks = λ number low. c.loop-company.invariant.each number (omega (arith, low, c.loop-company-test.false))
      ∙ locked-is c.args.plan.now number c.args.members.now.crew.digests;
}
