use Rattle.std.proofs.Common.{sym, subst}
use Rattle.tt_attempts.specs.Attempts.{AttemptState, HasBegun}
use Rattle.tt_attempts.proofs.BegunLaws.{step_begun}
use Rattle.tt_attempts.proofs.attempt.Attempt.step.Goals as goal

pub returns-clause-begun : goal.returns-clause-begun
returns-clause-begun c = subst (λ (a : AttemptState). HasBegun a.stage) (sym c.hear.ensures.after) (step_begun c.args.self.now.ways
    c.args.self.now.stage c.args.heard c.requires.begun)
