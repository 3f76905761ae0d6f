use Rattle.std.proofs.Common.{sym, subst}
use Rattle.tt_attempts.specs.Attempts.{AttemptState, HasBegun}
use Rattle.tt_attempts.proofs.BegunLaws.{direct_begun}
use Rattle.tt_attempts.proofs.attempt.Attempt.first.Goals as goal

pub returns-clause-begun : goal.returns-clause-begun
returns-clause-begun c =
    subst (λ (a : AttemptState). HasBegun a.stage) (sym c.direct_or_later.ensures.after) (direct_begun c.args.self.now.ways)
