use Rattle.std.proofs.Common.{sym, ◌∙◌}
use Rattle.tt_log.specs.Origin.{origin_of}
use Rattle.tt_join.specs.Joining.{bare}
use Rattle.tt_join.proofs.members.Members.hear.Goals as goal

pub allowed-requires-clause-allowed : goal.allowed-requires-clause-allowed
allowed-requires-clause-allowed c =
    sym (c.judge.ensures.judged (origin_of c.args.self.now.setup) (bare c.args.self.now.crew.members)) ∙ c.in-Allowed.is
