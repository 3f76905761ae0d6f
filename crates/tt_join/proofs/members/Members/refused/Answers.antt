use Rattle.std.proofs.Common.{ap, ap₂, ◌∙◌, List, ℕ}
use Rattle.tt_log.specs.Judged.{refused}
use Rattle.tt_log.specs.Member.{Member}
use Rattle.tt_join.specs.Joining.{made_from, with_crew}
use Rattle.tt_join.specs.Members.{Kept}
use Rattle.tt_join.proofs.members.Members.refused.Goals as goal

pub returns-clause-refused : goal.returns-clause-refused
returns-clause-refused c = λ o t.
    c.refused.ensures.refused o t
    ∙ ap₂ (λ (ms : List Member) (ds : List (ℕ × List ℕ)). refused (made_from c.self.inside.setup o) c.args.now.now.live (with_crew ms ds t)
    c.args.m.now c.args.msg.now)
    c.deref.ensures.value c.deref-2.ensures.value
    ∙ ap (λ (k : Kept). refused (made_from k.setup o) c.args.now.now.live (with_crew k.crew.members k.crew.digests t) c.args.m.now
    c.args.msg.now)
    c.self.view_is
