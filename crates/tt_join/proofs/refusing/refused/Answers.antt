use Rattle.std.proofs.Common.{ap, sym, ◌∙◌}
use Rattle.tt_log.specs.Judged.{refused}
use Rattle.tt_join.specs.Joining.{made_from, with_crew}
use Rattle.tt_join.proofs.refusing.refused.Goals as goal

pub returns-in-ClientJoin-clause-refused : goal.returns-in-ClientJoin-clause-refused
returns-in-ClientJoin-clause-refused c = λ o t. let u = with_crew c.args.scene.members.now c.args.scene.digests.now t in
    c.join_refused.ensures.refused o t
    ∙ ap (refused (made_from c.args.scene.setup.now o) c.args.live.now u c.args.m.now) (sym c.in-ClientJoin.is)

pub returns-in-ClientGamePassword-clause-refused : goal.returns-in-ClientGamePassword-clause-refused
returns-in-ClientGamePassword-clause-refused c = λ o t. let u = with_crew c.args.scene.members.now c.args.scene.digests.now t in
    c.game_password_refused.ensures.refused o
    ∙ ap (refused (made_from c.args.scene.setup.now o) c.args.live.now u c.args.m.now) (sym c.in-ClientGamePassword.is)

pub returns-in-ClientCompanyPassword-clause-refused : goal.returns-in-ClientCompanyPassword-clause-refused
returns-in-ClientCompanyPassword-clause-refused c = λ o t. let u = with_crew c.args.scene.members.now c.args.scene.digests.now t in
    c.company_password_refused.ensures.refused u
    ∙ ap (refused (made_from c.args.scene.setup.now o) c.args.live.now u c.args.m.now) (sym c.in-ClientCompanyPassword.is)

pub returns-in-ClientSetName-clause-refused : goal.returns-in-ClientSetName-clause-refused
returns-in-ClientSetName-clause-refused c = λ o t. let u = with_crew c.args.scene.members.now c.args.scene.digests.now t in
    c.name_refused.ensures.refused u
    ∙ ap (refused (made_from c.args.scene.setup.now o) c.args.live.now u c.args.m.now) (sym c.in-ClientSetName.is)

pub returns-in-ClientMove-clause-refused : goal.returns-in-ClientMove-clause-refused
returns-in-ClientMove-clause-refused c = λ o t. let u = with_crew c.args.scene.members.now c.args.scene.digests.now t in
    c.move_refused.ensures.refused u
    ∙ ap (refused (made_from c.args.scene.setup.now o) c.args.live.now u c.args.m.now) (sym c.in-ClientMove.is)
