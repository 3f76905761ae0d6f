use Rattle.std.proofs.Common.{◌∙◌, ap}
use Rattle.tt_world.specs.World.{WorldState}
use Rattle.tt_world.specs.Commands.{rename_refusal}
use Rattle.tt_world.proofs.ApplyLaws.{refusal_to_rename}
use Rattle.tt_world.proofs.world.World.refusal_of.Goals as goal

pub returns-in-RenameCompany : goal.returns-in-RenameCompany
returns-in-RenameCompany c =
    let e = c.args.entry.now in
    c.rename_company.ensures
    ∙ ap (λ k. rename_refusal k c.bytes-in-RenameCompany.result.now c.self.inside.companies) c.from.ensures
    ∙ ap (λ text. rename_refusal e.company text c.self.inside.companies) c.bytes-in-RenameCompany.ensures.same
    ∙ ap (λ (w : WorldState). rename_refusal e.company e.command.text w.companies) c.self.view_is
    ∙ refusal_to_rename c.args.self.now e.command.code e.company e.command.number e.command.to e.command.text c.args.company.now
    c.in-RenameCompany.is c.requires.live
