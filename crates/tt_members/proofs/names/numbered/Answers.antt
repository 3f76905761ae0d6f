use Rattle.std.proofs.Common.{◌≡◌, ◌<◌, subst, sym, arith, rules}
use Rattle.std.specs.Prelude.{◌^◌}
use Rattle.tt_frame.specs.Text.{IsText}
use Rattle.tt_log.specs.Names.{numbered}
use Rattle.tt_members.proofs.NameLaws.{text-numbered}
use Rattle.tt_members.proofs.names.numbered.Goals as goal

pub returns-clause-text : goal.returns-clause-text
returns-clause-text c =
    let same : c.try_extend_from_slice-3.new.self.items ≡ numbered c.args.name.now c.args.number = search rules in
    let few : c.args.number < 2 ^ 64 = omega arith in
    subst IsText (sym same) (text-numbered c.args.name.now c.args.number few c.requires.text)
