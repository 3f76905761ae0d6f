use Rattle.std.proofs.Common.{ap, ◌∙◌}
use Rattle.tt_hour.specs.Left.{left}
use Rattle.tt_hour.specs.declared.part.Part.TheVariants.{Enter}
use Rattle.tt_hour.specs.declared.player.Player.TheVariants.{First}
use Rattle.tt_hour.proofs.PartLaws.{start_left}
use Rattle.tt_hour.proofs.lines.HourLines.new.Goals as goal

pub returns : goal.returns
returns c = ap (left (Enter First) 0) c.seeded.ensures.words ∙ start_left c.args.number
