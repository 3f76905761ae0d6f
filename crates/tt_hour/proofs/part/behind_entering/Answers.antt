use Rattle.std.proofs.Common.{refl, ap, ◌∙◌, arith}
use Rattle.tt_hour.specs.Left.{behind_entering}
use Rattle.tt_hour.specs.declared.player.Player.{Player}
use Rattle.tt_hour.proofs.PartLaws.{IsDrawn, to_round}
use Rattle.tt_hour.proofs.part.behind_entering.Goals as goal

pub returns-in-Third : goal.returns-in-Third
returns-in-Third c =
    let drawn : IsDrawn c.draw.result c.args.random.now c.draw.new.random =
    record { client = c.draw.ensures.client; order = c.draw.ensures.order; rest = c.draw.ensures.words } in
    ap (λ (p : Player). behind_entering p c.args.random.now) c.in-Third.is
    ∙ to_round 2000 0 0 c.draw.result c.args.random.now c.draw.new.random (omega arith) (omega arith) refl (omega arith) drawn
