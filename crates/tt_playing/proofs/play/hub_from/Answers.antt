use Rattle.std.proofs.Common.{rules, ◌≡◌, [], subst, IfOk}
use Rattle.tt_world.specs.World.{WorldState}
use Rattle.tt_playing.proofs.Steps.{own_start}
use Rattle.tt_playing.proofs.play.hub_from.Goals as goal

pub returns-then-is_empty-clause-start : goal.returns-then-is_empty-clause-start
returns-then-is_empty-clause-start c =
    let none : c.args.saved.now ≡ [] = search rules in
    subst (λ (w : WorldState). IfOk c.new.result (λ hub. hub.start ≡ w)) (own_start c.args.setup.now c.args.saved.now none)
    c.new.ensures.start
