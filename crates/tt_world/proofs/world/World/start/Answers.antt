use Rattle.std.proofs.Common.{arith}
use Rattle.tt_world.proofs.SoundLaws.{IsSound-start}
use Rattle.tt_world.proofs.world.World.start.Goals as goal

pub invariant_of-result : goal.invariant_of-result
invariant_of-result c = rw (c.in_ok-signs.ensures.items, c.seeded.ensures.words, c.no_companies.ensures.nobody)
    (IsSound-start c.args.setup.now, omega (arith, c.in_ok-signs.ensures.capacity))
