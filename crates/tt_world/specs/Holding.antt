-- What a world is seen as.
use Rattle.tt_world.specs.declared.world.World.TheInside.{Inside}
use Rattle.tt_world.specs.World.{WorldState}

-- the room of the signs is not seen
abbrev pub held : Inside → WorldState
held w = record { words = w.random; day = w.day; part = w.part; paused = w.paused; companies = w.companies; signs = w.signs.items }
