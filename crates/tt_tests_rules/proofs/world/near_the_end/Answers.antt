use Rattle.std.proofs.Common.{◌<◌, ℕ, false, [], replicate, arith, lit<}
use Rattle.std.specs.Prelude.{Option, None}
use Rattle.tt_world.specs.Setup.{plain}
use Rattle.tt_world.specs.World.{world_of_parts}
use Rattle.tt_world.specs.Sound.{IsSound}
use Rattle.tt_world.specs.declared.company.Company.{Company}
use Rattle.tt_world.proofs.SoundLaws.{IsSound-start}
use Rattle.tt_tests_rules.proofs.world.near_the_end.Goals as goal

abbrev nobody : Option Company
nobody = None

-- a world with nobody in it is sound on every day
nobody_sound : (words : ℕ × ℕ) (day part : ℕ) → part < 74 → IsSound (world_of_parts words day part false (replicate 15 nobody) [])
nobody_sound words day part lt =
    let s = IsSound-start plain in
    record { part = lt; places = s.places; companies = s.companies; names = s.names; few = s.few; rising = s.rising; signs = s.signs }

pub from_parts-world-requires : goal.from_parts-world-requires
from_parts-world-requires g = record {
  sound = rw (g.in_ok-signs.ensures.items, g.no_companies.ensures.nobody) (nobody_sound g.seeded.result 4294967294 73 (lit< tt));
  room = omega (arith, g.in_ok-signs.ensures.capacity);
}
