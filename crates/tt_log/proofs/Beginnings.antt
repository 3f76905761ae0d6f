-- A new game is one that games are made from.
use Rattle.std.proofs.Common.{◌<◌, arith}
use Rattle.std.specs.Prelude.{◌^◌}
use Rattle.tt_frame.specs.Text.{IsName}
use Rattle.tt_world.specs.declared.setup.Setup.{Setup}
use Rattle.tt_world.specs.Setup.{Fits}
use Rattle.tt_world.proofs.SoundLaws.{IsSound-start}
use Rattle.tt_log.specs.Origin.{IsOrigin, origin_of}

pub new-game : (setup : Setup) → Fits setup → setup.seed < 2 ^ 32 → IsName setup.name → IsName setup.revision → IsName setup.id
    → IsOrigin (origin_of setup)
new-game setup fits seed name revision id = record {
  setup = fits;
  seed = seed;
  name = name;
  revision = revision;
  id = id;
  start = record { sound = IsSound-start setup; day = omega arith; words = (seed, seed) };
  early = omega arith;
}
