-- What a script holds, as plain data.
use Rattle.std.specs.Prelude.{ℕ, List}
use Rattle.tt_log.specs.declared.script.line.Line1.{Line1}
use Rattle.tt_world.specs.declared.setup.Setup.{Setup}

-- the setup of its game, the map that the game starts from, or nothing where it starts from the setup, and the lines behind
-- the settings
pub record Contents : Type 0 where
  pub setup : Setup
  pub saved : List ℕ
  pub lines : List Line1
