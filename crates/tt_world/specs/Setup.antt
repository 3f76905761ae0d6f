-- What a game is made from.
use Rattle.std.specs.Prelude.{ℕ, ◌^◌, ◌≤◌, codes, length}
use Rattle.tt_world.specs.declared.setup.Setup.{Setup}

-- the setup, where nothing else is said
abbrev pub plain : Setup
plain = record {
  seed = 0;
  name = codes "Game";
  revision = codes "13.4";
  id = codes "tt";
  password = codes "";
  admin_password = codes "";
  frame_freq = 0;
  sync_freq = 100;
  max_clients = 25;
  init = 100;
  pass_limit = 65535;
  download = 1000;
  join = 500;
  lag = 500;
  cost = 2 ^ 30;
}

-- from the least number up to the most
abbrev pub IsFrom : ℕ → ℕ → ℕ → Type 0
IsFrom least most n = (least ≤ n) × (n ≤ most)

-- a setup with each number in its range, and with passwords of at most 32 bytes
pub record Fits (s : Setup) : Type 0 where
  pub frame_freq : IsFrom 0 64 s.frame_freq
  pub sync_freq : IsFrom 1 1000 s.sync_freq
  pub max_clients : IsFrom 1 255 s.max_clients
  pub init : IsFrom 1 65535 s.init
  pub pass_limit : IsFrom 1 65535 s.pass_limit
  pub download : IsFrom 1 65535 s.download
  pub join : IsFrom 1 65535 s.join
  pub lag : IsFrom 1 65535 s.lag
  pub cost : IsFrom 64 1073741824 s.cost
  pub password : length s.password ≤ 32
  pub admin_password : length s.admin_password ≤ 32
