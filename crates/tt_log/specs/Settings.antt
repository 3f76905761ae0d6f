-- The table of settings: the words of each, its place among the `set` lines, and what it does to the setup.
use Rattle.std.specs.Prelude.{ℕ, List, [], ◌∷◌, codes, length, Bool, ◌==◌}
use Rattle.tt_log.specs.Forms.{Word, word, named, number, text}
use Rattle.tt_log.specs.declared.script.setting.Setting.{Setting}
use Rattle.tt_log.specs.declared.script.setting.Setting.TheVariants.{Seed, FrameFreq, SyncFreq, Clients, Init, PassLimit, Download, Join}
use Rattle.tt_log.specs.declared.script.setting.Setting.TheVariants.{Lag, Cost, Pw, Admin}
use Rattle.tt_world.specs.Setup.{plain}
use Rattle.tt_world.specs.declared.setup.Setup.{Setup}

-- the words behind `set`
abbrev pub setting_words : Setting → List Word
setting_words (Seed n) = named (codes "seed") ∷ word (number 0 4294967295) n ∷ []
setting_words (FrameFreq n) = named (codes "frame_freq") ∷ word (number 0 64) n ∷ []
setting_words (SyncFreq n) = named (codes "sync_freq") ∷ word (number 1 1000) n ∷ []
setting_words (Clients n) = named (codes "clients") ∷ word (number 1 255) n ∷ []
setting_words (Init n) = named (codes "init") ∷ word (number 1 65535) n ∷ []
setting_words (PassLimit n) = named (codes "password") ∷ word (number 1 65535) n ∷ []
setting_words (Download n) = named (codes "download") ∷ word (number 1 65535) n ∷ []
setting_words (Join n) = named (codes "join") ∷ word (number 1 65535) n ∷ []
setting_words (Lag n) = named (codes "lag") ∷ word (number 1 65535) n ∷ []
setting_words (Cost n) = named (codes "cost") ∷ word (number 64 1073741824) n ∷ []
setting_words (Pw bytes) = named (codes "pw") ∷ word (text 0 32) bytes ∷ []
setting_words (Admin bytes) = named (codes "admin") ∷ word (text 0 32) bytes ∷ []

-- the place of its key among the keys
abbrev pub place_of : Setting → ℕ
place_of (Seed n) = 0
place_of (FrameFreq n) = 1
place_of (SyncFreq n) = 2
place_of (Clients n) = 3
place_of (Init n) = 4
place_of (PassLimit n) = 5
place_of (Download n) = 6
place_of (Join n) = 7
place_of (Lag n) = 8
place_of (Cost n) = 9
place_of (Pw bytes) = 10
place_of (Admin bytes) = 11

-- the setup with what the setting says
abbrev pub with_setting : Setup → Setting → Setup
with_setting s (Seed n) = record s { seed = n }
with_setting s (FrameFreq n) = record s { frame_freq = n }
with_setting s (SyncFreq n) = record s { sync_freq = n }
with_setting s (Clients n) = record s { max_clients = n }
with_setting s (Init n) = record s { init = n }
with_setting s (PassLimit n) = record s { pass_limit = n }
with_setting s (Download n) = record s { download = n }
with_setting s (Join n) = record s { join = n }
with_setting s (Lag n) = record s { lag = n }
with_setting s (Cost n) = record s { cost = n }
with_setting s (Pw bytes) = record s { password = bytes }
with_setting s (Admin bytes) = record s { admin_password = bytes }

-- all that a setup says, in the order of the keys
abbrev pub settings_of : Setup → List Setting
settings_of s =
    Seed s.seed ∷ FrameFreq s.frame_freq ∷ SyncFreq s.sync_freq ∷ Clients s.max_clients ∷ Init s.init ∷ PassLimit s.pass_limit
    ∷ Download s.download ∷ Join s.join ∷ Lag s.lag ∷ Cost s.cost ∷ Pw s.password ∷ Admin s.admin_password ∷ []

-- whether a setting says what the plain setup says; its passwords are empty
abbrev pub is_plain : Setting → Bool
is_plain (Seed n) = n == plain.seed
is_plain (FrameFreq n) = n == plain.frame_freq
is_plain (SyncFreq n) = n == plain.sync_freq
is_plain (Clients n) = n == plain.max_clients
is_plain (Init n) = n == plain.init
is_plain (PassLimit n) = n == plain.pass_limit
is_plain (Download n) = n == plain.download
is_plain (Join n) = n == plain.join
is_plain (Lag n) = n == plain.lag
is_plain (Cost n) = n == plain.cost
is_plain (Pw bytes) = length bytes == length plain.password
is_plain (Admin bytes) = length bytes == length plain.admin_password
