-- How members stand at every time: what the laws say of them.
use Rattle.std.specs.Prelude.{◌≡◌, ℕ, ◌≤◌, [], length}
use Rattle.tt_rules.specs.Statuses.{rank}
use Rattle.tt_log.specs.Member.{Member}

-- the marks of a member, where this is the frame and this the greatest permitted one
pub record IsMarked (frame top : ℕ) (m : Member) : Type 0 where
  -- its status has begun, and so has its map
  pub since : m.since ≤ frame
  pub mapped : m.map_frame ≤ frame
  -- of one that plays: acknowledged at least its map, at most what it was told, and that at most what is permitted
  pub acked : 8 ≤ rank m.status → (m.map_frame ≤ m.acked) × (m.acked ≤ m.told) × (m.told ≤ top)
  -- at most sixteen commands wait, and no command waits and no token is open of one that does not play
  pub few : length m.waiting ≤ 16
  pub idle : rank m.status ≤ 7 → (m.waiting ≡ []) × (m.token ≡ 0)
  -- a token is one byte, and was told
  pub token : m.token ≤ 255
  pub token_frame : m.token_frame ≤ frame
