-- A member: a connection that came in by the main door and has not ended.
use Rattle.std.specs.Prelude.{ℕ, Bool, ◌||◌, List, [], length, codes}
use Rattle.tt_world.specs.declared.command.Command.{Command}
use Rattle.tt_rules.specs.declared.status.Status.{Status}
use Rattle.tt_rules.specs.declared.status.Status.TheVariants.{Inactive, MapWait, Map, DoneMap}
use Rattle.tt_rules.specs.declared.status.Standing.{Standing}
use Rattle.tt_rules.specs.Statuses as status

pub record Member : Type 0 where
  pub conn : ℕ
  -- its client number
  pub client : ℕ
  pub status : Status
  -- the frame at which the status began; of MAP and DONE_MAP that at which the download began
  pub since : ℕ
  -- the company that it asked for, and the one that it has
  pub asked : ℕ
  pub company : ℕ
  pub name : List ℕ
  -- its commands that wait, the oldest first, each with the company for which it was allowed
  pub waiting : List (ℕ × Command)
  -- the last frame that it acknowledged, and the greatest permitted frame that it was told
  pub acked : ℕ
  pub told : ℕ
  -- the open token, which it was told and has not given back, and the frame at which it was told; 0 and 0 where none is open
  pub token : ℕ
  pub token_frame : ℕ
  -- the frame of its map, and how many pieces of it were told
  pub map_frame : ℕ
  pub pieces : ℕ

-- past INACTIVE: it has a name of its own
abbrev pub is_named : Member → Bool
is_named m = status.is_named m.status

-- welcomed: from AUTHORIZED on
abbrev pub is_welcomed : Member → Bool
is_welcomed m = status.is_welcomed m.status

-- in the game: PRE_ACTIVE or ACTIVE
abbrev pub is_playing : Member → Bool
is_playing m = status.is_playing m.status

abbrev pub is_in : Status → Member → Bool
is_in wanted m = status.is_at wanted m.status

-- it asked for the map, and has not entered the game
abbrev pub is_loading : Member → Bool
is_loading m = is_in MapWait m || is_in Map m || is_in DoneMap m

-- what a verdict looks at of it
abbrev pub standing_of : Member → Standing
standing_of m = record {
  status = m.status;
  company = m.company;
  waiting = length m.waiting;
  acked = m.acked;
  told = m.told;
  token =
      m.token;
}

-- a connection that was just opened; an unnamed member has the name `?`, and is in no company
abbrev pub new_member : ℕ → ℕ → ℕ → Member
new_member conn client frame = record {
  conn = conn;
  client = client;
  status = Inactive;
  since = frame;
  asked = 255;
  company = 255;
  name = codes "?";
  waiting = [];
  acked = 0;
  told = 0;
  token = 0;
  token_frame = 0;
  map_frame = 0;
  pieces = 0;
}
