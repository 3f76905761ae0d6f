-- The statuses of a member, in their order.
use Rattle.std.specs.Prelude.{ℕ, Bool, ◌==◌, nat_le, nat_lt}
use Rattle.tt_rules.specs.declared.status.Status.{Status}
use Rattle.tt_rules.specs.declared.status.Status.TheVariants.{
  Inactive,
  NewgrfsCheck,
  AuthGame,
  AuthCompany,
  Authorized,
  MapWait,
  Map,
  DoneMap,
  PreActive,
  Active,
}

-- the place of a status in their order
abbrev pub rank : Status → ℕ
rank Inactive = 0
rank NewgrfsCheck = 1
rank AuthGame = 2
rank AuthCompany = 3
rank Authorized = 4
rank MapWait = 5
rank Map = 6
rank DoneMap = 7
rank PreActive = 8
rank Active = 9

abbrev pub is_at : Status → Status → Bool
is_at wanted status = rank status == rank wanted

-- past INACTIVE: it has a name
abbrev pub is_named : Status → Bool
is_named status = nat_lt 0 (rank status)

-- welcomed: from AUTHORIZED on
abbrev pub is_welcomed : Status → Bool
is_welcomed status = nat_le 4 (rank status)

-- in the game: PRE_ACTIVE or ACTIVE
abbrev pub is_playing : Status → Bool
is_playing status = nat_le 8 (rank status)
