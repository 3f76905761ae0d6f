-- An attempt to connect a client with a server: which ways it tells, and when.
use Rattle.std.specs.Prelude.{ℕ, Bool, true, false, nat_lt, ◌==◌, ◌&&◌, if◌then◌else◌}
use Rattle.tt_attempts.specs.declared.attempt.Ways.{Ways}
use Rattle.tt_attempts.specs.declared.attempt.Stage.{Stage}
use Rattle.tt_attempts.specs.declared.attempt.Stage.TheVariants.{Fresh, TryingDirect, AwaitingStun, TryingStun, TryingTurn, Over}
use Rattle.tt_attempts.specs.declared.attempt.Heard.{Heard}
use Rattle.tt_attempts.specs.declared.attempt.Heard.TheVariants.{Failed, StunResult, Connected, ServerGone}
use Rattle.tt_attempts.specs.declared.attempt.Told.{Told}
use Rattle.tt_attempts.specs.declared.attempt.Told.TheVariants.{Nothing, Direct, AskStun, Stun, Turn, AllFailed}

-- an attempt: the ways that apply, and how far it is
pub record AttemptState : Type 0 where
  pub ways : Ways
  pub stage : Stage

-- its first word was told
abbrev pub HasBegun : Stage → Type 0
HasBegun Fresh = ⊥
HasBegun TryingDirect = Unit {0}
HasBegun (AwaitingStun server client) = Unit {0}
HasBegun TryingStun = Unit {0}
HasBegun TryingTurn = Unit {0}
HasBegun Over = Unit {0}

-- what an event leads to: what is told, and how far the attempt is then
pub record Step : Type 0 where
  pub told : Told
  pub stage : Stage

abbrev pub tells : Told → Stage → Step
tells told stage = record { told = told; stage = stage }

-- the event changes nothing
abbrev pub stays : Stage → Step
stays stage = tells Nothing stage

-- TURN where it applies, or else the end
abbrev pub from_turn : Ways → Step
from_turn ways = if ways.turn then tells Turn TryingTurn else tells AllFailed Over

-- STUN where it applies, or else what comes behind it: both sides are asked, and none has said ok
abbrev pub from_stun : Ways → Step
from_stun ways = if ways.stun then tells AskStun (AwaitingStun false false) else from_turn ways

-- the first way that applies: direct, or else what comes behind it
abbrev pub from_direct : Ways → Step
from_direct ways = if ways.direct then tells Direct TryingDirect else from_stun ways

-- A way fails where one of its peers tells that the way with its tracking number failed: 1 direct, 2 STUN once both sides
-- know where to connect, 3 TURN. Then the next way that applies begins.
abbrev pub failed : Ways → Stage → ℕ → Step
failed ways TryingDirect tracking = if tracking == 1 then from_stun ways else stays TryingDirect
failed ways TryingStun tracking = if tracking == 2 then from_turn ways else stays TryingStun
failed ways TryingTurn tracking = if tracking == 3 then tells AllFailed Over else stays TryingTurn
failed ways Fresh tracking = stays Fresh
failed ways (AwaitingStun server client) tracking = stays (AwaitingStun server client)
failed ways Over tracking = stays Over

-- once both sides have said ok they are told where to connect
abbrev pub agreed : (server client : Bool) → Step
agreed server client = if server && client then tells Stun TryingStun else stays (AwaitingStun server client)

-- A side's result: one that isn't ok fails STUN at once. The server is side 0, the client is side 1, and there is no other.
abbrev pub answered : Ways → (server client : Bool) → ℕ → Bool → Step
answered ways server client side true =
    if side == 0 then agreed true client else if side == 1 then agreed server true else stays (AwaitingStun server client)
answered ways server client side false = if nat_lt side 2 then from_turn ways else stays (AwaitingStun server client)

-- a result counts only while results are awaited
abbrev pub resulted : Ways → Stage → ℕ → Bool → Step
resulted ways (AwaitingStun server client) side ok = answered ways server client side ok
resulted ways Fresh side ok = stays Fresh
resulted ways TryingDirect side ok = stays TryingDirect
resulted ways TryingStun side ok = stays TryingStun
resulted ways TryingTurn side ok = stays TryingTurn
resulted ways Over side ok = stays Over

-- the server's connection ended, which ends the attempt
abbrev pub server_gone : Stage → Step
server_gone Over = stays Over
server_gone Fresh = tells AllFailed Over
server_gone TryingDirect = tells AllFailed Over
server_gone (AwaitingStun server client) = tells AllFailed Over
server_gone TryingStun = tells AllFailed Over
server_gone TryingTurn = tells AllFailed Over

-- what an event leads to; that the client is connected, or has gone, ends the attempt untold
abbrev pub stepped : Ways → Stage → Heard → Step
stepped ways stage (Failed tracking) = failed ways stage tracking
stepped ways stage (StunResult side ok) = resulted ways stage side ok
stepped ways stage Connected = stays Over
stepped ways stage ServerGone = server_gone stage
