-- An attempt that has begun stays so.
use Rattle.std.proofs.Common.{Bool, true, false, cond, eqb, ltb}
use Rattle.tt_attempts.specs.declared.attempt.Ways.{Ways}
use Rattle.tt_attempts.specs.declared.attempt.Stage.{Stage}
use Rattle.tt_attempts.specs.declared.attempt.Stage.TheVariants.{Fresh, TryingDirect, AwaitingStun, TryingStun, TryingTurn, Over}
use Rattle.tt_attempts.specs.declared.attempt.Heard.{Heard}
use Rattle.tt_attempts.specs.declared.attempt.Heard.TheVariants.{Failed, StunResult, Connected, ServerGone}
use Rattle.tt_attempts.specs.declared.attempt.Told.TheVariants.{Direct, AskStun, Turn, AllFailed}
use Rattle.tt_attempts.specs.Attempts.{HasBegun, Step, tells, stays, from_turn, from_stun, from_direct, agreed, stepped}

either : (b : Bool) (one other : Step) → HasBegun one.stage → HasBegun other.stage → HasBegun (cond b one other).stage
either true one other y n = y
either false one other y n = n

turn_begun : (ways : Ways) → HasBegun (from_turn ways).stage
turn_begun ways = either ways.turn (tells Turn TryingTurn) (tells AllFailed Over) tt tt

stun_begun : (ways : Ways) → HasBegun (from_stun ways).stage
stun_begun ways = either ways.stun (tells AskStun (AwaitingStun false false)) (from_turn ways) tt (turn_begun ways)

pub direct_begun : (ways : Ways) → HasBegun (from_direct ways).stage
direct_begun ways = either ways.direct (tells Direct TryingDirect) (from_stun ways) tt (stun_begun ways)

agreed_begun : (server client : Bool) → HasBegun (agreed server client).stage
agreed_begun true true = tt
agreed_begun true false = tt
agreed_begun false client = tt

pub step_begun : (ways : Ways) (stage : Stage) (h : Heard) → HasBegun stage → HasBegun (stepped ways stage h).stage
step_begun ways Fresh h is = absurd is
step_begun ways TryingDirect (Failed n) is = either (eqb n 1) (from_stun ways) (stays TryingDirect) (stun_begun ways) tt
step_begun ways TryingStun (Failed n) is = either (eqb n 2) (from_turn ways) (stays TryingStun) (turn_begun ways) tt
step_begun ways TryingTurn (Failed n) is = either (eqb n 3) (tells AllFailed Over) (stays TryingTurn) tt tt
step_begun ways (AwaitingStun server client) (Failed n) is = tt
step_begun ways Over (Failed n) is = tt
step_begun ways TryingDirect (StunResult side ok) is = tt
step_begun ways TryingStun (StunResult side ok) is = tt
step_begun ways TryingTurn (StunResult side ok) is = tt
step_begun ways (AwaitingStun server client) (StunResult side true) is =
    let here = stays (AwaitingStun server client) in
    either (eqb side 0) (agreed true client) (cond (eqb side 1) (agreed server true) here) (agreed_begun true client)
    (either (eqb side 1) (agreed server true) here (agreed_begun server true) tt)
step_begun ways (AwaitingStun server client) (StunResult side false) is =
    either (ltb side 2) (from_turn ways) (stays (AwaitingStun server client)) (turn_begun ways) tt
step_begun ways Over (StunResult side ok) is = tt
step_begun ways stage Connected is = tt
step_begun ways TryingDirect ServerGone is = tt
step_begun ways TryingStun ServerGone is = tt
step_begun ways TryingTurn ServerGone is = tt
step_begun ways (AwaitingStun server client) ServerGone is = tt
step_begun ways Over ServerGone is = tt
