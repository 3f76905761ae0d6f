-- Each variant tells its own parts.
use Rattle.std.proofs.Common.{rules}
use Rattle.tt_coord.proofs.turn.tell_parts.Goals as goal

pub returns-in-SercliConnect : goal.returns-in-SercliConnect
returns-in-SercliConnect g c = c.told-in-SercliConnect.ensures _ _ c.in-SercliConnect.is (cc) (search)

pub returns-in-TurnConnected : goal.returns-in-TurnConnected
returns-in-TurnConnected g c = c.told-in-TurnConnected.ensures _ _ c.in-TurnConnected.is (cc) (search)
