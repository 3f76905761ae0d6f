use Rattle.std.proofs.Common.{◌≡◌, ◌-◌, ◌++◌, map}
use Rattle.tt_game.specs.declared.message.GameMsg.TheVariants.{ServerMapData}
use Rattle.tt_log.specs.Tick.{pieces_of}
use Rattle.tt_outgoing.proofs.pieces.data_messages.Given as goal

abbrev pub invariant-loop-i : goal.invariant-loop-i
invariant-loop-i l = map ServerMapData (pieces_of 4 l.bytes) ≡ l.messages.items ++ map ServerMapData (pieces_of (4 - l.i) l.rest)
