-- The STUN desk: what comes in at the side door.
use Rattle.std.specs.Prelude.{ℕ, Bool, true, false, ◌==◌, List, Option, Some, cond}
use Rattle.std.specs.Result.{result_ok}
use Rattle.tt_edge.specs.declared.event.Peer.{Peer}
use Rattle.tt_frame.specs.Unread.{whole}
use Rattle.tt_frame.specs.Tables.{read_by}
use Rattle.tt_coord.specs.Stun.{stun_messages}
use Rattle.tt_coord.specs.declared.stun.StunMsg.{StunMsg}
use Rattle.tt_coord.specs.declared.stun.StunMsg.TheVariants.{SercliStun}
use Rattle.tt_attempts.specs.declared.attempt.Stage.{Stage}
use Rattle.tt_attempts.specs.declared.attempt.Stage.TheVariants.{Fresh, TryingDirect, AwaitingStun, TryingStun, TryingTurn, Over}
use Rattle.tt_gc_table.specs.Table.{Table, Connection, Meeting, meeting_of, with_meeting}
use Rattle.tt_gc_table.specs.Deed.{Deed, ◌▹◌, where_, given, becomes}
use Rattle.tt_gc_table.specs.Ending.{goes}

-- at most so many side connections are live at a time
abbrev pub most_sides : ℕ
most_sides = 4096

-- the attempt stands at STUN
abbrev pub is_at_stun : Stage → Bool
is_at_stun (AwaitingStun server client) = true
is_at_stun TryingStun = true
is_at_stun Fresh = false
is_at_stun TryingDirect = false
is_at_stun TryingTurn = false
is_at_stun Over = false

-- the address is noted for this side, in the place of an earlier one
abbrev pub with_note : ℕ → Peer → Meeting → Meeting
with_note side peer m = cond (side == 0) (record m { server = record m.server { noted = Some peer } })
    (record m { client = record m.client { noted = Some peer } })

abbrev pub shows : Peer → List ℕ → ℕ → Table → Deed
shows peer token side t =
    given (meeting_of t token) (λ (m : Meeting). where_ (is_at_stun m.state.stage) (λ t. becomes (with_meeting token (with_note side peer)
    t))) t

abbrev pub on_stun : Peer → StunMsg → Table → Deed
on_stun peer (SercliStun token side) = shows peer token side

abbrev pub read_stun : ℕ → List ℕ → Option StunMsg
read_stun kind body = result_ok (read_by stun_messages kind (whole body))

-- what a packet shows is noted, and then its connection ends untold, whatever it says
abbrev pub at_desk : Connection → Option StunMsg → Table → Deed
at_desk c m t = given m (on_stun c.peer) t ▹ goes c.conn
