-- The clients that a script attaches, against the server of the same script: what they hold, and what is told of them.
use Rattle.std.specs.Prelude.{◌≡◌, ◌⊎◌, ◌≤◌, ℕ, false, List, ◌++◌, codes, Some, take}
use Rattle.std.specs.Fmt.{decimal}
use Rattle.tt_edge.specs.declared.event.Door.TheVariants.{Main}
use Rattle.tt_edge.specs.Event.{opens}
use Rattle.tt_client.specs.Calls.{fed}
use Rattle.tt_client.specs.InStep.{IsInStep, IsSent}
use Rattle.tt_in_step.specs.Ends.{SomeItem, TellsCode, TellsShutdown}
use Rattle.tt_log.specs.Contents.{Contents}
use Rattle.tt_log.specs.Doors.{door_of}
use Rattle.tt_log.specs.History.{journal_of}
use Rattle.tt_log.specs.Origin.{Origin, world_at}
use Rattle.tt_log.specs.Printing.{IsScript}
use Rattle.tt_log.specs.Shown.{Item, items_in}
use Rattle.tt_log.specs.Told.{sent}
use Rattle.tt_report.specs.Clients.{client_head, lines_of_client, running_lines}
use Rattle.tt_world.specs.declared.command.Entry.{Entry}
use Rattle.tt_playing.specs.Attached.{Attached, client_of}
use Rattle.tt_playing.specs.Begun.{origin_in}
use Rattle.tt_playing.specs.Played.{Played, played}

-- behind all lines of a script
abbrev pub behind : Contents → Played
behind script = played (origin_in script) script.lines

-- a client stands on a connection that was opened at the main door
pub record IsOnMain (p : Played) (conn : ℕ) : Type 0 where
  pub some : 1 ≤ conn
  pub opened : conn ≤ opens p.events
  pub door : door_of p.events conn ≡ Some Main

-- ---- what a client holds

-- the first bytes of all that its connection is sent, those that were handed to it
abbrev pub handed_of : Origin → Played → ℕ → Attached → List ℕ
handed_of o p conn a = take a.given (sent o p.events conn)

-- It was fed these bytes, and no others. So it is in step with the journal of the same events: once it has its map, its world is that
-- of the journal at its frame; and it joins, runs, or was ended by an end that stands in these bytes.
pub record HeardTheServer (o : Origin) (p : Played) (conn : ℕ) (a : Attached) : Type 0 where
  pub fed_is : fed a.calls ≡ handed_of o p conn a
  pub sent : IsSent o p.events conn (handed_of o p conn a)
  pub in_step : IsInStep o p.events (items_in (handed_of o p conn a)) (client_of a).player

-- each client of a script to which nothing was forged has heard the server alone
abbrev pub AttachedInStep : Type 0
AttachedInStep = (script : Contents) (conn : ℕ) (a : Attached) → IsScript script → (behind script).clients conn ≡ Some a
    → a.forged ≡ false → HeardTheServer (origin_in script) (behind script) conn a

-- ---- what is told of a client

-- The lines of a client that is in step with a journal: it is joining; or it runs, and the lines are those of its frame and of the
-- journal's world at that frame; or it was ended by an end that stands among these items: with a code, or because the game is over.
-- There are no others, since it is neither out of step nor told what is not permitted.
abbrev pub AreInStep : Origin → List Entry → List Item → ℕ → List ℕ → Type 0
AreInStep o journal items conn text =
    (text ≡ client_head conn ++ codes " joining\n")
    ⊎ ((frame : ℕ) × (text ≡ running_lines conn frame (world_at o journal frame)))
    ⊎ ((code : ℕ) × (text ≡ client_head conn ++ codes " ended " ++ decimal code ++ codes "\n") × SomeItem (TellsCode code) items)
    ⊎ ((text ≡ client_head conn ++ codes " shutdown\n") × SomeItem TellsShutdown items)

-- those of each client of a script to which nothing was forged
abbrev pub LinesInStep : Type 0
LinesInStep = (script : Contents) (conn : ℕ) (a : Attached) → IsScript script → (behind script).clients conn ≡ Some a → a.forged ≡ false
    → (let o : Origin = origin_in script in let p : Played = behind script in
    AreInStep o (journal_of o p.events) (items_in (handed_of o p conn a)) conn (lines_of_client conn (client_of a)))
