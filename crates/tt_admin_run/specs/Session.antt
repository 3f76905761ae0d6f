-- What one run of the admin's client did, from its first round to its end. It speaks of totals: a link and a ticker share no
-- clock.
use Rattle.std.specs.Prelude.{◌≡◌, ℕ, ◌+◌, ◌<◌, ◌⊎◌, Bool, true, false, List, [], ◌∷◌, ◌++◌, length, replicate}
use Rattle.std.specs.Io.KnownBytes.{Appends}
use mathlib.Core.List.{IsPrefix}
use Rattle.tt_edge.specs.Link.{LinkCounts, Rises}
use Rattle.tt_edge.specs.Listener.{TickCounts}
use Rattle.tt_edge.specs.Told.{Adds}
use Rattle.tt_edge.specs.declared.ticker.Beat.{Beat}
use Rattle.tt_edge.specs.declared.ticker.Beat.TheVariants.{Tick, Stop}
use Rattle.tt_admin.specs.declared.message.AdminMsg.{AdminMsg}
use Rattle.tt_rounds.specs.Links.{LinkNow}
use Rattle.tt_rounds.specs.Pacing.{IsPaced}
use Rattle.tt_admin_file.specs.declared.command.Command.{Command}
use Rattle.tt_admin_run.specs.declared.ended.Ended.{Ended}
use Rattle.tt_admin_run.specs.declared.ended.Ended.TheVariants.{Quit, Shutdown, Refused, LinkEnd, LinkFault, SinkFault}
use Rattle.tt_admin_run.specs.declared.ended.Ended.TheVariants.{TickFault, Stopped, Memory}
use Rattle.tt_admin_run.specs.Sending.{due_bytes, all_bytes, quits}
use Rattle.tt_admin_run.specs.Telling.{told, comes, is_welcome, is_refusal, is_shutdown}
use Rattle.tt_admin_run.specs.Rounds.{SinkNow, TickerNow}

-- the status of the program
abbrev pub status_of : Ended → ℕ
status_of Quit = 0
status_of Shutdown = 0
status_of Stopped = 0
status_of SinkFault = 5
status_of Memory = 6
status_of TickFault = 9
status_of Refused = 12
status_of LinkEnd = 13
status_of LinkFault = 14

-- the beat that ended it, besides the Ticks
abbrev pub last_beat : Ended → List Beat
last_beat Stopped = Stop ∷ []
last_beat other = []

-- it ended at a beat
abbrev pub IsAtBeat : Ended → Type 0
IsAtBeat Stopped = Unit {0}
IsAtBeat TickFault = Unit {0}
IsAtBeat other = ⊥

-- Which packets came that end a run. FULL, BANNED and ERROR end it as refused, and else SHUTDOWN does, unless the sink failed or
-- memory ran out; it ended so only where they came.
abbrev pub Came : Ended → List ℕ → Type 0
Came Refused read = comes is_refusal read ≡ true
Came Shutdown read = (comes is_refusal read ≡ false) × (comes is_shutdown read ≡ true)
Came SinkFault read = Unit {0}
Came Memory read = Unit {0}
Came other read = (comes is_refusal read ≡ false) × (comes is_shutdown read ≡ false)

-- What became of the link: its end or a fault ended the run only where it was counted in it; and none was counted where the run
-- ended by QUIT or at a beat.
abbrev pub LinkEnds : Ended → LinkCounts → LinkCounts → Type 0
LinkEnds LinkEnd c c' = Rises c.ends c'.ends
LinkEnds LinkFault c c' = Rises c.faults c'.faults
LinkEnds Quit c c' = (c'.faults ≡ c.faults) × (c'.ends ≡ c.ends)
LinkEnds Stopped c c' = (c'.faults ≡ c.faults) × (c'.ends ≡ c.ends)
LinkEnds TickFault c c' = (c'.faults ≡ c.faults) × (c'.ends ≡ c.ends)
LinkEnds other c c' = Unit {0}

-- what became of the ticker
abbrev pub TickerEnds : Ended → TickCounts → TickCounts → Type 0
TickerEnds Stopped c c' = Rises c.stops c'.stops × (c'.faults ≡ c.faults)
TickerEnds TickFault c c' = Rises c.faults c'.faults
TickerEnds other c c' = c' ≡ c

-- what became of the sink
abbrev pub SinkEnds : Ended → ℕ → ℕ → Type 0
SinkEnds SinkFault k k' = Rises k k'
SinkEnds other k k' = k' ≡ k

-- the text is whole, unless the sink failed or memory ran out
abbrev pub IsWhole : Ended → List ℕ → List ℕ → Type 0
IsWhole SinkFault text whole = Unit {0}
IsWhole Memory text whole = Unit {0}
IsWhole other text whole = text ≡ whole

-- all that was read was heard, unless memory ran out
abbrev pub AllHeard : Ended → List ℕ → Type 0
AllHeard Memory lost = Unit {0}
AllHeard other lost = lost ≡ []

-- what was written where the run ended by QUIT: all, up to the first one
abbrev pub Leaves : Ended → AdminMsg → List Command → List ℕ → Type 0
Leaves Quit join lines written = (quits lines ≡ true) × (written ≡ all_bytes join lines)
Leaves other join lines written = Unit {0}

-- where it ended at a beat: all that is due was written, or the link took no more; and no QUIT was written whole
pub record StopsAtBeat (join : AdminMsg) (lines : List Command) (welcome : Bool) (ticks : ℕ) (written : List ℕ) (c c' : LinkCounts) : Type 0
  where
    pub all_due : (written ≡ due_bytes join lines welcome ticks) ⊎ (Rises c.idle_writes c'.idle_writes × (0 < c'.stalled))
    pub no_quit : quits lines ≡ true → length written < length (all_bytes join lines)

pub record DeskSession (join : AdminMsg) (lines : List Command) (l l' : LinkNow) (t t' : TickerNow) (k k' : SinkNow) (e : Ended) : Type 0
  where
    -- the bytes that were read and heard; where memory ran out the last ones may be lost
    pub read : List ℕ
    pub lost : List ℕ
    pub took : Appends l.read l'.read (read ++ lost)
    pub all_heard : AllHeard e lost
    -- the bytes that were written
    pub written : List ℕ
    pub put : Appends l.held l'.held written
    -- the beats that were told
    pub ticks : ℕ
    pub beats : Adds t.beats t'.beats (replicate ticks Tick ++ last_beat e)
    -- nothing was written that isn't due
    pub due : IsPrefix written (due_bytes join lines (comes is_welcome read) ticks)
    -- where it ended at a beat, what is due was written; where by QUIT, all was
    pub at_beat : IsAtBeat e → StopsAtBeat join lines (comes is_welcome read) ticks written l.counts l'.counts
    pub leaves : Leaves e join lines written
    -- the beats are no more than what was read allows
    pub paced : IsPaced (ticks + length (last_beat e)) (length read) l.counts l'.counts
    -- the sink got the text of what was read
    pub text : List ℕ
    pub wrote : Appends k.held k'.held text
    pub front : IsPrefix text (told read)
    pub whole : IsWhole e text (told read)
    -- why it ended
    pub came : Came e read
    pub link : LinkEnds e l.counts l'.counts
    pub ticker : TickerEnds e t.counts t'.counts
    pub sink : SinkEnds e k.faults k'.faults
