-- What one worker did, told over the whole history of the core: its part of the events, and its links or its ticker.
use Rattle.std.specs.Prelude.{◌≡◌, ℕ, ◌+◌, ◌≤◌, ◌<◌, ◌⊎◌, Bool, true, false, List, [], ◌∷◌, ◌++◌, length, map, take, replicate, Option}
use Rattle.std.specs.Io.KnownBytes.{Appends}
use Rattle.std.specs.List.{AllByRecursion}
use mathlib.Core.List.{IsPrefix}
use Rattle.tt_frame.specs.Packet.{Packet}
use Rattle.tt_frame.specs.Stream.{End, Reads}
use Rattle.tt_edge.specs.declared.event.Event.{Event}
use Rattle.tt_edge.specs.declared.event.Event.TheVariants as event
use Rattle.tt_edge.specs.declared.event.Door.{Door}
use Rattle.tt_edge.specs.declared.event.Peer.{Peer}
use Rattle.tt_edge.specs.declared.listener.Served.{Served}
use Rattle.tt_edge.specs.declared.listener.LinkEnd.{LinkEnd}
use Rattle.tt_edge.specs.declared.listener.LinkEnd.TheVariants as end
use Rattle.tt_edge.specs.declared.ticker.Beat.{Beat}
use Rattle.tt_edge.specs.declared.ticker.Beat.TheVariants as beat
use Rattle.tt_edge.specs.Event.{opens}
use Rattle.tt_edge.specs.Told.{Adds}
use Rattle.tt_edge.specs.Link.{LinkCounts, Rises}
use Rattle.tt_edge.specs.Listener.{DoorCounts, TickCounts, told_by}
use Rattle.tt_workers.specs.Telling.{LinkNow, capped}
use Rattle.tt_workers.specs.Hearing.{AreOn, events_of, stream_events}
use Rattle.tt_workers.specs.Serving.{HasCause}
use Rattle.tt_workers.specs.Ticking.{TicksEndSo}
use Rattle.tt_workers.specs.Attending.{Row, IsFreshLink, AttendsEndSo}
use Rattle.tt_workers.specs.declared.ticks.TickEnd.{TickEnd}
use Rattle.tt_workers.specs.declared.attending.WorkerEnd.{WorkerEnd}

-- What an end says of the bytes written, `out`: `told` is what the connection is told over a list of events, and `own` are its
-- events but a Shut, each with its place.
abbrev pub EndsIn : (List Event → List ℕ) → Bool → List Event → List (ℕ × Event) → LinkCounts → LinkCounts → List ℕ → LinkEnd → Type 0
-- the core ended it, and all was written that it is told
EndsIn told live history own c c' out end.Done = (live ≡ false) × (out ≡ told history)
-- the link told its end; unless a write answered Nothing, all was written that it was told up to each of its events
EndsIn told live history own c c' out end.PeerEnd = Rises c.ends c'.ends
    × (Rises c.idle_writes c'.idle_writes ⊎ AllByRecursion (λ x. IsPrefix (told (take (x.0 + 1) history)) out) own)
-- the link failed
EndsIn told live history own c c' out end.LinkFault = Rises c.faults c'.faults
-- only a refused opening ends so
EndsIn told live history own c c' out end.Over = ⊥
-- memory ran out, of which nothing more is known
EndsIn told live history own c c' out end.Memory = Unit {0}
-- 2,400 writes in a row answered Nothing, and not all was written that it is told
EndsIn told live history own c c' out end.Slow = (2400 ≤ c'.stalled) × (more : List ℕ) × (0 < length more) × (out ++ more ≡ told history)

module _ {L : Type 0} (now : L → LinkNow) (told : List Event → ℕ → List ℕ) (live : List Event → ℕ → Bool) (over : List Event → Bool)
    (history : List Event) (door : Door) where
  -- a link whose connection was opened: `own` are the events of that connection, each with its place in the history
  pub record IsOpened (row : Row L) (own : List (ℕ × Event)) : Type 0 where
    -- first its opening, by this door and from the link's peer; then packets, and a Shut perhaps
    pub place : ℕ
    pub heard : List (ℕ × Event)
    pub shut : List (ℕ × Event)
    pub events : own ≡ ((place, event.Open door row.peer) ∷ heard) ++ shut
    -- its number is the one that the history answers at that place, so it is 1 or more
    pub number : row.served.conn ≡ opens (take place history) + 1
    -- each event behind the opening names this connection
    pub named : AreOn row.served.conn heard
    -- the bytes that were read from the link: what was handed over are the first of their packets, and the bad size behind them
    pub bytes : List ℕ
    pub read : Appends (now row.came).read (now row.gone).read bytes
    pub read_is : row.served.read ≡ capped (length bytes)
    pub in_order : (packets : List Packet) (e : End) → Reads 32767 bytes packets e → IsPrefix (events_of heard)
        (stream_events row.served.conn packets e)
    -- and all of them, unless the core had ended the connection, or its end is Memory
    pub whole : (packets : List Packet) (e : End) → Reads 32767 bytes packets e
        → (events_of heard ≡ stream_events row.served.conn packets e) ⊎ (((shut ≡ []) × (live history row.served.conn ≡ false))
        ⊎ (row.served.end ≡ end.Memory))
    -- A Shut stands there only where the link told its end, failed, took nothing for too long, or memory ran out; and it is
    -- missing only at Done, where the core had ended the connection, or where memory ran out.
    pub shut_is : ((shut ≡ []) × ((row.served.end ≡ end.Done) ⊎ ((live history row.served.conn ≡ false) ⊎ (row.served.end ≡ end.Memory))))
        ⊎ ((at : ℕ) × (shut ≡ (at, event.Shut row.served.conn) ∷ []) × HasCause (now row.came).counts (now row.gone).counts row.served.end)
    -- the bytes that were written to it are the first of what its connection is told
    pub out : List ℕ
    pub held : Appends (now row.came).held (now row.gone).held out
    pub written_is : row.served.written ≡ capped (length out)
    pub first : IsPrefix out (told history row.served.conn)
    pub ended : EndsIn (λ events. told events row.served.conn) (live history row.served.conn) history ((place, event.Open door row.peer)
        ∷ heard)
        (now row.came).counts (now row.gone).counts out row.served.end

  -- a link whose opening was refused: it has no event and no number, and nothing was read from it or written to it
  pub record IsRefused (row : Row L) (own : List (ℕ × Event)) : Type 0 where
    pub events : own ≡ []
    pub number : row.served.conn ≡ 0
    pub moved : (row.served.read ≡ 0) × (row.served.written ≡ 0)
    pub untouched : now row.gone ≡ now row.came
    pub ended : ((row.served.end ≡ end.Over) × (over history ≡ true)) ⊎ (row.served.end ≡ end.Memory)

  -- a part is the events of the links, one link behind the other; each link came fresh
  abbrev pub AreLinks : List (Row L) → List (ℕ × Event) → Type 0
  AreLinks [] part = part ≡ []
  AreLinks (row ∷ rows) part = (own : List (ℕ × Event)) × (rest : List (ℕ × Event)) × (part ≡ own ++ rest) × IsFreshLink (now row.came)
      × (IsOpened row own ⊎ IsRefused row own) × AreLinks rows rest

  -- The part of a connection worker. The links are those that its listener gave in this run, with their peers, and each came
  -- back with its end.
  pub record GathersLinks (c c' : DoorCounts) (served served' : Option (List (Served × L))) (peers peers' : Option (List Peer))
      (part : List (ℕ × Event)) (e : WorkerEnd) : Type 0 where
    pub rows : List (Row L)
    pub links : AreLinks rows part
    pub given : Adds peers peers' (map (λ (row : Row L). row.peer) rows)
    pub given_back : Adds served served' (map (λ (row : Row L). (row.served, row.gone)) rows)
    pub ended : AttendsEndSo rows (over history) c c' e

-- The part of the ticker's worker: as many Ticks as the ticker told, but for the one with which it ended, perhaps; then a Stop
-- perhaps. What the last beat was, and whether a Stop was handed over, is said by its end.
pub record GathersTicks (over : Bool) (c c' : TickCounts) (beats beats' : Option (List Beat)) (part : List (ℕ × Event)) (e : TickEnd) :
    Type 0 where
  pub count : ℕ
  pub last : Beat
  pub stop : List Event
  pub told : Adds beats beats' (replicate count beat.Tick ++ told_by last)
  pub events : events_of part ≡ replicate count event.Tick ++ stop
  pub ended : TicksEndSo over c c' last stop e
