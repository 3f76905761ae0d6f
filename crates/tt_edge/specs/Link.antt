-- What the calls of a link do to its counts and to its bytes.
use Rattle.std.specs.Prelude.{◌≡◌, ℕ, ◌+◌, ◌-◌, ◌^◌, ◌≤◌, min, List, length, take, Option}
use Rattle.std.specs.Io.KnownBytes.{Consumes, Appends, Keeps, IsAtEnd}
use Rattle.tt_edge.specs.declared.link.LinkGot.{LinkGot}
use Rattle.tt_edge.specs.declared.link.LinkGot.TheVariants as got
use Rattle.tt_edge.specs.declared.link.LinkWrote.{LinkWrote}
use Rattle.tt_edge.specs.declared.link.LinkWrote.TheVariants as wrote
use Rattle.tt_edge.specs.Count.{Rose}

-- the counts of a link, and how many of its writes in a row, up to the last, answered Nothing
pub record LinkCounts : Type 0 where
  pub faults : ℕ
  pub ends : ℕ
  pub idle_reads : ℕ
  pub idle_writes : ℕ
  pub stalled : ℕ

-- the counts of a link that nobody has called
abbrev pub no_counts : LinkCounts
no_counts = record { faults = 0; ends = 0; idle_reads = 0; idle_writes = 0; stalled = 0 }

-- a count goes up, or stands at its last value
abbrev pub Rises : ℕ → ℕ → Type 0
Rises before after = (before ≤ after) × Rose before after

-- a read that answers no bytes raises the one count that goes with its answer
abbrev pub ReadCounts : LinkCounts → LinkCounts → LinkGot → Type 0
ReadCounts before after (got.Bytes n) = after ≡ before
ReadCounts before after got.End = Rises before.ends after.ends × (after ≡ record before { ends = after.ends })
ReadCounts before after got.Nothing = Rises before.idle_reads after.idle_reads × (after ≡ record before { idle_reads = after.idle_reads })
ReadCounts before after got.Failed = Rises before.faults after.faults × (after ≡ record before { faults = after.faults })

-- bytes are taken from the front of what is left, and stand in the buffer
abbrev pub ReadMoves : Option (List ℕ) → Option (List ℕ) → List ℕ → LinkGot → Type 0
ReadMoves left after buffer (got.Bytes n) = Consumes left after (take n buffer)
ReadMoves left after buffer got.End = Keeps left after × IsAtEnd left
ReadMoves left after buffer got.Nothing = Keeps left after
ReadMoves left after buffer got.Failed = Keeps left after

-- what was read grows by the bytes that a read gives
abbrev pub ReadAdds : Option (List ℕ) → Option (List ℕ) → List ℕ → LinkGot → Type 0
ReadAdds read after buffer (got.Bytes n) = Appends read after (take n buffer)
ReadAdds read after buffer got.End = Keeps read after
ReadAdds read after buffer got.Nothing = Keeps read after
ReadAdds read after buffer got.Failed = Keeps read after

-- so many bytes fit the buffer, and there is at least one
abbrev pub ReadFits : ℕ → LinkGot → Type 0
ReadFits room (got.Bytes n) = (1 ≤ n) × (n ≤ room)
ReadFits room got.End = Unit {0}
ReadFits room got.Nothing = Unit {0}
ReadFits room got.Failed = Unit {0}

-- a write that answers no count raises the one count that goes with its answer, and `stalled` counts those that answer Nothing
abbrev pub WriteCounts : LinkCounts → LinkCounts → LinkWrote → Type 0
WriteCounts before after (wrote.Count n) = after ≡ record before { stalled = 0 }
WriteCounts before after wrote.Nothing = Rises before.idle_writes after.idle_writes
    × (after ≡ record before { idle_writes = after.idle_writes; stalled = min (before.stalled + 1) (2 ^ 64 - 1) })
WriteCounts before after wrote.Failed = Rises before.faults after.faults × (after ≡ record before { faults = after.faults })

-- the first bytes are appended to what is held
abbrev pub WriteMoves : Option (List ℕ) → Option (List ℕ) → List ℕ → LinkWrote → Type 0
WriteMoves held after bytes (wrote.Count n) = (1 ≤ n) × (n ≤ length bytes) × Appends held after (take n bytes)
WriteMoves held after bytes wrote.Nothing = Keeps held after
WriteMoves held after bytes wrote.Failed = Keeps held after

-- a read that takes bytes takes just so many
abbrev pub GetsMost : ℕ → LinkGot → Type 0
GetsMost most (got.Bytes n) = n ≡ most
GetsMost most got.End = Unit {0}
GetsMost most got.Nothing = Unit {0}
GetsMost most got.Failed = Unit {0}

-- a write that appends bytes appends just so many
abbrev pub PutsMost : ℕ → LinkWrote → Type 0
PutsMost most (wrote.Count n) = n ≡ most
PutsMost most wrote.Nothing = Unit {0}
PutsMost most wrote.Failed = Unit {0}
