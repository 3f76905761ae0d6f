-- What a link in memory has to show.
use Rattle.std.specs.Prelude.{◌≡◌, ℕ, ◌-◌, List, [], length, drop, take}
use Rattle.tt_edge.specs.Agenda.{Calls}
use Rattle.tt_edge.specs.Link.{LinkCounts, no_counts}
use Rattle.tt_edge.specs.declared.mem_link.MemLink.{MemLink}

-- its counts
abbrev pub counts_of : MemLink → LinkCounts
counts_of link = record {
  faults = link.faults;
  ends = link.ends;
  idle_reads = link.idle_reads;
  idle_writes = link.idle_writes;
  stalled = link.stalled;
}

-- the bytes that were not read yet
abbrev pub left_of : MemLink → List ℕ
left_of link = drop link.taken link.bytes.items

-- the bytes that were read
abbrev pub read_of : MemLink → List ℕ
read_of link = take link.taken link.bytes.items

-- the bytes that it was written
abbrev pub held_of : MemLink → List ℕ
held_of link = take link.filled link.buffer.items

-- how many more bytes there is room for
abbrev pub free_of : MemLink → ℕ
free_of link = length link.buffer.items - link.filled

-- what its reads and its writes are to do
abbrev pub reads_of : MemLink → Calls
reads_of link = link.reads

abbrev pub writes_of : MemLink → Calls
writes_of link = link.writes

-- how many bytes one call moves at most
abbrev pub most_of : MemLink → ℕ
most_of link = link.most

-- a link that nobody has called
pub record IsFreshLink (link : MemLink) : Type 0 where
  pub counts : counts_of link ≡ no_counts
  pub read : read_of link ≡ []
  pub held : held_of link ≡ []
