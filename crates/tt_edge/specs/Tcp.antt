-- What a link over a socket has to show: its counts alone.
use Rattle.tt_edge.specs.Link.{LinkCounts}
use Rattle.tt_edge.specs.declared.tcp.TcpLink.{TcpLink}

-- its counts
abbrev pub tcp_counts_of : {R : Type 0} → TcpLink R → LinkCounts
tcp_counts_of link = record {
  faults = link.faults;
  ends = link.ends;
  idle_reads = link.idle_reads;
  idle_writes = link.idle_writes;
  stalled = link.stalled;
}
