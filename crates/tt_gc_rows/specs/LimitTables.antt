-- Tables at the limits: as many are there as may be.
use Rattle.std.specs.Prelude.{ℕ, false, true, [], ◌∷◌, codes, replicate, None}
use Rattle.tt_edge.specs.declared.event.Peer.{Peer}
use Rattle.tt_edge.specs.declared.event.Event.{Event}
use Rattle.tt_attempts.specs.declared.attempt.Stage.TheVariants.{TryingDirect}
use Rattle.tt_gc_table.specs.Table.{Table, Server, End, Meeting, first, is_live}
use Rattle.tt_gc_table.specs.Events.{stepped}
use Rattle.tt_gc_table.specs.Told.{told}
use Rattle.tt_gc_rows.specs.Words.{plain, Line}

abbrev pub peer : Peer
peer = record { host = 10 ∷ 0 ∷ 0 ∷ 1 ∷ []; port = 6001 }

-- connection 1 is there
abbrev pub with_one : Table
with_one = record (first plain) { connections = record { conn = 1; side = false; peer = peer } ∷ []; openings = 1 }

abbrev pub some_server : Server
some_server = record { conn = 0; code = codes "+AAAAAA"; kind = 0; port = 1; info = None }

-- so many servers are registered, connection 1 not among them
abbrev pub with_servers : ℕ → Table
with_servers n = record with_one { servers = replicate n some_server }

abbrev pub some_end : End
some_end = record { conn = 0; seen = peer; noted = None }

abbrev pub some_meeting : Meeting
some_meeting = record {
  token = codes "TOKEN";
  server = some_end;
  client = some_end;
  port = 1;
  state = record { ways = plain.ways; stage = TryingDirect };
}

-- and so many attempts are open
abbrev pub with_attempts : ℕ → Table
with_attempts n = record (with_servers 1) { meetings = replicate n some_meeting }

-- so many connections are live at the desk
abbrev pub with_sides : ℕ → Table
with_sides n = record (first plain) { connections = replicate n (record { conn = 1; side = true; peer = peer }); openings = 1 }

-- so many ticks have come, and connection 1 is there
abbrev pub with_ticks : ℕ → Table
with_ticks n = record with_one { ticks = n }

-- what an event makes of a connection
abbrev pub after : Table → Event → ℕ → Line
after t e conn = record { live = is_live (stepped plain t e) conn; sent = told plain t e conn }
