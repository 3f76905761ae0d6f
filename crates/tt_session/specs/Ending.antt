-- The statuses of a program that plays, by how its run ended.
use Rattle.std.specs.Prelude.{ℕ}
use Rattle.tt_session.specs.declared.end.PlayEnd.{PlayEnd}
use Rattle.tt_session.specs.declared.end.PlayEnd.TheVariants as end

-- the status of an end
abbrev pub status_of : PlayEnd → ℕ
status_of end.Quit = 0
status_of end.Shutdown = 0
status_of end.Stopped = 0
status_of end.SinkFault = 5
status_of end.Memory = 6
status_of end.TickerFault = 9
status_of end.Desync = 10
status_of end.Wrong = 11
status_of end.Ended = 12
status_of end.LinkEnd = 13
status_of end.LinkFault = 14
