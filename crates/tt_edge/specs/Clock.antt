-- What a ticker over a clock has to show: its counts alone.
use Rattle.tt_edge.specs.Listener.{TickCounts}
use Rattle.tt_edge.specs.declared.clock.ClockTicker.{ClockTicker}

-- its counts
abbrev pub clock_counts_of : {R : Type 0} → ClockTicker R → TickCounts
clock_counts_of ticker = record { faults = ticker.faults; stops = ticker.stops }
