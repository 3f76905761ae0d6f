-- What a ticker in memory has to show.
use Rattle.std.specs.Prelude.{ℕ, zero, suc, nat_eq, Bool, if◌then◌else◌, List, [], ◌++◌}
use Rattle.std.specs.List.{list_any}
use Rattle.tt_edge.specs.Listener.{TickCounts, told_by}
use Rattle.tt_edge.specs.declared.ticker.Beat.{Beat}
use Rattle.tt_edge.specs.declared.ticker.Beat.TheVariants.{Tick, Stop, Failed}
use Rattle.tt_edge.specs.declared.mem_ticker.MemTicker.{MemTicker}

-- the numbers of the calls that fail and of those that tell Stop, counted from 0, and how many calls are answered
pub record BeatPlan : Type 0 where
  pub failing : List ℕ
  pub stopping : List ℕ
  pub most : ℕ

-- whether the call with this number stands in a list
abbrev pub is_in : List ℕ → ℕ → Bool
is_in numbers call = list_any (λ n. nat_eq n call) numbers

-- what the call with this number answers
abbrev pub beat_of : BeatPlan → ℕ → Beat
beat_of plan call = if is_in plan.failing call then Failed else (if is_in plan.stopping call then Stop else Tick)

-- what so many calls told
abbrev pub told_in : BeatPlan → ℕ → List Beat
told_in plan zero = []
told_in plan (suc calls) = told_in plan calls ++ told_by (beat_of plan calls)

-- its counts
abbrev pub counts_of : MemTicker → TickCounts
counts_of ticker = record { faults = ticker.faults; stops = ticker.stops }

-- how many calls were answered
abbrev pub made_of : MemTicker → ℕ
made_of ticker = ticker.made

-- what its calls are to tell
abbrev pub plan_of : MemTicker → BeatPlan
plan_of ticker = record { failing = ticker.failing.items; stopping = ticker.stopping.items; most = ticker.most }

-- what it told
abbrev pub told_of : MemTicker → List Beat
told_of ticker = told_in (plan_of ticker) ticker.made
