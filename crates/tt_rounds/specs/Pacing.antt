-- How many beats a run had, against what it read.
use Rattle.std.specs.Prelude.{ℕ, ◌+◌, ◌-◌, ◌*◌, ◌^◌, ◌≤◌, ◌⊎◌}
use Rattle.tt_edge.specs.Link.{LinkCounts}

-- Before each beat 64 bytes were read at least, or a read answered Nothing. So the beats are at most the bytes divided by 64, and
-- the rise of the count of idle reads; unless that count stands at its last value, and can't rise.
abbrev pub IsPaced : ℕ → ℕ → LinkCounts → LinkCounts → Type 0
IsPaced beats bytes c c' = (2 ^ 64 - 1 ≤ c'.idle_reads) ⊎ (64 * beats ≤ bytes + 64 * (c'.idle_reads - c.idle_reads))
