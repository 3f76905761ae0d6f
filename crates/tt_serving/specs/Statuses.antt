-- The statuses of a program that serves, once its core was served.
use Rattle.std.specs.Prelude.{◌≡◌, ◌⊎◌, ℕ, Bool, true, false}

-- The status of a run, by what its workers came to and whether its summary was written whole: want of memory comes first, then a
-- listener that failed, then the ticker, and a sink that failed comes last.
abbrev pub status_of : Bool → Bool → Bool → Bool → ℕ
status_of true listen_fault tick_fault whole = 6
status_of false true tick_fault whole = 8
status_of false false true whole = 9
status_of false false false true = 0
status_of false false false false = 5

-- there are no others
abbrev pub IsRunStatus : ℕ → Type 0
IsRunStatus status = (status ≡ 0) ⊎ ((status ≡ 5) ⊎ ((status ≡ 6) ⊎ ((status ≡ 8) ⊎ (status ≡ 9))))
