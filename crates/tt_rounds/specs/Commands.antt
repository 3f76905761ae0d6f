-- A file of commands.
use Rattle.std.specs.Prelude.{◌≡◌, ◌⊎◌, ℕ, Result, Ok, Err}

-- the most bytes of it: 1 MiB
abbrev pub commands_limit : ℕ
commands_limit = 1048576

-- it was read; or else the status is one of three
abbrev pub IsReading : {A : Type 0} → Result A ℕ → Type 0
IsReading (Ok bytes) = Unit {0}
IsReading (Err status) = (status ≡ 4) ⊎ ((status ≡ 6) ⊎ (status ≡ 7))
