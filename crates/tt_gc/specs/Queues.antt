-- What connections were told and have not taken.
use Rattle.std.specs.Prelude.{◌≡◌, ℕ, zero, suc, ◌+◌, ◌-◌, ◌≤◌, List, [], ◌++◌, length, drop, slice_index_or}

-- how many bytes were taken, those that wait behind them, and for how many more room is taken
pub record Queue : Type 0 where
  pub taken : ℕ
  pub left : List ℕ
  pub spare : ℕ

-- nothing was told
abbrev pub none : Queue
none = record { taken = 0; left = []; spare = 0 }

-- the queue of the connection with this number
abbrev pub queue_of : List Queue → ℕ → Queue
queue_of qs zero = none
queue_of qs (suc k) = slice_index_or qs k none

-- there is room for so many bytes more
abbrev pub roomier : ℕ → Queue → Queue
roomier n q = record q { spare = q.spare + n }

-- these bytes wait too
abbrev pub longer : List ℕ → Queue → Queue
longer bytes q = record q { left = q.left ++ bytes; spare = q.spare - length bytes }

-- the same but for the room
pub record IsAsFull (old new : Queue) : Type 0 where
  pub taken : new.taken ≡ old.taken
  pub left : new.left ≡ old.left

-- these bytes wait too, and nothing more was taken
pub record IsTold (bytes : List ℕ) (old new : Queue) : Type 0 where
  pub taken : new.taken ≡ old.taken
  pub left : new.left ≡ old.left ++ bytes

-- what waits is what was told and not taken
pub record IsOf (sent : List ℕ) (q : Queue) : Type 0 where
  pub left : q.left ≡ drop q.taken sent
  pub within : q.taken ≤ length sent
