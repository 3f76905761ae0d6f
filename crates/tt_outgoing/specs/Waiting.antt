-- What waits for connections: for each a list of bytes that it was told and has not taken.
use Rattle.std.specs.Prelude.{ℕ, Bool, true, false, ◌==◌, ◌-◌, List, [], length, flat_map, slice_index_or}

-- the list of each connection, by their numbers from 1 on, and how many bytes and parts may be told without memory
pub record Waiting : Type 0 where
  pub lists : List (List ℕ)
  pub bytes : ℕ
  pub parts : ℕ

-- how many connections are opened
abbrev pub opened : Waiting → ℕ
opened o = length o.lists

-- what waits for one of them
abbrev pub list_of : Waiting → ℕ → List ℕ
list_of o c = slice_index_or o.lists (c - 1) []

abbrev pub bytes_if : Bool → List ℕ → List ℕ
bytes_if true bytes = bytes
bytes_if false bytes = []

-- what a connection is told where bytes are told to these: once for each time that it is among them
abbrev pub told : List ℕ → ℕ → List ℕ → List ℕ
told conns c bytes = flat_map (λ d. bytes_if (d == c) bytes) conns
