-- Names: a name that another member has gets a number behind it.
use Rattle.std.specs.Prelude.{ℕ, zero, suc, ◌+◌, Bool, true, false, not, ◌&&◌, nat_le, List, ◌++◌, length, codes, decimal, bytes_eq}
use Rattle.std.specs.List.{list_any}
use Rattle.tt_log.specs.Member.{is_named}
use Rattle.tt_log.specs.Table.{Table, is_on}

-- whether another member past INACTIVE has the name
abbrev pub is_taken : Table → ℕ → List ℕ → Bool
is_taken t conn name = list_any (λ m. is_named m && not (is_on conn m) && bytes_eq m.name name) t.members

abbrev pub numbered : List ℕ → ℕ → List ℕ
numbered name i = name ++ codes " #" ++ decimal i

-- the first free one of `name #i`, `name #i+1` and so on; among one more than there are members one is free
abbrev pub first_free_name : Table → ℕ → List ℕ → ℕ → ℕ → List ℕ
first_free_name t conn name i zero = numbered name i
first_free_name t conn name i (suc n) = elim (is_taken t conn (numbered name i)) [
  | true ↦ first_free_name t conn name
      (i + 1) n
  | false ↦ numbered name i
]

-- the name that a member on this connection gets where it wants one
abbrev pub given_name : Table → ℕ → List ℕ → List ℕ
given_name t conn wanted = elim (is_taken t conn wanted) [ true ↦ first_free_name t conn wanted 1 (length t.members) | false ↦ wanted ]

-- a name has at most 24 bytes
abbrev pub is_too_long : List ℕ → Bool
is_too_long name = not (nat_le (length name) 24)
