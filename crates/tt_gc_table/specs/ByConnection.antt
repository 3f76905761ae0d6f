-- Which attempts each connection is an end of, as the code keeps it: their numbers, in order.
use Rattle.std.specs.Prelude.{◌≡◌, ℕ, true, List, [], ◌∷◌, ◌++◌, Option, Some, None, filter}
use Rattle.std.specs.Ordering.{nat_cmp, eq_by_cmp}
use Rattle.std.specs.BTreeSet.{BTreeSet}
use Rattle.std.specs.Map.{lookup, keys_of}
use Rattle.std.specs.Set.{remove_key}
use Rattle.tt_gc_table.specs.Table.{Meeting}
use Rattle.tt_gc_table.specs.Parts.{is_of}

-- the numbers in a set, if there is one
abbrev pub numbers_in : Option (BTreeSet ℕ) → List ℕ
numbers_in None = []
numbers_in (Some s) = s.keys

-- the numbers that are kept for a connection
abbrev pub numbers_at : List (ℕ × BTreeSet ℕ) → ℕ → List ℕ
numbers_at sets conn = numbers_in (lookup (eq_by_cmp nat_cmp conn) sets)

-- they are no longer those of one attempt
abbrev pub without_number : ℕ → List ℕ → List ℕ
without_number n ns = remove_key (eq_by_cmp nat_cmp n) ns

-- the numbers of the attempts that have this connection at an end
abbrev pub numbers_of : ℕ → List (ℕ × Meeting) → List ℕ
numbers_of conn es = keys_of (filter (λ (e : ℕ × Meeting). is_of conn e.1) es)

-- what is kept for each connection is just that
abbrev pub IsIndexed : List (ℕ × Meeting) → List (ℕ × BTreeSet ℕ) → Type 0
IsIndexed es sets = (conn : ℕ) → numbers_at sets conn ≡ numbers_of conn es

-- the open attempt with this number has this connection at an end
pub record IsEnd (conn number : ℕ) (es : List (ℕ × Meeting)) : Type 0 where
  pub meeting : Meeting
  pub found : lookup (eq_by_cmp nat_cmp number) es ≡ Some meeting
  pub of : is_of conn meeting ≡ true

-- the open attempt with this number, if there is one
abbrev pub at_most_one : Option Meeting → List Meeting
at_most_one None = []
at_most_one (Some m) = m ∷ []

abbrev pub numbered : ℕ → List (ℕ × Meeting) → List Meeting
numbered n es = at_most_one (lookup (eq_by_cmp nat_cmp n) es)

-- those with these numbers, in their order
abbrev pub all_numbered : List ℕ → List (ℕ × Meeting) → List Meeting
all_numbered [] es = []
all_numbered (n ∷ ns) es = numbered n es ++ all_numbered ns es
