-- What the coordinator is made from, as the words say.
use Rattle.std.specs.Prelude.{List, [], true, Bool, false, Option, None, Some, ℕ}
use Rattle.tt_attempts.specs.declared.attempt.Ways.{Ways}
use Rattle.tt_gc_table.specs.declared.setup.GcSetup.{GcSetup}
use Rattle.tt_words.specs.declared.coordinator.CoordinatorWords.{CoordinatorWords}

-- the TURN server that peers are told; empty where there is none
abbrev pub host_of : Option (List ℕ) → List ℕ
host_of None = []
host_of (Some host) = host

-- whether there is one
abbrev pub has_host : Option (List ℕ) → Bool
has_host None = false
has_host (Some host) = true

-- The ways direct and STUN apply always, and TURN exactly where its server is given. The cost at which all ends is 2 ^ 30.
abbrev pub setup_of : CoordinatorWords → GcSetup
setup_of words = record {
  first = words.first;
  second = words.second;
  ways = record { direct = true; stun = true; turn = has_host words.turn };
  turn_host = host_of words.turn;
  cost = 1073741824;
}
