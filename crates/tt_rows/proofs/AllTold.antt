-- What all connections of a game are told, as one equation of lists.
use Rattle.std.specs.Prelude.{◌≡◌, ℕ, ◌+◌, Bool, List, [], ◌∷◌}
use Rattle.tt_log.specs.Table.{is_live}
use Rattle.tt_log.specs.History.{table_of}
use Rattle.tt_log.specs.Told.{sent}
use Rattle.tt_rows.specs.Games.{Game, Conns}

-- of as many connections as a list has, from one on: the bytes that each was sent, and whether it is live
abbrev pub told_from : Game → ℕ → List (List ℕ × Bool) → List (List ℕ × Bool)
told_from g conn [] = []
told_from g conn (c ∷ conns) = (sent g.origin g.events conn, is_live (table_of g.origin g.events) conn) ∷ told_from g (conn + 1) conns

pub all_told : (g : Game) (conn : ℕ) (conns : List (List ℕ × Bool)) → told_from g conn conns ≡ conns → Conns g conn conns
all_told g conn [] h = tt
all_told g conn (c ∷ conns) h = (cc h, cc h, all_told g (conn + 1) conns (cc h))
