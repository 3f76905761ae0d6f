-- How a connection ends, and what goes with it.
use Rattle.std.specs.Prelude.{ℕ, not, List, [], ◌∷◌, filter}
use Rattle.tt_coord.specs.declared.coord.CoordMsg.TheVariants.{GcError}
use Rattle.tt_attempts.specs.declared.attempt.Heard.TheVariants.{Connected, ServerGone}
use Rattle.tt_gc_table.specs.declared.setup.GcSetup.{GcSetup}
use Rattle.tt_gc_table.specs.Table.{Table, is_on, without_server, served_by, asked_by}
use Rattle.tt_gc_table.specs.Deed.{Deed, end, ◌▹◌, each, becomes, tells}
use Rattle.tt_gc_table.specs.Meetings.{is_heard}

-- the connection is there no longer
abbrev pub goes : ℕ → Table → Deed
goes conn t = record {
  table = record t { connections = filter (λ c. not (is_on conn c)) t.connections };
  told = record {
    to = conn ∷ [];
    what = end;
  } ∷ [];
}

-- what it asked for as a client ends untold
abbrev pub client_gone : GcSetup → ℕ → Table → Deed
client_gone s conn t = each (asked_by t conn) (is_heard s Connected) t

-- the clients that were to be brought to it as a server are told so, in the order of the attempts
abbrev pub server_gone : GcSetup → ℕ → Table → Deed
server_gone s conn t = each (served_by t conn) (is_heard s ServerGone) t

-- it ends untold
abbrev pub leaves : GcSetup → ℕ → Table → Deed
leaves s conn t = goes conn t ▹ client_gone s conn ▹ (λ t. becomes (without_server conn t)) ▹ server_gone s conn

-- it is told a code and a detail, and ends
abbrev pub ends : GcSetup → ℕ → ℕ → List ℕ → Table → Deed
ends s conn code detail t = tells (conn ∷ []) (GcError code detail) t ▹ leaves s conn
