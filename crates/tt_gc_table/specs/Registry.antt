-- The registered servers and the drawn codes, as the code keeps them.
use Rattle.std.specs.Prelude.{◌≡◌, ℕ, List, map}
use Rattle.std.specs.List.{AllByRecursion}
use Rattle.tt_attempts.specs.Codes.{IsCode}
use Rattle.tt_gc_table.specs.declared.registry.Served.{Served}
use Rattle.tt_gc_table.specs.Table.{Server, Drawn}

-- an entry, as the table has it
abbrev pub server_at : List ℕ × Served → Server
server_at e = record { conn = e.1.conn; code = e.0; kind = e.1.kind; port = e.1.port; info = e.1.info }

abbrev pub drawn_at : List ℕ × List ℕ → Drawn
drawn_at e = record { code = e.0; secret = e.1 }

-- what is registered and drawn, and room for how many more of both is taken
pub record RegistryState : Type 0 where
  pub servers : List (List ℕ × Served)
  pub drawn : List (List ℕ × List ℕ)
  pub room : ℕ

abbrev pub servers_of : RegistryState → List Server
servers_of r = map server_at r.servers

abbrev pub drawn_of : RegistryState → List Drawn
drawn_of r = map drawn_at r.drawn

-- the same but for its room
pub record IsSame (old new : RegistryState) : Type 0 where
  pub servers : new.servers ≡ old.servers
  pub drawn : new.drawn ≡ old.drawn

-- what is kept by code is kept by codes
abbrev pub AreCodes : {V : Type 0} → List (List ℕ × V) → Type 0
AreCodes {V = V} es = AllByRecursion (λ (e : List ℕ × V). IsCode e.0) es
