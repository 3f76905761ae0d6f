-- What tells the servers of a listing, one after another; and nothing is changed by it.
use Rattle.std.proofs.Common.{◌≡◌, ℕ, Bool, true, false, cond, List, [], ◌∷◌, ◌++◌, Option, Some, None, refl, sym, ap, ap₂, ◌∙◌}
use Rattle.std.proofs.lemmas.List.{append-nil}
use Rattle.tt_coord.specs.declared.info.Info.{Info}
use Rattle.tt_coord.specs.declared.coord.CoordMsg.TheVariants.{GcListing}
use Rattle.tt_gc_table.specs.Table.{Table, Server}
use Rattle.tt_gc_table.specs.Deed.{Step, each, given, tells}
use Rattle.tt_gc_table.specs.Told.{bytes_to}
use Rattle.tt_gc_table.specs.PacketRules.{tells_server, listed_item}
use Rattle.tt_gc_table.proofs.TellsLaws.{bytes_joined}

server_table : (conn : ℕ) (v : Server) (t : Table) → (tells_server conn v t).table ≡ t
server_table conn v t = by v.info
  where
    by : (o : Option Info) → (given o (λ info. tells (conn ∷ []) (GcListing (listed_item v.code info ∷ []))) t).table ≡ t
    by None = refl
    by (Some info) = refl

pub all_table : (conn : ℕ) (vs : List Server) (t : Table) → (each vs (tells_server conn) t).table ≡ t
all_table conn [] t = refl
all_table conn (v ∷ vs) t =
    ap (λ (u : Table). (each vs (tells_server conn) u).table) (server_table conn v t) ∙ all_table conn vs t

pub listed_more : (x conn : ℕ) (b : Bool) (v : Server) (vs : List Server) (t : Table)
    → bytes_to x (each (cond b (v ∷ vs) vs) (tells_server conn) t).told
    ≡ bytes_to x (each (cond b (v ∷ []) []) (tells_server conn) t).told ++ bytes_to x (each vs (tells_server conn) t).told
listed_more x conn true v vs t =
    let one : List Step = (tells_server conn v t).told in
    bytes_joined x one (each vs (tells_server conn) (tells_server conn v t).table).told
    ∙ ap₂ (λ (a b : List ℕ). a ++ b) (ap (bytes_to x) (sym (append-nil one)))
    (ap (λ (u : Table). bytes_to x (each vs (tells_server conn) u).told) (server_table conn v t))
listed_more x conn false v vs t = refl
