-- What a step of a listing tells.
use Rattle.std.specs.Prelude.{◌≡◌, ℕ, List, [], ◌∷◌, Some}
use Rattle.std.specs.List.{Contains}
use Rattle.tt_coord.specs.declared.info.Info.{Info}
use Rattle.tt_coord.specs.declared.coord.CoordMsg.TheVariants.{GcListing}
use Rattle.tt_gc_table.specs.Table.{Server}
use Rattle.tt_gc_table.specs.Deed.{Step, msg}
use Rattle.tt_gc_table.specs.PacketRules.{listed_item}

-- a public server that is registered, whose last update has the revision, with what that update told of its game
pub record ListsServer (servers : List Server) (revision : List ℕ) (step : Step) : Type 0 where
  pub server : Server
  pub info : Info
  pub registered : Contains servers server
  pub kind : server.kind ≡ 1
  pub told : server.info ≡ Some info
  pub asked : info.revision ≡ revision
  pub what : step.what ≡ msg (GcListing (listed_item server.code info ∷ []))

-- the end, which has no server
abbrev pub EndsListing : Step → Type 0
EndsListing step = step.what ≡ msg (GcListing [])
