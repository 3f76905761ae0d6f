-- Which end what was said comes to, if any.
use Rattle.std.specs.Prelude.{◌≡◌, ◌⊎◌, Bool, true, false, Option, Some, None}
use Rattle.tt_rounds.specs.declared.outbox.Said.{Said}
use Rattle.tt_rounds.specs.declared.outbox.Said.TheVariants as said
use Rattle.tt_admin_run.specs.declared.ended.Ended.{Ended}
use Rattle.tt_admin_run.specs.declared.ended.Ended.TheVariants as ended

-- a fault of the link ends the run, and the last packet does once it is written
abbrev pub IsSpoken : Said → Bool → Option Ended → Type 0
IsSpoken s last None = ((s ≡ said.All) × (last ≡ false)) ⊎ (s ≡ said.Held)
IsSpoken s last (Some ended.LinkFault) = s ≡ said.Failed
IsSpoken s last (Some ended.Quit) = (s ≡ said.All) × (last ≡ true)
IsSpoken s last (Some other) = ⊥
