-- Which end a round of reads comes to, if any.
use Rattle.std.specs.Prelude.{◌≡◌, Bool, true, false, Option, Some, None}
use Rattle.tt_rounds.specs.declared.hearing.Heard.{Heard}
use Rattle.tt_rounds.specs.declared.hearing.Heard.TheVariants as heard
use Rattle.tt_admin_run.specs.declared.ended.Ended.{Ended}
use Rattle.tt_admin_run.specs.declared.ended.Ended.TheVariants as ended

-- no packet came that ends the run, and the reads came to this
abbrev pub Goes : Bool → Bool → Heard → Heard → Type 0
Goes refused shutdown h is = (refused ≡ false) × (shutdown ≡ false) × (h ≡ is)

-- a refusal stands first, then a shutdown, and then what became of the link
abbrev pub IsEnding : Bool → Bool → Heard → Option Ended → Type 0
IsEnding refused shutdown h (Some ended.Refused) = refused ≡ true
IsEnding refused shutdown h (Some ended.Shutdown) = (refused ≡ false) × (shutdown ≡ true)
IsEnding refused shutdown h (Some ended.LinkEnd) = Goes refused shutdown h heard.End
IsEnding refused shutdown h (Some ended.LinkFault) = Goes refused shutdown h heard.Failed
IsEnding refused shutdown h (Some ended.Memory) = Goes refused shutdown h heard.Memory
IsEnding refused shutdown h None = Goes refused shutdown h heard.Going
IsEnding refused shutdown h (Some ended.Quit) = ⊥
IsEnding refused shutdown h (Some ended.SinkFault) = ⊥
IsEnding refused shutdown h (Some ended.TickFault) = ⊥
IsEnding refused shutdown h (Some ended.Stopped) = ⊥
