-- The parts of a round.
use Rattle.std.specs.Prelude.{◌≡◌, ℕ, ◌+◌, ◌≤◌, ◌<◌, ◌⊎◌, Bool, true, false, List, [], ◌∷◌, ◌++◌, length, take, Option, Some, None}
use Rattle.std.specs.Io.KnownBytes.{Appends, Keeps}
use mathlib.Core.List.{IsPrefix}
use Rattle.tt_frame.specs.Packet.{IsBytes}
use Rattle.tt_edge.specs.Link.{LinkCounts, Rises}
use Rattle.tt_edge.specs.Listener.{TickCounts}
use Rattle.tt_edge.specs.Told.{Adds}
use Rattle.tt_edge.specs.declared.ticker.Beat.{Beat}
use Rattle.tt_edge.specs.declared.ticker.Beat.TheVariants.{Tick, Stop}
use Rattle.tt_rounds.specs.Links.{LinkNow}
use Rattle.tt_rounds.specs.Hearing.{HeardCounts}
use Rattle.tt_rounds.specs.Saying.{SaidCounts}
use Rattle.tt_rounds.specs.declared.hearing.Heard.{Heard}
use Rattle.tt_rounds.specs.declared.hearing.Heard.TheVariants as heard
use Rattle.tt_rounds.specs.declared.outbox.Said.TheVariants as said
use Rattle.tt_admin_run.specs.declared.hearing.Notes.{Notes}
use Rattle.tt_admin_run.specs.declared.ended.Ended.{Ended}
use Rattle.tt_admin_run.specs.declared.ended.Ended.TheVariants as ended
use Rattle.tt_admin_run.specs.Hearing.{Passes, IsSettled}

-- ---- the sink and the ticker

-- what is known of a sink: its count of faults, and the bytes that it may tell
pub record SinkNow : Type 0 where
  pub faults : ℕ
  pub held : Option (List ℕ)

abbrev pub sink_now : {K : Type 0} → (K → ℕ) → (K → Option (List ℕ)) → K → SinkNow
sink_now faults held sink = record { faults = faults sink; held = held sink }

-- what is known of a ticker: its counts, and the beats that it may tell
pub record TickerNow : Type 0 where
  pub counts : TickCounts
  pub beats : Option (List Beat)

abbrev pub ticker_now : {T : Type 0} → (T → TickCounts) → (T → Option (List Beat)) → T → TickerNow
ticker_now counts beats ticker = record { counts = counts ticker; beats = beats ticker }

-- ---- listening

-- all bytes were passed, and nothing that is whole is left
abbrev pub HearsAll : Notes → Notes → List ℕ → List ℕ → List ℕ → Type 0
HearsAll n n' bytes rest text = Passes n n' bytes rest text × IsSettled n' rest

-- no packet came that ends the run
abbrev pub GoesOn : Notes → Type 0
GoesOn n = (n.refused ≡ false) × (n.shutdown ≡ false)

-- What was told of the bytes, and why the run ends with this round, if it does. A refusal stands before a shutdown, and both
-- before what became of the link.
abbrev pub ListensTo : Option Ended → List ℕ → List ℕ → Notes → Notes → List ℕ → Type 0
ListensTo None bytes rest n n' text = HearsAll n n' bytes rest text × GoesOn n'
ListensTo (Some ended.LinkEnd) bytes rest n n' text = HearsAll n n' bytes rest text × GoesOn n'
ListensTo (Some ended.LinkFault) bytes rest n n' text = HearsAll n n' bytes rest text × GoesOn n'
ListensTo (Some ended.Refused) bytes rest n n' text = HearsAll n n' bytes rest text × (n'.refused ≡ true)
ListensTo (Some ended.Shutdown) bytes rest n n' text = HearsAll n n' bytes rest text × (n'.refused ≡ false) × (n'.shutdown ≡ true)
ListensTo (Some ended.SinkFault) bytes rest n n' text = (whole : List ℕ) × HearsAll n n' bytes rest whole × IsPrefix text whole
ListensTo (Some ended.Memory) bytes rest n n' text = text ≡ []
ListensTo (Some ended.Quit) bytes rest n n' text = ⊥
ListensTo (Some ended.TickFault) bytes rest n n' text = ⊥
ListensTo (Some ended.Stopped) bytes rest n n' text = ⊥

-- what it does to the counts of a link, where so many bytes were heard
abbrev pub ListenCounts : Option Ended → LinkCounts → LinkCounts → ℕ → Type 0
ListenCounts None c c' bytes = HeardCounts c c' bytes heard.Going
ListenCounts (Some ended.LinkEnd) c c' bytes = HeardCounts c c' bytes heard.End
ListenCounts (Some ended.LinkFault) c c' bytes = HeardCounts c c' bytes heard.Failed
ListenCounts other c c' bytes = (h : Heard) × HeardCounts c c' bytes h

-- what it does to the count of a sink
abbrev pub ListenSink : Option Ended → ℕ → ℕ → Type 0
ListenSink (Some ended.SinkFault) k k' = Rises k k'
ListenSink other k k' = k' ≡ k

-- what was read is heard, unless memory ran out
abbrev pub NoneLost : Option Ended → List ℕ → Type 0
NoneLost (Some ended.Memory) lost = Unit {0}
NoneLost other lost = lost ≡ []

-- the half of a round that hears: `b` came before and was not whole, `b'` is what is not whole behind it
pub record Listens (b b' : List ℕ) (n n' : Notes) (l l' : LinkNow) (k k' : SinkNow) (r : Option Ended) : Type 0 where
  pub bytes : List ℕ
  pub each : IsBytes bytes
  pub lost : List ℕ
  pub none_lost : NoneLost r lost
  pub read : Appends l.read l'.read (bytes ++ lost)
  pub kept : Keeps l.held l'.held
  pub text : List ℕ
  pub told : Appends k.held k'.held text
  pub heard : ListensTo r (b ++ bytes) b' n n' text
  pub link : ListenCounts r l.counts l'.counts (length bytes)
  pub sink : ListenSink r k.faults k'.faults

-- ---- speaking

-- why the run ends behind what was said, if it does: the link failed, or all was written and its last packet is QUIT
abbrev pub SpeaksTo : Option Ended → Bool → ℕ → ℕ → ℕ → List ℕ → LinkCounts → LinkCounts → Type 0
SpeaksTo (Some ended.LinkFault) quits most due given w c c' = SaidCounts c c' said.Failed
SpeaksTo (Some ended.Quit) quits most due given w c c' =
    SaidCounts c c' said.All × (w ≡ []) × (given ≡ most) × (quits ≡ true)
SpeaksTo None quits most due given w c c' =
    (SaidCounts c c' said.All × (w ≡ []) × (given ≡ due) × (quits ≡ true → due < most)) ⊎ (SaidCounts c c' said.Held × (0 < length w))
SpeaksTo other quits most due given w c c' = ⊥

-- The half of a round that says: of all bytes those up to `due` are due. Up to `given` they were written, or wait (`w`).
pub record Speaks (all : List ℕ) (quits : Bool) (due given given' : ℕ) (w w' : List ℕ) (l l' : LinkNow) (r : Option Ended) : Type 0 where
  pub out : List ℕ
  pub written : Appends l.held l'.held out
  pub kept : Keeps l.read l'.read
  pub within : given' ≤ due
  pub balance : (before : List ℕ) → before ++ w ≡ take given all → (before ++ out) ++ w' ≡ take given' all
  pub ends : SpeaksTo r quits (length all) due given' w' l.counts l'.counts

-- ---- beats

-- a beat: one tick more was told, or the run ends with it
abbrev pub Beats : Option Ended → ℕ → ℕ → TickerNow → TickerNow → Type 0
Beats None ticks ticks' t t' = (ticks' ≡ ticks + 1) × Adds t.beats t'.beats (Tick ∷ []) × (t'.counts ≡ t.counts)
Beats (Some ended.Stopped) ticks ticks' t t' =
    Adds t.beats t'.beats (Stop ∷ []) × Rises t.counts.stops t'.counts.stops × (t'.counts.faults ≡ t.counts.faults)
Beats (Some ended.TickFault) ticks ticks' t t' = Adds t.beats t'.beats [] × Rises t.counts.faults t'.counts.faults
Beats (Some ended.Memory) ticks ticks' t t' = Adds t.beats t'.beats (Tick ∷ []) × (t'.counts ≡ t.counts)
Beats other ticks ticks' t t' = ⊥
