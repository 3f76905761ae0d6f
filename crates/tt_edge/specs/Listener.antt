-- What the calls of a listener and of a ticker do.
use Rattle.std.specs.Prelude.{◌≡◌, ℕ, ◌+◌, List, [], ◌∷◌, Option, Some, None}
use Rattle.tt_edge.specs.declared.event.Peer.{Peer}
use Rattle.tt_edge.specs.declared.listener.Accepted.{Accepted}
use Rattle.tt_edge.specs.declared.listener.Accepted.TheVariants as accepted
use Rattle.tt_edge.specs.declared.ticker.Beat.{Beat}
use Rattle.tt_edge.specs.declared.ticker.Beat.TheVariants as beat
use Rattle.tt_edge.specs.Told.{Adds, Stays}
use Rattle.tt_edge.specs.Link.{Rises}

pub record DoorCounts : Type 0 where
  pub faults : ℕ
  pub idle : ℕ

-- a listener's counts
abbrev pub door_counts : ℕ → ℕ → DoorCounts
door_counts faults idle = record { faults = faults; idle = idle }

-- an answer without a link raises the one count that goes with it
abbrev pub AcceptCounts : {L : Type 0} → DoorCounts → DoorCounts → Accepted L → Type 0
AcceptCounts before after (accepted.Link link peer) = after ≡ before
AcceptCounts before after accepted.Nothing = Rises before.idle after.idle × (after ≡ record before { idle = after.idle })
AcceptCounts before after accepted.Failed = Rises before.faults after.faults × (after ≡ record before { faults = after.faults })

-- the peer of a link that is given stands behind those of the links before
abbrev pub AcceptPeers : {L : Type 0} → Option (List Peer) → Option (List Peer) → Accepted L → Type 0
AcceptPeers before after (accepted.Link link peer) = Adds before after (peer ∷ [])
AcceptPeers before after accepted.Nothing = Stays before after
AcceptPeers before after accepted.Failed = Stays before after

-- one link more is out
abbrev pub AcceptOut : {L : Type 0} → Option ℕ → Option ℕ → Accepted L → Type 0
AcceptOut None None a = Unit {0}
AcceptOut None (Some m) a = ⊥
AcceptOut (Some n) None a = ⊥
AcceptOut (Some n) (Some m) (accepted.Link link peer) = m ≡ n + 1
AcceptOut (Some n) (Some m) accepted.Nothing = m ≡ n
AcceptOut (Some n) (Some m) accepted.Failed = m ≡ n

-- one link less is out
abbrev pub RetireOut : Option ℕ → Option ℕ → Type 0
RetireOut None after = Unit {0}
RetireOut (Some n) None = ⊥
RetireOut (Some n) (Some m) = m + 1 ≡ n

-- what holds of a link that is given
abbrev pub IfLink : {L : Type 0} → (L → Type 0) → Accepted L → Type 0
IfLink P (accepted.Link link peer) = P link
IfLink P accepted.Nothing = Unit {0}
IfLink P accepted.Failed = Unit {0}

pub record TickCounts : Type 0 where
  pub faults : ℕ
  pub stops : ℕ

-- an answer that is no tick raises the one count that goes with it
abbrev pub WaitCounts : TickCounts → TickCounts → Beat → Type 0
WaitCounts before after beat.Tick = after ≡ before
WaitCounts before after beat.Stop = Rises before.stops after.stops × (after ≡ record before { stops = after.stops })
WaitCounts before after beat.Failed = Rises before.faults after.faults × (after ≡ record before { faults = after.faults })

-- what an answer adds to what was told: a failure tells nothing
abbrev pub told_by : Beat → List Beat
told_by beat.Tick = beat.Tick ∷ []
told_by beat.Stop = beat.Stop ∷ []
told_by beat.Failed = []
