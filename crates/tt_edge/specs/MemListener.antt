-- What a listener in memory has to show.
use Rattle.std.specs.Prelude.{◌≡◌, ℕ, List, ◌∷◌}
use Rattle.tt_edge.specs.Agenda.{Calls}
use Rattle.tt_edge.specs.declared.event.Peer.{Peer}
use Rattle.tt_edge.specs.declared.listener.Accepted.{Accepted}
use Rattle.tt_edge.specs.declared.listener.Accepted.TheVariants.{Link, Nothing, Failed}
use Rattle.tt_edge.specs.declared.listener.Served.{Served}
use Rattle.tt_edge.specs.declared.mem_link.MemLink.{MemLink}
use Rattle.tt_edge.specs.declared.mem_listener.MemListener.{MemListener}

-- the links that it still gives, in order, each with its peer
abbrev pub coming_of : MemListener → List (MemLink × Peer)
coming_of listener = listener.coming.items

-- the links that came back, each with its end
abbrev pub served_of : MemListener → List (Served × MemLink)
served_of listener = listener.gone.items

-- the peers of the links that were given
abbrev pub peers_of : MemListener → List Peer
peers_of listener = listener.known.items

-- how many links are out
abbrev pub out_of : MemListener → ℕ
out_of listener = listener.out

-- what its calls are to do
abbrev pub accepts_of : MemListener → Calls
accepts_of listener = listener.accepts

-- a link that is given is the first of those that come, and no other answer takes any
abbrev pub GivesFirst : List (MemLink × Peer) → List (MemLink × Peer) → Accepted MemLink → Type 0
GivesFirst before after (Link link peer) = before ≡ (link, peer) ∷ after
GivesFirst before after Nothing = after ≡ before
GivesFirst before after Failed = after ≡ before

-- the answer has no link
abbrev pub IsNothing : Accepted MemLink → Type 0
IsNothing (Link link peer) = ⊥
IsNothing Nothing = Unit {0}
IsNothing Failed = ⊥

-- the answer is that of a listener that failed
abbrev pub IsFailed : Accepted MemLink → Type 0
IsFailed (Link link peer) = ⊥
IsFailed Nothing = ⊥
IsFailed Failed = Unit {0}
