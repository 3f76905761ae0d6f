-- Packets that are made before anything changes: who is told each, and its bytes.
use Rattle.std.specs.Prelude.{◌≡◌, ◌≢◌, ℕ, ◌+◌, ◌<◌, ◌≤◌, ◌==◌, List, [], ◌∷◌, ◌++◌, All, length, take, drop, flat_map, slice_index_or}
use Rattle.std.specs.List.{AllByRecursion, list_any}
use Rattle.tt_log.specs.Deed.{Said, spelled}
use Rattle.tt_log.specs.Tellings.{Telling}
use Rattle.tt_outgoing.specs.declared.staged.Cut.{Cut}
use Rattle.tt_outgoing.specs.Waiting.{bytes_if}

-- the connections that are told a packet, and its bytes
pub record Packet : Type 0 where
  pub to : List ℕ
  pub bytes : List ℕ

-- ---- what is said, as packets

-- the packet of a message; where nobody is told, there is none
abbrev pub packet_to : List ℕ → Said → List Packet
packet_to [] said = []
packet_to (conn ∷ conns) said = record { to = conn ∷ conns; bytes = spelled said } ∷ []

-- the packets of messages to the same connections, in order
abbrev pub packets_to : List ℕ → List Said → List Packet
packets_to to said = flat_map (packet_to to) said

-- the packets of tellings, in order
abbrev pub packets_of : List Telling → List Packet
packets_of tellings = flat_map (λ (d : Telling). packet_to d.to d.said) tellings

-- ---- what packets come to

-- what they tell a connection: each packet once to each that is told it
abbrev pub bytes_for : ℕ → List Packet → List ℕ
bytes_for conn packets = flat_map (λ (p : Packet). bytes_if (list_any (λ c. c == conn) p.to) p.bytes) packets

-- how many bytes they have, each packet once, and how many connections are told them, each once for each packet
abbrev pub bytes_in : List Packet → ℕ
bytes_in [] = 0
bytes_in (p ∷ packets) = length p.bytes + bytes_in packets

abbrev pub parts_in : List Packet → ℕ
parts_in [] = 0
parts_in (p ∷ packets) = length p.to + parts_in packets

-- no connection stands twice in a list
abbrev pub AreDistinct : List ℕ → Type 0
AreDistinct conns = (i j : ℕ) → i < j → j < length conns → slice_index_or conns i 0 ≢ slice_index_or conns j 0

-- each of these connections is one of those that are opened, so many, and none stands twice
pub record MayBeTold (most : ℕ) (conns : List ℕ) : Type 0 where
  pub opened : All (λ c. (1 ≤ c) × (c ≤ most)) conns
  pub distinct : AreDistinct conns

-- so it is of each packet, and of each telling
abbrev pub MayAllBeTold : ℕ → List Packet → Type 0
MayAllBeTold opened packets = AllByRecursion (λ (p : Packet). MayBeTold opened p.to) packets

abbrev pub MayAllBeSaid : ℕ → List Telling → Type 0
MayAllBeSaid opened tellings = AllByRecursion (λ (d : Telling). MayBeTold opened d.to) tellings

-- packets come behind others
abbrev pub Grows : List Packet → List Packet → Type 0
Grows before after = (more : List Packet) × (after ≡ before ++ more)

-- ---- how packets are kept: all connections in one list, all bytes in another, and how many are each packet's

abbrev pub cut_up : List Cut → List ℕ → List ℕ → List Packet
cut_up [] conns bytes = []
cut_up (c ∷ cuts) conns bytes = record { to = take c.conns conns; bytes = take c.bytes bytes }
    ∷ cut_up cuts (drop c.conns conns) (drop c.bytes bytes)

abbrev pub conns_cut : List Cut → ℕ
conns_cut [] = 0
conns_cut (c ∷ cuts) = c.conns + conns_cut cuts

abbrev pub bytes_cut : List Cut → ℕ
bytes_cut [] = 0
bytes_cut (c ∷ cuts) = c.bytes + bytes_cut cuts

-- the two lists are the packets', whole
pub record IsCutUp (cuts : List Cut) (conns bytes : List ℕ) : Type 0 where
  pub conns_are : conns_cut cuts ≡ length conns
  pub bytes_are : bytes_cut cuts ≡ length bytes
