-- Any calls of a framer, one after another.
use Rattle.std.specs.Prelude.{◌≡◌, ℕ, List, [], ◌∷◌, ◌++◌, take, false, IsTrue, IsFalse}
use Rattle.tt_frame.specs.Packet.{Packet}
use Rattle.tt_frame.specs.Holding.{Holding}
use Rattle.tt_frame.specs.Stream.{IsBadSize, Splits, Broken}
use Rattle.tt_frame.specs.Framing.{Feeds, GivesPacket, GivesPartial, GivesBadSize}

-- a call, as its caller sees it: so many bytes of the piece were taken, or what `next` answered
pub data Call : Type 0 where
  fed : List ℕ → ℕ → Call
  gave : Packet → Call
  partial : Call
  met : ℕ → Call

-- what the call does to what is held
abbrev pub Does : Holding → Call → Holding → Type 0
Does old (fed piece n) new = Feeds old piece n new
Does old (gave p) new = GivesPacket old new p
Does old partial new = GivesPartial old new
Does old (met n) new = GivesBadSize old new n

-- what the calls, in order, lead to
abbrev pub Leads : Holding → List Call → Holding → Type 0
Leads old [] new = new ≡ old
Leads old (call ∷ calls) new = (between : Holding) × Does old call between × Leads between calls new

-- a framer that was just made
abbrev pub empty_of : ℕ → Holding
empty_of limit = record { limit = limit; held = []; broken = false }

-- the bytes that the calls took, one piece behind the other
abbrev pub taken_by : List Call → List ℕ
taken_by [] = []
taken_by (fed piece n ∷ calls) = take n piece ++ taken_by calls
taken_by (gave p ∷ calls) = taken_by calls
taken_by (partial ∷ calls) = taken_by calls
taken_by (met n ∷ calls) = taken_by calls

-- the packets that the calls gave, in order
abbrev pub given_by : List Call → List Packet
given_by [] = []
given_by (fed piece n ∷ calls) = given_by calls
given_by (gave p ∷ calls) = p ∷ given_by calls
given_by (partial ∷ calls) = given_by calls
given_by (met n ∷ calls) = given_by calls

-- What a framer is that has taken these bytes and given these packets: it holds the rest, or has met a bad size behind them.
pub record Holds (taken : List ℕ) (given : List Packet) (f : Holding) : Type 0 where
  pub sound : IsFalse f.broken → Splits f.limit taken given f.held
  pub broken : IsTrue f.broken → (n : ℕ) × Broken f.limit taken given n × IsBadSize f.limit f.held n
