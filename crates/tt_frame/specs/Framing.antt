-- What stands first in the bytes that are held, and what each call of a framer does.
use Rattle.std.specs.Prelude.{◌≡◌, ℕ, ◌-◌, ◌<◌, List, ◌++◌, length, take, min, true, IsTrue, IsFalse}
use Rattle.tt_frame.specs.declared.framer.Next.{Next}
use Rattle.tt_frame.specs.declared.framer.Next.TheVariants as next
use Rattle.tt_frame.specs.Packet.{Packet, IsWithin, packet_bytes}
use Rattle.tt_frame.specs.Stream.{IsPartial, IsBadSize}
use Rattle.tt_frame.specs.Holding.{Holding}

-- the bytes are this packet, and then the rest
pub record BeginsWith (limit : ℕ) (bytes : List ℕ) (p : Packet) (rest : List ℕ) : Type 0 where
  pub fits : IsWithin limit p
  pub whole : bytes ≡ packet_bytes p ++ rest

-- what stands first in the bytes
abbrev pub IsFirst : ℕ → List ℕ → Next → Type 0
IsFirst limit bytes (next.Packet kind body) =
    (rest : List ℕ) × BeginsWith limit bytes (record { kind = kind; body = body.now }) rest
IsFirst limit bytes next.Partial = IsPartial limit bytes
IsFirst limit bytes (next.BadSize n) = IsBadSize limit bytes n

-- The first n bytes of the piece were taken: as many as there is room for, or all, which are forgotten, behind a bad size.
pub record Feeds (old : Holding) (piece : List ℕ) (n : ℕ) (new : Holding) : Type 0 where
  pub count : IsFalse old.broken → n ≡ min (length piece) (old.limit - length old.held)
  pub held : IsFalse old.broken → new ≡ record old { held = old.held ++ take n piece }
  pub all : IsTrue old.broken → n ≡ length piece
  pub forgotten : IsTrue old.broken → new ≡ old

-- the first packet was given, and the rest is still held
pub record GivesPacket (old new : Holding) (p : Packet) : Type 0 where
  pub first : BeginsWith old.limit old.held p new.held
  pub limit : new.limit ≡ old.limit
  pub broken : new.broken ≡ old.broken

-- nothing whole is held, there is room for more, and nothing changed
pub record GivesPartial (old new : Holding) : Type 0 where
  pub partial : IsPartial old.limit old.held
  pub room : length old.held < old.limit
  pub same : new ≡ old

-- a bad size stands first, and from now on nothing more is held
pub record GivesBadSize (old new : Holding) (n : ℕ) : Type 0 where
  pub bad : IsBadSize old.limit old.held n
  pub broken : new ≡ record old { broken = true }

-- what `next` answers, and what it leaves
abbrev pub Gives : Holding → Next → Holding → Type 0
Gives old (next.Packet kind body) new = GivesPacket old new (record { kind = kind; body = body.now })
Gives old next.Partial new = GivesPartial old new
Gives old (next.BadSize n) new = GivesBadSize old new n
