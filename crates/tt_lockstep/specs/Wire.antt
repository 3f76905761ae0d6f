-- From bytes to messages: messages are spelled one behind the other, and a client is fed the bytes in whatever pieces.
use Rattle.std.specs.Prelude.{◌≡◌, ℕ, List, [], ◌∷◌, ◌++◌, Option, Some, None, map}
use Rattle.tt_lockstep.specs.Client.{Call, Feed, Advance}
use Rattle.tt_lockstep.specs.Dialog.{Dialog, things, place_after}

-- what a reader holds after a byte, and the message that the byte completes, if any
pub record Came (S M : Type 0) : Type 0 where
  pub held : S
  pub message : Option M

-- how messages M are spelled, and how a reader with states S takes bytes, one by one
pub record Wire (S M : Type 0) : Type 0 where
  pub spelled : M → List ℕ
  -- what a reader holds at first
  pub empty : S
  pub byte : S → ℕ → Came S M

-- messages, behind the one that a byte completed
abbrev pub with_message : {M : Type 0} → Option M → List M → List M
with_message None ms = ms
with_message (Some m) ms = m ∷ ms

module _ {S M : Type 0} (wire : Wire S M) where
  -- what a reader holds after these bytes
  abbrev pub held_after : S → List ℕ → S
  held_after held [] = held
  held_after held (b ∷ bs) = held_after (wire.byte held b).held bs

  -- the messages that these bytes complete
  abbrev pub messages : S → List ℕ → List M
  messages held [] = []
  messages held (b ∷ bs) = with_message (wire.byte held b).message (messages (wire.byte held b).held bs)

  -- a message is read back from its spelling, and nothing is left of it
  pub record IsReadBack (m : M) : Type 0 where
    pub gives : messages wire.empty (wire.spelled m) ≡ m ∷ []
    pub leaves : held_after wire.empty (wire.spelled m) ≡ wire.empty

-- a call of a client over bytes: it is fed a piece of its stream, or told to run so many frames
pub data PieceCall : Type 0 where
  FeedPiece : List ℕ → PieceCall
  AdvanceBy : ℕ → PieceCall

-- all the bytes that it was fed, in order
abbrev pub fed_bytes : List PieceCall → List ℕ
fed_bytes [] = []
fed_bytes (FeedPiece bytes ∷ calls) = bytes ++ fed_bytes calls
fed_bytes (AdvanceBy n ∷ calls) = fed_bytes calls

module _ {S D M W E : Type 0} (wire : Wire S M) (dialog : Dialog D M W E) where
  -- a piece is fed as the things that its messages tell
  abbrev pub calls_of : S → D → List PieceCall → List (Call W E)
  calls_of held place [] = []
  calls_of held place (FeedPiece bytes ∷ calls) =
      map (λ t. Feed t) (things dialog place (messages wire held bytes))
      ++ calls_of (held_after wire held bytes) (place_after dialog place (messages wire held bytes)) calls
  calls_of held place (AdvanceBy n ∷ calls) = Advance n ∷ calls_of held place calls
