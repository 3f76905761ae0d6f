-- What waits to be said. Of acknowledgements at most one of which no part was taken waits: a later one takes its place.
use Rattle.std.specs.Prelude.{◌≡◌, ℕ, zero, suc, ◌==◌, true, false, if◌then◌else◌, List, [], ◌∷◌, ◌++◌, drop, Option}
use Rattle.std.specs.Prelude.{Some, None}
use Rattle.tt_frame.specs.Packet.{packet_bytes}
use Rattle.tt_game.specs.declared.message.GameMsg.{GameMsg}
use Rattle.tt_game.specs.declared.message.GameMsg.TheVariants.{ClientAck}
use Rattle.tt_game.specs.Apart.{kind_of, body_bytes}
use Rattle.tt_client.specs.declared.waiting.Ack.{Ack}

-- the bytes of a message
abbrev pub spelling : GameMsg → List ℕ
spelling m = packet_bytes (record { kind = kind_of m; body = body_bytes m })

-- the rest of an acknowledgement of which a part was taken; the bytes before the whole one; that one, where there is one; the
-- bytes behind it; and the token that the next acknowledgement is to return, 0 for none
pub record Saying : Type 0 where
  pub begun : List ℕ
  pub before : List ℕ
  pub ack : Option Ack
  pub behind : List ℕ
  pub owed : ℕ

abbrev pub ack_spelling : Ack → List ℕ
ack_spelling a = spelling (ClientAck a.frame a.token)

abbrev pub ack_bytes : Option Ack → List ℕ
ack_bytes None = []
ack_bytes (Some a) = ack_spelling a

-- the bytes that wait
abbrev pub bytes_of : Saying → List ℕ
bytes_of s = s.begun ++ (s.before ++ (ack_bytes s.ack ++ s.behind))

-- bytes more, behind all that waits
abbrev pub with_bytes_at : Option Ack → List ℕ → Saying → Saying
with_bytes_at None bytes s = record s { before = s.before ++ bytes }
with_bytes_at (Some a) bytes s = record s { behind = s.behind ++ bytes }

abbrev pub with_bytes : List ℕ → Saying → Saying
with_bytes bytes s = with_bytes_at s.ack bytes s

-- an acknowledgement more, with the token that is owed: in the place of the one that waits whole, else behind all. Nothing
-- stands behind where none waits
abbrev pub with_ack : ℕ → Saying → Saying
with_ack frame s = record s { ack = Some (record { frame = frame; token = s.owed; is_newest = true }) }

-- a token comes: it is owed from now on, and the acknowledgement that waits was made before it came
abbrev pub made_before : Option Ack → Option Ack
made_before None = None
made_before (Some a) = Some (record a { is_newest = false })

abbrev pub with_token : ℕ → Saying → Saying
with_token token s = if token == 0 then s else record s { owed = token; ack = made_before s.ack }

-- nothing stands behind, where no acknowledgement waits whole
abbrev pub IsSaying : Saying → Type 0
IsSaying s = s.ack ≡ None → s.behind ≡ []

-- a byte is taken from the front. With the first one of an acknowledgement that was made since the last token came, that token
-- is returned, and is owed no more
abbrev pub less_ack : Option Ack → List ℕ → ℕ → Saying
less_ack None behind owed = record { begun = []; before = []; ack = None; behind = behind; owed = owed }
less_ack (Some a) behind owed = record {
  begun = drop 1 (ack_spelling a);
  before = behind;
  ack = None;
  behind = [];
  owed = if a.is_newest then 0 else owed;
}

abbrev pub less_before : List ℕ → Option Ack → List ℕ → ℕ → Saying
less_before [] ack behind owed = less_ack ack behind owed
less_before (b ∷ before) ack behind owed = record { begun = []; before = before; ack = ack; behind = behind; owed = owed }

abbrev pub less_begun : List ℕ → List ℕ → Option Ack → List ℕ → ℕ → Saying
less_begun [] before ack behind owed = less_before before ack behind owed
less_begun (b ∷ begun) before ack behind owed = record { begun = begun; before = before; ack = ack; behind = behind; owed = owed }

abbrev pub less_one : Saying → Saying
less_one s = less_begun s.begun s.before s.ack s.behind s.owed

-- and so many bytes
abbrev pub taken : ℕ → Saying → Saying
taken zero s = s
taken (suc n) s = taken n (less_one s)
