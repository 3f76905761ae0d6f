-- The words in which worked lists are told.
use Rattle.std.specs.Prelude.{ℕ, zero, suc, ◌+◌, ◌-◌, ◌*◌, Bool, true, false, nat_lt, List, [], ◌∷◌, ◌++◌, codes, drop, map, flat_map}
use Rattle.std.specs.Prelude.{slice_index}
use Rattle.std.specs.Int.{w16, to_le_bytes}
use Rattle.tt_edge.specs.declared.event.Door.TheVariants.{Main, Side}
use Rattle.tt_edge.specs.declared.event.Event.{Event}
use Rattle.tt_edge.specs.declared.event.Event.TheVariants.{Open, Packet}
use Rattle.tt_edge.specs.Event as edge
use Rattle.tt_attempts.specs.declared.attempt.Heard.{Heard}
use Rattle.tt_gc_table.specs.declared.setup.GcSetup.{GcSetup}
use Rattle.tt_gc_table.specs.Told.{sent, is_live, is_over}
use Rattle.tt_gc_table.specs.Ways.{ways, hearings}

-- ---- bytes

-- the value of a digit 0 to 9, or a to f
abbrev pub digit_by : Bool → ℕ → ℕ
digit_by true c = c - 48
digit_by false c = c - 87

abbrev pub digit : ℕ → ℕ
digit c = digit_by (nat_lt c 58) c

-- the bytes that pairs of hexadecimal digits spell
abbrev pub hex : List ℕ → List ℕ
hex [] = []
hex (high ∷ []) = []
hex (high ∷ low ∷ digits) = (digit high * 16 + digit low) ∷ hex digits

-- ---- events

-- a connection opens at the main door, from 10.0.0.n and port 6000 + n
abbrev pub opens : ℕ → Event
opens n = Open Main (record { host = 10 ∷ 0 ∷ 0 ∷ n ∷ []; port = 6000 + n })

-- and at the STUN desk, with port 7000 + n
abbrev pub shows : ℕ → Event
shows n = Open Side (record { host = 10 ∷ 0 ∷ 0 ∷ n ∷ []; port = 7000 + n })

-- a connection says a packet, told in digits: two bytes of size, its number, and its body
abbrev pub packet_event : ℕ → List ℕ → Event
packet_event conn bytes = Packet conn (slice_index bytes 2) (drop 3 bytes)

abbrev pub says : ℕ → List ℕ → Event
says conn digits = packet_event conn (hex digits)

-- SERVER_REGISTER: a kind, a port, a code and a secret
abbrev pub registers : ℕ → ℕ → ℕ → List ℕ → List ℕ → Event
registers conn kind port code secret = Packet conn 1 (1 ∷ kind ∷ to_le_bytes w16 port ++ code ++ 0 ∷ secret ++ 0 ∷ [])

-- SERVER_UPDATE: the game G of this revision, with 1 of 2 clients, 3 companies and no password, at frame 4
abbrev pub updates : ℕ → List ℕ → Event
updates conn revision = Packet conn 3 (1 ∷ 71 ∷ 0 ∷ revision ++ 0 ∷ 1 ∷ 2 ∷ 3 ∷ 0 ∷ 4 ∷ 0 ∷ 0 ∷ 0 ∷ [])

-- CLIENT_LISTING: a revision
abbrev pub lists : ℕ → List ℕ → Event
lists conn revision = Packet conn 4 (1 ∷ revision ++ 0 ∷ [])

-- CLIENT_CONNECT: a code
abbrev pub connects : ℕ → List ℕ → Event
connects conn code = Packet conn 6 (1 ∷ code ++ 0 ∷ [])

-- SERCLI_CONNECT_FAILED: a token, and the number of the way
abbrev pub fails : ℕ → List ℕ → ℕ → Event
fails conn token tracking = Packet conn 8 (1 ∷ token ++ 0 ∷ tracking ∷ [])

-- CLIENT_CONNECTED: a token
abbrev pub connected : ℕ → List ℕ → Event
connected conn token = Packet conn 10 (1 ∷ token ++ 0 ∷ [])

-- SERCLI_STUN_RESULT: a token, a side, and whether it is ok
abbrev pub results : ℕ → List ℕ → ℕ → ℕ → Event
results conn token side ok = Packet conn 13 (1 ∷ token ++ 0 ∷ side ∷ ok ∷ [])

-- SERCLI_STUN: a token and a side
abbrev pub says_stun : ℕ → List ℕ → ℕ → Event
says_stun conn token side = Packet conn 0 (1 ∷ token ++ 0 ∷ side ∷ [])

-- ---- what coordinators are made from

-- the words 0, 0, and all ways
abbrev pub plain : GcSetup
plain = record {
  first = 0;
  second = 0;
  ways = record { direct = true; stun = true; turn = true };
  turn_host = codes "turn";
  cost = 1000000;
}

-- no way applies
abbrev pub wayless : GcSetup
wayless = record plain { ways = record { direct = false; stun = false; turn = false } }

-- TURN alone applies
abbrev pub turned : GcSetup
turned = record plain { ways = record { direct = false; stun = false; turn = true } }

-- STUN doesn't apply
abbrev pub without_stun : GcSetup
without_stun = record plain { ways = record { direct = true; stun = false; turn = true } }

-- STUN alone applies
abbrev pub stun_alone : GcSetup
stun_alone = record plain { ways = record { direct = false; stun = true; turn = false } }

-- all ends at a small cost
abbrev pub cheap : GcSetup
cheap = record plain { cost = 201 }

-- other words, and another TURN server
abbrev pub otherwise : GcSetup
otherwise = record plain { first = 1; second = 2; turn_host = codes "t.example" }

-- ---- what a list of events comes to

-- a connection: whether it is live, and all that it was told
pub record Line : Type 0 where
  pub live : Bool
  pub sent : List ℕ

-- one that is live and was told these packets, each in digits
abbrev pub lives : List (List ℕ) → Line
lives packets = record { live = true; sent = flat_map hex packets }

-- one that was told these, and has ended
abbrev pub ended : List (List ℕ) → Line
ended packets = record { live = false; sent = flat_map hex packets }

-- an attempt: the ways that were told, and what it heard
pub record Run : Type 0 where
  pub ways : List ℕ
  pub heard : List Heard

-- each connection in the order of openings, each attempt that is asked for, and whether all is over
pub record Outcome : Type 0 where
  pub connections : List Line
  pub attempts : List Run
  pub over : Bool

-- the numbers 1 to n
abbrev pub up_to : ℕ → List ℕ
up_to zero = []
up_to (suc n) = up_to n ++ suc n ∷ []

abbrev pub outcome : GcSetup → List (List ℕ) → List Event → Outcome
outcome s tokens es = record {
  connections = map (λ n. record { live = is_live s es n; sent = sent s es n }) (up_to (edge.opens es));
  attempts = map (λ (token : List ℕ). record { ways = ways s es token; heard = hearings s es token }) tokens;
  over = is_over s es;
}
