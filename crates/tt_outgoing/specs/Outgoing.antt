-- One tail of bytes, and the parts of it that connections are told, in the order in which they were told.
use Rattle.std.specs.Prelude.{◌≡◌, ◌≢◌, ℕ, ◌==◌, ◌+◌, ◌-◌, ◌^◌, ◌<◌, ◌≤◌, List, [], ◌∷◌, length, take, drop, flat_map, slice_index_or}
use Rattle.std.specs.Prelude.{min, vec_capacity}
use Rattle.std.specs.VecDeque.{deque_capacity}
use Rattle.tt_outgoing.specs.Waiting.{bytes_if}
use Rattle.tt_outgoing.specs.declared.outs.log.Part.{Part}
use Rattle.tt_outgoing.specs.declared.outs.log.Log.{Log}
use Rattle.tt_outgoing.specs.declared.outs.seat.Seat.{Seat}

-- a part's bytes, in a tail whose first byte has this place
abbrev pub part_bytes : ℕ → List ℕ → Part → List ℕ
part_bytes base tail p = take (p.to - p.from) (drop (p.from - base) tail)

-- what parts tell a connection
abbrev pub bytes_of : ℕ → ℕ → List ℕ → List Part → List ℕ
bytes_of c base tail ps = flat_map (λ p. bytes_if (p.conn == c) (part_bytes base tail p)) ps

-- what a log holds: the tail, whose first byte has the place `base`, and the parts, whose first one has the number `gone`
pub record Told : Type 0 where
  pub base : ℕ
  pub tail : List ℕ
  pub gone : ℕ
  pub parts : List Part

abbrev pub plain : Log → Told
plain log = record { base = log.base; tail = log.tail.items; gone = log.gone; parts = log.parts.items }

-- what waits for a connection
abbrev pub waits_in : Told → ℕ → List ℕ
waits_in t c = bytes_of c t.base t.tail t.parts

-- what of it the parts before the i-th tell, and those from the i-th on
abbrev pub waits_before : Told → ℕ → ℕ → List ℕ
waits_before t c i = bytes_of c t.base t.tail (take i t.parts)

abbrev pub waits_from : Told → ℕ → ℕ → List ℕ
waits_from t c i = bytes_of c t.base t.tail (drop i t.parts)

-- what waits for each of the connections that have these seats, of which the first has the number c
abbrev pub lists_in : Told → ℕ → List Seat → List (List ℕ)
lists_in t c [] = []
lists_in t c (seat ∷ seats) = waits_in t c ∷ lists_in t (c + 1) seats

-- the place behind the last byte, and the number behind the last part
abbrev pub end_of : Told → ℕ
end_of t = t.base + length t.tail

abbrev pub number_of : Told → ℕ
number_of t = t.gone + length t.parts

-- ---- parts

abbrev pub no_part : Part
no_part = record { conn = 0; start = 0; from = 0; to = 0; next = 0 }

abbrev pub part_at : List Part → ℕ → Part
part_at ps i = slice_index_or ps i no_part

-- a part's places are in order, and within these
pub record IsWithin (least most : ℕ) (p : Part) : Type 0 where
  pub low : least ≤ p.start
  pub start : p.start ≤ p.from
  pub from : p.from ≤ p.to
  pub to : p.to ≤ most

-- parts in the order of their beginnings, from a place on, that end by another
abbrev pub Rising : ℕ → ℕ → List Part → Type 0
Rising low end [] = Unit {0}
Rising low end (p ∷ ps) = IsWithin low end p × Rising p.start end ps

-- each part begins by a place
abbrev pub BeginBy : ℕ → List Part → Type 0
BeginBy place ps = (k : ℕ) → k < length ps → (part_at ps k).start ≤ place

-- no part from the i-th on, up to the j-th, is of that connection
abbrev pub NoneOf : ℕ → List Part → ℕ → ℕ → Type 0
NoneOf c ps i j = (k : ℕ) → i ≤ k → k < j → k < length ps → (part_at ps k).conn ≢ c

-- the next part of the same connection has no lesser number than a part says; a part that was taken whole is of connection 0
abbrev pub IsLinked : ℕ → List Part → Type 0
IsLinked gone ps = (i : ℕ) → i < length ps → 1 ≤ (part_at ps i).conn
    → ((part_at ps i).next ≤ gone + length ps) × NoneOf (part_at ps i).conn ps (i + 1) ((part_at ps i).next - gone)

pub record IsSound (t : Told) : Type 0 where
  pub bytes : end_of t < 2 ^ 64
  pub numbers : number_of t < 2 ^ 64
  pub rising : Rising t.base (end_of t) t.parts
  pub linked : IsLinked t.gone t.parts

-- ---- what a log keeps where one connection takes

pub record Keeps (conn : ℕ) (t u : Told) : Type 0 where
  pub sound : IsSound u
  pub base : u.base ≡ t.base
  pub tail : u.tail ≡ t.tail
  pub gone : u.gone ≡ t.gone
  pub size : length u.parts ≡ length t.parts
  pub waits : (c : ℕ) → 1 ≤ c → c ≢ conn → waits_in u c ≡ waits_in t c
  pub before : (c i : ℕ) → 1 ≤ c → c ≢ conn → waits_before u c i ≡ waits_before t c i
  pub none : (c i j : ℕ) → 1 ≤ c → NoneOf c t.parts i j → NoneOf c u.parts i j

-- ---- seats

abbrev pub nobody : Seat
nobody = record { first = 0; behind = 0; left = 0 }

abbrev pub seat_of : List Seat → ℕ → Seat
seat_of seats c = slice_index_or seats (c - 1) nobody

-- a connection's seat tells of its parts in the log
pub record IsSeat (t : Told) (c : ℕ) (seat : Seat) : Type 0 where
  pub few : seat.first ≤ number_of t
  pub first : waits_before t c (seat.first - t.gone) ≡ []
  pub behind : NoneOf c t.parts (seat.behind - t.gone) (length t.parts)
  pub left : seat.left ≡ length (waits_in t c)
  pub fits : seat.left ≤ end_of t

-- log and seats are right, and who has no seat is told nothing
pub record IsHeld (t : Told) (seats : List Seat) : Type 0 where
  pub sound : IsSound t
  pub opened : length seats < 2 ^ 32
  pub each : (c : ℕ) → 1 ≤ c → c ≤ length seats → IsSeat t c (seat_of seats c)
  pub strangers : (c : ℕ) → length seats < c → NoneOf c t.parts 0 (length t.parts)

-- ---- room

-- how many bytes and parts may still be put without memory, and counted in 64 bits
abbrev pub spare_bytes : Log → ℕ
spare_bytes log = min (vec_capacity log.tail - length log.tail.items) (2 ^ 64 - 1 - end_of (plain log))

abbrev pub spare_parts : Log → ℕ
spare_parts log = min (deque_capacity log.parts - length log.parts.items) (2 ^ 64 - 1 - number_of (plain log))
