-- From bytes to things: a front of the bytes that are sent tells a front of the things that the messages tell.
use Rattle.std.proofs.Common.{◌≡◌, ◌⊎◌, inl, inr, ℕ, suc, ◌+◌, ◌<◌, ◌≤◌, List, [], ◌∷◌, ◌++◌, drop}
use Rattle.std.proofs.Common.{length, Option, Some, refl, ap, ap₂, sym, ◌∙◌, subst, map, append-nil, append_assoc, arith, lit<}
use Rattle.std.specs.Prelude.{Result, flat_map}
use Rattle.std.specs.Result.{result_ok}
use Rattle.std.proofs.lemmas.Bool.{cases_lt}
use Rattle.std.proofs.lemmas.List.{length-append, get_or_append_left, get_or_past}
use Rattle.tt_frame.specs.Packet.{Packet, packet, packet_bytes, size_of, IsWithin, IsBytes}
use Rattle.tt_frame.specs.Stream.{Splits, Cut, IsPartial, End, rest_of}
use Rattle.tt_frame.specs.StreamReading.{reading}
use Rattle.tt_frame.proofs.StreamLaws.{same_reading, reading_reads, reads_more, first_packets, none_in}
use Rattle.tt_frame.proofs.FrontLaws.{front_is_partial}
use Rattle.tt_frame.proofs.TableLaws.{again}
use Rattle.tt_lockstep.specs.Told.{Told}
use Rattle.tt_lockstep.specs.Client.{Feed, fed}
use Rattle.tt_lockstep.specs.Wire.{PieceCall, FeedPiece, AdvanceBy, fed_bytes}
use Rattle.tt_lockstep.specs.Dialog.{things, place_after}
use Rattle.tt_lockstep.proofs.Dialogs.{things-append}
use Rattle.tt_lockstep.proofs.Wires.{fed-append, fed-map}
use Rattle.tt_game.specs.declared.message.GameMsg.{GameMsg}
use Rattle.tt_game.specs.Messages.{messages}
use Rattle.tt_game.specs.Apart.{kind_of, body_bytes}
use Rattle.tt_frame.proofs.FamilyLaws.{spelled_size}
use Rattle.tt_game.specs.Apart.{game_family}
use Rattle.tt_game.proofs.MessageLaws.{game_lawful}
use Rattle.tt_world.specs.declared.command.Entry.{Entry}
use Rattle.tt_world.specs.World.{WorldState}
use Rattle.std.specs.List.{AllByRecursion}
use Rattle.tt_log.specs.Doors.{IsOfGame}
use Rattle.tt_log.specs.Spelled as said_spelled
use Rattle.tt_log.specs.Deed.{Said, game, admin, spelled}
use Rattle.tt_log.specs.Events.{read_msg}
use Rattle.tt_log.specs.Shown.{Place, Asking, dialog, place_behind, items_from, item_told, place_then, things_of, things_in}
use Rattle.tt_in_step.specs.Watched.{game_messages}
use Rattle.tt_in_step.specs.Fed.{calls_behind, calls_of, IsSpelled, AreSpelled}

abbrev pub packet_for : GameMsg → Packet
packet_for m = record { kind = kind_of m; body = body_bytes m }

abbrev pub stream_for : List GameMsg → List ℕ
stream_for ms = flat_map (λ m. packet_bytes (packet_for m)) ms

-- to who was not opened at the side door only messages of the game are sent
pub sent-is : (said : List Said) → AllByRecursion IsOfGame said → flat_map spelled said ≡ stream_for (game_messages said)
sent-is [] a = refl
sent-is (game m ∷ said) a = ap (λ (bs : List ℕ). packet (kind_of m) (body_bytes m) ++ bs) (sent-is said a.1)
sent-is (admin m ∷ said) a = absurd a.0

-- and what is said has its spelling
pub games-spelled : (said : List Said) → AllByRecursion said_spelled.IsSpelled said → AreSpelled (game_messages said)
games-spelled [] a = tt
games-spelled (game m ∷ said) a = (a.0, games-spelled said a.1)
games-spelled (admin m ∷ said) a = games-spelled said a.1

within : (m : GameMsg) → IsSpelled m → IsWithin 32767 (packet_for m)
within m s = record { size = spelled_size GameMsg game_family game_lawful m (kind_of m) (body_bytes m) s }

pub is_read : (m : GameMsg) → IsSpelled m → read_msg (kind_of m) (body_bytes m) ≡ Some m
is_read m s = ap (λ (r : Result GameMsg ℕ). result_ok r) (again messages (kind_of m) (body_bytes m) m s)

-- ---- cutting

-- two ways to part a list: what is longer begins with what is shorter
pub parted : (xs ys zs bs : List ℕ) → xs ++ ys ≡ zs ++ bs → length xs ≤ length zs → (more : List ℕ) × (zs ≡ xs ++ more) × (ys ≡ more ++ bs)
parted [] ys zs bs e l = (zs, refl, e)
parted (x ∷ xs) ys [] bs e l = absurd (omega (arith, l))
parted (x ∷ xs) ys (a ∷ zs) bs e l =
    let head : x ≡ a = cc in
    let tail : xs ++ ys ≡ zs ++ bs = cc in
    let p = parted xs ys zs bs tail (omega (arith, l)) in
    (p.0, ap₂ (λ (k : ℕ) (ks : List ℕ). k ∷ ks) (sym head) p.1, p.2)

-- a front of a stream of messages: so many of them stand in it whole
pub record IsFront (ms : List GameMsg) (bytes : List ℕ) : Type 0 where
  pub front : List GameMsg
  pub back : List GameMsg
  pub all : ms ≡ front ++ back
  pub rest : List ℕ
  pub cut : Cut 32767 bytes (map packet_for front) rest

packet-length : (p : Packet) → length (packet_bytes p) ≡ size_of p
packet-length p = omega arith

none-front : (bytes : List ℕ) (p : Packet) (more : List ℕ) → IsWithin 32767 p → 0 < length more → packet_bytes p ≡ bytes ++ more
    → Cut 32767 bytes [] bytes
none-front bytes p more w some e =
    let partial : 2 ≤ length bytes → IsPartial 32767 bytes = λ two. front_is_partial 32767 bytes (lit< tt) two (p, more, w, some, e) in
    record {
      splits = record { whole = refl; each = tt };
      partial = record {
        least = λ two. (partial two).least two;
        most = λ two. (partial two).most two;
        short = λ two.
            (partial two).short two;
      };
    }

nothing-cut : Cut 32767 [] [] []
nothing-cut = record {
  splits = record { whole = refl; each = tt };
  partial = record {
    least = λ two. absurd (omega
        (arith, two));
    most = λ two. absurd (omega (arith, two));
    short = λ two. absurd (omega (arith, two));
  };
}

front-by : (m : GameMsg) (ms : List GameMsg) (bytes later : List ℕ) → AreSpelled (m ∷ ms) → stream_for (m ∷ ms) ≡ bytes ++ later
    → ((rest : List ℕ) → stream_for ms ≡ rest ++ later → IsFront ms rest) → (length bytes < size_of (packet_for m)) ⊎ (size_of
    (packet_for m) ≤ length bytes) → IsFront (m ∷ ms) bytes
front-by m ms bytes later s e next (inl short) =
    let p : Packet = packet_for m in
    let g = parted bytes later (packet_bytes p) (stream_for ms) (sym e) (omega (arith, short, packet-length p)) in
    record {
      front = [];
      back = m ∷ ms;
      all = refl;
      rest = bytes;
      cut = none-front bytes p g.0 (within m s.0) (omega
          (arith, short, packet-length p, ap (λ (xs : List ℕ). length xs) g.1, length-append bytes g.0)) g.1;
    }
front-by m ms bytes later s e next (inr long) =
    let p : Packet = packet_for m in
    let g = parted (packet_bytes p) (stream_for ms) bytes later e (omega (arith, long, packet-length p)) in
    let n = next g.0 g.2 in
    record {
      front = m ∷ n.front;
      back = n.back;
      all = ap (λ (xs : List GameMsg). m ∷ xs) n.all;
      rest = n.rest;
      cut = reads_more 32767 bytes p g.0 (map packet_for n.front) (rest_of n.rest) (record { fits = within m s.0; whole = g.1 }) n.cut;
    }

pub front-of : (ms : List GameMsg) (bytes later : List ℕ) → AreSpelled ms → stream_for ms ≡ bytes ++ later → IsFront ms bytes
front-of [] [] later s e = record { front = []; back = []; all = refl; rest = []; cut = nothing-cut }
front-of [] (b ∷ bs) later s e = absurd cc
front-of (m ∷ ms) bytes later s e = front-by m ms bytes later s e (λ rest k. front-of ms rest later s.1 k) (cases_lt
    (length bytes) (size_of (packet_for m)))

-- ---- things

things-front : (place : Place) (at : ℕ) (ms : List GameMsg) (rest : List ℕ) → AreSpelled ms → things_of place (items_from at
    (map packet_for ms) (rest_of rest)) ≡ things dialog place ms
things-front place at [] rest s = refl
things-front place at (m ∷ ms) rest s =
    ap₂ (λ (x : Option GameMsg) (ts : List (Told WorldState Entry)). item_told place x ∷ ts) (is_read m s.0)
    (ap (λ (x : Option GameMsg). things_of (place_then place x) (items_from (at + size_of (packet_for m)) (map packet_for ms)
    (rest_of rest))) (is_read m s.0) ∙ things-front (place_behind place m) (at + size_of (packet_for m)) ms rest s.1)

pub spelled-front : (xs ys : List GameMsg) → AreSpelled (xs ++ ys) → AreSpelled xs
spelled-front [] ys s = tt
spelled-front (x ∷ xs) ys s = (s.0, spelled-front xs ys s.1)

pub reading-is : (bytes : List ℕ) (qs : List Packet) (rest : List ℕ) → IsBytes bytes → Cut 32767 bytes qs rest →
    ((reading 32767 bytes).0 ≡ qs) × ((reading 32767 bytes).1 ≡ rest_of rest)
reading-is bytes qs rest fits cut =
    let same = same_reading 32767 bytes (reading 32767 bytes).0 qs (reading 32767 bytes).1 (rest_of rest) (lit< tt)
    (reading_reads 32767 bytes (omega arith) fits) cut in same

-- what a front of the bytes tells
pub front-tells : (ms : List GameMsg) (bytes : List ℕ) → IsBytes bytes → AreSpelled ms → (g : IsFront ms bytes)
    → things_in bytes ≡ things dialog Asking g.front
front-tells ms bytes fits s g =
    let is = reading-is bytes (map packet_for g.front) g.rest fits g.cut in
    ap₂ (λ (qs : List Packet) (e : End). things_of Asking (items_from 0 qs e)) is.0 is.1
    ∙ things-front Asking 0 g.front g.rest (spelled-front g.front g.back (subst (λ xs. AreSpelled xs) g.all s))

-- is a front of what all messages tell
pub front-things : (ms : List GameMsg) (bytes later : List ℕ) → IsBytes bytes → AreSpelled ms → stream_for ms ≡ bytes ++ later
    → (more : List (Told WorldState Entry)) × (things dialog Asking ms ≡ things_in bytes ++ more)
front-things ms bytes later fits s e =
    let g = front-of ms bytes later s e in (
      things dialog (place_after dialog Asking g.front) g.back,
      ap (λ (xs : List GameMsg). things dialog Asking xs) g.all ∙ things-append dialog Asking g.front g.back
          ∙ ap (λ (ts : List (Told WorldState Entry)). ts ++ things dialog (place_after dialog Asking g.front) g.back) (sym
          (front-tells ms bytes fits s g)),
    )

-- ---- pieces

drop-front : {A : Type 0} (xs ys : List A) → drop (length xs) (xs ++ ys) ≡ ys
drop-front [] ys = refl
drop-front (x ∷ xs) ys = drop-front xs ys

map-length : (ms : List GameMsg) → length (map packet_for ms) ≡ length ms
map-length [] = refl
map-length (m ∷ ms) = ap (λ (n : ℕ). suc n) (map-length ms)

-- of two fronts of one list the longer one goes on behind the shorter one
longer-front : (xs ys : List GameMsg) (more : List Packet) → map packet_for ys ≡ map packet_for xs ++ more →
    (as1 bs : List GameMsg) → xs ++ as1 ≡ ys ++ bs → (zs : List GameMsg) × (ys ≡ xs ++ zs)
longer-front [] ys more is as1 bs e = (ys, refl)
longer-front (x ∷ xs) [] more is as1 bs e = absurd cc
longer-front (x ∷ xs) (y ∷ ys) more is as1 bs e =
    let head : x ≡ y = cc in
    let tail : xs ++ as1 ≡ ys ++ bs = cc in
    let rest : map packet_for ys ≡ map packet_for xs ++ more = cc in
    let g = longer-front xs ys more rest as1 bs tail in
    (g.0, ap₂ (λ (k : GameMsg) (ks : List GameMsg). k ∷ ks) (sym head) g.1)

-- what is told by a front is a front of what is told by a longer one
pub goes-on : (ms : List GameMsg) (before bytes later : List ℕ) → IsBytes (before ++ bytes) → IsBytes before → AreSpelled ms
    → stream_for ms ≡ (before ++ bytes) ++ later
    → things_in before ++ drop (length (things_in before)) (things_in (before ++ bytes)) ≡ things_in (before ++ bytes)
goes-on ms before bytes later fits fits2 s e =
    let a = front-of ms before (bytes ++ later) s (e ∙ append_assoc before bytes later) in
    let b = front-of ms (before ++ bytes) later s e in
    let splits : Splits 32767 (before ++ bytes) (map packet_for a.front) (a.rest ++ bytes) = record {
      whole = ap (λ
          (xs : List ℕ). xs ++ bytes) a.cut.splits.whole ∙ append_assoc (flat_map packet_bytes
          (map packet_for a.front)) a.rest bytes;
      each = a.cut.splits.each;
    } in
    let more = first_packets 32767 (before ++ bytes) (map packet_for a.front) (map packet_for b.front) (a.rest ++ bytes) b.rest
    (lit< tt) (none_in 32767 (before ++ bytes) (map packet_for b.front) (rest_of b.rest) b.cut (lit< tt)) splits b.cut.splits in
    let one = front-tells ms before fits2 s a in
    let two = front-tells ms (before ++ bytes) fits s b in
    let longer = longer-front a.front b.front more.0 more.1 a.back b.back (sym a.all ∙ b.all) in
    let ts = things dialog (place_after dialog Asking a.front) longer.0 in
    let same : things_in (before ++ bytes) ≡ things_in before ++ ts = two ∙ ap (λ
    (xs : List GameMsg). things dialog Asking xs) longer.1 ∙ things-append dialog Asking a.front longer.0 ∙ ap (λ (us : List
    (Told WorldState Entry)). us ++ ts) (sym one) in
    ap (λ (us : List (Told WorldState Entry)). things_in before ++ drop (length (things_in before)) us) same ∙ ap (λ (us : List
    (Told WorldState Entry)). things_in before ++ us) (drop-front (things_in before) ts) ∙ sym same

IsBytes-front : (xs ys : List ℕ) → IsBytes (xs ++ ys) → IsBytes xs
IsBytes-front xs ys fits i = elim (cases_lt i (length xs)) [
  | inl within ↦ omega (arith, get_or_append_left xs ys 0 i within, fits i)
  | inr past ↦ omega (arith, get_or_past xs i 0 past)
]

-- what a client is fed in pieces is what all of them tell
fed-behind : (ms : List GameMsg) (before later : List ℕ) (calls : List PieceCall) → IsBytes (before ++ fed_bytes calls)
    → AreSpelled ms → stream_for ms ≡ (before ++ fed_bytes calls) ++ later
    → things_in before ++ fed (calls_behind before calls) ≡ things_in (before ++ fed_bytes calls)
fed-behind ms before later [] fits s e = append-nil (things_in before) ∙ ap (λ (bs : List ℕ). things_in bs) (sym (append-nil before))
fed-behind ms before later (FeedPiece bytes ∷ calls) fits s e =
    let rest : List ℕ = fed_bytes calls in
    let assoc : (before ++ bytes) ++ rest ≡ before ++ (bytes ++ rest) = append_assoc before bytes rest in
    let fits2 : IsBytes ((before ++ bytes) ++ rest) = subst (λ bs. IsBytes bs) (sym assoc) fits in
    let fits3 : IsBytes (before ++ bytes) = IsBytes-front (before ++ bytes) rest fits2 in
    let e2 : stream_for ms ≡ ((before ++ bytes) ++ rest) ++ later = e ∙ ap (λ (bs : List ℕ). bs ++ later) (sym assoc) in
    let e3 : stream_for ms ≡ (before ++ bytes) ++ (rest ++ later) = e2 ∙ append_assoc (before ++ bytes) rest later in
    let new = drop (length (things_in before)) (things_in (before ++ bytes)) in
    let more = fed (calls_behind (before ++ bytes) calls) in
    let one : things_in before ++ new ≡ things_in (before ++ bytes) = goes-on ms before bytes (rest ++ later) fits3
    (IsBytes-front before bytes fits3) s e3 in
    ap (λ (ts : List (Told WorldState Entry)). things_in before ++ ts) (fed-append (map (λ t. Feed t) new) (calls_behind (before
    ++ bytes) calls) ∙ ap (λ (ts : List (Told WorldState Entry)). ts ++ more) (fed-map new))
    ∙ sym (append_assoc (things_in before) new more) ∙ ap (λ (ts : List (Told WorldState Entry)). ts ++ more) one
    ∙ fed-behind ms (before ++ bytes) later calls fits2 s e2 ∙ ap (λ (bs : List ℕ). things_in bs) assoc
fed-behind ms before later (AdvanceBy n ∷ calls) fits s e = fed-behind ms before later calls fits s e

no-bytes : IsBytes []
no-bytes i = omega (arith, get_or_past {X = ℕ} [] i 0 (omega arith))

pub fed-pieces : (ms : List GameMsg) (later : List ℕ) (calls : List PieceCall) → IsBytes (fed_bytes calls) → AreSpelled ms
    → stream_for ms ≡ fed_bytes calls ++ later → fed (calls_of calls) ≡ things_in (fed_bytes calls)
fed-pieces ms later calls fits s e =
    let none : things_in [] ≡ [] = front-tells [] [] no-bytes tt
    (record { front = []; back = []; all = refl; rest = []; cut = nothing-cut }) in
    ap (λ (ts : List (Told WorldState Entry)). ts ++ fed (calls_of calls)) (sym none) ∙ fed-behind ms [] later calls fits s e
