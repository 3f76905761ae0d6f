-- Pieces of a map: the one place that needs maps to be read.
use Rattle.std.proofs.Common.{◌≡◌, ℕ, zero, suc, ◌+◌, ◌<◌, ◌≤◌, Bool, true, false}
use Rattle.std.proofs.Common.{cond, List, [], ◌∷◌, ◌++◌, Some, length, take, drop, refl}
use Rattle.std.proofs.Common.{ap, ap₂, sym, ◌∙◌, subst, map, append-nil, append_assoc, arith}
use Rattle.std.specs.Prelude.{◌*◌, nat_lt, Result}
use Rattle.std.specs.Result.{result_ok}
use Rattle.std.proofs.lemmas.Bool.{le-leb, eq-eqb, ltb-false, ltb-true}
use Rattle.std.proofs.lemmas.List.{take_all, take-take, drop-take, take-append-drop, length-append, length-drop}
use Rattle.tt_lockstep.specs.Told as told
use Rattle.tt_lockstep.specs.Told.{Told}
use Rattle.tt_lockstep.specs.Server.{Server, EndMap}
use Rattle.tt_lockstep.proofs.Dialogs.{Goes-on, Goes-by}
use Rattle.tt_game.specs.declared.message.GameMsg.{GameMsg}
use Rattle.tt_game.specs.declared.message.GameMsg.TheVariants.{ServerMapData, ServerMapDone}
use Rattle.tt_world.specs.declared.command.Entry.{Entry}
use Rattle.tt_world.specs.World.{WorldState}
use Rattle.tt_map.specs.declared.bad.MapBad.{MapBad}
use Rattle.tt_log.specs.Origin.{Origin, game_of, world_at}
use Rattle.tt_log.specs.Tick.{pieces_of}
use Rattle.tt_log.specs.Shown.{Place, Fetching, InPlay, told_at, dialog, other_if, whole_map, map_told, unless_parted}
use Rattle.tt_in_step.specs.Watched.{Seat, Loads, HasMap}
use Rattle.tt_in_step.proofs.Ways.{seen_as, Way, FitsAt, place_at, map_at, stays, way-on}
use Rattle.tt_in_step.proofs.Worlds.{IsMapRead}

take_on : (k n : ℕ) (xs : List ℕ) → take k xs ++ take n (drop k xs) ≡ take (k + n) xs
take_on k n xs = ap₂ (λ (xs ys : List ℕ). xs ++ ys) (sym (take-take k (k + n) xs (omega arith))) (sym (drop-take k n xs))
    ∙ take-append-drop k (take (k + n) xs)

-- as many pieces as are asked for, where more bytes are left than they take
pieces-count : (n : ℕ) (left : List ℕ) → 1400 * n < length left → length (pieces_of n left) ≡ n
pieces-count n [] l = absurd (omega (arith, l))
pieces-count zero (b ∷ bs) l = refl
pieces-count (suc n) (b ∷ bs) l = ap (λ (k : ℕ). suc k) (pieces-count n (drop 1400 (b ∷ bs)) (omega (arith, l, length-drop 1400 (b ∷ bs))))

split-length : (n : ℕ) (xs : List ℕ) → length (take n xs) + length (drop n xs) ≡ length xs
split-length n xs = sym (length-append (take n xs) (drop n xs)) ∙ ap (λ (ys : List ℕ). length ys) (take-append-drop n xs)

module _ (o : Origin) (f top : ℕ) (journal : List Entry) (b : Bool) where
  abbrev seen : Seat → Server Entry
  seen x = seen_as f top journal b (Some x)

  -- pieces, one behind the other
  data-ways : (x : Seat) (s size n : ℕ) (left come : List ℕ) → length come + length left ≤ size
      → Way o (Fetching s size come) (map ServerMapData (pieces_of n left)) (seen x) (seen x) (Fetching s size (come ++ take
      (1400 * n) left))
  data-ways x s size n [] come l =
      subst (λ (bs : List ℕ). Way o (Fetching s size come) [] (seen x) (seen x) (Fetching s size bs))
      (sym (ap (λ (bs : List ℕ). come ++ bs) (take_all (1400 * n) [] (omega arith)) ∙ append-nil come))
      (stays o (Fetching s size come) (seen x))
  data-ways x s size zero (y ∷ ys) come l =
      subst (λ (bs : List ℕ). Way o (Fetching s size come) [] (seen x) (seen x) (Fetching s size bs)) (sym (append-nil come))
      (stays o (Fetching s size come) (seen x))
  data-ways x s size (suc n) (y ∷ ys) come l =
      let left : List ℕ = y ∷ ys in
      let piece : List ℕ = take 1400 left in
      let rest : List ℕ = drop 1400 left in
      let here : Place = Fetching s size come in
      let there : Place = Fetching s size (come ++ piece) in
      let parts = split-length 1400 left in
      let one : Way o here (ServerMapData piece ∷ []) (seen x) (seen x) there = way-on o f top journal b x here there (ServerMapData piece)
      (ap other_if (le-leb (length come + length piece) size (omega (arith, l, parts)))) refl in
      let more = data-ways x s size n rest (come ++ piece) (omega (arith, l, parts, length-append come piece)) in
      let count : 1400 + 1400 * n ≡ 1400 * suc n = omega arith in
      let e : (come ++ piece) ++ take (1400 * n) rest ≡ come ++ take (1400 * suc n) left = append_assoc come piece (take (1400 * n) rest)
      ∙ ap (λ (bs : List ℕ). come ++ bs) (take_on 1400 (1400 * n) left ∙ ap (λ (k : ℕ). take k left) count) in
      subst (λ (bs : List ℕ). Way o here (ServerMapData piece ∷ map ServerMapData (pieces_of n rest)) (seen x) (seen x)
      (Fetching s size bs)) e
      (Goes-on (game_of o) dialog here there (Fetching s size ((come ++ piece) ++ take (1400 * n) rest)) (seen x) (seen x) (seen x)
      (ServerMapData piece ∷ []) (map ServerMapData (pieces_of n rest)) one more)

  -- the seat behind up to four pieces: its map goes on, or is done
  abbrev pub seat_then : Bool → ℕ → ℕ → Seat
  seat_then true s k = Loads s k
  seat_then false s k = HasMap s

  pub record MapGoes (s k : ℕ) (place : Place) (ms : List GameMsg) (x : Seat) : Type 0 where
    pub end : Place
    pub way : Way o place ms (seen (Loads s k)) (seen x) end
    pub fit : FitsAt o f journal x end

  pub way-pieces : (s k : ℕ) (place : Place) (left : List ℕ) (more : Bool) → nat_lt (4 * 1400) (length left) ≡ more
      → left ≡ drop (1400 * k) (map_at o journal s) → IsMapRead o journal s → FitsAt o f journal (Loads s k) place
      → MapGoes s k place (map ServerMapData (pieces_of 4 left) ++ cond more [] (ServerMapDone ∷ []))
      (seat_then more s (k + length (pieces_of 4 left)))
  way-pieces s k place left true is rest read fit =
      let bytes : List ℕ = map_at o journal s in
      let come : List ℕ = take (1400 * k) bytes in
      let size : ℕ = length bytes in
      let x : Seat = Loads s k in
      let y : Seat = Loads s (k + 4) in
      let count : length (pieces_of 4 left) ≡ 4 = pieces-count 4 left (omega (arith, ltb-true (4 * 1400) (length left) is)) in
      let room : length come + length left ≤ size = rw rest (omega (arith, split-length (1400 * k) bytes)) in
      let way = data-ways x s size 4 left come room in
      let sum : 1400 * k + 1400 * 4 ≡ 1400 * (k + 4) = omega arith in
      let e : come ++ take (1400 * 4) left ≡ take (1400 * (k + 4)) bytes = ap (λ (bs : List ℕ). come ++ take (1400 * 4) bs) rest
      ∙ take_on (1400 * k) (1400 * 4) bytes ∙ ap (λ (n : ℕ). take n bytes) sum in
      rw (count, append-nil (map ServerMapData (pieces_of 4 left)), fit.0) (record {
        end = place_at o journal y;
        way = subst (λ (bs : List ℕ). Way o (Fetching s size come) (map ServerMapData (pieces_of 4 left)) (seen x) (seen y)
            (Fetching s size bs)) e way;
        fit = (refl, fit.1);
      })
  way-pieces s k place left false is rest read fit =
      let bytes : List ℕ = map_at o journal s in
      let come : List ℕ = take (1400 * k) bytes in
      let size : ℕ = length bytes in
      let x : Seat = Loads s k in
      let pieces : List GameMsg = map ServerMapData (pieces_of 4 left) in
      let room : length come + length left ≤ size = rw rest (omega (arith, split-length (1400 * k) bytes)) in
      let all : come ++ take (1400 * 4) left ≡ bytes = ap (λ (bs : List ℕ). come ++ bs)
      (take_all (1400 * 4) left (ltb-false (4 * 1400) (length left) is) ∙ rest) ∙ take-append-drop (1400 * k) bytes in
      let mid : Place = Fetching s size bytes in
      let way : Way o (Fetching s size come) pieces (seen x) (seen x) mid = subst (λ (bs : List ℕ). Way o (Fetching s size come) pieces
      (seen x) (seen x) (Fetching s size bs)) all (data-ways x s size 4 left come room) in
      let thing : told_at mid ServerMapDone ≡ told.Map s (world_at o journal s) = ap (λ (b : Bool). whole_map b s bytes)
      (eq-eqb size size refl) ∙ ap (λ (r : Result WorldState MapBad). map_told s (result_ok r)) read.is_read in
      let done : Way o mid (ServerMapDone ∷ []) (seen x) (seen (HasMap s)) InPlay =
      Goes-by (game_of o) dialog mid InPlay (ServerMapDone ∷ []) (seen x) EndMap (ap (λ (t : Told WorldState Entry). t ∷ []) thing)
      (ap (λ (t : Told WorldState Entry). unless_parted t InPlay) thing) in
      rw fit.0 (record {
        end = InPlay;
        way = Goes-on (game_of o) dialog (Fetching s size come) mid InPlay (seen x) (seen x) (seen (HasMap s)) pieces (ServerMapDone ∷ [])
            way done;
        fit = (refl, tt);
      })
