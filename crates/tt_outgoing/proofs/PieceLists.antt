-- Pieces of a map.
use Rattle.std.proofs.Common.{◌≡◌, ◌≢◌, ℕ, zero, suc, ◌+◌, ◌-◌, ◌*◌, ◌<◌, ◌≤◌, Bool, List, [], ◌∷◌, ◌++◌, map, length, take}
use Rattle.std.proofs.Common.{drop, min, refl, sym, ap, ◌∙◌, arith, append_assoc}
use Rattle.std.specs.Prelude.{nat_lt, if◌then◌else◌}
use Rattle.std.proofs.lemmas.List.{append-nil, drop-take, drop_min, take-take, take_all, take_min}
use Rattle.tt_game.specs.declared.message.GameMsg.{GameMsg}
use Rattle.tt_game.specs.declared.message.GameMsg.TheVariants.{ServerMapData, ServerMapDone}
use Rattle.tt_log.specs.Tellings.{piece_messages}
use Rattle.tt_log.specs.Tick.{pieces_of}
use Rattle.tt_outgoing.specs.Sources.{four_pieces}

-- no pieces of bytes
pub no_pieces : (bytes : List ℕ) → pieces_of 0 bytes ≡ []
no_pieces [] = refl
no_pieces (b ∷ bytes) = refl

-- the first pieces are those of the front that is as long as they may be
pieces_front : (k n : ℕ) (left : List ℕ) → k * 1400 ≤ n → pieces_of k (take n left) ≡ pieces_of k left
pieces_front zero n left le = no_pieces (take n left) ∙ sym (no_pieces left)
pieces_front (suc k) n [] le = ap (λ (l : List ℕ). pieces_of (suc k) l) (take_all n [] (omega arith))
pieces_front (suc k) zero (b ∷ bs) le = absurd (omega (arith, le))
pieces_front (suc k) (suc n) (b ∷ bs) le =
    let m : ℕ = suc n - 1400 in
    let whole : suc n ≡ 1400 + m = omega (arith, le) in
    let others = ap (λ (i : ℕ). drop 1400 (take i (b ∷ bs))) whole ∙ drop-take 1400 m (b ∷ bs) in
    ap (λ (l : List ℕ). l ∷ pieces_of k (drop 1400 (take (suc n) (b ∷ bs)))) (take-take 1400 (suc n) (b ∷ bs) (omega (arith, le)))
    ∙ ap (λ (l : List ℕ). take 1400 (b ∷ bs) ∷ pieces_of k l) others
    ∙ ap (λ (l : List (List ℕ)). take 1400 (b ∷ bs) ∷ l) (pieces_front k m (drop 1400 (b ∷ bs)) (omega (arith, le)))

-- one piece more
pieces_step : (i : ℕ) (rest : List ℕ) → i < 4 → length rest ≢ 0
    → pieces_of (4 - i) rest ≡ take 1400 rest ∷ pieces_of (4 - (i + 1)) (drop 1400 rest)
pieces_step i [] lt ne = absurd (ne refl)
pieces_step i (b ∷ bs) lt ne =
    let e : 4 - i ≡ suc (4 - (i + 1)) = omega (arith, lt) in ap (λ (k : ℕ). pieces_of k (b ∷ bs)) e

pub data_step : (bytes rest piece others : List ℕ) (messages after : List GameMsg) (i size : ℕ)
    → map ServerMapData (pieces_of 4 bytes) ≡ messages ++ map ServerMapData (pieces_of (4 - i) rest)
    → i < 4 → length rest ≢ 0 → size ≡ min (length rest) 1400 → piece ≡ take size rest → others ≡ drop size rest
    → after ≡ messages ++ ServerMapData piece ∷ []
    → map ServerMapData (pieces_of 4 bytes) ≡ after ++ map ServerMapData (pieces_of (4 - (i + 1)) others)
data_step bytes rest piece others messages after i size was lt ne size_is piece_is others_is after_is =
    let least : size ≡ min 1400 (length rest) = omega (arith, size_is) in
    let front : piece ≡ take 1400 rest = piece_is ∙ ap (λ (n : ℕ). take n rest) least ∙ take_min 1400 rest in
    let back : others ≡ drop 1400 rest = others_is ∙ ap (λ (n : ℕ). drop n rest) least ∙ drop_min 1400 rest in
    let more : List (List ℕ) = pieces_of (4 - (i + 1)) others in
    was ∙ ap (λ (l : List (List ℕ)). messages ++ map ServerMapData l) (pieces_step i rest lt ne)
    ∙ ap (λ (l : List ℕ). messages ++ ServerMapData l ∷ map ServerMapData (pieces_of (4 - (i + 1)) (drop 1400 rest))) (sym front)
    ∙ ap (λ (l : List ℕ). messages ++ ServerMapData piece ∷ map ServerMapData (pieces_of (4 - (i + 1)) l)) (sym back)
    ∙ sym (append_assoc messages (ServerMapData piece ∷ []) (map ServerMapData more))
    ∙ ap (λ (l : List GameMsg). l ++ map ServerMapData more) (sym after_is)

pub data_all : (bytes rest : List ℕ) (messages : List GameMsg) (i : ℕ)
    → map ServerMapData (pieces_of 4 bytes) ≡ messages ++ map ServerMapData (pieces_of (4 - i) rest) → 4 - i ≡ 0
    → messages ≡ map ServerMapData (pieces_of 4 bytes)
data_all bytes rest messages i was e =
    sym (was ∙ ap (λ (k : ℕ). messages ++ map ServerMapData (pieces_of k rest)) e
    ∙ ap (λ (l : List (List ℕ)). messages ++ map ServerMapData l) (no_pieces rest) ∙ append-nil messages)

-- and behind the last one, that the map is done
pub pieces_all : (next left : List ℕ) (more : Bool) (data_messages after : List GameMsg) → data_messages ≡ map ServerMapData (pieces_of 4
    next)
    → next ≡ take four_pieces left → more ≡ nat_lt four_pieces (length left)
    → after ≡ data_messages ++ (if more then [] else ServerMapDone ∷ []) → after ≡ piece_messages left
pieces_all next left more messages after data_is next_is more_is after_is =
    after_is ∙ ap (λ (l : List GameMsg). l ++ (if more then [] else ServerMapDone ∷ [])) data_is
    ∙ ap (λ (l : List ℕ). map ServerMapData (pieces_of 4 l) ++ (if more then [] else ServerMapDone ∷ [])) next_is
    ∙ ap (λ (l : List (List ℕ)). map ServerMapData l ++ (if more then [] else ServerMapDone ∷ [])) (pieces_front 4 four_pieces left (omega
    arith))
    ∙ ap (λ (b : Bool). map ServerMapData (pieces_of 4 left) ++ (if b then [] else ServerMapDone ∷ [])) more_is
