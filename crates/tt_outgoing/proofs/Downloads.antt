-- The bytes of a map that stand ready, and those that are not written yet.
use Rattle.std.proofs.Common.{◌≡◌, ℕ, ◌<◌, ◌≤◌, ◌⊎◌, inl, inr, List, [], ◌++◌, length, take, drop, sym, ap, ◌∙◌, arith}
use Rattle.std.proofs.lemmas.List.{append-nil, drop-drop, drop_all, drop_at, length-take-le, take-append-drop, take-append-le, take-take}
use Rattle.std.proofs.lemmas.List.{take_all, take_at}
use Rattle.std.proofs.Math.Nat.{eq-or-lt_of_le}
use Rattle.tt_map.specs.Layout.{map_of}
use Rattle.tt_map.specs.Writing.{Writing, given, size_given, unwritten, wrote}

given_length : (room : ℕ) (w : Writing) → length (given room w) ≡ size_given room w
given_length room w = length-take-le (size_given room w) (unwritten w) (omega arith)

-- what is not written behind a write
unwritten_behind : (room : ℕ) (w : Writing) → unwritten (wrote room w) ≡ drop (size_given room w) (unwritten w)
unwritten_behind room w = sym (drop-drop (size_given room w) w.written (map_of w.world))

-- what a write gives stands in front of what is not written yet
pub filled_front : (room : ℕ) (w : Writing) (more : List ℕ)
    → take (size_given room w) (given room w ++ more) ++ unwritten (wrote room w) ≡ unwritten w
filled_front room w more =
    ap (λ (l : List ℕ). l ++ unwritten (wrote room w)) (take_at (given room w) more (size_given room w) (given_length room w))
    ∙ ap (λ (l : List ℕ). given room w ++ l) (unwritten_behind room w) ∙ take-append-drop (size_given room w) (unwritten w)

-- where it gives less than there is room for, nothing is left
pub filled_all : (room : ℕ) (w : Writing) → size_given room w < room → unwritten (wrote room w) ≡ []
filled_all room w lt = unwritten_behind room w ∙ drop_all (size_given room w) (unwritten w) (omega (arith, lt))

-- the front that stands ready, and the rest behind it

front_by : (size filled : ℕ) (ahead rest : List ℕ) → length ahead ≡ size → (filled ≡ size) ⊎ (rest ≡ []) → filled ≤ size
    → take filled ahead ≡ take size (take filled ahead ++ rest)
front_by size filled ahead rest e (inl full) le =
    sym (take_at (take filled ahead) rest size (length-take-le filled ahead (omega (arith, e, le)) ∙ full))
front_by size filled ahead rest e (inr none) le =
    sym (ap (λ (l : List ℕ). take size (take filled ahead ++ l)) none ∙ ap (take size) (append-nil (take filled ahead))
    ∙ take_all size (take filled ahead) (omega (arith, le, e, length-take-le filled ahead (omega (arith, e, le)))))

rest_by : (size filled : ℕ) (ahead rest : List ℕ) → length ahead ≡ size → (filled ≡ size) ⊎ (rest ≡ []) → filled ≤ size
    → rest ≡ drop size (take filled ahead ++ rest)
rest_by size filled ahead rest e (inl full) le =
    sym (drop_at (take filled ahead) rest size (length-take-le filled ahead (omega (arith, e, le)) ∙ full))
rest_by size filled ahead rest e (inr none) le =
    none ∙ sym (ap (λ (l : List ℕ). drop size (take filled ahead ++ l)) none ∙ ap (drop size) (append-nil (take filled ahead))
    ∙ drop_all size (take filled ahead) (omega (arith, le, e, length-take-le filled ahead (omega (arith, e, le)))))

full_or_all : (size filled : ℕ) (rest : List ℕ) → filled ≤ size → (filled < size → rest ≡ []) → (filled ≡ size) ⊎ (rest ≡ [])
full_or_all size filled rest le last = elim (eq-or-lt_of_le le) [ inl e ↦ inl e | inr lt ↦ inr (last lt) ]

pub front_is : (size filled : ℕ) (ahead rest : List ℕ) → length ahead ≡ size → filled ≤ size → (filled < size → rest ≡ [])
    → take filled ahead ≡ take size (take filled ahead ++ rest)
front_is size filled ahead rest e le last = front_by size filled ahead rest e (full_or_all size filled rest le last) le

pub rest_is : (size filled : ℕ) (ahead rest : List ℕ) → length ahead ≡ size → filled ≤ size → (filled < size → rest ≡ [])
    → rest ≡ drop size (take filled ahead ++ rest)
rest_is size filled ahead rest e le last = rest_by size filled ahead rest e (full_or_all size filled rest le last) le

-- the room holds what was written into it
pub written_front : (n size : ℕ) (out items : List ℕ) → n ≤ length out → length out ≡ size
    → take n (take size (out ++ drop (length out) items)) ≡ take n out
written_front n size out items le e =
    take-take n size (out ++ drop (length out) items) (omega (arith, le, e)) ∙ take-append-le n out (drop (length out) items) le
