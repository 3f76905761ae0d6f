-- A packet that is written in steps: what stands before it.
use Rattle.std.proofs.Common.{◌≡◌, ℕ, List, ◌++◌, length, take, drop, refl, sym, ap, ◌∙◌, append_assoc}
use Rattle.std.proofs.lemmas.List.{take_at, take-append-drop}

-- where a step leaves what stands before it, the steps before it did too
pub front_of_front : (old mid new more : List ℕ) → mid ≡ old ++ more → take (length mid) new ≡ mid → take (length old) new ≡ old
front_of_front old mid new more is kept =
    let behind = drop (length mid) new in
    let parts : new ≡ old ++ (more ++ behind) =
    sym (take-append-drop (length mid) new) ∙ ap (λ (r : List ℕ). r ++ behind) (kept ∙ is) ∙ append_assoc old more behind in
    rw parts (take_at old (more ++ behind) (length old) refl)
