-- The size over the first two bytes.
use Rattle.std.proofs.Common.{◌≡◌, ℕ, ◌+◌, ◌-◌, ◌/◌, ◌%◌, List, ◌∷◌, ◌++◌, length, set, refl, ap, ◌∙◌, arith}
use Rattle.std.proofs.lemmas.List.{length-append, set-append_right}
use Rattle.std.proofs.Math.Seq.{set-append_seam}
use Rattle.tt_frame.specs.Packet.{packet}
use Rattle.tt_frame.specs.Parts.{sealed}

pub sealed_is : (old : List ℕ) (kind : ℕ) (body bytes : List ℕ) → bytes ≡ old ++ 0 ∷ 0 ∷ kind ∷ body → sealed (length old) bytes ≡ old
    ++ packet kind body
unfolding sealed
sealed_is old kind body bytes is =
    let n : length bytes - length old ≡ length body + 3 = omega (arith, ap length is, length-append old (0 ∷ 0 ∷ kind ∷ body)) in
    let lo = (length body + 3) % 256 in
    let hi = (length body + 3) / 256 % 256 in
    let one : set (old ++ 0 ∷ 0 ∷ kind ∷ body) (length old) lo ≡ old ++ lo ∷ 0 ∷ kind ∷ body = set-append_seam old 0 (0 ∷ kind ∷ body) lo in
    let k : (length old + 1) - length old ≡ 1 = omega arith in
    let two : set (old ++ lo ∷ 0 ∷ kind ∷ body) (length old + 1) hi ≡ old ++ lo ∷ hi ∷ kind ∷ body =
    set-append_right old (lo ∷ 0 ∷ kind ∷ body) (length old) (length old + 1) hi refl (omega arith)
    ∙ ap (λ (j : ℕ). old ++ set (lo ∷ 0 ∷ kind ∷ body) j hi) k in
    rw (n, is, one, two) refl
