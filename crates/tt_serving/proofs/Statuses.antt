-- What a status of a run says of its causes.
use Rattle.std.proofs.Common.{◌≡◌, ℕ, Bool, true, false, refl, ap, ◌∙◌, inl, inr, arith}
use Rattle.tt_workers.specs.declared.ends.Ends.{Ends}
use Rattle.tt_workers.specs.Running.{all_well}
use Rattle.tt_serving.specs.Statuses.{status_of, IsRunStatus}

pub in-range : (m l t w : Bool) → IsRunStatus (status_of m l t w)
in-range true l t w = inr (inr (inl refl))
in-range false true t w = inr (inr (inr (inl refl)))
in-range false false true w = inr (inr (inr (inr refl)))
in-range false false false true = inl refl
in-range false false false false = inr (inl refl)

-- at 0 nothing failed and the summary was written
pub at-0 : (m l t w : Bool) → status_of m l t w ≡ 0 → (m ≡ false) × (l ≡ false) × (t ≡ false) × (w ≡ true)
at-0 true l t w e = absurd (let f : 6 ≡ 0 = e in omega (arith, f))
at-0 false true t w e = absurd (let f : 8 ≡ 0 = e in omega (arith, f))
at-0 false false true w e = absurd (let f : 9 ≡ 0 = e in omega (arith, f))
at-0 false false false true e = (refl, refl, refl, refl)
at-0 false false false false e = absurd (let f : 5 ≡ 0 = e in omega (arith, f))

-- at 5 the summary was not written whole
pub at-5 : (m l t w : Bool) → status_of m l t w ≡ 5 → w ≡ false
at-5 true l t w e = absurd (let f : 6 ≡ 5 = e in omega (arith, f))
at-5 false true t w e = absurd (let f : 8 ≡ 5 = e in omega (arith, f))
at-5 false false true w e = absurd (let f : 9 ≡ 5 = e in omega (arith, f))
at-5 false false false true e = absurd (let f : 0 ≡ 5 = e in omega (arith, f))
at-5 false false false false e = refl

-- at 8 a listener failed
pub at-8 : (m l t w : Bool) → status_of m l t w ≡ 8 → l ≡ true
at-8 true l t w e = absurd (let f : 6 ≡ 8 = e in omega (arith, f))
at-8 false true t w e = refl
at-8 false false true w e = absurd (let f : 9 ≡ 8 = e in omega (arith, f))
at-8 false false false true e = absurd (let f : 0 ≡ 8 = e in omega (arith, f))
at-8 false false false false e = absurd (let f : 5 ≡ 8 = e in omega (arith, f))

-- at 9 the ticker failed
pub at-9 : (m l t w : Bool) → status_of m l t w ≡ 9 → t ≡ true
at-9 true l t w e = absurd (let f : 6 ≡ 9 = e in omega (arith, f))
at-9 false true t w e = absurd (let f : 8 ≡ 9 = e in omega (arith, f))
at-9 false false true w e = refl
at-9 false false false true e = absurd (let f : 0 ≡ 9 = e in omega (arith, f))
at-9 false false false false e = absurd (let f : 5 ≡ 9 = e in omega (arith, f))

-- ends of which none is bad
pub well : (e : Ends) → e.memory ≡ false → e.listen_fault ≡ false → e.tick_fault ≡ false → e ≡ all_well
well e p q r =
    ap (λ (m : Bool). record { memory = m; listen_fault = e.listen_fault; tick_fault = e.tick_fault }) p
    ∙ ap (λ (l : Bool). record { memory = false; listen_fault = l; tick_fault = e.tick_fault }) q
    ∙ ap (λ (t : Bool). record { memory = false; listen_fault = false; tick_fault = t }) r
