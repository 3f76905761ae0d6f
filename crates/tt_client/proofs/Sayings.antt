-- What is said one behind the other, and tokens that come between.
use Rattle.std.proofs.Common.{◌≡◌, ℕ, Bool, true, false, cond, List, [], ◌++◌, Option, Some, None, refl, sym, ap, ◌∙◌, append_assoc}
use Rattle.std.proofs.Common.{append-nil}
use Rattle.std.specs.Prelude.{◌==◌}
use Rattle.tt_client.specs.declared.waiting.Ack.{Ack}
use Rattle.tt_client.specs.Saying.{Saying, made_before, with_bytes, with_token}
use Rattle.tt_client.specs.Planned.{later_token}

abbrev say : List ℕ → List ℕ → Option Ack → List ℕ → ℕ → Saying
say begun before ack behind owed = record { begun = begun; before = before; ack = ack; behind = behind; owed = owed }

nothing_by : (begun before : List ℕ) (ack : Option Ack) (behind : List ℕ) (owed : ℕ)
    → with_bytes [] (say begun before ack behind owed) ≡ say begun before ack behind owed
nothing_by begun before None behind owed = ap (λ (xs : List ℕ). say begun xs None behind owed) (append-nil before)
nothing_by begun before (Some a) behind owed = ap (λ (xs : List ℕ). say begun before (Some a) xs owed) (append-nil behind)

pub say_nothing : (s : Saying) → with_bytes [] s ≡ s
say_nothing s = nothing_by s.begun s.before s.ack s.behind s.owed

more_by : (a b begun before : List ℕ) (ack : Option Ack) (behind : List ℕ) (owed : ℕ)
    → with_bytes b (with_bytes a (say begun before ack behind owed)) ≡ with_bytes (a ++ b) (say begun before ack behind owed)
more_by a b begun before None behind owed = ap (λ (xs : List ℕ). say begun xs None behind owed) (append_assoc before a b)
more_by a b begun before (Some x) behind owed = ap (λ (xs : List ℕ). say begun before (Some x) xs owed) (append_assoc behind a b)

pub say_more : (a b : List ℕ) (s : Saying) → with_bytes b (with_bytes a s) ≡ with_bytes (a ++ b) s
say_more a b s = more_by a b s.begun s.before s.ack s.behind s.owed

between_by : (t : ℕ) (b : Bool) (bytes begun before : List ℕ) (ack : Option Ack) (behind : List ℕ) (owed : ℕ)
    → (let s = say begun before ack behind owed in
    with_bytes bytes (cond b s (record s { owed = t; ack = made_before ack }))
    ≡ cond b (with_bytes bytes s) (let u = with_bytes bytes s in record u { owed = t; ack = made_before u.ack }))
between_by t true bytes begun before ack behind owed = refl
between_by t false bytes begun before None behind owed = refl
between_by t false bytes begun before (Some a) behind owed = refl

-- a token doesn't change where bytes stand
pub say_between : (t : ℕ) (bytes : List ℕ) (s : Saying) → with_bytes bytes (with_token t s) ≡ with_token t (with_bytes bytes s)
say_between t bytes s = between_by t (t == 0) bytes s.begun s.before s.ack s.behind s.owed

abbrev owing : ℕ → Saying → Saying
owing t s = record s { owed = t; ack = made_before s.ack }

twice_before : (ack : Option Ack) → made_before (made_before ack) ≡ made_before ack
twice_before None = refl
twice_before (Some a) = refl

owing_twice : (t u : ℕ) (s : Saying) → owing u (owing t s) ≡ owing u s
owing_twice t u s = ap (λ (a : Option Ack). say s.begun s.before a s.behind u) (twice_before s.ack)

owing_late : (t u : ℕ) (b : Bool) (s : Saying) → owing u (cond b s (owing t s)) ≡ owing u s
owing_late t u true s = refl
owing_late t u false s = owing_twice t u s

later_by : (t u : ℕ) (b : Bool) (s : Saying) → (u == 0) ≡ b
    → cond b (with_token t s) (owing u (with_token t s)) ≡ with_token (cond b t u) s
later_by t u true s is = refl
later_by t u false s is = owing_late t u (t == 0) s ∙ sym (ap (λ (b : Bool). cond b s (owing u s)) is)

-- of two tokens the later one counts
pub token_twice : (t u : ℕ) (s : Saying) → with_token u (with_token t s) ≡ with_token (later_token t u) s
token_twice t u s = later_by t u (u == 0) s refl
