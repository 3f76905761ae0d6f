-- A byte that is taken is the first of those that wait.
use Rattle.std.proofs.Common.{◌≡◌, ℕ, zero, suc, ◌+◌, ◌<◌, take, arith, List, [], ◌∷◌, ◌++◌, drop, refl, sym, ap, ◌∙◌, Option, Some, None}
use Rattle.std.proofs.Common.{append-nil}
use Rattle.std.specs.Prelude.{slice_get}
use Rattle.tt_client.specs.Saying.{Saying, IsSaying, ack_spelling, bytes_of, less_one, less_begun, taken}
use Rattle.tt_client.specs.declared.waiting.Ack.{Ack}

less_parts : (begun before : List ℕ) (ack : Option Ack) (behind : List ℕ) (owed : ℕ) → (ack ≡ None → behind ≡ [])
    → bytes_of (less_begun begun before ack behind owed)
    ≡ drop 1 (bytes_of (record { begun = begun; before = before; ack = ack; behind = behind; owed = owed }))
less_parts (b ∷ begun) before ack behind owed fits = refl
less_parts [] (b ∷ before) ack behind owed fits = refl
less_parts [] [] None behind owed fits = fits refl ∙ sym (ap (λ xs. drop 1 xs) (fits refl))
less_parts [] [] (Some a) behind owed fits = ap (λ xs. drop 1 (ack_spelling a) ++ (behind ++ xs)) (append-nil [])
    ∙ ap (λ xs. drop 1 (ack_spelling a) ++ xs) (append-nil behind)

pub less_one_is : (s : Saying) → IsSaying s → bytes_of (less_one s) ≡ drop 1 (bytes_of s)
less_one_is s fits = less_parts s.begun s.before s.ack s.behind s.owed fits

-- a byte more of an acknowledgement that has begun
pub less_gone : (gone : ℕ) → gone < 8 → (a : Ack) (rest : List ℕ)
    → drop (gone + 1) (ack_spelling a) ++ rest ≡ drop 1 (drop gone (ack_spelling a) ++ rest)
less_gone zero low a rest = refl
less_gone (suc zero) low a rest = refl
less_gone (suc (suc zero)) low a rest = refl
less_gone (suc (suc (suc zero))) low a rest = refl
less_gone (suc (suc (suc (suc zero)))) low a rest = refl
less_gone (suc (suc (suc (suc (suc zero))))) low a rest = refl
less_gone (suc (suc (suc (suc (suc (suc zero)))))) low a rest = refl
less_gone (suc (suc (suc (suc (suc (suc (suc zero))))))) low a rest = refl
less_gone (suc (suc (suc (suc (suc (suc (suc (suc n)))))))) low a rest = absurd (omega (arith, low))

pub less_gone_one : (gone : ℕ) → gone < 8 → (a : Ack) (before : List ℕ) (ack : Option Ack) (behind : List ℕ) (owed : ℕ)
    → (let s : Saying = record { begun = drop (gone + 1) (ack_spelling a); before = before; ack = ack; behind = behind; owed = owed } in s)
    ≡ less_begun (drop gone (ack_spelling a)) before ack behind owed
less_gone_one zero low a before ack behind owed = refl
less_gone_one (suc zero) low a before ack behind owed = refl
less_gone_one (suc (suc zero)) low a before ack behind owed = refl
less_gone_one (suc (suc (suc zero))) low a before ack behind owed = refl
less_gone_one (suc (suc (suc (suc zero)))) low a before ack behind owed = refl
less_gone_one (suc (suc (suc (suc (suc zero))))) low a before ack behind owed = refl
less_gone_one (suc (suc (suc (suc (suc (suc zero)))))) low a before ack behind owed = refl
less_gone_one (suc (suc (suc (suc (suc (suc (suc zero))))))) low a before ack behind owed = refl
less_gone_one (suc (suc (suc (suc (suc (suc (suc (suc n)))))))) low a before ack behind owed = absurd (omega (arith, low))

taken_suc : (n : ℕ) (s : Saying) → taken (suc n) s ≡ less_one (taken n s)
taken_suc zero s = refl
taken_suc (suc n) s = taken_suc n (less_one s)

pub taken_more : (n : ℕ) (s : Saying) → taken (n + 1) s ≡ less_one (taken n s)
taken_more n s = let one : n + 1 ≡ suc n = omega arith in ap (λ m. taken m s) one ∙ taken_suc n s

take_suc : (n b : ℕ) (xs : List ℕ) → slice_get (drop n xs) 0 ≡ Some b → take (suc n) xs ≡ take n xs ++ b ∷ []
take_suc zero b [] is = absurd cc
take_suc zero b (x ∷ xs) is = let same : x ≡ b = cc is in ap (λ y. y ∷ []) same
take_suc (suc n) b [] is = absurd cc
take_suc (suc n) b (x ∷ xs) is = ap (λ ys. x ∷ ys) (take_suc n b xs is)

pub take_one_more : (n b : ℕ) (xs : List ℕ) → slice_get (drop n xs) 0 ≡ Some b → take (n + 1) xs ≡ take n xs ++ b ∷ []
take_one_more n b xs is = let one : n + 1 ≡ suc n = omega arith in ap (λ m. take m xs) one ∙ take_suc n b xs is
