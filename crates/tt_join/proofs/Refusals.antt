-- Refusals, one after another.
use Rattle.std.proofs.Common.{◌≡◌, ℕ, suc, ◌+◌, Bool, true, false, List, [], ◌∷◌, length, Option, Some, None, refl, sym, ◌∙◌, arith}
use Rattle.std.specs.Prelude.{◌==◌, ◌||◌, cond, is_some, nat_lt, not}
use Rattle.std.specs.List.{list_any, prefix_len}
use Rattle.tt_rules.specs.Companies.{least_free}
use Rattle.tt_rules.specs.Reasons.{◌⇒◌, ◌or_else◌}
use Rattle.tt_log.specs.Judged.{has_room, is_empty}

-- the first one holds
pub holds : (test : Bool) (code : ℕ) (later : Option ℕ) → test ≡ true → Some code ≡ ((test ⇒ code) or_else later)
holds true code later is = refl
holds false code later is = absurd cc

-- the first one doesn't hold
pub passes : (test : Bool) (code : ℕ) (later refused : Option ℕ) → test ≡ false → refused ≡ later → refused ≡ ((test ⇒ code) or_else later)
passes true code later refused is then = absurd cc
passes false code later refused is then = then

pub passed : (test : Bool) (code : ℕ) (later : Option ℕ) → test ≡ false → ((test ⇒ code) or_else later) ≡ later
passed true code later is = absurd cc
passed false code later is = refl

-- no bytes
pub empty-is : (bytes : List ℕ) → is_empty bytes ≡ (length bytes == 0)
empty-is [] = refl
empty-is (b ∷ bytes) = let more : (suc (length bytes) == 0) ≡ false = grind arith in sym more

-- ---- room for a company more

room-one : (lives : Bool) (k n : ℕ) (any : Bool) → nat_lt k n ≡ any → nat_lt (cond (not (not lives)) (1 + k) 0) (suc n) ≡ (not lives || any)
room-one true k n any is = let more : nat_lt (1 + k) (suc n) ≡ nat_lt k n = grind arith in more ∙ is
room-one false k n any is = grind arith

room-from : (live : List Bool) → nat_lt (prefix_len (λ (lives : Bool). not (not lives)) live) (length live) ≡ list_any not live
room-from [] = grind arith
room-from (lives ∷ more) = room-one lives (prefix_len (λ (one : Bool). not (not one)) more) (length more) (list_any not more) (room-from
    more)

some-where : (b : Bool) (n : ℕ) → is_some (cond b (Some n) None) ≡ b
some-where true n = refl
some-where false n = refl

-- a number is free where there is a least one that is
pub room-is : (live : List Bool) → is_some (least_free live) ≡ has_room live
room-is live = some-where (nat_lt (prefix_len (λ (lives : Bool). not (not lives)) live) (length live))
    (prefix_len (λ (lives : Bool). not (not lives)) live) ∙ room-from live
