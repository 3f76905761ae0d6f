-- What a test that came out says, and what makes it come out.
use Rattle.std.proofs.Common.{◌≡◌, ℕ, ◌≤◌, ◌<◌, Bool, true, false, refl, arith, ◌⊎◌, inl, inr}
use Rattle.std.specs.Prelude.{◌&&◌, ◌||◌, ◌==◌, nat_le, nat_lt}

pub and_both : (a b : Bool) → a && b ≡ true → (a ≡ true) × (b ≡ true)
and_both true b e = (refl, e)
and_both false b e = absurd cc

pub both_and : (a b : Bool) → a ≡ true → b ≡ true → a && b ≡ true
both_and true b _ e = e
both_and false b e _ = e

pub or_either : (a b : Bool) → a || b ≡ true → (a ≡ true) ⊎ (b ≡ true)
or_either true b e = inl refl
or_either false b e = inr e

pub true_or_false : (b : Bool) → (b ≡ true) ⊎ (b ≡ false)
true_or_false true = inl refl
true_or_false false = inr refl

pub le_of_test : (a b : ℕ) → nat_le a b ≡ true → a ≤ b
le_of_test a b e = grind arith

pub test_of_le : (a b : ℕ) → a ≤ b → nat_le a b ≡ true
test_of_le a b le = grind arith

pub lt_of_test : (a b : ℕ) → nat_lt a b ≡ true → a < b
lt_of_test a b e = grind arith

pub test_of_lt : (a b : ℕ) → a < b → nat_lt a b ≡ true
test_of_lt a b lt = grind arith

pub le_of_no_test : (a b : ℕ) → nat_lt a b ≡ false → b ≤ a
le_of_no_test a b e = grind arith

pub no_test_of_le : (a b : ℕ) → b ≤ a → nat_lt a b ≡ false
no_test_of_le a b le = grind arith

pub eq_of_test : (a b : ℕ) → (a == b) ≡ true → a ≡ b
eq_of_test a b e = grind arith
