-- Names with a number behind them: they are texts, and the first free one is found by trying one after another.
use Rattle.std.proofs.Common.{◌≡◌, ℕ, zero, suc, ◌+◌, ◌-◌, ◌<◌, true, false, List, ◌++◌, refl, arith}
use Rattle.std.specs.Prelude.{◌^◌, codes, decimal}
use Rattle.tt_frame.specs.Text.{IsText}
use Rattle.tt_frame.proofs.TextLaws.{IsText-from_is_plain}
use Rattle.tt_log.specs.Table.{Table}
use Rattle.tt_log.specs.Names.{is_taken, numbered, first_free_name}
use Rattle.tt_log.proofs.GivenNames.{text-append, decimal-text}

-- ---- a name with a number is a text

pub text-numbered : (name : List ℕ) (i : ℕ) → i < 2 ^ 64 → IsText name → IsText (numbered name i)
text-numbered name i few is = text-append (name ++ codes " #") (decimal i)
    (text-append name (codes " #") is (IsText-from_is_plain (codes " #") refl)) (decimal-text i few)

-- ---- one step of the search

-- where there is one step or more, the first one looks at the first name
step-free : (t : Table) (conn : ℕ) (name : List ℕ) (i n k : ℕ) → n ≡ suc k → is_taken t conn (numbered name i) ≡ false
    → first_free_name t conn name i n ≡ numbered name i
step-free t conn name i zero k is free = refl
step-free t conn name i (suc n) k is free = rw (free, first_free_name) refl

step-taken : (t : Table) (conn : ℕ) (name : List ℕ) (i n k : ℕ) → n ≡ suc k → is_taken t conn (numbered name i) ≡ true
    → first_free_name t conn name i n ≡ first_free_name t conn name (i + 1) k
step-taken t conn name i zero k is taken = absurd cc
step-taken t conn name i (suc n) k is taken = let same : n ≡ k = omega (arith, is) in rw (taken, first_free_name, same) refl

pub found-free : (t : Table) (conn : ℕ) (name : List ℕ) (tried n : ℕ) → tried < n
    → is_taken t conn (numbered name (tried + 1)) ≡ false → first_free_name t conn name (tried + 1) (n - tried) ≡ numbered name (tried + 1)
found-free t conn name tried n more free = step-free t conn name (tried + 1) (n - tried) (n - (tried + 1)) (omega (arith, more)) free

pub found-taken : (t : Table) (conn : ℕ) (name : List ℕ) (tried n : ℕ) → tried < n
    → is_taken t conn (numbered name (tried + 1)) ≡ true
    → first_free_name t conn name (tried + 1) (n - tried) ≡ first_free_name t conn name (tried + 1 + 1) (n - (tried + 1))
found-taken t conn name tried n more taken = step-taken t conn name (tried + 1) (n - tried) (n - (tried + 1)) (omega (arith, more)) taken
