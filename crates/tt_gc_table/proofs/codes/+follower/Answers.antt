use Rattle.std.proofs.Common.{◌≡◌, ◌≤◌, ℕ, List, [], ◌∷◌, None, length, refl, arith}
use Rattle.tt_gc_table.specs.Codes.{follower}
use Rattle.tt_gc_table.proofs.codes.+follower.Goals as goal

none_behind : (xs : List ℕ) (c : ℕ) → length xs ≤ 1 → None ≡ follower xs c
none_behind [] c short = refl
none_behind (x ∷ []) c short = refl
none_behind (x ∷ y ∷ more) c short = absurd (omega (arith, short))

pub returns-in-len1 : goal.returns-in-len1
returns-in-len1 t c = none_behind c.args.alphabet.now c.args.byte (omega arith)
