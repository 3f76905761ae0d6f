-- A line of a list.
use Rattle.std.specs.Prelude.{ℕ, List}
use Rattle.tt_show.specs.declared.family.Family.{Family}

-- some bytes of a stream, and the family of its messages
pub record ListLine : Type 0 where
  pub family : Family
  pub bytes : List ℕ
