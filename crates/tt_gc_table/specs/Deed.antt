-- What a rule does: the table after it, and the steps that tell it, in order.
use Rattle.std.specs.Prelude.{ℕ, Bool, true, false, List, [], ◌∷◌, ◌++◌, filter, Option}
use Rattle.tt_coord.specs.declared.coord.CoordMsg.{CoordMsg}
use Rattle.tt_attempts.specs.declared.attempt.Heard.{Heard}
use Rattle.tt_gc_table.specs.Table.{Table, is_live}

-- what a step tells: a message; or that a connection ends, which is told nothing by this; or what stands in the book alone:
-- that the attempt with this token begins, or hears something
pub data What : Type 0 where
  msg : CoordMsg → What
  end : What
  begins : (token : List ℕ) → What
  hears : (token : List ℕ) → Heard → What

pub record Step : Type 0 where
  pub to : List ℕ
  pub what : What

pub record Deed : Type 0 where
  pub table : Table
  pub told : List Step

-- one rule, and then another
infixl 20 ◌▹◌
abbrev pub ◌▹◌ : Deed → (Table → Deed) → Deed
d ▹ rule = let next = rule d.table in record { table = next.table; told = d.told ++ next.told }

-- a rule that holds only in a case
abbrev pub where_ : Bool → (Table → Deed) → Table → Deed
where_ true rule t = rule t
where_ false rule t = record { table = t; told = [] }

-- one rule in a case, and another else
abbrev pub either : Bool → (Table → Deed) → (Table → Deed) → Table → Deed
either true rule other t = rule t
either false rule other t = other t

-- a rule about what is there, if it is
abbrev pub given : {A : Type 0} → Option A → (A → Table → Deed) → Table → Deed
given Option.None rule t = record { table = t; told = [] }
given (Option.Some x) rule t = rule x t

-- a rule for each of these, one after the other
abbrev pub each : {A : Type 0} → List A → (A → Table → Deed) → Table → Deed
each [] rule t = record { table = t; told = [] }
each (x ∷ xs) rule t = rule x t ▹ each xs rule

-- nothing is told
abbrev pub becomes : Table → Deed
becomes t = record { table = t; told = [] }

-- those of these connections that are live are told a message; one that stands there twice is told it twice
abbrev pub tells : List ℕ → CoordMsg → Table → Deed
tells to m t = record { table = t; told = record { to = filter (is_live t) to; what = msg m } ∷ [] }

-- what stands in the book alone
abbrev pub notes : What → Table → Deed
notes w t = record { table = t; told = record { to = []; what = w } ∷ [] }
