-- The queue of downloads by itself, and the tables in which names are free or taken.
use Rattle.std.specs.Prelude.{ℕ, zero, suc, min, List, Option, None, slice_get}
use Rattle.tt_log.specs.Member.{Member}
use Rattle.tt_log.specs.Table.{Table}
use Rattle.tt_members.specs.declared.queue.Place.{Place}
use Rattle.tt_members.specs.declared.queue.Place.TheVariants.{Begin, Wait}

-- ---- the queue

-- the connections in their order, and for how many more there is room
pub record Queued : Type 0 where
  pub conns : List ℕ
  pub room : ℕ

-- what one is told that stands behind so many: the first one downloads, each other one waits
abbrev pub behind_so_many : ℕ → Place
behind_so_many zero = Begin
behind_so_many (suc before) = Wait (min (suc before) 255)

-- whose turn it becomes where a place gets free: the second one's, where it was the first place
abbrev pub next_turn : Option ℕ → List ℕ → Option ℕ
next_turn (Option.Some zero) conns = slice_get conns 1
next_turn (Option.Some (suc before)) conns = None
next_turn None conns = None

-- ---- names

-- a table with these members
abbrev pub seated : Table → List Member → Table
seated t ms = record t { members = ms }
