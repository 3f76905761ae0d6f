-- What is known of a link, and how its counts go up.
use Rattle.std.specs.Prelude.{ℕ, ◌≤◌, List, Option}
use Rattle.tt_edge.specs.Link.{LinkCounts}

-- its counts, and the bytes that it may tell
pub record LinkNow : Type 0 where
  pub counts : LinkCounts
  pub left : Option (List ℕ)
  pub read : Option (List ℕ)
  pub held : Option (List ℕ)

abbrev pub link_now : {L : Type 0} → (L → LinkCounts) → (L → Option (List ℕ)) → (L → Option (List ℕ)) → (L → Option (List ℕ)) → L → LinkNow
link_now counts left read held link = record { counts = counts link; left = left link; read = read link; held = held link }

-- counts that only went up
pub record Later (before after : LinkCounts) : Type 0 where
  pub faults : before.faults ≤ after.faults
  pub ends : before.ends ≤ after.ends
  pub idle_reads : before.idle_reads ≤ after.idle_reads
  pub idle_writes : before.idle_writes ≤ after.idle_writes
