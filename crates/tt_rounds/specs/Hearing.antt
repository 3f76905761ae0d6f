-- The half of a round that hears: what the reads of a round come to.
use Rattle.std.specs.Prelude.{◌≡◌, ℕ, ◌≤◌, ◌⊎◌, List, [], ◌++◌, length}
use Rattle.std.specs.Io.KnownBytes.{Appends, Keeps}
use Rattle.tt_edge.specs.Link.{LinkCounts, Rises}
use Rattle.tt_rounds.specs.Links.{LinkNow}
use Rattle.tt_rounds.specs.Chain.{Each, joined}
use Rattle.tt_rounds.specs.declared.hearing.Heard.{Heard}
use Rattle.tt_rounds.specs.declared.hearing.Heard.TheVariants as heard

-- What a round of reads does to a link's counts, and why it ended: 64 reads gave bytes, at least one each, or a read answered
-- Nothing; a read told the end; a read failed. `bytes` is how many bytes were heard.
abbrev pub HeardCounts : LinkCounts → LinkCounts → ℕ → Heard → Type 0
HeardCounts c c' bytes heard.Going = ((64 ≤ bytes) × (c' ≡ c))
    ⊎ (Rises c.idle_reads c'.idle_reads × (c' ≡ record c { idle_reads = c'.idle_reads }))
HeardCounts c c' bytes heard.End = Rises c.ends c'.ends × (c' ≡ record c { ends = c'.ends })
HeardCounts c c' bytes heard.Failed = Rises c.faults c'.faults × (c' ≡ record c { faults = c'.faults })
HeardCounts c c' bytes heard.Memory = c' ≡ c

-- nothing that was read is lost, unless memory ran out
abbrev pub IsLost : Heard → List ℕ → Type 0
IsLost heard.Memory lost = Unit {0}
IsLost other lost = lost ≡ []

-- The pieces were read and heard, one behind the other. Where memory ran out, one more was read, and was not heard.
pub record HearsRound {S : Type 0} (hears : S → List ℕ → S → Type 0) (s s' : S) (l l' : LinkNow) (r : Heard) : Type 0 where
  pub pieces : List (List ℕ)
  pub heard : Each hears s pieces s'
  pub lost : List ℕ
  pub none_lost : IsLost r lost
  pub read : Appends l.read l'.read (joined pieces ++ lost)
  pub held : Keeps l.held l'.held
  pub counts : HeardCounts l.counts l'.counts (length (joined pieces)) r
