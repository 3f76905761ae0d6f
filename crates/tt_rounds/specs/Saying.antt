-- The half of a round that says: what the writes of a round come to.
use Rattle.std.specs.Prelude.{◌≡◌, ℕ, ◌<◌, ◌≤◌, List, [], ◌++◌, length}
use Rattle.std.specs.Io.KnownBytes.{Appends, Keeps}
use Rattle.tt_edge.specs.Link.{LinkCounts, Rises}
use Rattle.tt_rounds.specs.Links.{LinkNow}
use Rattle.tt_rounds.specs.Chain.{Each, joined}
use Rattle.tt_rounds.specs.declared.outbox.Said.{Said}
use Rattle.tt_rounds.specs.declared.outbox.Said.TheVariants as said

-- What a round of writes does to a link's counts: none but `stalled` changes where all is written; where the link takes nothing
-- more its idle writes rise, and `stalled` is above 0; where it fails its faults rise.
abbrev pub SaidCounts : LinkCounts → LinkCounts → Said → Type 0
SaidCounts c c' said.All = c' ≡ record c { stalled = c'.stalled }
SaidCounts c c' said.Held = Rises c.idle_writes c'.idle_writes × (1 ≤ c'.stalled)
    × (c' ≡ record c { idle_writes = c'.idle_writes; stalled = c'.stalled })
SaidCounts c c' said.Failed = Rises c.faults c'.faults × (c' ≡ record c { faults = c'.faults; stalled = c'.stalled })

-- What waited, `w`, was written from the front, as far as the link took it; `w'` waits then.
pub record Flushes (w w' : List ℕ) (l l' : LinkNow) (r : Said) : Type 0 where
  pub out : List ℕ
  pub front : w ≡ out ++ w'
  pub written : Appends l.held l'.held out
  pub read : Keeps l.read l'.read
  pub counts : SaidCounts l.counts l'.counts r
  pub all : r ≡ said.All → w' ≡ []
  pub some_held : r ≡ said.Held → 0 < length w'

-- What was due was given from the front, piece by piece. What waited and what was given was written from the front, and the rest
-- of it waits.
pub record Moves {S : Type 0} (due : S → List ℕ) (says : S → List ℕ → S → Type 0) (s s' : S) (w w' : List ℕ) (l l' : LinkNow) : Type 0
  where
    pub given : List (List ℕ)
    pub said : Each says s given s'
    pub due_is : due s ≡ joined given ++ due s'
    pub out : List ℕ
    pub balance : w ++ joined given ≡ out ++ w'
    pub written : Appends l.held l'.held out
    pub read : Keeps l.read l'.read

-- and nothing is left, where all was written; some of it is, where the link takes nothing more
pub record SaysRound {S : Type 0} (due : S → List ℕ) (says : S → List ℕ → S → Type 0) (s s' : S) (w w' : List ℕ) (l l' : LinkNow)
    (r : Said) : Type 0 where
  pub moves : Moves due says s s' w w' l l'
  pub counts : SaidCounts l.counts l'.counts r
  pub all : r ≡ said.All → (w' ≡ []) × (due s' ≡ [])
  pub some_held : r ≡ said.Held → 0 < length w'
