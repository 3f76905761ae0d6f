-- What happens to a link's counts.
use Rattle.std.proofs.Common.{◌≡◌, ℕ, ◌≤◌, inl, inr, ap, ◌∙◌, subst, arith}
use Rattle.tt_edge.specs.Link.{LinkCounts, Rises}
use Rattle.tt_rounds.specs.Links.{Later}
use Rattle.tt_rounds.specs.Hearing.{HeardCounts}
use Rattle.tt_rounds.specs.Saying.{SaidCounts}
use Rattle.tt_rounds.specs.declared.hearing.Heard.{Heard}
use Rattle.tt_rounds.specs.declared.hearing.Heard.TheVariants as heard
use Rattle.tt_rounds.specs.declared.outbox.Said.{Said}
use Rattle.tt_rounds.specs.declared.outbox.Said.TheVariants as said

pub rises_within : (a b c d : ℕ) → a ≤ b → Rises b c → c ≤ d → Rises a d
rises_within a b c d first rises last = (omega (arith, first, rises.0, last), omega (arith, first, rises.0, rises.1, last))

-- counts of which only `stalled` differs
pub stalled_only : (a b : LinkCounts) → b.faults ≡ a.faults → b.ends ≡ a.ends → b.idle_reads ≡ a.idle_reads
    → b.idle_writes ≡ a.idle_writes → b ≡ record a { stalled = b.stalled }
stalled_only a b p q r s = λ i. record { faults = p i; ends = q i; idle_reads = r i; idle_writes = s i; stalled = b.stalled }

pub held_only : (a b : LinkCounts) → b.faults ≡ a.faults → b.ends ≡ a.ends → b.idle_reads ≡ a.idle_reads
    → b ≡ record a { idle_writes = b.idle_writes; stalled = b.stalled }
held_only a b p q r = λ i. record { faults = p i; ends = q i; idle_reads = r i; idle_writes = b.idle_writes; stalled = b.stalled }

pub failed_only : (a b : LinkCounts) → b.ends ≡ a.ends → b.idle_reads ≡ a.idle_reads → b.idle_writes ≡ a.idle_writes
    → b ≡ record a { faults = b.faults; stalled = b.stalled }
failed_only a b p q r = λ i. record { faults = b.faults; ends = p i; idle_reads = q i; idle_writes = r i; stalled = b.stalled }

-- counts behind writes that raised none
pub said_after : (a b c : LinkCounts) (r : Said) → b ≡ record a { stalled = b.stalled } → SaidCounts b c r → SaidCounts a c r
said_after a b c said.All same more = stalled_only a c
    (ap (λ (k : LinkCounts). k.faults) more ∙ ap (λ (k : LinkCounts). k.faults) same)
    (ap (λ (k : LinkCounts). k.ends) more ∙ ap (λ (k : LinkCounts). k.ends) same)
    (ap (λ (k : LinkCounts). k.idle_reads) more ∙ ap (λ (k : LinkCounts). k.idle_reads) same)
    (ap (λ (k : LinkCounts). k.idle_writes) more ∙ ap (λ (k : LinkCounts). k.idle_writes) same)
said_after a b c said.Held same more = (
  subst (λ (n : ℕ). Rises n c.idle_writes) (ap (λ (k : LinkCounts). k.idle_writes) same) more.0,
  more.1,
  held_only a c (ap (λ (k : LinkCounts). k.faults) more.2 ∙ ap (λ (k : LinkCounts). k.faults) same)
      (ap (λ (k : LinkCounts). k.ends) more.2 ∙ ap (λ (k : LinkCounts). k.ends) same)
      (ap (λ (k : LinkCounts). k.idle_reads) more.2 ∙ ap (λ (k : LinkCounts). k.idle_reads) same),
)
said_after a b c said.Failed same more = (
  subst (λ (n : ℕ). Rises n c.faults) (ap (λ (k : LinkCounts). k.faults) same) more.0,
  failed_only a c (ap (λ (k : LinkCounts). k.ends) more.1 ∙ ap (λ (k : LinkCounts). k.ends) same)
      (ap (λ (k : LinkCounts). k.idle_reads) more.1 ∙ ap (λ (k : LinkCounts). k.idle_reads) same)
      (ap (λ (k : LinkCounts). k.idle_writes) more.1 ∙ ap (λ (k : LinkCounts). k.idle_writes) same),
)

-- ---- counts only go up

pub later_same : (c : LinkCounts) → Later c c
later_same c = record { faults = omega arith; ends = omega arith; idle_reads = omega arith; idle_writes = omega arith }

pub later_then : (a b c : LinkCounts) → Later a b → Later b c → Later a c
later_then a b c x y = record {
  faults = omega (arith, x.faults, y.faults);
  ends = omega (arith, x.ends, y.ends);
  idle_reads = omega (arith, x.idle_reads, y.idle_reads);
  idle_writes = omega (arith, x.idle_writes, y.idle_writes);
}

later_by : (a b d : LinkCounts) → b ≡ d → a.faults ≤ d.faults → a.ends ≤ d.ends → a.idle_reads ≤ d.idle_reads
    → a.idle_writes ≤ d.idle_writes → Later a b
later_by a b d same f e i w = record {
  faults = omega (arith, f, ap (λ (k : LinkCounts). k.faults) same);
  ends = omega (arith, e, ap (λ (k : LinkCounts). k.ends) same);
  idle_reads = omega (arith, i, ap (λ (k : LinkCounts). k.idle_reads) same);
  idle_writes = omega (arith, w, ap (λ (k : LinkCounts). k.idle_writes) same);
}

pub later_heard : (a b : LinkCounts) (n : ℕ) (r : Heard) → HeardCounts a b n r → Later a b
later_heard a b n heard.Going k = elim k [
  | inl full ↦ later_by a b a full.1 (omega arith) (omega arith) (omega arith) (omega arith)
  | inr idle ↦ later_by a b (record a { idle_reads = b.idle_reads }) idle.1 (omega arith) (omega arith) idle.0.0 (omega arith)
]
later_heard a b n heard.End k = later_by a b (record a { ends = b.ends }) k.1 (omega arith) k.0.0 (omega arith) (omega arith)
later_heard a b n heard.Failed k = later_by a b (record a { faults = b.faults }) k.1 k.0.0 (omega arith) (omega arith) (omega arith)
later_heard a b n heard.Memory k = later_by a b a k (omega arith) (omega arith) (omega arith) (omega arith)

pub later_said : (a b : LinkCounts) (r : Said) → SaidCounts a b r → Later a b
later_said a b said.All k = later_by a b (record a { stalled = b.stalled }) k (omega arith) (omega arith) (omega arith) (omega arith)
later_said a b said.Held k = later_by a b (record a { idle_writes = b.idle_writes; stalled = b.stalled }) k.2 (omega arith) (omega arith)
    (omega arith) k.0.0
later_said a b said.Failed k = later_by a b (record a { faults = b.faults; stalled = b.stalled }) k.1 k.0.0 (omega arith) (omega arith)
    (omega arith)

-- writing raises no idle read
pub reads_said : (a b : LinkCounts) (r : Said) → SaidCounts a b r → b.idle_reads ≡ a.idle_reads
reads_said a b said.All k = ap (λ (k : LinkCounts). k.idle_reads) k
reads_said a b said.Held k = ap (λ (k : LinkCounts). k.idle_reads) k.2
reads_said a b said.Failed k = ap (λ (k : LinkCounts). k.idle_reads) k.1
