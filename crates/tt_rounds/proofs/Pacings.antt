-- Beats, one after another.
use Rattle.std.proofs.Common.{ℕ, ◌+◌, ◌-◌, ◌*◌, ◌^◌, ◌≤◌, ◌⊎◌, inl, inr, ap, arith}
use Rattle.std.specs.Prelude.{min}
use Rattle.tt_edge.specs.Link.{LinkCounts}
use Rattle.tt_rounds.specs.Hearing.{HeardCounts}
use Rattle.tt_rounds.specs.Pacing.{IsPaced}
use Rattle.tt_rounds.specs.declared.hearing.Heard.TheVariants as heard

-- no beat yet
pub paced_none : (c : LinkCounts) → IsPaced 0 0 c c
paced_none c = inr (omega arith)

-- the count of idle reads rises, or stands at its last value
paced_idle : (beats bytes more a b d : ℕ) → a ≤ b → b ≤ d → min (b + 1) (2 ^ 64 - 1) ≤ d → 64 * beats ≤ bytes + 64 * (b - a)
    → (2 ^ 64 - 1 ≤ d) ⊎ (64 * (beats + 1) ≤ (bytes + more) + 64 * (d - a))
paced_idle beats bytes more a b d first up rose so = grind (arith, first, up, rose, so)

-- a round that goes on, and a beat behind it
pub paced_beat : (beats bytes more : ℕ) (c k k' : LinkCounts) → c.idle_reads ≤ k.idle_reads → HeardCounts k k' more heard.Going
    → IsPaced beats bytes c k → IsPaced (beats + 1) (bytes + more) c k'
paced_beat beats bytes more c k k' first (inl full) (inl last) = inl (omega (arith, last, ap (λ (x : LinkCounts). x.idle_reads) full.1))
paced_beat beats bytes more c k k' first (inl full) (inr so) = inr (omega (
  arith,
  so,
  full.0,
  ap (λ (x : LinkCounts). x.idle_reads) full.1,
))
paced_beat beats bytes more c k k' first (inr idle) (inl last) = inl (omega (arith, last, idle.0.0))
paced_beat beats bytes more c k k' first (inr idle) (inr so) = paced_idle beats bytes more c.idle_reads k.idle_reads k'.idle_reads first
    idle.0.0 idle.0.1 so

-- a round that raises no idle read, and no beat
pub paced_more : (beats bytes more : ℕ) (c k k' : LinkCounts) → k.idle_reads ≤ k'.idle_reads → IsPaced beats bytes c k
    → IsPaced beats (bytes + more) c k'
paced_more beats bytes more c k k' up (inl last) = inl (omega (arith, last, up))
paced_more beats bytes more c k k' up (inr so) = inr (omega (arith, so, up))
