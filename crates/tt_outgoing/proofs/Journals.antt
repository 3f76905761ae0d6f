-- The entries of a journal above a frame are its last ones.
use Rattle.std.proofs.Common.{◌≡◌, ℕ, zero, suc, ◌-◌, ◌<◌, ◌≤◌, Bool, true, false, cond, List, [], ◌∷◌, drop, length, ap, ◌∙◌, arith}
use Rattle.std.specs.Prelude.{nat_lt, slice_index_or}
use Rattle.tt_world.specs.declared.command.Entry.{Entry}
use Rattle.tt_lockstep.specs.Journal as journal
use Rattle.tt_log.specs.Origin.{Origin, above, game_of}

-- entries whose frames do not fall, from this one on
abbrev AreFrom : Origin → ℕ → List Entry → Type 0
AreFrom o n es = journal.AreRising (game_of o) n es

at_least : (o : Origin) (n : ℕ) (es : List Entry) (i : ℕ) (d : Entry) → AreFrom o n es → i < length es → n ≤ (slice_index_or es i d).frame
at_least o n [] i d are lt = absurd (omega (arith, lt))
at_least o n (e ∷ es) zero d are lt = are.0
at_least o n (e ∷ es) (suc i) d are lt = omega (arith, are.0, at_least o e.frame es i d are.1 (omega (arith, lt)))

not_above : (o : Origin) (f : ℕ) (e : Entry) (es : List Entry) → e.frame ≤ f → above o f (e ∷ es) ≡ above o f es
not_above o f e es le =
    let no : nat_lt f e.frame ≡ false = grind (arith, le) in
    ap (λ (b : Bool). cond b (e ∷ above o f es) (above o f es)) no

pub is_above : (o : Origin) (f : ℕ) (e : Entry) (es : List Entry) → f < e.frame → above o f es ≡ es → above o f (e ∷ es) ≡ e ∷ es
is_above o f e es lt rest =
    let yes : nat_lt f e.frame ≡ true = grind (arith, lt) in
    ap (λ (b : Bool). cond b (e ∷ above o f es) (above o f es)) yes ∙ ap (λ (l : List Entry). e ∷ l) rest

-- where an entry is not above a frame, none before it is
pub above_behind : (o : Origin) (n f : ℕ) (es : List Entry) (i : ℕ) (d : Entry) → AreFrom o n es → i < length es
    → (slice_index_or es i d).frame ≤ f → above o f es ≡ above o f (drop (suc i) es)
above_behind o n f [] i d are lt le = absurd (omega (arith, lt))
above_behind o n f (e ∷ es) zero d are lt le = not_above o f e es le
above_behind o n f (e ∷ es) (suc i) d are lt le =
    not_above o f e es (omega (arith, le, at_least o e.frame es i d are.1 (omega (arith, lt))))
    ∙ above_behind o e.frame f es i d are.1 (omega (arith, lt)) le

pub above_rest : (o : Origin) (n f : ℕ) (es : List Entry) (i : ℕ) (d : Entry) → AreFrom o n es → i ≤ length es → 0 < i
    → (slice_index_or es (i - 1) d).frame ≤ f → above o f es ≡ above o f (drop i es)
above_rest o n f es i d are le some low =
    let next : suc (i - 1) ≡ i = omega (arith, some) in
    above_behind o n f es (i - 1) d are (omega (arith, le, some)) low ∙ ap (λ (k : ℕ). above o f (drop k es)) next
