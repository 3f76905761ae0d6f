-- What events add to the journal.
use Rattle.std.proofs.Common.{◌≡◌, ◌⊎◌, inl, inr, ℕ, ◌+◌, ◌≤◌, ◌<◌, List, [], ◌∷◌, ◌++◌, refl, ap, sym, ◌∙◌, true, false, Bool, arith}
use Rattle.std.proofs.Common.{append-nil, append_assoc}
use Rattle.std.specs.Prelude.{fold, map, flat_map, take}
use Rattle.std.proofs.lemmas.List.Sums.{fold-append}
use Rattle.tt_edge.specs.declared.event.Event.{Event}
use Rattle.tt_edge.specs.declared.event.Event.TheVariants.{Open, Packet, Broken, Shut, Tick, Stop}
use Rattle.tt_world.specs.declared.command.Command.{Command}
use Rattle.tt_world.specs.declared.command.Entry.{Entry}
use Rattle.tt_lockstep.specs.Journal.{AreAbove, AreUpTo, AreRising}
use Rattle.tt_lockstep.proofs.Journals.{AreUpTo-more, AreAbove-less, AreAbove-append, world-stable}
use Rattle.tt_log.specs.Origin.{Origin, IsJournal, game_of, world_at}
use Rattle.tt_log.specs.Table.{Table, first}
use Rattle.tt_log.specs.Member.{Member}
use Rattle.tt_log.specs.Deed.{where_}
use Rattle.tt_log.specs.Tick.{stamps, own_entry, entry_of, ticked}
use Rattle.tt_log.specs.Events.{by_event, taken, stepped, takes}
use Rattle.tt_log.specs.History.{table_of, journal_of, AreFor}
use Rattle.tt_log.proofs.Clock.{SameClock, SameRun, Ticked, ticked-is, event-same, taken-run}
use Rattle.tt_log.proofs.Refusing.{table-snoc}

-- ---- stamps are for the frame above the permitted one

own-for : (f : ℕ) (cs : List Command) → AreFor f (map (own_entry f) cs)
own-for f [] = tt
own-for f (c ∷ cs) = (refl, own-for f cs)

waiting-for : (f : ℕ) (m : Member) (cs : List (ℕ × Command)) → AreFor f (map (entry_of f m) cs)
waiting-for f m [] = tt
waiting-for f m (c ∷ cs) = (refl, waiting-for f m cs)

for-append : (f : ℕ) (xs ys : List Entry) → AreFor f xs → AreFor f ys → AreFor f (xs ++ ys)
for-append f [] ys a b = b
for-append f (x ∷ xs) ys a b = (a.0, for-append f xs ys a.1 b)

members-for : (f : ℕ) (ms : List Member) → AreFor f (flat_map (λ m. map (entry_of f m) (take 2 m.waiting)) ms)
members-for f [] = tt
members-for f (m ∷ ms) = for-append f (map (entry_of f m) (take 2 m.waiting)) (flat_map (λ m. map (entry_of f m) (take 2 m.waiting)) ms)
    (waiting-for f m (take 2 m.waiting)) (members-for f ms)

pub stamps-for : (t : Table) → AreFor (t.top + 1) (stamps t)
stamps-for t = for-append (t.top + 1) (map (own_entry (t.top + 1)) t.own) (flat_map (λ m. map (entry_of (t.top + 1) m) (take 2 m.waiting))
    t.members) (own-for (t.top + 1) t.own) (members-for (t.top + 1) t.members)

-- ---- what an event adds

-- the permitted frame does not fall, and what is added to the journal is for the frame above it
pub record Adds (t u : Table) : Type 0 where
  pub rises : t.top ≤ u.top
  pub more : List Entry
  pub journal : u.journal ≡ t.journal ++ more
  pub are_for : AreFor (t.top + 1) more

adds-none : (t u : Table) → SameRun t u → Adds t u
adds-none t u same = record {
  rises = omega (arith, same.top);
  more = [];
  journal = same.journal ∙ sym (append-nil t.journal);
  are_for =
      tt;
}

top-rises : (o : Origin) (t u : Table) → ((t.top < t.frame + 1) × (u.top ≡ t.frame + 1 + o.setup.frame_freq))
    ⊎ ((t.frame + 1 ≤ t.top) × (u.top ≡ t.top)) → t.top ≤ u.top
top-rises o t u (inl is) = omega (arith, is.0, is.1)
top-rises o t u (inr is) = omega (arith, is.1)

ticked-adds : (o : Origin) (t u : Table) → Ticked o t u → Adds t u
ticked-adds o t u is = record { rises = top-rises o t u is.top; more = stamps t; journal = is.journal; are_for = stamps-for t }

adds-run : (t u v : Table) → Adds t u → SameRun u v → Adds t v
adds-run t u v a same = record {
  rises = omega (arith, a.rises, same.top);
  more = a.more;
  journal = same.journal ∙ a.journal;
  are_for =
      a.are_for;
}

clock-adds : (t u : Table) → SameClock t u → Adds t u
clock-adds t u same = adds-none t u (record { frame = same.frame; top = same.top; journal = same.journal })

event-adds : (o : Origin) (e : Event) (t : Table) → Adds t (by_event o e t).table
event-adds o Tick t = ticked-adds o t (ticked o t).table (ticked-is o t)
event-adds o (Open door peer) t = clock-adds t (by_event o (Open door peer) t).table (event-same o (Open door peer) t refl)
event-adds o (Packet conn kind body) t = clock-adds t (by_event o (Packet conn kind body) t).table
    (event-same o (Packet conn kind body) t refl)
event-adds o (Broken conn) t = clock-adds t (by_event o (Broken conn) t).table (event-same o (Broken conn) t refl)
event-adds o (Shut conn) t = clock-adds t (by_event o (Shut conn) t).table (event-same o (Shut conn) t refl)
event-adds o Stop t = adds-none t t (record { frame = refl; top = refl; journal = refl })

taken-adds : (b : Bool) (o : Origin) (e : Event) (t : Table) → Adds t (where_ b (taken o e) t).table
taken-adds true o e t = adds-run t (by_event o e t).table (taken o e t).table (event-adds o e t) (taken-run o e t)
taken-adds false o e t = adds-none t t (record { frame = refl; top = refl; journal = refl })

pub step-adds : (o : Origin) (t : Table) (e : Event) → Adds t (stepped o t e)
step-adds o t e = taken-adds (takes t e) o e t

-- ---- what events add

pub for-above : (o : Origin) (n : ℕ) (es : List Entry) → AreFor (n + 1) es → AreAbove (game_of o) n es
for-above o n [] are = tt
for-above o n (e ∷ es) are = (omega (arith, are.0), for-above o n es are.1)

pub record Grows (o : Origin) (t u : Table) : Type 0 where
  pub rises : t.top ≤ u.top
  pub more : List Entry
  pub journal : u.journal ≡ t.journal ++ more
  pub are_above : AreAbove (game_of o) t.top more

pub from-grows : (o : Origin) (es : List Event) (t : Table) → Grows o t (fold (stepped o) t es)
from-grows o [] t = record { rises = omega arith; more = []; journal = sym (append-nil t.journal); are_above = tt }
from-grows o (e ∷ es) t =
    let u : Table = stepped o t e in
    let a : Adds t u = step-adds o t e in
    let g : Grows o u (fold (stepped o) u es) = from-grows o es u in
    record {
      rises = omega (arith, a.rises, g.rises);
      more = a.more ++ g.more;
      journal = g.journal ∙ ap (λ (xs : List Entry). xs ++ g.more) a.journal ∙ append_assoc t.journal a.more g.more;
      are_above = AreAbove-append (game_of o) t.top a.more g.more (for-above o t.top a.more a.are_for)
          (AreAbove-less (game_of o) t.top u.top g.more g.are_above a.rises);
    }

-- ---- the journal does not fall

rising-for : (o : Origin) (n k : ℕ) (es : List Entry) → AreFor k es → n ≤ k → AreRising (game_of o) n es
rising-for o n k [] are l = tt
rising-for o n k (e ∷ es) are l = (omega (arith, are.0, l), rising-for o e.frame k es are.1 (omega (arith, are.0)))

rising-append : (o : Origin) (n k : ℕ) (xs ys : List Entry) → AreRising (game_of o) n xs → AreUpTo (game_of o) k xs → AreFor k ys → n ≤ k
    → AreRising (game_of o) n (xs ++ ys)
rising-append o n k [] ys r u are l = rising-for o n k ys are l
rising-append o n k (x ∷ xs) ys r u are l = (r.0, rising-append o x.frame k xs ys r.1 u.1 are u.0)

up_to-for : (o : Origin) (k : ℕ) (es : List Entry) → AreFor k es → AreUpTo (game_of o) k es
up_to-for o k [] are = tt
up_to-for o k (e ∷ es) are = (omega (arith, are.0), up_to-for o k es are.1)

up_to-append : (o : Origin) (k : ℕ) (xs ys : List Entry) → AreUpTo (game_of o) k xs → AreUpTo (game_of o) k ys
    → AreUpTo (game_of o) k (xs ++ ys)
up_to-append o k [] ys a b = b
up_to-append o k (x ∷ xs) ys a b = (a.0, up_to-append o k xs ys a.1 b)

-- over the journal and the permitted frame alone
pub record IsStamped (o : Origin) (journal : List Entry) (top : ℕ) : Type 0 where
  pub rising : IsJournal o journal
  pub stamped : AreUpTo (game_of o) (top + 1) journal

adds-stamped : (o : Origin) (t u : Table) → Adds t u → IsStamped o t.journal t.top → IsStamped o u.journal u.top
adds-stamped o t u a kept = rw a.journal (record {
  rising = rising-append o 0 (t.top + 1) t.journal a.more kept.rising kept.stamped a.are_for (omega arith);
  stamped = AreUpTo-more (game_of o) (t.top + 1) (u.top + 1) (t.journal ++ a.more) (up_to-append o (t.top + 1) t.journal a.more kept.stamped
      (up_to-for o (t.top + 1) a.more a.are_for)) (omega (arith, a.rises));
})

from-stamped : (o : Origin) (es : List Event) (t : Table) → IsStamped o t.journal t.top → IsStamped o (fold (stepped o) t es).journal
    (fold (stepped o) t es).top
from-stamped o [] t kept = kept
from-stamped o (e ∷ es) t kept = from-stamped o es (stepped o t e) (adds-stamped o t (stepped o t e) (step-adds o t e) kept)

pub is-stamped : (o : Origin) (es : List Event) → IsStamped o (journal_of o es) (table_of o es).top
is-stamped o es = from-stamped o es (first o) (record { rising = tt; stamped = tt })

pub event-adds-for : (o : Origin) (es : List Event) (e : Event) → (more : List Entry) × (journal_of o (es ++ e ∷ []) ≡ journal_of o es
    ++ more) × AreFor ((table_of o es).top + 1) more
event-adds-for o es e = let a : Adds (table_of o es) (stepped o (table_of o es) e) = step-adds o (table_of o es) e in
    (a.more, ap (λ (t : Table). t.journal) (table-snoc o es e) ∙ a.journal, a.are_for)

pub journal-grows : (o : Origin) (es fs : List Event) → (more : List Entry) × (journal_of o (es ++ fs) ≡ journal_of o es ++ more)
    × AreAbove (game_of o) (table_of o es).top more
journal-grows o es fs = let g : Grows o (table_of o es) (fold (stepped o) (table_of o es) fs) = from-grows o fs (table_of o es) in
    (g.more, ap (λ (t : Table). t.journal) (fold-append (stepped o) (first o) es fs) ∙ g.journal, g.are_above)

pub world-stays : (o : Origin) (es fs : List Event) (f : ℕ) → f ≤ (table_of o es).top → world_at o (journal_of o (es ++ fs)) f
    ≡ world_at o (journal_of o es) f
world-stays o es fs f l =
    let g : Grows o (table_of o es) (fold (stepped o) (table_of o es) fs) = from-grows o fs (table_of o es) in
    ap (λ (t : Table). world_at o t.journal f) (fold-append (stepped o) (first o) es fs)
    ∙ ap (λ (xs : List Entry). world_at o xs f) g.journal ∙ world-stable (game_of o) f (table_of o es).top
    (journal_of o es) g.more g.are_above l
