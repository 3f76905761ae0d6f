-- Writes, one after another.
use Rattle.std.proofs.Common.{◌≡◌, ℕ, ◌<◌, List, [], ◌∷◌, ◌++◌, length, take, drop, refl, sym, ap, ◌∙◌, subst, append_assoc, arith}
use Rattle.std.proofs.lemmas.List.{append-nil, take-append-drop}
use Rattle.std.specs.Io.KnownBytes.{Appends, Keeps}
use Rattle.std.proofs.KnownBytes.{Appends-nil, Appends-trans, Appends-kept, Keeps-refl, Keeps-trans}
use Rattle.tt_edge.specs.Link.{LinkCounts, WriteCounts}
use Rattle.tt_edge.specs.declared.link.LinkWrote.TheVariants as wrote
use Rattle.tt_rounds.specs.Links.{LinkNow}
use Rattle.tt_rounds.specs.Chain.{joined}
use Rattle.tt_rounds.specs.Saying.{Flushes, Moves, SaidCounts, SaysRound}
use Rattle.tt_rounds.specs.declared.outbox.Said.{Said}
use Rattle.tt_rounds.specs.declared.outbox.Said.TheVariants as said
use Rattle.tt_rounds.proofs.Chains.{each_more, joined_more}
use Rattle.tt_rounds.proofs.Counting.{stalled_only, held_only, failed_only, said_after}

-- a front of what waited was written, and no other answer came
pub record Written (w w' : List ℕ) (l l' : LinkNow) : Type 0 where
  pub out : List ℕ
  pub front : w ≡ out ++ w'
  pub written : Appends l.held l'.held out
  pub read : Keeps l.read l'.read
  pub counts : l'.counts ≡ record (l.counts) { stalled = l'.counts.stalled }

pub written_none : (w : List ℕ) (l : LinkNow) → Written w w l l
written_none w l = record {
  out = [];
  front = refl;
  written = Appends-nil l.held;
  read = Keeps-refl l.read;
  counts = stalled_only l.counts l.counts refl refl refl refl;
}

pub written_more : (w v v' : List ℕ) (l k k' : LinkNow) (n : ℕ) → Written w v l k → Appends k.held k'.held (take n v)
    → Keeps k.read k'.read → v' ≡ drop n v → WriteCounts k.counts k'.counts (wrote.Count n) → Written w v' l k'
written_more w v v' l k k' n so more read is counts = record {
  out = so.out ++ take n v;
  front = so.front ∙ ap (λ (xs : List ℕ). so.out ++ xs) (sym (take-append-drop n v)) ∙ sym (append_assoc so.out (take n v) (drop n v))
      ∙ ap (λ (xs : List ℕ). (so.out ++ take n v) ++ xs) (sym is);
  written = Appends-trans l.held k.held k'.held so.out (take n v) so.written more;
  read = Keeps-trans l.read k.read k'.read so.read read;
  counts = said_after l.counts k.counts k'.counts said.All so.counts
      (stalled_only k.counts k'.counts (ap (λ (c : LinkCounts). c.faults) counts) (ap (λ (c : LinkCounts). c.ends) counts)
      (ap (λ (c : LinkCounts). c.idle_reads) counts) (ap (λ (c : LinkCounts). c.idle_writes) counts));
}

-- the last write wrote nothing, or there is nothing more to write
pub flushed : (w v v' : List ℕ) (l k k' : LinkNow) (r : Said) → Written w v l k → Keeps k.held k'.held → Keeps k.read k'.read → v' ≡ v
    → SaidCounts k.counts k'.counts r → (r ≡ said.All → v' ≡ []) → (r ≡ said.Held → 0 < length v') → Flushes w v' l k' r
flushed w v v' l k k' r so held read same counts all some = record {
  out = so.out;
  front = so.front ∙ ap (λ (xs : List ℕ). so.out ++ xs) (sym same);
  written = Appends-kept l.held k.held k'.held so.out so.written held;
  read = Keeps-trans l.read k.read k'.read so.read read;
  counts = said_after l.counts k.counts k'.counts r so.counts counts;
  all = all;
  some_held = some;
}

pub held_counts : (a b : LinkCounts) → WriteCounts a b wrote.Nothing → SaidCounts a b said.Held
held_counts a b k = (
  k.0,
  omega (arith, ap (λ (c : LinkCounts). c.stalled) k.1),
  held_only a b (ap (λ (c : LinkCounts). c.faults) k.1) (ap (λ (c : LinkCounts). c.ends) k.1)
      (ap (λ (c : LinkCounts). c.idle_reads) k.1),
)

pub failed_counts : (a b : LinkCounts) → WriteCounts a b wrote.Failed → SaidCounts a b said.Failed
failed_counts a b k = (
  k.0,
  failed_only a b (ap (λ (c : LinkCounts). c.ends) k.1) (ap (λ (c : LinkCounts). c.idle_reads) k.1)
      (ap (λ (c : LinkCounts). c.idle_writes) k.1),
)

-- what isn't all is something
abbrev NotAll : Said → Type 0
NotAll said.All = ⊥
NotAll other = Unit {0}

pub held_some : said.Held ≡ said.All → ⊥
held_some is = subst NotAll is tt

-- what is all holds nothing
abbrev NotHeld : Said → Type 0
NotHeld said.Held = ⊥
NotHeld other = Unit {0}

pub all_none : said.All ≡ said.Held → ⊥
all_none is = subst NotHeld is tt

pub failed_some : said.Failed ≡ said.All → ⊥
failed_some is = subst NotAll is tt

-- ---- what is given

pub moves_none : {S : Type 0} (due : S → List ℕ) (says : S → List ℕ → S → Type 0) (s : S) (w : List ℕ) (l : LinkNow)
    → Moves due says s s w w l l
moves_none due says s w l = record {
  given = [];
  said = refl;
  due_is = refl;
  out = [];
  balance = append-nil w;
  written = Appends-nil l.held;
  read = Keeps-refl l.read;
}

pub moves_flushed : {S : Type 0} (due : S → List ℕ) (says : S → List ℕ → S → Type 0) (s t : S) (w v v' : List ℕ) (l k k' : LinkNow)
    (r : Said) → Moves due says s t w v l k → Flushes v v' k k' r → Moves due says s t w v' l k'
moves_flushed due says s t w v v' l k k' r so flush = record {
  given = so.given;
  said = so.said;
  due_is = so.due_is;
  out = so.out ++ flush.out;
  balance = so.balance ∙ ap (λ (xs : List ℕ). so.out ++ xs) flush.front ∙ sym (append_assoc so.out flush.out v');
  written = Appends-trans l.held k.held k'.held so.out flush.out so.written flush.written;
  read = Keeps-trans l.read k.read k'.read so.read flush.read;
}

pub moves_filled : {S : Type 0} (due : S → List ℕ) (says : S → List ℕ → S → Type 0) (s m t : S) (w v v' : List ℕ) (l k : LinkNow)
    → Moves due says s m w v l k → v ≡ [] → says m v' t → due m ≡ v' ++ due t → Moves due says s t w v' l k
moves_filled due says s m t w v v' l k so none one rest = record {
  given = so.given ++ v' ∷ [];
  said = each_more says s m t so.given v' so.said one;
  due_is = so.due_is ∙ ap (λ (xs : List ℕ). joined so.given ++ xs) rest ∙ sym (append_assoc (joined so.given) v' (due t))
      ∙ ap (λ (xs : List ℕ). xs ++ due t) (sym (joined_more so.given v'));
  out = so.out;
  balance = ap (λ (xs : List ℕ). w ++ xs) (joined_more so.given v') ∙ sym (append_assoc w (joined so.given) v')
      ∙ ap (λ (xs : List ℕ). xs ++ v') (so.balance ∙ ap (λ (xs : List ℕ). so.out ++ xs) none ∙ append-nil so.out);
  written = so.written;
  read = so.read;
}

-- a round whose last flush came to this
pub says_ended : {S : Type 0} (due : S → List ℕ) (says : S → List ℕ → S → Type 0) (s t : S) (w v v' : List ℕ) (l k k' : LinkNow)
    (r : Said) → Moves due says s t w v l k → k.counts ≡ record (l.counts) { stalled = k.counts.stalled } → Flushes v v' k k' r
    → (r ≡ said.All → due t ≡ []) → SaysRound due says s t w v' l k' r
says_ended due says s t w v v' l k k' r so counts flush none = record {
  moves = moves_flushed due says s t w v v' l k k' r so flush;
  counts = said_after l.counts k.counts k'.counts r counts flush.counts;
  all = λ is. (flush.all is, none is);
  some_held = flush.some_held;
}
