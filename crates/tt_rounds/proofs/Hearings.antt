-- Reads, one after another.
use Rattle.std.proofs.Common.{◌≡◌, ℕ, ◌+◌, ◌≤◌, inl, List, [], ◌∷◌, ◌++◌, length, refl, sym, ap, ◌∙◌, subst, arith, length-append}
use Rattle.std.proofs.lemmas.List.{append-nil}
use Rattle.std.specs.Io.KnownBytes.{Appends, Keeps}
use Rattle.std.proofs.KnownBytes.{Appends-nil, Appends-trans, Appends-kept, Keeps-refl, Keeps-trans}
use Rattle.tt_edge.specs.Link.{LinkCounts}
use Rattle.tt_rounds.specs.Links.{LinkNow}
use Rattle.tt_rounds.specs.Chain.{Each, joined}
use Rattle.tt_rounds.specs.Hearing.{HearsRound, HeardCounts, IsLost}
use Rattle.tt_rounds.specs.declared.hearing.Heard.{Heard}
use Rattle.tt_rounds.specs.declared.hearing.Heard.TheVariants as heard
use Rattle.tt_rounds.proofs.Chains.{each_more, joined_more}

-- n pieces were read and heard, and no other answer came
pub record HearsSoFar {S : Type 0} (hears : S → List ℕ → S → Type 0) (s s' : S) (l l' : LinkNow) (n : ℕ) : Type 0 where
  pub pieces : List (List ℕ)
  pub heard : Each hears s pieces s'
  pub read : Appends l.read l'.read (joined pieces)
  pub held : Keeps l.held l'.held
  pub same : l'.counts ≡ l.counts
  pub many : n ≤ length (joined pieces)

pub hears_none : {S : Type 0} (hears : S → List ℕ → S → Type 0) (s : S) (l : LinkNow) → HearsSoFar hears s s l l 0
hears_none hears s l = record {
  pieces = [];
  heard = refl;
  read = Appends-nil l.read;
  held = Keeps-refl l.held;
  same = refl;
  many = omega arith;
}

pub hears_more : {S : Type 0} (hears : S → List ℕ → S → Type 0) (s m t : S) (l k k' : LinkNow) (n : ℕ) (bytes : List ℕ)
    → HearsSoFar hears s m l k n → hears m bytes t → Appends k.read k'.read bytes → Keeps k.held k'.held → k'.counts ≡ k.counts
    → 1 ≤ length bytes → HearsSoFar hears s t l k' (n + 1)
hears_more hears s m t l k k' n bytes so one read held same some = record {
  pieces = so.pieces ++ bytes ∷ [];
  heard = each_more hears s m t so.pieces bytes so.heard one;
  read = subst (λ (xs : List ℕ). Appends l.read k'.read xs) (sym (joined_more so.pieces bytes))
      (Appends-trans l.read k.read k'.read (joined so.pieces) bytes so.read read);
  held = Keeps-trans l.held k.held k'.held so.held held;
  same = same ∙ so.same;
  many = omega (
    arith,
    so.many,
    some,
    ap length (joined_more so.pieces bytes),
    length-append (joined so.pieces) bytes,
  );
}

-- the last read gave no bytes
pub hears_ended : {S : Type 0} (hears : S → List ℕ → S → Type 0) (s t : S) (l k k' : LinkNow) (n : ℕ) (r : Heard)
    → (so : HearsSoFar hears s t l k n) → Keeps k.read k'.read → Keeps k.held k'.held → IsLost r []
    → HeardCounts k.counts k'.counts (length (joined so.pieces)) r → HearsRound hears s t l k' r
hears_ended hears s t l k k' n r so read held none counts = record {
  pieces = so.pieces;
  heard = so.heard;
  lost = [];
  none_lost = none;
  read = subst (λ (xs : List ℕ). Appends l.read k'.read xs) (sym (append-nil (joined so.pieces)))
      (Appends-kept l.read k.read k'.read (joined so.pieces) so.read read);
  held = Keeps-trans l.held k.held k'.held so.held held;
  counts = subst (λ (c : LinkCounts). HeardCounts c k'.counts (length (joined so.pieces)) r) so.same counts;
}

-- 64 pieces were read
pub hears_full : {S : Type 0} (hears : S → List ℕ → S → Type 0) (s t : S) (l k : LinkNow) (n : ℕ) → 64 ≤ n
    → HearsSoFar hears s t l k n → HearsRound hears s t l k heard.Going
hears_full hears s t l k n full so = hears_ended hears s t l k k n heard.Going so (Keeps-refl k.read) (Keeps-refl k.held) refl
    (inl (omega (arith, full, so.many), refl))

-- memory ran out at the last piece
pub hears_lost : {S : Type 0} (hears : S → List ℕ → S → Type 0) (s t t' : S) (l k k' : LinkNow) (n : ℕ) (bytes : List ℕ)
    → HearsSoFar hears s t l k n → t' ≡ t → Appends k.read k'.read bytes → Keeps k.held k'.held → k'.counts ≡ k.counts
    → HearsRound hears s t' l k' heard.Memory
hears_lost hears s t t' l k k' n bytes so kept read held same = record {
  pieces = so.pieces;
  heard = subst (λ v. Each hears s so.pieces v) (sym kept) so.heard;
  lost = bytes;
  none_lost = tt;
  read = Appends-trans l.read k.read k'.read (joined so.pieces) bytes so.read read;
  held = Keeps-trans l.held k.held k'.held so.held held;
  counts = same ∙ so.same;
}
