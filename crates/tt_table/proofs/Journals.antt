-- The entries of a frame in a journal whose frames do not fall, and a place in it behind all that were carried out.
use Rattle.std.proofs.Common.{◌≡◌, ℕ, zero, suc, ◌+◌, ◌-◌, ◌<◌, ◌≤◌, Bool, true, false, cond, List, [], ◌∷◌, ◌++◌, drop, take, length, refl}
use Rattle.std.proofs.Common.{subst, ap, sym, ◌∙◌, append-nil, arith}
use Rattle.std.specs.Prelude.{nat_lt, get_or, slice_index_or, ◌==◌}
use Rattle.std.proofs.lemmas.Bool.{eqb-true, eqb-false, ltb-false}
use Rattle.std.proofs.lemmas.List.{drop_more, drop-append-le, drop_at, drop-drop, length-append, length-drop, take-append-drop}
use Rattle.tt_world.specs.declared.command.Entry.{Entry}
use Rattle.tt_lockstep.specs.Journal.{AreAbove, AreRising, AreUpTo}
use Rattle.tt_lockstep.proofs.Journals.{above-append, AreRising-above, are_above, none_of_frame, of_frame-above, of_frame-append}
use Rattle.tt_log.specs.Origin.{IsJournal, Origin, above, at_frame, game_of}

-- entries whose frames do not fall, from this one on
abbrev AreFrom : Origin → ℕ → List Entry → Type 0
AreFrom o n es = AreRising (game_of o) n es

at_least : (o : Origin) (n : ℕ) (es : List Entry) (i : ℕ) (d : Entry) → AreFrom o n es → i < length es → n ≤ (slice_index_or es i d).frame
at_least o n [] i d are lt = absurd (omega (arith, lt))
at_least o n (e ∷ es) zero d are lt = are.0
at_least o n (e ∷ es) (suc i) d are lt = omega (arith, are.0, at_least o e.frame es i d are.1 (omega (arith, lt)))

-- ---- the entries of a frame

not_at : (o : Origin) (f : ℕ) (e : Entry) (es : List Entry) → (e.frame == f) ≡ false → at_frame o f (e ∷ es) ≡ at_frame o f es
not_at o f e es is = ap (λ (b : Bool). cond b (e ∷ at_frame o f es) (at_frame o f es)) is

pub is_at : (o : Origin) (f : ℕ) (e : Entry) (es : List Entry) → (e.frame == f) ≡ true → at_frame o f (e ∷ es) ≡ e ∷ at_frame o f es
is_at o f e es is = ap (λ (b : Bool). cond b (e ∷ at_frame o f es) (at_frame o f es)) is

differs : (m n : ℕ) → (m ≡ n → ⊥) → (m == n) ≡ false
differs m n apart = by (m == n) refl
  where
    by : (b : Bool) → (m == n) ≡ b → (m == n) ≡ false
    by true is = absurd (apart (eqb-true m n is))
    by false is = is

-- where an entry is for an earlier frame, so is each before it
at_behind : (o : Origin) (n f : ℕ) (es : List Entry) (i : ℕ) (d : Entry) → AreFrom o n es → i < length es
    → (slice_index_or es i d).frame < f → at_frame o f es ≡ at_frame o f (drop (suc i) es)
at_behind o n f [] i d are lt low = absurd (omega (arith, lt))
at_behind o n f (e ∷ es) zero d are lt low = not_at o f e es (differs e.frame f (λ is. omega (arith, is, low)))
at_behind o n f (e ∷ es) (suc i) d are lt low =
    let least : e.frame ≤ (slice_index_or es i d).frame = at_least o e.frame es i d are.1 (omega (arith, lt)) in
    not_at o f e es (differs e.frame f (λ is. omega (arith, is, low, least)))
    ∙ at_behind o e.frame f es i d are.1 (omega (arith, lt)) low

pub at_rest : (o : Origin) (n f : ℕ) (es : List Entry) (i : ℕ) (d : Entry) → AreFrom o n es → i ≤ length es → 0 < i
    → (slice_index_or es (i - 1) d).frame < f → at_frame o f es ≡ at_frame o f (drop i es)
at_rest o n f es i d are le some low =
    let next : suc (i - 1) ≡ i = omega (arith, some) in
    at_behind o n f es (i - 1) d are (omega (arith, le, some)) low ∙ ap (λ (k : ℕ). at_frame o f (drop k es)) next

up_to-at : (o : Origin) (f : ℕ) (es : List Entry) (i : ℕ) (d : Entry) → AreUpTo (game_of o) f es → i < length es
    → (slice_index_or es i d).frame ≤ f
up_to-at o f [] i d are lt = absurd (omega (arith, lt))
up_to-at o f (e ∷ es) zero d are lt = are.0
up_to-at o f (e ∷ es) (suc i) d are lt = up_to-at o f es i d are.1 (omega (arith, lt))

-- entries up to a frame, of which one is not for it: those behind it have all of the frame
pub at_last : (o : Origin) (f : ℕ) (es : List Entry) (i : ℕ) (d : Entry) → IsJournal o es → AreUpTo (game_of o) f es → i ≤ length es
    → 0 < i → ((slice_index_or es (i - 1) d).frame ≡ f → ⊥) → at_frame o f es ≡ at_frame o f (drop i es)
at_last o f es i d is up le some apart =
    let l : (slice_index_or es (i - 1) d).frame ≤ f = up_to-at o f es (i - 1) d up (omega (arith, le, some)) in
    at_rest o 0 f es i d is le some (below (slice_index_or es (i - 1) d).frame l apart)
  where
    below : (n : ℕ) → n ≤ f → (n ≡ f → ⊥) → n < f
    below n l apart = omega (arith, l, apart)

-- ---- entries up to a frame

pub rising-take : (o : Origin) (n i : ℕ) (es : List Entry) → AreFrom o n es → AreFrom o n (take i es)
rising-take o n zero es are = tt
rising-take o n (suc i) [] are = tt
rising-take o n (suc i) (e ∷ es) are = (are.0, rising-take o e.frame i es are.1)

up_to-take : (o : Origin) (n f : ℕ) (es : List Entry) (i : ℕ) (d : Entry) → AreFrom o n es → i < length es
    → (slice_index_or es i d).frame ≤ f → AreUpTo (game_of o) f (take (suc i) es)
up_to-take o n f [] i d are lt low = tt
up_to-take o n f (e ∷ es) zero d are lt low = (low, tt)
up_to-take o n f (e ∷ es) (suc i) d are lt low =
    let least : e.frame ≤ (slice_index_or es i d).frame = at_least o e.frame es i d are.1 (omega (arith, lt)) in
    (omega (arith, low, least), up_to-take o e.frame f es i d are.1 (omega (arith, lt)) low)

pub up_to-front : (o : Origin) (f : ℕ) (es : List Entry) (i : ℕ) (d : Entry) → IsJournal o es → i ≤ length es → 0 < i
    → (slice_index_or es (i - 1) d).frame ≤ f → AreUpTo (game_of o) f (take i es)
up_to-front o f es i d is le some low =
    let next : suc (i - 1) ≡ i = omega (arith, some) in
    subst (λ (k : ℕ). AreUpTo (game_of o) f (take k es)) next (up_to-take o 0 f es (i - 1) d is (omega (arith, le, some)) low)

-- those in front of entries that are all above a frame have all of the frame
pub at_front : (o : Origin) (f : ℕ) (es : List Entry) (i : ℕ) → AreAbove (game_of o) f (drop i es)
    → at_frame o f (take i es) ≡ at_frame o f es
at_front o f es i high =
    let none : at_frame o f (drop i es) ≡ [] = none_of_frame (game_of o) f f (drop i es) high (omega arith) in
    sym (append-nil (at_frame o f (take i es))) ∙ ap (λ (xs : List Entry). at_frame o f (take i es) ++ xs) (sym none)
    ∙ sym (of_frame-append (game_of o) f (take i es) (drop i es)) ∙ ap (λ (xs : List Entry). at_frame o f xs) (take-append-drop i es)

-- ---- the place behind all that were carried out

-- entries from a frame on are not for an earlier one
none-at : (o : Origin) (n f : ℕ) (es : List Entry) → AreFrom o n es → f < n → at_frame o f es ≡ []
none-at o n f [] are low = refl
none-at o n f (e ∷ es) are low =
    not_at o f e es (differs e.frame f (λ is. omega (arith, is, are.0, low))) ∙ none-at o e.frame f es are.1 (omega (arith, are.0, low))

not_above : (o : Origin) (f : ℕ) (e : Entry) (es : List Entry) → e.frame ≤ f → above o f (e ∷ es) ≡ above o f es
not_above o f e es le =
    let no : nat_lt f e.frame ≡ false = grind (arith, le) in
    ap (λ (b : Bool). cond b (e ∷ above o f es) (above o f es)) no

one_above : (o : Origin) (f : ℕ) (e : Entry) (es : List Entry) → f < e.frame → above o f (e ∷ es) ≡ e ∷ above o f es
one_above o f e es lt =
    let yes : nat_lt f e.frame ≡ true = grind (arith, lt) in
    ap (λ (b : Bool). cond b (e ∷ above o f es) (above o f es)) yes

split-by : (b : Bool) (o : Origin) (f : ℕ) (e : Entry) (es : List Entry) → (e.frame == f + 1) ≡ b → f < e.frame → AreFrom o e.frame es
    → es ≡ at_frame o (f + 1) es ++ above o (f + 1) es
    → e ∷ es ≡ at_frame o (f + 1) (e ∷ es) ++ above o (f + 1) (e ∷ es)
split-by true o f e es is low are rest =
    let same : e.frame ≡ f + 1 = eqb-true e.frame (f + 1) is in
    let here : at_frame o (f + 1) (e ∷ es) ≡ e ∷ at_frame o (f + 1) es = is_at o (f + 1) e es is in
    let later : above o (f + 1) (e ∷ es) ≡ above o (f + 1) es = not_above o (f + 1) e es (omega (arith, same)) in
    ap (λ (xs : List Entry). e ∷ xs) rest ∙ ap (λ (xs : List Entry). xs ++ above o (f + 1) es) (sym here)
    ∙ ap (λ (xs : List Entry). at_frame o (f + 1) (e ∷ es) ++ xs) (sym later)
split-by false o f e es is low are rest =
    let apart : e.frame ≡ f + 1 → ⊥ = eqb-false e.frame (f + 1) is in
    let high : f + 1 < e.frame = omega (arith, apart, low) in
    let here : at_frame o (f + 1) (e ∷ es) ≡ [] = not_at o (f + 1) e es is ∙ none-at o e.frame (f + 1) es are high in
    let later : above o (f + 1) (e ∷ es) ≡ e ∷ above o (f + 1) es = one_above o (f + 1) e es high in
    let behind : es ≡ above o (f + 1) es =
    rest ∙ ap (λ (xs : List Entry). xs ++ above o (f + 1) es) (none-at o e.frame (f + 1) es are high) in
    ap (λ (xs : List Entry). e ∷ xs) behind ∙ sym later ∙ ap (λ (xs : List Entry). xs ++ above o (f + 1) (e ∷ es)) (sym here)

-- entries above a frame: first those of the next one, and then those above that
split : (o : Origin) (n f : ℕ) (es : List Entry) → AreFrom o n es → f < n → es ≡ at_frame o (f + 1) es ++ above o (f + 1) es
split o n f [] are low = refl
split o n f (e ∷ es) are low = split-by (e.frame == f + 1) o f e es refl (omega (arith, are.0, low)) are.1
    (split o e.frame f es are.1 (omega (arith, are.0, low)))

above-by : (b : Bool) (o : Origin) (s f : ℕ) (e : Entry) (es : List Entry) → nat_lt s e.frame ≡ b → s ≤ f
    → above o f (above o s es) ≡ above o f es → above o f (cond b (e ∷ above o s es) (above o s es)) ≡ above o f (e ∷ es)
above-by true o s f e es is le rest = ap (λ (xs : List Entry). cond (nat_lt f e.frame) (e ∷ xs) xs) rest
above-by false o s f e es is le rest =
    let low : e.frame ≤ s = ltb-false s e.frame is in rest ∙ sym (not_above o f e es (omega (arith, low, le)))

above-above : (o : Origin) (s f : ℕ) (es : List Entry) → s ≤ f → above o f (above o s es) ≡ above o f es
above-above o s f [] le = refl
above-above o s f (e ∷ es) le = above-by (nat_lt s e.frame) o s f e es refl le (above-above o s f es le)

above-all : (o : Origin) (f : ℕ) (es : List Entry) → AreAbove (game_of o) f es → above o f es ≡ es
above-all o f [] high = refl
above-all o f (e ∷ es) high = one_above o f e es high.0 ∙ ap (λ (xs : List Entry). e ∷ xs) (above-all o f es high.1)

from-above : (o : Origin) (f : ℕ) (es : List Entry) → AreFrom o 0 es → AreAbove (game_of o) f es → AreFrom o (f + 1) es
from-above o f [] are high = tt
from-above o f (e ∷ es) are high = (omega (arith, high.0), are.1)

-- the place behind all entries up to a frame, and the entries of the next one behind it, where more come for later frames
pub record IsNextPlace (o : Origin) (f k : ℕ) (es : List Entry) : Type 0 where
  pub place : drop (k + length (at_frame o (f + 1) es)) es ≡ above o (f + 1) es
  pub within : k + length (at_frame o (f + 1) es) ≤ length es

next-place : (o : Origin) (f k : ℕ) (es : List Entry) → IsJournal o es → k ≤ length es → drop k es ≡ above o f es → IsNextPlace o f k es
next-place o f k es is some place =
    let left : List Entry = above o f es in
    let from : AreFrom o (f + 1) left =
    from-above o f left (AreRising-above (game_of o) 0 f es is) (are_above (game_of o) f es) in
    let parts : left ≡ at_frame o (f + 1) left ++ above o (f + 1) left = split o (f + 1) f left from (omega arith) in
    let here : at_frame o (f + 1) left ≡ at_frame o (f + 1) es = of_frame-above (game_of o) f (f + 1) es (omega arith) in
    let later : above o (f + 1) left ≡ above o (f + 1) es = above-above o f (f + 1) es (omega arith) in
    let whole : drop k es ≡ at_frame o (f + 1) es ++ above o (f + 1) es =
    place ∙ parts ∙ ap (λ (xs : List Entry). xs ++ above o (f + 1) left) here
    ∙ ap (λ (xs : List Entry). at_frame o (f + 1) es ++ xs) later in
    let n : ℕ = length (at_frame o (f + 1) es) in
    let size : length es - k ≡ n + length (above o (f + 1) es) =
    sym (length-drop k es) ∙ ap (λ (xs : List Entry). length xs) whole ∙ length-append (at_frame o (f + 1) es) (above o (f + 1) es) in
    record {
      place = sym (drop-drop n k es) ∙ ap (λ (xs : List Entry). drop n xs) whole
          ∙ drop_at (at_frame o (f + 1) es) (above o (f + 1) es) n refl;
      within = omega (arith, size, some);
    }

pub carried-on : (o : Origin) (f k : ℕ) (es more : List Entry) → IsJournal o (es ++ more) → AreAbove (game_of o) f more → k ≤ length es
    → drop k es ≡ above o f es → IsNextPlace o f k (es ++ more)
carried-on o f k es more is high some place = next-place o f k (es ++ more) is
    (let size = length-append es more in omega (arith, size, some))
    (drop-append-le k es more some ∙ ap (λ (xs : List Entry). xs ++ more) place
    ∙ ap (λ (xs : List Entry). above o f es ++ xs) (sym (above-all o f more high)) ∙ sym (above-append (game_of o) f es more))

-- an entry above a frame in front of others that are
pub above-more : (o : Origin) (f i : ℕ) (es : List Entry) (d : Entry) → 0 < i → i ≤ length es → f < (get_or es (i - 1) d).frame
    → AreAbove (game_of o) f (drop i es) → AreAbove (game_of o) f (drop (i - 1) es)
above-more o f i es d some le high rest =
    let next : i - 1 + 1 ≡ i = omega (arith, some) in
    subst (λ (xs : List Entry). AreAbove (game_of o) f xs) (sym (drop_more es (i - 1) d (omega (arith, some, le)))) (
      high,
      subst (λ (k : ℕ). AreAbove (game_of o) f (drop k es)) (sym next) rest,
    )
