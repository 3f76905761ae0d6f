-- Lemmas on journals alone.
use Rattle.std.proofs.Common.{
  ◌≡◌,
  ℕ,
  zero,
  suc,
  ◌+◌,
  ◌<◌,
  ◌≤◌,
  true,
  false,
  cond,
  List,
  [],
  ◌∷◌,
  ◌++◌,
  ◌==◌,
  nat_lt,
  refl,
  ap,
  sym,
  ◌∙◌,
  ap₂,
  append-nil,
  arith,
  rules,
  zero-add,
  add-zero,
}
use Rattle.std.proofs.lemmas.Bool.{ltb-true, ltb-false, eqb-true, eqb-false, lt-ltb, cond_both}
use Rattle.tt_lockstep.specs.Game.{Game}
use Rattle.tt_lockstep.specs.Journal.{of_frame, above, applied_all, folded, world_at, AreAbove, AreUpTo, AreRising}

module _ {W E : Type 0} (game : Game W E) where
  pub of_frame-append : (f : ℕ) (xs ys : List E) → of_frame game f (xs ++ ys) ≡ of_frame game f xs ++ of_frame game f ys
  of_frame-append f [] ys = refl
  of_frame-append f (x ∷ xs) ys =
      elim (game.frame_of x == f) as (λ b. cond b (x ∷ of_frame game f (xs ++ ys)) (of_frame game f (xs ++ ys)) ≡ cond b
      (x ∷ of_frame game f xs) (of_frame game f xs) ++ of_frame game f ys)
      [ true ↦ ap (λ zs. x ∷ zs) (of_frame-append f xs ys) | false ↦ of_frame-append f xs ys ]

  pub none_of_frame : (f n : ℕ) (ys : List E) → AreAbove game n ys → f ≤ n → of_frame game f ys ≡ []
  none_of_frame f n [] a h = refl
  none_of_frame f n (y ∷ ys) a h = search (rules, none_of_frame f n ys a.1 h, a.0, h)

  pub of_frame-stable : (f n : ℕ) (old more : List E) → AreAbove game n more → f ≤ n → of_frame game f (old ++ more) ≡ of_frame game f old
  of_frame-stable f n old more a h = of_frame-append f old more ∙ rw (none_of_frame f n more a h) (append-nil (of_frame game f old))

  one_more : {w u : W} {xs ys : List E} → w ≡ u → xs ≡ ys → game.framed (applied_all game w xs) ≡ game.framed (applied_all game u ys)
  one_more p q = ap₂ (λ w xs. game.framed (applied_all game w xs)) p q

  -- entries above a frame change no world up to it
  pub stable : (w : W) (s k n : ℕ) (old more : List E) → AreAbove game n more → s + k ≤ n → folded game w s (old ++ more) k ≡ folded game w
      s old k
  stable w s zero n old more a h = refl
  stable w s (suc k) n old more a h =
      one_more (stable w s k n old more a (omega (arith, h))) (of_frame-stable (s + suc k) n old more a h)

  pub world-stable : (f n : ℕ) (old more : List E) → AreAbove game n more → f ≤ n → world_at game (old ++ more) f ≡ world_at game old f
  world-stable f n old more a h = stable game.start 0 f n old more a (omega (arith, h))

  -- a world may be taken up where it was left
  pub goes_on : (w : W) (s k : ℕ) (journal : List E) → folded game w 0 journal (s + k) ≡ folded game (folded game w 0 journal s) s journal k
  goes_on w s zero journal = rw (add-zero s) refl
  goes_on w s (suc k) journal =
      let e : s + suc k ≡ suc (s + k) = omega arith
      in rw e (one_more (goes_on w s k journal) (ap (λ f. of_frame game f journal) (zero-add (suc (s + k)) ∙ sym e)))

  -- only the entries of the frames that are run matter
  pub folded-same : (w : W) (s k : ℕ) (xs ys : List E) → ((f : ℕ) → s < f → f ≤ s + k → of_frame game f xs ≡ of_frame game f ys)
      → folded game w s xs k ≡ folded game w s ys k
  folded-same w s zero xs ys same = refl
  folded-same w s (suc k) xs ys same =
      one_more (folded-same w s k xs ys (λ f l m. same f l (omega arith))) (same (s + suc k) (omega arith) (omega arith))

  pub above-append : (s : ℕ) (xs ys : List E) → above game s (xs ++ ys) ≡ above game s xs ++ above game s ys
  above-append s [] ys = refl
  above-append s (x ∷ xs) ys =
      elim (nat_lt s (game.frame_of x)) as (λ b. cond b (x ∷ above game s (xs ++ ys)) (above game s (xs ++ ys)) ≡ cond b
      (x ∷ above game s xs) (above game s xs) ++ above game s ys)
      [ true ↦ ap (λ zs. x ∷ zs) (above-append s xs ys) | false ↦ above-append s xs ys ]

  pub above-push : (s : ℕ) (xs : List E) (e : E) → s < game.frame_of e → above game s (xs ++ e ∷ []) ≡ above game s xs ++ e ∷ []
  above-push s xs e l = above-append s xs (e ∷ []) ∙ rw (lt-ltb s (game.frame_of e) l) refl

  -- of a frame above s, the entries above s have all
  pub of_frame-above : (s f : ℕ) (es : List E) → s < f → of_frame game f (above game s es) ≡ of_frame game f es
  of_frame-above s f [] l = refl
  of_frame-above s f (e ∷ es) l =
      grind (arith, of_frame-above s f es l, ltb-true, ltb-false, eqb-true, eqb-false)

  pub are_above : (s : ℕ) (es : List E) → AreAbove game s (above game s es)
  are_above s [] = tt
  are_above s (e ∷ es) =
      cond_both (nat_lt s (game.frame_of e)) (e ∷ above game s es) (above game s es) (λ xs. AreAbove game s xs)
      (λ h. (ltb-true s (game.frame_of e) h, are_above s es)) (λ _. are_above s es)

  pub AreAbove-less : (m n : ℕ) (es : List E) → AreAbove game n es → m ≤ n → AreAbove game m es
  AreAbove-less m n [] a l = tt
  AreAbove-less m n (e ∷ es) a l = (omega (arith, a.0), AreAbove-less m n es a.1 l)

  pub AreAbove-append : (n : ℕ) (xs ys : List E) → AreAbove game n xs → AreAbove game n ys → AreAbove game n (xs ++ ys)
  AreAbove-append n [] ys a b = b
  AreAbove-append n (x ∷ xs) ys a b = (a.0, AreAbove-append n xs ys a.1 b)

  pub AreUpTo-more : (n m : ℕ) (es : List E) → AreUpTo game n es → n ≤ m → AreUpTo game m es
  AreUpTo-more n m [] h l = tt
  AreUpTo-more n m (e ∷ es) h l = (omega (arith, h.0), AreUpTo-more n m es h.1 l)

  pub AreUpTo-push : (n : ℕ) (es : List E) (e : E) → AreUpTo game n es → game.frame_of e ≤ n → AreUpTo game n (es ++ e ∷ [])
  AreUpTo-push n [] e h l = (l, tt)
  AreUpTo-push n (x ∷ xs) e h l = (h.0, AreUpTo-push n xs e h.1 l)

  pub AreUpTo-above : (n s : ℕ) (es : List E) → AreUpTo game n es → AreUpTo game n (above game s es)
  AreUpTo-above n s [] h = tt
  AreUpTo-above n s (e ∷ es) h =
      cond_both (nat_lt s (game.frame_of e)) (e ∷ above game s es) (above game s es) (λ xs. AreUpTo game n xs)
      (λ _. (h.0, AreUpTo-above n s es h.1)) (λ _. AreUpTo-above n s es h.1)

  pub AreRising-less : (m n : ℕ) (es : List E) → AreRising game n es → m ≤ n → AreRising game m es
  AreRising-less m n [] h l = tt
  AreRising-less m n (e ∷ es) h l = (omega (arith, h.0), h.1)

  pub AreRising-push : (n : ℕ) (es : List E) (e : E) → AreRising game n es → AreUpTo game (game.frame_of e) es → n ≤ game.frame_of e
      → AreRising game n (es ++ e ∷ [])
  AreRising-push n [] e r u l = (l, tt)
  AreRising-push n (x ∷ xs) e r u l = (r.0, AreRising-push (game.frame_of x) xs e r.1 u.1 u.0)

  pub AreRising-above : (n s : ℕ) (es : List E) → AreRising game n es → AreRising game n (above game s es)
  AreRising-above n s [] r = tt
  AreRising-above n s (e ∷ es) r =
      cond_both (nat_lt s (game.frame_of e)) (e ∷ above game s es) (above game s es) (λ xs. AreRising game n xs)
      (λ _. (r.0, AreRising-above (game.frame_of e) s es r.1)) (λ _. AreRising-less n (game.frame_of e) (above game s es)
      (AreRising-above (game.frame_of e) s es r.1) r.0)

  pub AreRising-from : (n s : ℕ) (es : List E) → AreRising game n es → AreAbove game s es → AreRising game s es
  AreRising-from n s [] r a = tt
  AreRising-from n s (e ∷ es) r a = (omega (arith, a.0), r.1)

  -- the frame of the last entry, or l
  abbrev pub last_of : ℕ → List E → ℕ
  last_of l [] = l
  last_of l (e ∷ es) = last_of (game.frame_of e) es

  pub last_of-le : (n l : ℕ) (es : List E) → AreUpTo game n es → l ≤ n → last_of l es ≤ n
  last_of-le n l [] u h = h
  last_of-le n l (e ∷ es) u h = last_of-le n (game.frame_of e) es u.1 u.0

  pub world-goes_on : (s k : ℕ) (journal : List E) → world_at game journal (s + k) ≡ folded game (world_at game journal s) s
      (above game s journal) k
  world-goes_on s k journal =
      goes_on game.start s k journal ∙ folded-same (world_at game journal s) s k journal (above game s journal)
      (λ f low high. sym (of_frame-above s f journal low))

  -- one frame more, by one running world
  pub world-next : (journal : List E) (f : ℕ) → world_at game journal (suc f) ≡ game.framed (applied_all game (world_at game journal f)
      (of_frame game (suc f) journal))
  world-next journal f = ap (λ k. game.framed (applied_all game (world_at game journal f) (of_frame game k journal))) (zero-add (suc f))
