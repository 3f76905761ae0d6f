-- A client that is shown what agrees with a journal stays in step with it.
use Rattle.std.proofs.Common.{
  ◌≡◌,
  ℕ,
  zero,
  suc,
  ◌+◌,
  ◌<◌,
  ◌≤◌,
  Bool,
  true,
  false,
  cond,
  not,
  ◌&&◌,
  List,
  [],
  ◌∷◌,
  ◌++◌,
  ◌==◌,
  nat_lt,
  nat_le,
  refl,
  ap,
  sym,
  ◌∙◌,
  subst,
  ◌⊎◌,
  inl,
  inr,
  ⊎_elim,
  arith,
}
use Rattle.std.proofs.lemmas.Bool.{ltb-true, leb-true, eqb-true, eq-eqb, lt-ltb, le-leb, and_parts, and_from, cases_lt, cond_both}
use Rattle.tt_lockstep.specs.Game.{Game}
use Rattle.tt_lockstep.specs.Journal.{world_at}
use Rattle.tt_lockstep.specs.Told.{Told, Map, Sync}
use Rattle.tt_lockstep.specs.Shown.{
  View,
  SyncPoint,
  Shown,
  Joining,
  Running,
  EndedJoining,
  Ended,
  WrongJoining,
  Wrong,
  with_sync,
  seen,
  shown,
  world_of,
}
use Rattle.tt_lockstep.specs.Client.{
  Call,
  Feed,
  Advance,
  fed,
  Client,
  Following,
  Desync,
  unfed,
  is_recent,
  compared,
  hearing,
  hears,
  run_to,
  one_frame,
  advanced,
  run,
}
use Rattle.tt_lockstep.specs.InStep.{IsInStep}
use Rattle.tt_lockstep.specs.Facts.{SyncAgrees, SyncsAgree, ViewAgrees, Agrees}
use Rattle.tt_lockstep.proofs.Views.{Reach, Reach-seen, front, world_is}
use Rattle.tt_lockstep.proofs.Followers.{IsWithin, Has, Has-hears, Has-frame, Has-advanced, Has-run, follows_is, within_is}

module _ {W E : Type 0} (game : Game W E) (journal : List E) (permitted : ℕ) where
  -- a client is not out of step
  abbrev pub IsGoing : Client W E → Type 0
  IsGoing (Following h f) = Unit
  IsGoing (Desync v f g mine theirs) = ⊥

  no_fault : (a b : Bool) → (a ≡ true → b ≡ true) → (a && not b) ≡ false
  no_fault false b h = refl
  no_fault true true h = refl
  no_fault true false h = sym (h refl)

  last_sync : (syncs : List SyncPoint) (sync : SyncPoint) → SyncsAgree game journal permitted (syncs ++ sync ∷ [])
      → SyncAgrees game journal permitted sync
  last_sync [] sync h = h.0
  last_sync (x ∷ xs) sync h = last_sync xs sync h.1

  -- a word that comes does not differ
  compared_is : (v : View W E) (f g w : ℕ) → ViewAgrees game journal permitted v → f ≤ v.permitted
      → w ≡ game.word (world_at game journal g) → compared game v f g w ≡ Following (with_sync game v g w) f
  compared_is v f g w t high e =
      ap (λ b. cond b (Desync v f g (game.word (world_of game v g)) w) (Following (with_sync game v g w) f))
      (no_fault (is_recent game v f g) (game.word (world_of game v g) == w) (λ l.
      let a = and_parts (nat_lt v.map_frame g) _ l
      in let b = and_parts (nat_le g f) _ a.1
      in let low : v.map_frame < g = ltb-true v.map_frame g a.0
      in let below : g ≤ f = leb-true g f b.0
      in eq-eqb (game.word (world_of game v g)) w (ap (λ u. game.word u) (world_is game journal permitted v g t (omega arith)
      (omega arith)) ∙ sym e)))

  -- nor does one that came before its frame was run
  run_to_is : (v : View W E) (f : ℕ) (syncs : List SyncPoint) → world_of game v f ≡ world_at game journal f
      → SyncsAgree game journal permitted syncs → run_to game v f syncs ≡ Following (Running v) f
  run_to_is v f [] e h = refl
  run_to_is v f (sync ∷ syncs) e h =
      ap (λ b. cond b (Desync v f f (game.word (world_of game v f)) sync.word) (run_to game v f syncs))
      (no_fault (sync.frame == f) (game.word (world_of game v f) == sync.word) (λ l.
      eq-eqb (game.word (world_of game v f)) sync.word (ap (λ u. game.word u) e ∙ ap (λ g. game.word (world_at game journal g))
      (sym (eqb-true sync.frame f l)) ∙ sym h.0.word_is)))
      ∙ run_to_is v f syncs e h.1

  hearing_goes : (h : Shown W E) (f : ℕ) (t : Told W E) → IsWithin game h f → Agrees game journal permitted h
      → Agrees game journal permitted (seen game h t) → IsGoing (hearing game h f t)
  hearing_goes (Running v) f (Sync g w) r q n =
      subst (λ c. IsGoing c) (sym (compared_is v f g w q r.1 (last_sync v.syncs (record { frame = g; word = w; permitted = v.permitted })
      n.syncs_are).word_is)) tt
  hearing_goes Joining f (Map s w) r q n = tt
  hearing_goes h f t r q n = tt

  IsGoing-hears : (h : Shown W E) (c : Client W E) (t : Told W E) → Has game h c → IsGoing c → Agrees game journal permitted h
      → Agrees game journal permitted (seen game h t) → IsGoing (hears game c t)
  IsGoing-hears h (Following k f) t a goes q n = subst (λ k. IsGoing (hearing game k f t)) (sym a.0) (hearing_goes h f t a.1 q n)
  IsGoing-hears h (Desync v f g mine theirs) t a goes q n = goes

  frame_goes : (h : Shown W E) (f : ℕ) → IsWithin game h f → Agrees game journal permitted h → IsGoing (one_frame game (Following h f))
  frame_goes (Running v) f r q =
      cond_both (nat_lt f v.permitted) _ _ (λ c. IsGoing c)
      (λ l. let k : f < v.permitted = ltb-true f v.permitted l
      in subst (λ c. IsGoing c) (sym (run_to_is v (suc f) v.syncs (world_is game journal permitted v (suc f) q (omega (arith, r.0)) k)
      q.syncs_are)) tt)
      (λ _. tt)
  frame_goes h f r q = tt

  IsGoing-frame : (h : Shown W E) (c : Client W E) → Has game h c → IsGoing c → Agrees game journal permitted h → IsGoing (one_frame game c)
  IsGoing-frame h (Following k f) a goes q = subst (λ k. IsGoing (one_frame game (Following k f))) (sym a.0) (frame_goes h f a.1 q)
  IsGoing-frame h (Desync v f g mine theirs) a goes q = goes

  IsGoing-advanced : (n : ℕ) (h : Shown W E) (c : Client W E) → Has game h c → IsGoing c → Agrees game journal permitted h
      → IsGoing (advanced game n c)
  IsGoing-advanced zero h c a goes q = goes
  IsGoing-advanced (suc n) h c a goes q = IsGoing-advanced n h (one_frame game c) (Has-frame game h c a) (IsGoing-frame h c a goes q) q

  Reach-has : (h : Shown W E) (f : ℕ) → IsWithin game h f → Reach game h
  Reach-has Joining f r = tt
  Reach-has (Running v) f r = omega (arith, r.0, r.1)
  Reach-has EndedJoining f r = tt
  Reach-has (Ended v) f r = omega (arith, r.0, r.1)
  Reach-has WrongJoining f r = tt
  Reach-has (Wrong v) f r = tt

  -- what is shown at the end agrees, so what is shown at each call does
  IsGoing-run : (h : Shown W E) (c : Client W E) (calls : List (Call W E)) → Reach game h → Has game h c → IsGoing c
      → Agrees game journal permitted (shown game h (fed calls)) → IsGoing (run game c calls)
  IsGoing-run h c [] reach a goes q = goes
  IsGoing-run h c (Feed t ∷ calls) reach a goes q =
      let later = Reach-seen game h t reach
      in IsGoing-run (seen game h t) (hears game c t) calls later (Has-hears game h c t a)
      (IsGoing-hears h c t a goes (front game journal permitted h (t ∷ fed calls) reach q) (front game journal permitted (seen game h t)
      (fed calls) later q)) q
  IsGoing-run h c (Advance n ∷ calls) reach a goes q =
      IsGoing-run h (advanced game n c) calls reach (Has-advanced game n h c a) (IsGoing-advanced n h c a goes
      (front game journal permitted h (fed calls) reach q)) q

  following_in_step : (h : Shown W E) (f : ℕ) → IsWithin game h f → Agrees game journal permitted h → IsInStep game journal (Following h f)
  following_in_step Joining f r q = tt
  following_in_step (Running v) f r q = world_is game journal permitted v f q r.0 r.1
  following_in_step EndedJoining f r q = tt
  following_in_step (Ended v) f r q = world_is game journal permitted v f q r.0 r.1
  following_in_step WrongJoining f r q = q
  following_in_step (Wrong v) f r q = q

  has_in_step : (h : Shown W E) (c : Client W E) → Has game h c → IsGoing c → Agrees game journal permitted h → IsInStep game journal c
  has_in_step h (Following k f) a goes q = subst (λ k. IsInStep game journal (Following k f)) (sym a.0) (following_in_step h f a.1 q)
  has_in_step h (Desync v f g mine theirs) a goes q = goes

  -- whatever stream shows what agrees with a journal, whoever told it, its client is in step with that
  pub IsInStep-run : (calls : List (Call W E)) → Agrees game journal permitted (shown game Joining (fed calls))
      → IsInStep game journal (run game unfed calls)
  IsInStep-run calls q =
      has_in_step (shown game Joining (fed calls)) (run game unfed calls) (Has-run game Joining unfed calls (refl, tt))
      (IsGoing-run Joining unfed calls tt (refl, tt) tt q) q

  -- a word that comes is of a frame still to be run, of the map's or an older one, or of one that was run recently
  word_in_reach : (v : View W E) (f g w : ℕ) → game.lead < 128 → f ≤ v.permitted
      → Agrees game journal permitted (seen game (Running v) (Sync g w)) → (f < g) ⊎ ((g ≤ v.map_frame) ⊎ (is_recent game v f g ≡ true))
  word_in_reach v f g w few high q =
      let n = (last_sync v.syncs (record { frame = g; word = w; permitted = v.permitted }) q.syncs_are).near
      in ⊎_elim (λ l. inl l)
      (λ below. inr (⊎_elim
      (λ low. inr (and_from (nat_lt v.map_frame g) _ (lt-ltb v.map_frame g low) (and_from (nat_le g f) _ (le-leb g f below)
      (lt-ltb f (g + 128) (omega arith)))))
      (λ low. inl low) (cases_lt v.map_frame g)))
      (cases_lt f g)

  pub word_in_reach-run : (calls : List (Call W E)) (v : View W E) (f g w : ℕ) → game.lead < 128
      → run game unfed calls ≡ Following (Running v) f
      → Agrees game journal permitted (seen game (shown game Joining (fed calls)) (Sync g w)) → (f < g)
      ⊎ ((g ≤ v.map_frame) ⊎ (is_recent game v f g ≡ true))
  word_in_reach-run calls v f g w few is q =
      word_in_reach v f g w few (within_is game calls v f is).1
      (subst (λ h. Agrees game journal permitted (seen game h (Sync g w))) (sym (follows_is game calls (Running v) f is)) q)
