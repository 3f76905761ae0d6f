-- Every client, whoever wrote its stream: as long as it is not out of step it has what its stream shows, and runs no further than is
-- permitted.
use Rattle.std.proofs.Common.{◌≡◌, ℕ, zero, suc, ◌<◌, ◌≤◌, not, ◌&&◌, List, [], ◌∷◌, ◌==◌, nat_lt, nat_le, refl, sym, subst, arith}
use Rattle.std.proofs.lemmas.Bool.{ltb-true, leb-true, cond_both}
use Rattle.tt_lockstep.specs.Game.{Game}
use Rattle.tt_lockstep.specs.Told.{Told, Map, Command, Frame, Sync, Other, Stray, End}
use Rattle.tt_lockstep.specs.Shown.{
  View,
  SyncPoint,
  Shown,
  Joining,
  Running,
  EndedJoining,
  Ended,
  WrongJoining,
  Wrong,
  with_sync,
  seen,
  shown,
  world_of,
}
use Rattle.tt_lockstep.specs.Client.{
  Call,
  Feed,
  Advance,
  fed,
  Client,
  Following,
  Desync,
  unfed,
  is_recent,
  hearing,
  hears,
  run_to,
  one_frame,
  advanced,
  run,
}

module _ {W E : Type 0} (game : Game W E) where
  -- the frame of a client lies between its map frame and the permitted one
  abbrev pub IsWithin : Shown W E → ℕ → Type 0
  IsWithin Joining f = Unit
  IsWithin (Running v) f = (v.map_frame ≤ f) × (f ≤ v.permitted)
  IsWithin EndedJoining f = Unit
  IsWithin (Ended v) f = (v.map_frame ≤ f) × (f ≤ v.permitted)
  IsWithin WrongJoining f = Unit
  IsWithin (Wrong v) f = Unit

  -- a client that was shown h has it, if it is not out of step
  abbrev pub Has : Shown W E → Client W E → Type 0
  Has h (Following k f) = (k ≡ h) × IsWithin h f
  Has h (Desync v f g mine theirs) = Unit

  Within-entry : (v : View W E) (e : E) (f : ℕ) → IsWithin (Running v) f → IsWithin (seen game (Running v) (Command e)) f
  Within-entry v e f r =
      cond_both (nat_lt v.permitted (game.frame_of e)) _ (Wrong v) (λ h. IsWithin h f)
      (λ _. cond_both (nat_le v.last_entry (game.frame_of e)) _ (Wrong v) (λ h. IsWithin h f) (λ _. r) (λ _. tt)) (λ _. tt)

  Within-frame : (v : View W E) (g max f : ℕ) → IsWithin (Running v) f → IsWithin (seen game (Running v) (Frame g max)) f
  Within-frame v g max f r =
      cond_both (nat_le g max) _ (Wrong v) (λ h. IsWithin h f)
      (λ _. cond_both (nat_le v.permitted max) _ (Wrong v) (λ h. IsWithin h f) (λ l. let k = leb-true v.permitted max l
      in (r.0, omega (arith, k, r.1))) (λ _. tt)) (λ _. tt)

  hearing_has : (h : Shown W E) (f : ℕ) (t : Told W E) → IsWithin h f → Has (seen game h t) (hearing game h f t)
  hearing_has Joining f (Map s w) r = (refl, (omega arith, omega arith))
  hearing_has Joining f (Command e) r = (refl, tt)
  hearing_has Joining f (Frame g max) r = (refl, tt)
  hearing_has Joining f (Sync g w) r = (refl, tt)
  hearing_has Joining f Other r = (refl, tt)
  hearing_has Joining f Stray r = (refl, tt)
  hearing_has Joining f End r = (refl, tt)
  hearing_has (Running v) f (Map s w) r = (refl, tt)
  hearing_has (Running v) f (Command e) r = (refl, Within-entry v e f r)
  hearing_has (Running v) f (Frame g max) r = (refl, Within-frame v g max f r)
  hearing_has (Running v) f (Sync g w) r =
      cond_both (is_recent game v f g && not (game.word (world_of game v g) == w)) _ _ (λ c. Has (with_sync game v g w) c) (λ _. tt)
      (λ _. (refl, r))
  hearing_has (Running v) f Other r = (refl, r)
  hearing_has (Running v) f Stray r = (refl, tt)
  hearing_has (Running v) f End r = (refl, r)
  hearing_has EndedJoining f t r = (refl, tt)
  hearing_has (Ended v) f t r = (refl, r)
  hearing_has WrongJoining f t r = (refl, tt)
  hearing_has (Wrong v) f t r = (refl, tt)

  pub Has-hears : (h : Shown W E) (c : Client W E) (t : Told W E) → Has h c → Has (seen game h t) (hears game c t)
  Has-hears h (Following k f) t a = subst (λ k. Has (seen game h t) (hearing game k f t)) (sym a.0) (hearing_has h f t a.1)
  Has-hears h (Desync v f g mine theirs) t a = tt

  run_to_has : (v : View W E) (f : ℕ) (syncs : List SyncPoint) → IsWithin (Running v) f → Has (Running v) (run_to game v f syncs)
  run_to_has v f [] r = (refl, r)
  run_to_has v f (sync ∷ syncs) r =
      cond_both (sync.frame == f && not (game.word (world_of game v f) == sync.word)) _ _ (λ c. Has (Running v) c) (λ _. tt)
      (λ _. run_to_has v f syncs r)

  frame_has : (h : Shown W E) (f : ℕ) → IsWithin h f → Has h (one_frame game (Following h f))
  frame_has Joining f r = (refl, r)
  frame_has (Running v) f r =
      cond_both (nat_lt f v.permitted) _ _ (λ c. Has (Running v) c)
      (λ l. let k : f < v.permitted = ltb-true f v.permitted l in run_to_has v (suc f) v.syncs (omega (arith, r.0), k)) (λ _. (refl, r))
  frame_has EndedJoining f r = (refl, r)
  frame_has (Ended v) f r = (refl, r)
  frame_has WrongJoining f r = (refl, r)
  frame_has (Wrong v) f r = (refl, r)

  pub Has-frame : (h : Shown W E) (c : Client W E) → Has h c → Has h (one_frame game c)
  Has-frame h (Following k f) a = subst (λ k. Has h (one_frame game (Following k f))) (sym a.0) (frame_has h f a.1)
  Has-frame h (Desync v f g mine theirs) a = tt

  pub Has-advanced : (n : ℕ) (h : Shown W E) (c : Client W E) → Has h c → Has h (advanced game n c)
  Has-advanced zero h c a = a
  Has-advanced (suc n) h c a = Has-advanced n h (one_frame game c) (Has-frame h c a)

  pub Has-run : (h : Shown W E) (c : Client W E) (calls : List (Call W E)) → Has h c → Has (shown game h (fed calls)) (run game c calls)
  Has-run h c [] a = a
  Has-run h c (Feed t ∷ calls) a = Has-run (seen game h t) (hears game c t) calls (Has-hears h c t a)
  Has-run h c (Advance n ∷ calls) a = Has-run h (advanced game n c) calls (Has-advanced n h c a)

  has_now : (calls : List (Call W E)) (h : Shown W E) (f : ℕ) → run game unfed calls ≡ Following h f
      → Has (shown game Joining (fed calls)) (Following h f)
  has_now calls h f is = subst (λ c. Has (shown game Joining (fed calls)) c) is (Has-run Joining unfed calls (refl, tt))

  pub follows_is : (calls : List (Call W E)) (h : Shown W E) (f : ℕ) → run game unfed calls ≡ Following h f
      → h ≡ shown game Joining (fed calls)
  follows_is calls h f is = (has_now calls h f is).0

  pub within_is : (calls : List (Call W E)) (v : View W E) (f : ℕ) → run game unfed calls ≡ Following (Running v) f → (v.map_frame ≤ f)
      × (f ≤ v.permitted)
  within_is calls v f is =
      let a = has_now calls (Running v) f is
      in subst (λ h. IsWithin h f) (sym a.0) a.1
