-- Lemmas on what a client is shown.
use Rattle.std.proofs.Common.{
  ◌≡◌,
  ℕ,
  suc,
  ◌+◌,
  ◌-◌,
  ◌<◌,
  ◌≤◌,
  Bool,
  true,
  false,
  cond,
  List,
  [],
  ◌∷◌,
  ◌++◌,
  nat_lt,
  nat_le,
  refl,
  ap,
  sym,
  ◌∙◌,
  arith,
}
use Rattle.std.proofs.lemmas.Bool.{ltb-true, leb-true, cond_both}
use Rattle.tt_lockstep.specs.Game.{Game}
use Rattle.tt_lockstep.specs.Journal.{of_frame, above, applied_all, folded, world_at}
use Rattle.tt_lockstep.specs.Told.{Told, Map, Command, Frame, Sync, Other, Stray, End}
use Rattle.tt_lockstep.specs.Shown.{
  View,
  SyncPoint,
  Shown,
  Joining,
  Running,
  EndedJoining,
  Ended,
  WrongJoining,
  Wrong,
  with_entry,
  with_frame,
  with_sync,
  seen,
  shown,
  world_of,
}
use Rattle.tt_lockstep.specs.Facts.{SyncsAgree, ViewAgrees, Agrees}
use Rattle.tt_lockstep.proofs.Journals.{of_frame-stable, stable, goes_on, folded-same, of_frame-above}

module _ {W E : Type 0} (game : Game W E) where
  pub shown-append : (h : Shown W E) (xs ys : List (Told W E)) → shown game h (xs ++ ys) ≡ shown game (shown game h xs) ys
  shown-append h [] ys = refl
  shown-append h (x ∷ xs) ys = shown-append (seen game h x) xs ys

  -- what is not wrong has passed its test
  passed : (journal : List E) (permitted : ℕ) (b : Bool) (h : Shown W E) (v : View W E)
      → Agrees game journal permitted (cond b h (Wrong v)) → (b ≡ true) × Agrees game journal permitted h
  passed journal permitted true h v t = (refl, t)
  passed journal permitted false h v t = absurd t

  words_before : (journal : List E) (permitted : ℕ) (ws : List SyncPoint) (w : SyncPoint) → SyncsAgree game journal permitted (ws
      ++ w ∷ []) → SyncsAgree game journal permitted ws
  words_before journal permitted [] w h = tt
  words_before journal permitted (x ∷ xs) w h = (h.0, words_before journal permitted xs w h.1)

  -- an entry that was permitted is of no frame that could be run before it
  before_entry : (journal : List E) (permitted : ℕ) (v : View W E) (e : E) → Agrees game journal permitted (with_entry game v e)
      → ViewAgrees game journal permitted v
  before_entry journal permitted v e t =
      let a = passed journal permitted (nat_lt v.permitted (game.frame_of e)) _ v t
      in let b = passed journal permitted (nat_le v.last_entry (game.frame_of e)) _ v a.1
      in let l : v.permitted < game.frame_of e = ltb-true v.permitted (game.frame_of e) a.0
      in record {
        map_is = b.1.map_is;
        reach = b.1.reach;
        within = b.1.within;
        syncs_are = b.1.syncs_are;
        has = λ f low high. sym (of_frame-stable game f v.permitted v.entries (e ∷ []) (l, tt) high) ∙ b.1.has f low high;
      }

  before_frame : (journal : List E) (permitted : ℕ) (v : View W E) (f max : ℕ) → v.map_frame ≤ v.permitted
      → Agrees game journal permitted (with_frame game v f max) → ViewAgrees game journal permitted v
  before_frame journal permitted v f max reach t =
      let a = passed journal permitted (nat_le f max) _ v t
      in let b = passed journal permitted (nat_le v.permitted max) _ v a.1
      in let l : v.permitted ≤ max = leb-true v.permitted max b.0
      in record {
        map_is = b.1.map_is;
        reach = reach;
        within = omega (arith, b.1.within);
        syncs_are = b.1.syncs_are;
        has = λ g low high. b.1.has g low (omega arith);
      }

  before_word : (journal : List E) (permitted : ℕ) (v : View W E) (f w : ℕ) → Agrees game journal permitted (with_sync game v f w)
      → ViewAgrees game journal permitted v
  before_word journal permitted v f w t =
      record {
        map_is = t.map_is;
        reach = t.reach;
        within = t.within;
        has = t.has;
        syncs_are = words_before journal permitted v.syncs _
            t.syncs_are;
      }

  -- the permitted frame is not below the map's
  abbrev pub Reach : Shown W E → Type 0
  Reach Joining = Unit
  Reach (Running v) = v.map_frame ≤ v.permitted
  Reach EndedJoining = Unit
  Reach (Ended v) = v.map_frame ≤ v.permitted
  Reach WrongJoining = Unit
  Reach (Wrong v) = Unit

  pub Reach-seen : (h : Shown W E) (t : Told W E) → Reach h → Reach (seen game h t)
  Reach-seen Joining (Map s w) r = omega arith
  Reach-seen Joining (Command e) r = tt
  Reach-seen Joining (Frame f max) r = tt
  Reach-seen Joining (Sync f w) r = tt
  Reach-seen Joining Other r = tt
  Reach-seen Joining Stray r = tt
  Reach-seen Joining End r = tt
  Reach-seen (Running v) (Map s w) r = tt
  Reach-seen (Running v) (Command e) r =
      cond_both (nat_lt v.permitted (game.frame_of e)) _ (Wrong v) (λ h. Reach h)
      (λ _. cond_both (nat_le v.last_entry (game.frame_of e)) _ (Wrong v) (λ h. Reach h) (λ _. r) (λ _. tt)) (λ _. tt)
  Reach-seen (Running v) (Frame f max) r =
      cond_both (nat_le f max) _ (Wrong v) (λ h. Reach h)
      (λ _. cond_both (nat_le v.permitted max) _ (Wrong v) (λ h. Reach h) (λ l. omega (arith, leb-true v.permitted max l, r)) (λ _. tt))
      (λ _. tt)
  Reach-seen (Running v) (Sync f w) r = r
  Reach-seen (Running v) Other r = r
  Reach-seen (Running v) Stray r = tt
  Reach-seen (Running v) End r = r
  Reach-seen EndedJoining t r = tt
  Reach-seen (Ended v) t r = r
  Reach-seen WrongJoining t r = tt
  Reach-seen (Wrong v) t r = tt

  pub Reach-shown : (h : Shown W E) (ts : List (Told W E)) → Reach h → Reach (shown game h ts)
  Reach-shown h [] r = r
  Reach-shown h (t ∷ ts) r = Reach-shown (seen game h t) ts (Reach-seen h t r)

  -- what is true at the end of a stream was true before: what is permitted sees to it
  before : (journal : List E) (permitted : ℕ) (h : Shown W E) (t : Told W E) → Reach h → Agrees game journal permitted (seen game h t)
      → Agrees game journal permitted h
  before journal permitted Joining t r q = tt
  before journal permitted (Running v) (Map s w) r q = absurd q
  before journal permitted (Running v) (Command e) r q = before_entry journal permitted v e q
  before journal permitted (Running v) (Frame f max) r q = before_frame journal permitted v f max r q
  before journal permitted (Running v) (Sync f w) r q = before_word journal permitted v f w q
  before journal permitted (Running v) Other r q = q
  before journal permitted (Running v) Stray r q = absurd q
  before journal permitted (Running v) End r q = q
  before journal permitted EndedJoining t r q = tt
  before journal permitted (Ended v) t r q = q
  before journal permitted WrongJoining t r q = q
  before journal permitted (Wrong v) t r q = q

  pub front : (journal : List E) (permitted : ℕ) (h : Shown W E) (ts : List (Told W E)) → Reach h
      → Agrees game journal permitted (shown game h ts) → Agrees game journal permitted h
  front journal permitted h [] r q = q
  front journal permitted h (t ∷ ts) r q = before journal permitted h t r (front journal permitted (seen game h t) ts (Reach-seen h t r) q)

  -- the world of a true view, at each frame that it may run
  pub world_is : (journal : List E) (permitted : ℕ) (v : View W E) (f : ℕ) → ViewAgrees game journal permitted v → v.map_frame ≤ f
      → f ≤ v.permitted → world_of game v f ≡ world_at game journal f
  world_is journal permitted v f t low high =
      let e : v.map_frame + (f - v.map_frame) ≡ f = omega arith
      in folded-same game v.map_world v.map_frame (f - v.map_frame) v.entries journal (λ g l h. t.has g l (omega arith))
      ∙ ap (λ w. folded game w v.map_frame journal (f - v.map_frame)) t.map_is
      ∙ sym (goes_on game game.start v.map_frame (f - v.map_frame) journal)
      ∙ ap (λ k. folded game game.start 0 journal k) e

  -- the same of a client's world: one running world is enough, and of the entries those that are above its frame
  pub view-next : (v : View W E) (f : ℕ) → v.map_frame ≤ f → world_of game v (suc f) ≡ game.framed (applied_all game (world_of game v f)
      (of_frame game (suc f) (above game f v.entries)))
  view-next v f low =
      let e : suc f - v.map_frame ≡ suc (f - v.map_frame) = omega arith
      in let k : v.map_frame + suc (f - v.map_frame) ≡ suc f = omega arith
      in ap (λ n. folded game v.map_world v.map_frame v.entries n) e
      ∙ ap (λ n. game.framed (applied_all game (world_of game v f) (of_frame game n v.entries))) k
      ∙ ap (λ es. game.framed (applied_all game (world_of game v f) es)) (sym (of_frame-above game f (suc f) v.entries (omega arith)))

  -- an entry above its frame changes no world that it has had
  pub view-entry : (v : View W E) (e : E) (last f : ℕ) → v.map_frame ≤ f → f < game.frame_of e
      → world_of game (record v { last_entry = last; entries = v.entries ++ e ∷ [] }) f ≡ world_of game v f
  view-entry v e last f low high = stable game v.map_world v.map_frame (f - v.map_frame) f v.entries (e ∷ []) (high, tt) (omega arith)
