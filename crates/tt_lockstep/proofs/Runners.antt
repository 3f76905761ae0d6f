-- A running client does what the client does, call for call.
use Rattle.std.proofs.Common.{
  ◌≡◌,
  ℕ,
  zero,
  suc,
  ◌+◌,
  ◌-◌,
  ◌<◌,
  ◌≤◌,
  min,
  Bool,
  true,
  false,
  cond,
  not,
  ◌&&◌,
  List,
  [],
  ◌∷◌,
  ◌++◌,
  ◌==◌,
  Some,
  None,
  nat_lt,
  nat_le,
  take,
  refl,
  ap,
  ap₂,
  sym,
  append-nil,
  ◌∙◌,
  subst,
  ⊎_elim,
  arith,
}
use Rattle.std.proofs.lemmas.Bool.{and_parts, and_from, ltb-true, ltb-false, leb-true, lt-ltb, le-ltb, le-leb, ne_eqb, cases_lt}
use Rattle.tt_lockstep.specs.Game.{Game}
use Rattle.tt_lockstep.specs.Journal.{above, folded}
use Rattle.tt_lockstep.specs.Told.{Told, Map, Command, Frame, Sync, Other, Stray, End}
use Rattle.tt_lockstep.specs.Shown.{
  SyncPoint,
  View,
  Shown,
  Joining,
  Running,
  EndedJoining,
  Ended,
  WrongJoining,
  Wrong,
  with_entry,
  with_frame,
  with_sync,
  seen,
  world_of,
}
use Rattle.tt_lockstep.specs.Client.{
  Call,
  Feed,
  Advance,
  fed,
  Client,
  Following,
  Desync,
  unfed,
  is_recent,
  compared,
  hearing,
  hears,
  run_to,
  one_frame,
  advanced,
  run,
}
use Rattle.tt_lockstep.specs.Server.{Step, after, initial, stream}
use Rattle.tt_lockstep.specs.InStep.{IsInStep}
use Rattle.tt_lockstep.specs.Runner.{
  IsRunnerInStep,
  Kept,
  RunnerJoining,
  RunnerRunning,
  RunnerWrong,
  RunnerDesync,
  syncs_above,
  word_at,
  runner_entry,
  runner_max,
  runner_compared,
  runner_sync,
  runner_hears,
  runner_checked,
  kept_on,
  next_world,
  runner_frame,
  runner_advanced,
  runner_run,
  words_down,
  kept_of,
  runner_of,
}
use Rattle.tt_lockstep.proofs.Journals.{above-push}
use Rattle.tt_lockstep.proofs.Streams.{lockstep_holds}
use Rattle.tt_lockstep.proofs.Views.{view-next, view-entry}
use Rattle.tt_lockstep.proofs.Followers.{IsWithin, Has, Has-hears, Has-frame, Has-advanced}

syncs_above-append : (f : ℕ) (xs ys : List SyncPoint) → syncs_above f (xs ++ ys) ≡ syncs_above f xs ++ syncs_above f ys
syncs_above-append f [] ys = refl
syncs_above-append f (x ∷ xs) ys =
    elim (nat_lt f x.frame) as (λ b. cond b (x ∷ syncs_above f (xs ++ ys)) (syncs_above f (xs ++ ys)) ≡ cond b (x ∷ syncs_above f xs)
    (syncs_above f xs) ++ syncs_above f ys)
    [ true ↦ ap (λ zs. x ∷ zs) (syncs_above-append f xs ys) | false ↦ syncs_above-append f xs ys ]

-- above one frame, and then above the next
syncs_above-next : (f : ℕ) (syncs : List SyncPoint) → syncs_above (suc f) (syncs_above f syncs) ≡ syncs_above (suc f) syncs
syncs_above-next f [] = refl
syncs_above-next f (x ∷ xs) = grind (arith, syncs_above-next f xs, ltb-true, ltb-false)

-- the words of frames, from one down
word_at-in : (word : ℕ → ℕ) (i f n : ℕ) → i < n → word_at i (words_down word f n) ≡ Some (word (f - i))
word_at-in word i f zero l = absurd (omega (arith, l))
word_at-in word zero f (suc n) l = ap (λ g. Some (word g)) (omega arith)
word_at-in word (suc i) f (suc n) l = word_at-in word i (f - 1) n (omega (arith, l)) ∙ ap (λ g. Some (word g)) (omega arith)

word_at-out : (word : ℕ → ℕ) (i f n : ℕ) → n ≤ i → word_at i (words_down word f n) ≡ None
word_at-out word i f zero l = refl
word_at-out word zero f (suc n) l = absurd (omega (arith, l))
word_at-out word (suc i) f (suc n) l = word_at-out word i (f - 1) n (omega (arith, l))

words_down-same : (p q : ℕ → ℕ) (f n : ℕ) → ((g : ℕ) → g ≤ f → f < g + n → p g ≡ q g) → words_down p f n ≡ words_down q f n
words_down-same p q f zero same = refl
words_down-same p q f (suc n) same =
    ap₂ (λ x xs. x ∷ xs) (same f (omega arith) (omega arith)) (words_down-same p q (f - 1) n (λ g low high. same g (omega (arith, low))
    (omega (arith, high))))

words_down-suc : (word : ℕ → ℕ) (f n : ℕ) → word (suc f) ∷ words_down word f n ≡ words_down word (suc f) (suc n)
words_down-suc word f n = ap (λ g. word (suc f) ∷ words_down word g n) (omega arith)

take-down_all : (word : ℕ → ℕ) (m f n : ℕ) → n ≤ m → take m (words_down word f n) ≡ words_down word f n
take-down_all word zero f zero l = refl
take-down_all word zero f (suc n) l = absurd (omega (arith, l))
take-down_all word (suc m) f zero l = refl
take-down_all word (suc m) f (suc n) l = ap (λ xs. word f ∷ xs) (take-down_all word m (f - 1) n (omega (arith, l)))

take-down : (word : ℕ → ℕ) (m f n : ℕ) → m ≤ n → take m (words_down word f n) ≡ words_down word f m
take-down word zero f n l = refl
take-down word (suc m) f zero l = absurd (omega (arith, l))
take-down word (suc m) f (suc n) l = ap (λ xs. word f ∷ xs) (take-down word m (f - 1) n (omega (arith, l)))

-- one more word, and 128 at most
take-next : (word : ℕ → ℕ) (f n : ℕ) → take 128 (word (suc f) ∷ words_down word f (min 128 n)) ≡ words_down word (suc f) (min 128 (suc n))
take-next word f n =
    ⊎_elim
    (λ l. let few : min 128 n ≡ n = omega (arith, l)
    in let more : min 128 (suc n) ≡ suc n = omega (arith, l)
    in ap (λ k. take 128 (word (suc f) ∷ words_down word f k)) few ∙ ap (λ xs. take 128 xs) (words_down-suc word f n)
    ∙ take-down_all word 128 (suc f) (suc n) (omega (arith, l)) ∙ ap (λ k. words_down word (suc f) k) (sym more))
    (λ l. let few : min 128 n ≡ 128 = omega (arith, l)
    in let more : min 128 (suc n) ≡ 128 = omega (arith, l)
    in ap (λ k. take 128 (word (suc f) ∷ words_down word f k)) few ∙ ap (λ xs. take 128 xs) (words_down-suc word f 128)
    ∙ take-down word 128 (suc f) 129 (omega arith) ∙ ap (λ k. words_down word (suc f) k) (sym more))
    (cases_lt n 128)

module _ {W E : Type 0} (game : Game W E) where
  above-next : (f : ℕ) (es : List E) → above game (suc f) (above game f es) ≡ above game (suc f) es
  above-next f [] = refl
  above-next f (e ∷ es) = grind (arith, above-next f es, ltb-true, ltb-false)

  -- its own word at a frame
  abbrev own_word : View W E → ℕ → ℕ
  own_word v g = game.word (world_of game v g)

  -- an entry above its frame changes none of the words that are kept
  kept-entry : (v : View W E) (e : E) (f : ℕ) → v.map_frame ≤ f → f < game.frame_of e
      → kept_of game (record v { last_entry = game.frame_of e; entries = v.entries ++ e ∷ [] }) f
      ≡ record (kept_of game v f) { last_entry = game.frame_of e; entries = above game f v.entries ++ e ∷ [] }
  kept-entry v e f low high =
      let new : View W E = record v { last_entry = game.frame_of e; entries = v.entries ++ e ∷ [] }
      in let n = min 128 (f - v.map_frame)
      in let mk : W → List E → List ℕ → Kept W E = λ w es ws. record {
        world = w;
        frame = f;
        permitted = v.permitted;
        last_entry =
            game.frame_of e;
        entries = es;
        words = ws;
        syncs = syncs_above f v.syncs;
      }
      in ap (λ w. mk w (above game f new.entries) (words_down (own_word new) f n)) (view-entry game v e (game.frame_of e) f low high)
      ∙ ap (λ es. mk (world_of game v f) es (words_down (own_word new) f n)) (above-push game f v.entries e high)
      ∙ ap (λ ws. mk (world_of game v f) (above game f v.entries ++ e ∷ []) ws)
      (words_down-same (own_word new) (own_word v) f n (λ g l h. ap (λ w. game.word w) (view-entry game v e (game.frame_of e) g
      (omega (arith, h, low)) (omega (arith, l, high)))))

  entry_runs : (v : View W E) (e : E) (f : ℕ) → IsWithin game (Running v) f → runner_of game (Following (with_entry game v e) f) ≡
      runner_entry game (kept_of game v f) e
  entry_runs v e f r =
      let k = kept_of game v f
      in let new : View W E = record v { last_entry = game.frame_of e; entries = v.entries ++ e ∷ [] }
      in let by : (a b : Bool) → nat_lt v.permitted (game.frame_of e) ≡ a
      → runner_of game (Following (cond a (cond b (Running new) (Wrong v)) (Wrong v)) f)
      ≡ cond a (cond b (RunnerRunning (record k { last_entry = game.frame_of e; entries = k.entries ++ e ∷ [] })) (RunnerWrong k))
      (RunnerWrong k) =
      λ a b. elim a as (λ a. nat_lt v.permitted (game.frame_of e) ≡ a
      → runner_of game (Following (cond a (cond b (Running new) (Wrong v)) (Wrong v)) f)
      ≡ cond a (cond b (RunnerRunning (record k { last_entry = game.frame_of e; entries = k.entries ++ e ∷ [] })) (RunnerWrong k))
      (RunnerWrong k)) [
        | true ↦ λ is.
            let l : v.permitted < game.frame_of e = ltb-true v.permitted (game.frame_of e) is
            in elim b as (λ b. runner_of game (Following (cond b (Running new) (Wrong v)) f) ≡ cond b
            (RunnerRunning (record k { last_entry = game.frame_of e; entries = k.entries ++ e ∷ [] })) (RunnerWrong k))
            [ true ↦ ap (λ k. RunnerRunning k) (kept-entry v e f r.0 (omega (arith, r.1, l))) | false ↦ refl ]
        | false ↦ λ is. refl
      ]
      in by (nat_lt v.permitted (game.frame_of e)) (nat_le v.last_entry (game.frame_of e)) refl

  max_runs : (v : View W E) (g max f : ℕ) → runner_of game (Following (with_frame game v g max) f) ≡ runner_max game (kept_of game v f) g
      max
  max_runs v g max f =
      let k = kept_of game v f
      in elim (nat_le g max) as (λ a. runner_of game
      (Following (cond a (cond (nat_le v.permitted max) (Running (record v { permitted = max })) (Wrong v)) (Wrong v)) f)
      ≡ cond a (cond (nat_le v.permitted max) (RunnerRunning (record k { permitted = max })) (RunnerWrong k)) (RunnerWrong k)) [
        | true ↦ elim (nat_le v.permitted max) as (λ b. runner_of game (Following (cond b (Running (record v { permitted = max }))
            (Wrong v)) f) ≡ cond b (RunnerRunning (record k { permitted = max })) (RunnerWrong k)) [ true ↦ refl | false ↦ refl ]
        | false ↦ refl
      ]

  -- a word that is kept beside the others: of a frame to come, or of one that was run
  sync-later : (v : View W E) (g w f : ℕ) → f < g
      → kept_of game (record v { syncs = v.syncs ++ record { frame = g; word = w; permitted = v.permitted } ∷ [] }) f
      ≡ record (kept_of game v f) { syncs = syncs_above f v.syncs ++ record { frame = g; word = w; permitted = v.permitted } ∷ [] }
  sync-later v g w f l =
      let p : SyncPoint = record { frame = g; word = w; permitted = v.permitted }
      in ap (λ syncs. let k : Kept W E = record (kept_of game v f) { syncs = syncs } in k)
      (syncs_above-append f v.syncs (p ∷ []) ∙ ap (λ b. syncs_above f v.syncs ++ cond b (p ∷ []) []) (lt-ltb f g l))

  sync-run : (v : View W E) (g w f : ℕ) → g ≤ f
      → kept_of game (record v { syncs = v.syncs ++ record { frame = g; word = w; permitted = v.permitted } ∷ [] }) f ≡ kept_of game v f
  sync-run v g w f l =
      let p : SyncPoint = record { frame = g; word = w; permitted = v.permitted }
      in ap (λ syncs. let k : Kept W E = record (kept_of game v f) { syncs = syncs } in k)
      (syncs_above-append f v.syncs (p ∷ []) ∙ ap (λ b. syncs_above f v.syncs ++ cond b (p ∷ []) []) (le-ltb f g l)
      ∙ append-nil (syncs_above f v.syncs))

  recent_is : (v : View W E) (f g : ℕ) → v.map_frame < g → g ≤ f → f < g + 128 → is_recent game v f g ≡ true
  recent_is v f g low below near =
      and_from (nat_lt v.map_frame g) _ (lt-ltb v.map_frame g low) (and_from (nat_le g f) _ (le-leb g f below) (lt-ltb f (g + 128) near))

  recent_parts : (v : View W E) (f g : ℕ) → is_recent game v f g ≡ true → (v.map_frame < g) × (g ≤ f) × (f < g + 128)
  recent_parts v f g is =
      let a = and_parts (nat_lt v.map_frame g) _ is
      in let b = and_parts (nat_le g f) _ a.1
      in (ltb-true v.map_frame g a.0, leb-true g f b.0, ltb-true f (g + 128) b.1)

  not_true : (b : Bool) → (b ≡ true → ⊥) → b ≡ false
  not_true true h = absurd (h refl)
  not_true false h = refl

  -- a word of a frame that was run is compared with the one that is kept, if it is one of the last
  compared_runs : (v : View W E) (g w f : ℕ) (recent : Bool) → is_recent game v f g ≡ recent → g ≤ f
      → runner_of game (cond (recent && not (own_word v g == w)) (Desync v f g (own_word v g) w) (Following (with_sync game v g w) f))
      ≡ runner_compared game (kept_of game v f) g w (word_at (f - g) (kept_of game v f).words)
  compared_runs v g w f true is below =
      let k = kept_of game v f
      in let n = min 128 (f - v.map_frame)
      in let parts = recent_parts v f g is
      in let kept : word_at (f - g) k.words ≡ Some (own_word v g) =
      word_at-in (own_word v) (f - g) f n (omega (arith, parts.0, parts.1, parts.2)) ∙ ap (λ i. Some (own_word v i)) (omega (arith, below))
      in elim (own_word v g == w) as (λ b. runner_of game (cond (true && not b) (Desync v f g (own_word v g) w)
      (Following (with_sync game v g w) f)) ≡ cond b (RunnerRunning k) (RunnerDesync k g (own_word v g) w))
      [ true ↦ ap (λ k. RunnerRunning k) (sync-run v g w f below) | false ↦ refl ]
      ∙ sym (ap (λ o. runner_compared game k g w o) kept)
  compared_runs v g w f false is below =
      let k = kept_of game v f
      in let n = min 128 (f - v.map_frame)
      in let far : n ≤ f - g = ⊎_elim
      (λ low. ⊎_elim (λ near. absurd (cc (is, recent_is v f g low below near))) (λ far. omega (arith, far)) (cases_lt f (g + 128)))
      (λ low. omega (arith, low)) (cases_lt v.map_frame g)
      in ap (λ k. RunnerRunning k) (sync-run v g w f below)
      ∙ sym (ap (λ o. runner_compared game k g w o) (word_at-out (own_word v) (f - g) f n far))

  sync_runs : (v : View W E) (g w f : ℕ) → runner_of game (compared game v f g w) ≡ runner_sync game (kept_of game v f) g w
  sync_runs v g w f =
      let k = kept_of game v f
      in let p : SyncPoint = record { frame = g; word = w; permitted = v.permitted }
      in let mine = own_word v g
      in ⊎_elim
      (λ l.
      let no : is_recent game v f g ≡ false = not_true (is_recent game v f g) (λ is. omega (arith, l, (recent_parts v f g is).1))
      in ap (λ b. runner_of game (cond (b && not (mine == w)) (Desync v f g mine w) (Following (with_sync game v g w) f))) no
      ∙ ap (λ k. RunnerRunning k) (sync-later v g w f l)
      ∙ sym (ap (λ b. cond b (RunnerRunning (record k { syncs = k.syncs ++ p ∷ [] })) (runner_compared game k g w
      (word_at (f - g) k.words))) (lt-ltb f g l)))
      (λ below.
      let run_before = ap (λ b. cond b (RunnerRunning (record k { syncs = k.syncs ++ p ∷ [] })) (runner_compared game k g w
      (word_at (f - g) k.words))) (le-ltb f g below)
      in compared_runs v g w f (is_recent game v f g) refl below ∙ sym run_before)
      (cases_lt f g)

  -- a frame that was run: what is kept, and what it is compared with
  kept-next : (v : View W E) (f : ℕ) → v.map_frame ≤ f → kept_on game (kept_of game v f) (next_world game (kept_of game v f)) ≡ kept_of
      game v (suc f)
  kept-next v f low =
      let k = kept_of game v f
      in let mk : W → List E → List ℕ → List SyncPoint → Kept W E = λ w es ws syncs. record {
        world = w;
        frame = suc f;
        permitted =
            v.permitted;
        last_entry = v.last_entry;
        entries = es;
        words = ws;
        syncs = syncs;
      }
      in let w : next_world game k ≡ world_of game v (suc f) = sym (view-next game v f low)
      in let n : suc (f - v.map_frame) ≡ suc f - v.map_frame = omega (arith, low)
      in let words : take 128 (game.word (next_world game k) ∷ k.words) ≡ (kept_of game v (suc f)).words =
      ap (λ u. take 128 (game.word u ∷ k.words)) w ∙ take-next (own_word v) f (f - v.map_frame)
      ∙ ap (λ n. words_down (own_word v) (suc f) (min 128 n)) n
      in ap (λ u. mk u (above game (suc f) k.entries) (take 128 (game.word (next_world game k) ∷ k.words)) (syncs_above (suc f) k.syncs)) w
      ∙ ap (λ es. mk (world_of game v (suc f)) es (take 128 (game.word (next_world game k) ∷ k.words)) (syncs_above (suc f) k.syncs))
      (above-next f v.entries)
      ∙ ap (λ ws. mk (world_of game v (suc f)) (above game (suc f) v.entries) ws (syncs_above (suc f) k.syncs)) words
      ∙ ap (λ syncs. mk (world_of game v (suc f)) (above game (suc f) v.entries) (kept_of game v (suc f)).words syncs)
      (syncs_above-next f v.syncs)

  checked_runs : (v : View W E) (f : ℕ) (syncs : List SyncPoint)
      → runner_of game (run_to game v (suc f) syncs) ≡ runner_checked game (kept_of game v (suc f)) (suc f) (own_word v (suc f))
      (syncs_above f syncs)
  checked_runs v f [] = refl
  checked_runs v f (sync ∷ syncs) =
      let k = kept_of game v (suc f)
      in let rest = checked_runs v f syncs
      in ⊎_elim
      (λ l.
      elim (sync.frame == suc f && not (own_word v (suc f) == sync.word)) as (λ b. runner_of game
      (cond b (Desync v (suc f) (suc f) (own_word v (suc f)) sync.word) (run_to game v (suc f) syncs))
      ≡ cond b (RunnerDesync k (suc f) (own_word v (suc f)) sync.word) (runner_checked game k (suc f) (own_word v (suc f))
      (syncs_above f syncs)))
      [ true ↦ refl | false ↦ rest ]
      ∙ sym (ap (λ b. runner_checked game k (suc f) (own_word v (suc f)) (cond b (sync ∷ syncs_above f syncs) (syncs_above f syncs)))
      (lt-ltb f sync.frame l)))
      (λ l.
      let no : (sync.frame == suc f) ≡ false = ne_eqb sync.frame (suc f) (λ e. omega (arith, l, e))
      in ap (λ b. runner_of game (cond (b && not (own_word v (suc f) == sync.word)) (Desync v (suc f) (suc f) (own_word v (suc f))
      sync.word) (run_to game v (suc f) syncs))) no
      ∙ rest
      ∙ sym (ap (λ b. runner_checked game k (suc f) (own_word v (suc f)) (cond b (sync ∷ syncs_above f syncs) (syncs_above f syncs)))
      (le-ltb f sync.frame l)))
      (cases_lt f sync.frame)

  frame_runs : (h : Shown W E) (f : ℕ) → IsWithin game h f → runner_of game (one_frame game (Following h f)) ≡ runner_frame game
      (runner_of game (Following h f))
  frame_runs (Running v) f r =
      let k = kept_of game v f
      in elim (nat_lt f v.permitted) as (λ b. runner_of game (cond b (run_to game v (suc f) v.syncs) (Following (Running v) f))
      ≡ cond b (runner_checked game (kept_on game k (next_world game k)) (suc f) (game.word (next_world game k)) k.syncs)
      (RunnerRunning k)) [
        | true ↦ checked_runs v f v.syncs
            ∙ ap₂ (λ k w. runner_checked game k (suc f) (game.word w) (syncs_above f v.syncs)) (sym (kept-next v f r.0))
            (view-next game v f r.0)
        | false ↦ refl
      ]
  frame_runs Joining f r = refl
  frame_runs EndedJoining f r = refl
  frame_runs (Ended v) f r = refl
  frame_runs WrongJoining f r = refl
  frame_runs (Wrong v) f r = refl

  map_runs : (s : ℕ) (w : W) → runner_of game (hearing game Joining 0 (Map s w)) ≡ runner_hears game RunnerJoining (Map s w)
  map_runs s w =
      let none : s - s ≡ 0 = omega arith
      in ap (λ n. let k : Kept W E = record {
        world = folded game w s [] n;
        frame = s;
        permitted = s;
        last_entry = s;
        entries = [];
        words =
            words_down (λ g. game.word (folded game w s [] (g - s))) s (min 128 n);
        syncs = [];
      } in RunnerRunning k) none

  hearing_runs : (h : Shown W E) (f : ℕ) (t : Told W E) → IsWithin game h f → runner_of game (hearing game h f t) ≡ runner_hears game
      (runner_of game (Following h f)) t
  hearing_runs Joining f (Map s w) r = map_runs s w
  hearing_runs Joining f (Command e) r = refl
  hearing_runs Joining f (Frame g max) r = refl
  hearing_runs Joining f (Sync g w) r = refl
  hearing_runs Joining f Other r = refl
  hearing_runs Joining f Stray r = refl
  hearing_runs Joining f End r = refl
  hearing_runs (Running v) f (Map s w) r = refl
  hearing_runs (Running v) f (Command e) r = entry_runs v e f r
  hearing_runs (Running v) f (Frame g max) r = max_runs v g max f
  hearing_runs (Running v) f (Sync g w) r = sync_runs v g w f
  hearing_runs (Running v) f Other r = refl
  hearing_runs (Running v) f Stray r = refl
  hearing_runs (Running v) f End r = refl
  hearing_runs EndedJoining f t r = refl
  hearing_runs (Ended v) f t r = refl
  hearing_runs WrongJoining f t r = refl
  hearing_runs (Wrong v) f t r = refl

  hears_runs : (h : Shown W E) (c : Client W E) (t : Told W E) → Has game h c → runner_of game (hears game c t) ≡ runner_hears game
      (runner_of game c) t
  hears_runs h (Following k f) t a = hearing_runs k f t (subst (λ k. IsWithin game k f) (sym a.0) a.1)
  hears_runs h (Desync v f g mine theirs) t a = refl

  one_runs : (h : Shown W E) (c : Client W E) → Has game h c → runner_of game (one_frame game c) ≡ runner_frame game (runner_of game c)
  one_runs h (Following k f) a = frame_runs k f (subst (λ k. IsWithin game k f) (sym a.0) a.1)
  one_runs h (Desync v f g mine theirs) a = refl

  advanced_runs : (n : ℕ) (h : Shown W E) (c : Client W E) → Has game h c → runner_of game (advanced game n c) ≡ runner_advanced game n
      (runner_of game c)
  advanced_runs zero h c a = refl
  advanced_runs (suc n) h c a =
      advanced_runs n h (one_frame game c) (Has-frame game h c a) ∙ ap (λ r. runner_advanced game n r) (one_runs h c a)

  all_runs : (h : Shown W E) (c : Client W E) (calls : List (Call W E)) → Has game h c → runner_of game (run game c calls) ≡ runner_run
      game (runner_of game c) calls
  all_runs h c [] a = refl
  all_runs h c (Feed t ∷ calls) a =
      all_runs (seen game h t) (hears game c t) calls (Has-hears game h c t a) ∙ ap (λ r. runner_run game r calls) (hears_runs h c t a)
  all_runs h c (Advance n ∷ calls) a =
      all_runs h (advanced game n c) calls (Has-advanced game n h c a) ∙ ap (λ r. runner_run game r calls) (advanced_runs n h c a)

  -- a running client does what the client does, call for call
  pub runner_is : (calls : List (Call W E)) → runner_of game (run game unfed calls) ≡ runner_run game RunnerJoining calls
  runner_is calls = all_runs Joining unfed calls (refl, tt)

  keeps_step : (journal : List E) (c : Client W E) → IsInStep game journal c → IsRunnerInStep game journal (runner_of game c)
  keeps_step journal (Following Joining f) h = tt
  keeps_step journal (Following (Running v) f) h = h
  keeps_step journal (Following EndedJoining f) h = tt
  keeps_step journal (Following (Ended v) f) h = h
  keeps_step journal (Following WrongJoining f) h = h
  keeps_step journal (Following (Wrong v) f) h = h
  keeps_step journal (Desync v f g mine theirs) h = h

  pub runner_carries : (journal : List E) (calls : List (Call W E)) → IsInStep game journal (run game unfed calls)
      → IsRunnerInStep game journal (runner_run game RunnerJoining calls)
  runner_carries journal calls h =
      subst (λ r. IsRunnerInStep game journal r) (runner_is calls) (keeps_step journal (run game unfed calls) h)

  pub runner_in_step : (steps : List (Step E)) (calls : List (Call W E)) (later : List (Told W E)) → stream game initial steps ≡ fed calls
      ++ later
      → IsRunnerInStep game (after game initial steps).journal (runner_run game RunnerJoining calls)
  runner_in_step steps calls later e = runner_carries (after game initial steps).journal calls (lockstep_holds game steps calls later e)
