-- Every step of the server keeps what it tells true.
use Rattle.std.proofs.Common.{
  ◌≡◌,
  ℕ,
  suc,
  ◌+◌,
  ◌<◌,
  ◌≤◌,
  Bool,
  true,
  false,
  cond,
  List,
  [],
  ◌∷◌,
  ◌++◌,
  ◌==◌,
  nat_lt,
  nat_le,
  refl,
  ap,
  sym,
  ◌∙◌,
  subst,
  append-nil,
  append_assoc,
  map,
  arith,
}
use Rattle.std.proofs.lemmas.Bool.{ltb-true, ltb-false, eqb-true, lt-ltb, le-leb, cond_both}
use Rattle.tt_lockstep.specs.Game.{Game}
use Rattle.tt_lockstep.specs.Journal.{of_frame, above, world_at, AreAbove, AreUpTo, AreRising}
use Rattle.tt_lockstep.specs.Told.{Map, Command, Frame, Sync, Other, End}
use Rattle.tt_lockstep.specs.Server.{
  Server,
  Stage,
  BeforeMap,
  Loading,
  Loaded,
  Playing,
  Gone,
  Step,
  Stamp,
  RunFrame,
  TellSync,
  TellOther,
  BeginMap,
  EndMap,
  BeginPlay,
  Leave,
  Vanish,
  initial,
  begun,
  loaded,
  playing,
  if_playing,
  if_there,
  told_map,
  told_joiner,
  stepped,
  told,
  after,
  stream,
}
use Rattle.tt_lockstep.specs.Shown.{
  View,
  SyncPoint,
  Shown,
  Joining,
  Running,
  EndedJoining,
  Ended,
  WrongJoining,
  Wrong,
  fresh,
  with_entry,
  with_frame,
  seen,
  shown,
}
use Rattle.tt_lockstep.specs.Facts.{SyncAgrees, SyncsAgree, ViewAgrees, Agrees, IsInPlay, Fits, IsKept}
use Rattle.tt_lockstep.proofs.Journals.{
  of_frame-stable,
  world-stable,
  above-push,
  of_frame-above,
  are_above,
  AreUpTo-more,
  AreUpTo-push,
  AreUpTo-above,
  AreRising-push,
  AreRising-above,
  AreRising-from,
  AreAbove-less,
  AreAbove-append,
  last_of,
  last_of-le,
}
use Rattle.tt_lockstep.proofs.Views.{shown-append}

module _ {W E : Type 0} (game : Game W E) where
  -- words stay true when the journal grows above the permitted frame, and when that rises
  SyncsAgree-grow : (journal more : List E) (permitted : ℕ) (ws : List SyncPoint) → AreAbove game permitted more
      → SyncsAgree game journal permitted ws → SyncsAgree game (journal ++ more) permitted ws
  SyncsAgree-grow journal more permitted [] a h = tt
  SyncsAgree-grow journal more permitted (w ∷ ws) a h = (
    record {
      within = h.0.within;
      word_is = h.0.word_is
          ∙ ap (λ u. game.word u) (sym (world-stable game w.frame permitted journal more a h.0.within));
      near = h.0.near;
    },
    SyncsAgree-grow journal more permitted ws a h.1,
  )

  SyncsAgree-more : (journal : List E) (permitted new : ℕ) (ws : List SyncPoint) → permitted ≤ new → SyncsAgree game journal permitted ws
      → SyncsAgree game journal new ws
  SyncsAgree-more journal permitted new [] l h = tt
  SyncsAgree-more journal permitted new (w ∷ ws) l h = (
    record {
      within = omega (arith, h.0.within);
      word_is = h.0.word_is;
      near =
          h.0.near;
    },
    SyncsAgree-more journal permitted new ws l h.1,
  )

  SyncsAgree-push : (journal : List E) (permitted : ℕ) (ws : List SyncPoint) (w : SyncPoint) → SyncsAgree game journal permitted ws
      → SyncAgrees game journal permitted w → SyncsAgree game journal permitted (ws ++ w ∷ [])
  SyncsAgree-push journal permitted [] w h l = (l, tt)
  SyncsAgree-push journal permitted (x ∷ xs) w h l = (h.0, SyncsAgree-push journal permitted xs w h.1 l)

  ViewAgrees-grow : (journal more : List E) (permitted : ℕ) (v : View W E) → AreAbove game permitted more
      → ViewAgrees game journal permitted v → ViewAgrees game (journal ++ more) permitted v
  ViewAgrees-grow journal more permitted v a t =
      record {
        map_is = t.map_is ∙ sym (world-stable game v.map_frame permitted journal more a (omega (arith, t.reach, t.within)));
        reach = t.reach;
        within = t.within;
        has = λ f low high. t.has f low high ∙ sym (of_frame-stable game f permitted journal more a (omega (arith, t.within)));
        syncs_are = SyncsAgree-grow journal more permitted v.syncs a t.syncs_are;
      }

  Agrees-grow : (journal more : List E) (permitted : ℕ) (h : Shown W E) → AreAbove game permitted more → Agrees game journal permitted h
      → Agrees game (journal ++ more) permitted h
  Agrees-grow journal more permitted Joining a t = tt
  Agrees-grow journal more permitted (Running v) a t = ViewAgrees-grow journal more permitted v a t
  Agrees-grow journal more permitted EndedJoining a t = tt
  Agrees-grow journal more permitted (Ended v) a t = ViewAgrees-grow journal more permitted v a t
  Agrees-grow journal more permitted WrongJoining a t = t
  Agrees-grow journal more permitted (Wrong v) a t = t

  ViewAgrees-more : (journal : List E) (permitted new : ℕ) (v : View W E) → permitted ≤ new → ViewAgrees game journal permitted v
      → ViewAgrees game journal new v
  ViewAgrees-more journal permitted new v l t =
      record {
        map_is = t.map_is;
        reach = t.reach;
        within = omega (arith, t.within);
        has = t.has;
        syncs_are = SyncsAgree-more journal
            permitted new v.syncs l t.syncs_are;
      }

  Agrees-more : (journal : List E) (permitted new : ℕ) (h : Shown W E) → permitted ≤ new → Agrees game journal permitted h
      → Agrees game journal new h
  Agrees-more journal permitted new Joining l t = tt
  Agrees-more journal permitted new (Running v) l t = ViewAgrees-more journal permitted new v l t
  Agrees-more journal permitted new EndedJoining l t = tt
  Agrees-more journal permitted new (Ended v) l t = ViewAgrees-more journal permitted new v l t
  Agrees-more journal permitted new WrongJoining l t = t
  Agrees-more journal permitted new (Wrong v) l t = t

  ViewAgrees-fresh : (journal : List E) (permitted s : ℕ) → s ≤ permitted
      → ViewAgrees game journal permitted (fresh s (world_at game journal s))
  ViewAgrees-fresh journal permitted s l =
      record { map_is = refl; reach = omega arith; within = l; has = λ f low high. absurd (omega arith); syncs_are = tt }

  ViewAgrees-in_play : (journal : List E) (frame permitted s : ℕ) (v : View W E) → frame ≤ permitted
      → IsInPlay game journal frame permitted s v → ViewAgrees game journal permitted v
  ViewAgrees-in_play journal frame permitted s v l p =
      record {
        map_is = p.map_is ∙ ap (λ f. world_at game journal f) (sym p.map_frame_is);
        reach = omega (arith, p.map_frame_is, p.reach, p.permitted_is);
        within = omega (arith, p.permitted_is);
        has = λ f low high. ap (λ es. of_frame game f es) p.entries_are
            ∙ of_frame-above game s f journal (omega (arith, p.map_frame_is, low));
        syncs_are = p.syncs_are;
      }

  -- what fits is true
  pub Agrees-fits : (journal : List E) (frame permitted : ℕ) (stage : Stage) (h : Shown W E) → frame ≤ permitted
      → Fits game journal frame permitted stage h → Agrees game journal permitted h
  Agrees-fits journal frame permitted BeforeMap h l f = subst (λ h. Agrees game journal permitted h) (sym f) tt
  Agrees-fits journal frame permitted (Loading s) h l f = subst (λ h. Agrees game journal permitted h) (sym f.1) tt
  Agrees-fits journal frame permitted (Loaded s) h l f =
      subst (λ h. Agrees game journal permitted h) (sym f.1) (ViewAgrees-fresh journal permitted s (omega (arith, f.0)))
  Agrees-fits journal frame permitted (Playing s) h l f =
      subst (λ h. Agrees game journal permitted h) (sym f.1) (ViewAgrees-in_play journal frame permitted s f.0 l f.2)
  Agrees-fits journal frame permitted Gone h l f = f

  -- what passes its test is no fault
  entry_passes : (v : View W E) (e : E) → v.permitted < game.frame_of e → v.last_entry ≤ game.frame_of e
      → with_entry game v e ≡ Running (record v { last_entry = game.frame_of e; entries = v.entries ++ e ∷ [] })
  entry_passes v e l m =
      ap (λ b. cond b (cond (nat_le v.last_entry (game.frame_of e)) (Running (record v {
        last_entry = game.frame_of e;
        entries = v.entries
            ++ e ∷ [];
      })) (Wrong v)) (Wrong v)) (lt-ltb v.permitted (game.frame_of e) l)
      ∙ ap (λ b. cond b (Running (record v { last_entry = game.frame_of e; entries = v.entries ++ e ∷ [] })) (Wrong v))
      (le-leb v.last_entry (game.frame_of e) m)

  frame_passes : (v : View W E) (f max : ℕ) → f ≤ max → v.permitted ≤ max → with_frame game v f max ≡ Running (record v { permitted = max })
  frame_passes v f max l m =
      ap (λ b. cond b (cond (nat_le v.permitted max) (Running (record v { permitted = max })) (Wrong v)) (Wrong v)) (le-leb f max l)
      ∙ ap (λ b. cond b (Running (record v { permitted = max })) (Wrong v)) (le-leb v.permitted max m)

  -- a stamp
  fits-stamp : (journal : List E) (frame permitted : ℕ) (e : E) (stage : Stage) (h : Shown W E) → frame ≤ permitted
      → game.frame_of e ≡ suc permitted
      → Fits game journal frame permitted stage h → Fits game (journal ++ e ∷ []) frame permitted stage
      (shown game h (if_playing stage (Command e)))
  fits-stamp journal frame permitted e BeforeMap h l is f = f
  fits-stamp journal frame permitted e (Loading s) h l is f = f
  fits-stamp journal frame permitted e (Loaded s) h l is f = (
    f.0,
    f.1 ∙ ap (λ w. Running (fresh s w)) (sym (world-stable game s permitted journal (e ∷ []) (omega (arith, is), tt)
        (omega (arith, f.0)))),
  )
  fits-stamp journal frame permitted e (Playing s) h l is f =
      let v = f.0
      in let p = f.2
      in (
        record v { last_entry = game.frame_of e; entries = v.entries ++ e ∷ [] },
        ap (λ h. seen game h (Command e)) f.1 ∙ entry_passes v e (omega (arith, p.permitted_is, is)) (omega (arith, p.last_is, is)),
        record {
          map_frame_is = p.map_frame_is;
          reach = p.reach;
          map_is = p.map_is ∙ sym (world-stable game s permitted journal (e ∷ []) (omega (arith, is), tt) (omega (arith, p.reach)));
          entries_are = ap (λ es. es ++ e ∷ []) p.entries_are ∙ sym (above-push game s journal e (omega (arith, is, p.reach)));
          permitted_is = p.permitted_is;
          last_is = omega (arith, is);
          syncs_are = SyncsAgree-grow journal (e ∷ []) permitted v.syncs (omega (arith, is), tt) p.syncs_are;
        },
      )
  fits-stamp journal frame permitted e Gone h l is f = Agrees-grow journal (e ∷ []) permitted h (omega (arith, is), tt) f

  -- a frame that passes the permitted one
  fits-run : (journal : List E) (frame permitted new : ℕ) (stage : Stage) (h : Shown W E) → permitted ≤ new → suc frame ≤ new
      → Fits game journal frame permitted stage h
      → Fits game journal (suc frame) new stage (shown game h (if_playing stage (Frame (suc frame) new)))
  fits-run journal frame permitted new BeforeMap h l m f = f
  fits-run journal frame permitted new (Loading s) h l m f = (omega (arith, f.0), f.1)
  fits-run journal frame permitted new (Loaded s) h l m f = (omega (arith, f.0), f.1)
  fits-run journal frame permitted new (Playing s) h l m f =
      let v = f.0
      in let p = f.2
      in (
        record v { permitted = new },
        ap (λ h. seen game h (Frame (suc frame) new)) f.1 ∙ frame_passes v (suc frame) new m (omega (arith, p.permitted_is)),
        record {
          map_frame_is = p.map_frame_is;
          reach = omega (arith, p.reach);
          map_is = p.map_is;
          entries_are = p.entries_are;
          permitted_is = refl;
          last_is = omega (arith, p.last_is);
          syncs_are = SyncsAgree-more journal permitted new v.syncs l p.syncs_are;
        },
      )
  fits-run journal frame permitted new Gone h l m f = Agrees-more journal permitted new h l f

  -- a frame that doesn't
  fits-same : (journal : List E) (frame permitted : ℕ) (stage : Stage) (h : Shown W E) → Fits game journal frame permitted stage h
      → Fits game journal (suc frame) permitted stage h
  fits-same journal frame permitted BeforeMap h f = f
  fits-same journal frame permitted (Loading s) h f = (omega (arith, f.0), f.1)
  fits-same journal frame permitted (Loaded s) h f = (omega (arith, f.0), f.1)
  fits-same journal frame permitted (Playing s) h f =
      let p = f.2
      in (
        f.0,
        f.1,
        record {
          map_frame_is = p.map_frame_is;
          reach = omega (arith, p.reach);
          map_is = p.map_is;
          entries_are = p.entries_are;
          permitted_is = p.permitted_is;
          last_is = p.last_is;
          syncs_are = p.syncs_are;
        },
      )
  fits-same journal frame permitted Gone h f = f

  fits-compare : (journal : List E) (frame permitted : ℕ) (stage : Stage) (h : Shown W E) → frame ≤ permitted
      → permitted ≤ frame + game.lead
      → Fits game journal frame permitted stage h
      → Fits game journal frame permitted stage (shown game h (if_playing stage (Sync frame (game.word (world_at game journal frame)))))
  fits-compare journal frame permitted BeforeMap h l m f = f
  fits-compare journal frame permitted (Loading s) h l m f = f
  fits-compare journal frame permitted (Loaded s) h l m f = f
  fits-compare journal frame permitted (Playing s) h l m f =
      let v = f.0
      in let p = f.2
      in let w : SyncPoint = record { frame = frame; word = game.word (world_at game journal frame); permitted = v.permitted }
      in (
        record v { syncs = v.syncs ++ w ∷ [] },
        ap (λ h. seen game h (Sync frame (game.word (world_at game journal frame)))) f.1,
        record {
          map_frame_is = p.map_frame_is;
          reach = p.reach;
          map_is = p.map_is;
          entries_are = p.entries_are;
          permitted_is =
              p.permitted_is;
          last_is = p.last_is;
          syncs_are = SyncsAgree-push journal permitted v.syncs w p.syncs_are
              (record { within = l; word_is = refl; near = omega (arith, p.permitted_is) });
        },
      )
  fits-compare journal frame permitted Gone h l m f = f

  fits-talk : (journal : List E) (frame permitted : ℕ) (stage : Stage) (h : Shown W E) → Fits game journal frame permitted stage h
      → Fits game journal frame permitted stage (shown game h (if_there stage Other))
  fits-talk journal frame permitted BeforeMap h f = ap (λ h. seen game h Other) f
  fits-talk journal frame permitted (Loading s) h f = (f.0, ap (λ h. seen game h Other) f.1)
  fits-talk journal frame permitted (Loaded s) h f = (f.0, ap (λ h. seen game h Other) f.1)
  fits-talk journal frame permitted (Playing s) h f = (f.0, ap (λ h. seen game h Other) f.1, f.2)
  fits-talk journal frame permitted Gone h f = f

  fits-begin : (journal : List E) (frame permitted : ℕ) (stage : Stage) (h : Shown W E) → Fits game journal frame permitted stage h
      → Fits game journal frame permitted (begun frame stage) h
  fits-begin journal frame permitted BeforeMap h f = (omega arith, f)
  fits-begin journal frame permitted (Loading s) h f = f
  fits-begin journal frame permitted (Loaded s) h f = f
  fits-begin journal frame permitted (Playing s) h f = f
  fits-begin journal frame permitted Gone h f = f

  fits-load : (journal : List E) (frame permitted : ℕ) (stage : Stage) (h : Shown W E) → Fits game journal frame permitted stage h
      → Fits game journal frame permitted (loaded stage) (shown game h (told_map game journal stage))
  fits-load journal frame permitted BeforeMap h f = f
  fits-load journal frame permitted (Loading s) h f = (f.0, ap (λ h. seen game h (Map s (world_at game journal s))) f.1)
  fits-load journal frame permitted (Loaded s) h f = f
  fits-load journal frame permitted (Playing s) h f = f
  fits-load journal frame permitted Gone h f = f

  -- all entries above the map, one behind the other
  entries_pass : (es : List E) (v : View W E) → AreAbove game v.permitted es → AreRising game v.last_entry es
      → shown game (Running v) (map (λ e. Command e) es) ≡ Running (record v {
        last_entry = last_of game v.last_entry es;
        entries =
            v.entries ++ es;
      })
  entries_pass [] v a r = ap (λ es. Running (record v { entries = es })) (sym (append-nil v.entries))
  entries_pass (e ∷ es) v a r =
      let new : View W E = record v { last_entry = game.frame_of e; entries = v.entries ++ e ∷ [] }
      in ap (λ h. shown game h (map (λ e. Command e) es)) (entry_passes v e a.0 r.0)
      ∙ entries_pass es new a.1 r.1
      ∙ ap (λ xs. Running (record v { last_entry = last_of game (game.frame_of e) es; entries = xs })) (append_assoc v.entries (e ∷ []) es)

  fits-play : (journal : List E) (frame permitted : ℕ) (stage : Stage) (h : Shown W E) → frame ≤ permitted → AreRising game 0 journal
      → AreUpTo game (suc permitted) journal
      → Fits game journal frame permitted stage h → Fits game journal frame permitted (playing stage)
      (shown game h (told_joiner game journal frame permitted stage))
  fits-play journal frame permitted BeforeMap h l r u f = f
  fits-play journal frame permitted (Loading s) h l r u f = f
  fits-play journal frame permitted (Loaded s) h l r u f =
      let es = above game s journal
      in let w = world_at game journal s
      in let a : AreAbove game s es = are_above game s journal
      in let v : View W E = record (fresh s w) { last_entry = last_of game s es; entries = es }
      in (
        record v { permitted = permitted },
        shown-append game h (map (λ e. Command e) es) (Frame frame permitted ∷ [])
            ∙ ap (λ h. seen game (shown game h (map (λ e. Command e) es)) (Frame frame permitted)) f.1
            ∙ ap (λ h. seen game h (Frame frame permitted)) (entries_pass es (fresh s w) a (AreRising-from game 0 s es
            (AreRising-above game 0 s journal r) a))
            ∙ frame_passes v frame permitted l (omega (arith, f.0)),
        record {
          map_frame_is = refl;
          reach = f.0;
          map_is = refl;
          entries_are = refl;
          permitted_is = refl;
          last_is = last_of-le game (suc permitted) s es (AreUpTo-above game (suc permitted) s journal u) (omega (arith, f.0));
          syncs_are = tt;
        },
      )
  fits-play journal frame permitted (Playing s) h l r u f = f
  fits-play journal frame permitted Gone h l r u f = f

  fits-leave : (journal : List E) (frame permitted : ℕ) (stage : Stage) (h : Shown W E) → frame ≤ permitted
      → Fits game journal frame permitted stage h → Agrees game journal permitted (shown game h (if_there stage End))
  fits-leave journal frame permitted BeforeMap h l f = subst (λ h. Agrees game journal permitted (seen game h End)) (sym f) tt
  fits-leave journal frame permitted (Loading s) h l f = subst (λ h. Agrees game journal permitted (seen game h End)) (sym f.1) tt
  fits-leave journal frame permitted (Loaded s) h l f =
      subst (λ h. Agrees game journal permitted (seen game h End)) (sym f.1) (ViewAgrees-fresh journal permitted s (omega (arith, f.0)))
  fits-leave journal frame permitted (Playing s) h l f =
      subst (λ h. Agrees game journal permitted (seen game h End)) (sym f.1) (ViewAgrees-in_play journal frame permitted s f.0 l f.2)
  fits-leave journal frame permitted Gone h l f = f

  kept-stamp : (server : Server E) (e : E) (h : Shown W E) (b : Bool) → (game.frame_of e == suc server.permitted) ≡ b → IsKept game server h
      → IsKept game (cond b (record server { journal = server.journal ++ e ∷ [] }) server)
      (shown game h (cond b (if_playing server.stage (Command e)) []))
  kept-stamp server e h true is k =
      let l : game.frame_of e ≡ suc server.permitted = eqb-true (game.frame_of e) (suc server.permitted) is
      in record {
        ahead = k.ahead;
        near = k.near;
        rising = AreRising-push game 0 server.journal e k.rising (subst (λ n. AreUpTo game n server.journal) (sym l) k.stamped)
            (omega arith);
        stamped = AreUpTo-push game (suc server.permitted) server.journal e k.stamped (omega (arith, l));
        fits = fits-stamp server.journal server.frame server.permitted e server.stage h k.ahead l k.fits;
      }
  kept-stamp server e h false is k = k

  kept-run : (server : Server E) (h : Shown W E) (b : Bool) → nat_lt server.permitted (suc server.frame) ≡ b → IsKept game server h
      → IsKept game (cond b (record server { frame = suc server.frame; permitted = suc server.frame + game.lead }) (record server {
        frame =
            suc server.frame;
      }))
      (shown game h (cond b (if_playing server.stage (Frame (suc server.frame) (suc server.frame + game.lead))) []))
  kept-run server h true is k =
      let l : server.permitted < suc server.frame = ltb-true server.permitted (suc server.frame) is
      in let more : server.permitted ≤ suc server.frame + game.lead = omega (arith, l)
      in record {
        ahead = omega arith;
        near = omega arith;
        rising = k.rising;
        stamped = AreUpTo-more game (suc server.permitted) (suc (suc server.frame + game.lead)) server.journal k.stamped
            (omega (arith, more));
        fits = fits-run server.journal server.frame server.permitted (suc server.frame + game.lead) server.stage h more (omega arith)
            k.fits;
      }
  kept-run server h false is k =
      let l : suc server.frame ≤ server.permitted = ltb-false server.permitted (suc server.frame) is
      in record {
        ahead = l;
        near = omega (arith, k.near);
        rising = k.rising;
        stamped = k.stamped;
        fits = fits-same server.journal server.frame server.permitted server.stage h k.fits;
      }

  -- every step keeps it
  pub kept : (server : Server E) (step : Step E) (h : Shown W E) → IsKept game server h
      → IsKept game (stepped game server step) (shown game h (told game server step))
  kept server (Stamp e) h k = kept-stamp server e h (game.frame_of e == suc server.permitted) refl k
  kept server RunFrame h k = kept-run server h (nat_lt server.permitted (suc server.frame)) refl k
  kept server TellSync h k =
      record {
        ahead = k.ahead;
        near = k.near;
        rising = k.rising;
        stamped = k.stamped;
        fits = fits-compare server.journal server.frame
            server.permitted server.stage h k.ahead k.near k.fits;
      }
  kept server TellOther h k =
      record {
        ahead = k.ahead;
        near = k.near;
        rising = k.rising;
        stamped = k.stamped;
        fits = fits-talk server.journal server.frame
            server.permitted server.stage h k.fits;
      }
  kept server BeginMap h k =
      record {
        ahead = k.ahead;
        near = k.near;
        rising = k.rising;
        stamped = k.stamped;
        fits = fits-begin server.journal server.frame
            server.permitted server.stage h k.fits;
      }
  kept server EndMap h k =
      record {
        ahead = k.ahead;
        near = k.near;
        rising = k.rising;
        stamped = k.stamped;
        fits = fits-load server.journal server.frame
            server.permitted server.stage h k.fits;
      }
  kept server BeginPlay h k =
      record {
        ahead = k.ahead;
        near = k.near;
        rising = k.rising;
        stamped = k.stamped;
        fits = fits-play server.journal server.frame
            server.permitted server.stage h k.ahead k.rising k.stamped k.fits;
      }
  kept server Leave h k =
      record {
        ahead = k.ahead;
        near = k.near;
        rising = k.rising;
        stamped = k.stamped;
        fits = fits-leave server.journal server.frame
            server.permitted server.stage h k.ahead k.fits;
      }
  kept server Vanish h k =
      record {
        ahead = k.ahead;
        near = k.near;
        rising = k.rising;
        stamped = k.stamped;
        fits = Agrees-fits server.journal server.frame
            server.permitted server.stage h k.ahead k.fits;
      }

  -- and so do all of them
  pub kept_all : (server : Server E) (steps : List (Step E)) (h : Shown W E) → IsKept game server h
      → IsKept game (after game server steps) (shown game h (stream game server steps))
  kept_all server [] h k = k
  kept_all server (step ∷ steps) h k =
      subst (λ s. IsKept game (after game (stepped game server step) steps) s) (sym (shown-append game h (told game server step)
      (stream game (stepped game server step) steps)))
      (kept_all (stepped game server step) steps (shown game h (told game server step)) (kept server step h k))

  pub kept_from_start : (steps : List (Step E)) → IsKept game (after game initial steps) (shown game Joining (stream game initial steps))
  kept_from_start steps =
      kept_all initial steps Joining (record { ahead = omega arith; near = omega arith; rising = tt; stamped = tt; fits = refl })

  pub told_is_true : (steps : List (Step E)) → Agrees game (after game initial steps).journal (after game initial steps).permitted
      (shown game Joining (stream game initial steps))
  told_is_true steps =
      let k = kept_from_start steps
      in Agrees-fits (after game initial steps).journal (after game initial steps).frame (after game initial steps).permitted
      (after game initial steps).stage _ k.ahead k.fits

  -- the permitted frame does not fall
  permitted_grows : (server : Server E) (step : Step E) → server.permitted ≤ (stepped game server step).permitted
  permitted_grows server (Stamp e) = cond_both {A = Server E} (game.frame_of e == suc server.permitted) _ _ (λ s. server.permitted ≤
      s.permitted) (λ _. omega arith) (λ _. omega arith)
  permitted_grows server RunFrame =
      cond_both {A = Server E} (nat_lt server.permitted (suc server.frame)) _ _ (λ s. server.permitted ≤ s.permitted)
      (λ l. omega (arith, ltb-true server.permitted (suc server.frame) l)) (λ _. omega arith)
  permitted_grows server TellSync = omega arith
  permitted_grows server TellOther = omega arith
  permitted_grows server BeginMap = omega arith
  permitted_grows server EndMap = omega arith
  permitted_grows server BeginPlay = omega arith
  permitted_grows server Leave = omega arith
  permitted_grows server Vanish = omega arith

  -- a journal grows by entries above a frame
  abbrev pub Grows : ℕ → List E → List E → Type 0
  Grows n old new = (more : List E) × (new ≡ old ++ more) × AreAbove game n more

  Grows-not : (n : ℕ) (journal : List E) → Grows n journal journal
  Grows-not n journal = ([], sym (append-nil journal), tt)

  one_grows : (server : Server E) (step : Step E) → Grows server.permitted server.journal (stepped game server step).journal
  one_grows server (Stamp e) =
      cond_both {A = Server E} (game.frame_of e == suc server.permitted) _ _ (λ s. Grows server.permitted server.journal s.journal)
      (λ is. (e ∷ [], refl, (omega (arith, eqb-true (game.frame_of e) (suc server.permitted) is), tt))) (λ _. Grows-not server.permitted
      server.journal)
  one_grows server RunFrame =
      cond_both {A = Server E} (nat_lt server.permitted (suc server.frame)) _ _ (λ s. Grows server.permitted server.journal s.journal)
      (λ _. Grows-not server.permitted server.journal) (λ _. Grows-not server.permitted server.journal)
  one_grows server TellSync = Grows-not server.permitted server.journal
  one_grows server TellOther = Grows-not server.permitted server.journal
  one_grows server BeginMap = Grows-not server.permitted server.journal
  one_grows server EndMap = Grows-not server.permitted server.journal
  one_grows server BeginPlay = Grows-not server.permitted server.journal
  one_grows server Leave = Grows-not server.permitted server.journal
  one_grows server Vanish = Grows-not server.permitted server.journal

  pub journal_grows : (server : Server E) (steps : List (Step E)) → Grows server.permitted server.journal (after game server steps).journal
  journal_grows server [] = Grows-not server.permitted server.journal
  journal_grows server (step ∷ steps) =
      let next = stepped game server step
      in let first = one_grows server step
      in let rest = journal_grows next steps
      in (
        first.0 ++ rest.0,
        rest.1 ∙ ap (λ es. es ++ rest.0) first.1 ∙ append_assoc server.journal first.0 rest.0,
        AreAbove-append game server.permitted first.0 rest.0 first.2 (AreAbove-less game server.permitted next.permitted rest.0 rest.2
            (permitted_grows server step)),
      )
