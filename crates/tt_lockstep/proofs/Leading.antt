-- The ways of a server: nothing, one step, one behind the other, a list of stamps, a frame.
use Rattle.std.proofs.Common.{
  ◌≡◌,
  suc,
  ◌+◌,
  ◌<◌,
  ◌≤◌,
  true,
  cond,
  List,
  [],
  ◌∷◌,
  ◌++◌,
  ◌==◌,
  refl,
  ap,
  ap₂,
  sym,
  ◌∙◌,
  subst,
  append-nil,
  append_assoc,
}
use Rattle.std.proofs.lemmas.Bool.{eq-eqb, lt-ltb, le-ltb}
use Rattle.tt_lockstep.specs.Game.{Game}
use Rattle.tt_lockstep.specs.Told.{Told, Command, Frame}
use Rattle.tt_lockstep.specs.Server.{
  Server,
  Step,
  Stamp,
  RunFrame,
  Stage,
  BeforeMap,
  Loading,
  Loaded,
  Playing,
  Gone,
  after,
  stream,
  stepped,
  told,
  if_playing,
  initial,
}
use Rattle.tt_lockstep.specs.Shown.{Joining}
use Rattle.tt_lockstep.specs.Client.{Call, Following, fed, run}
use Rattle.tt_lockstep.specs.InStep.{IsInStep}
use Rattle.tt_lockstep.specs.Leads.{Leads, entries_if_playing, AreStamped}
use Rattle.tt_lockstep.proofs.Streams.{lockstep_holds}

module _ {W E : Type 0} (game : Game W E) where
  after-append : (server : Server E) (xs ys : List (Step E)) → after game server (xs ++ ys) ≡ after game (after game server xs) ys
  after-append server [] ys = refl
  after-append server (x ∷ xs) ys = after-append (stepped game server x) xs ys

  stream-append : (server : Server E) (xs ys : List (Step E)) → stream game server (xs ++ ys) ≡ stream game server xs
      ++ stream game (after game server xs) ys
  stream-append server [] ys = refl
  stream-append server (x ∷ xs) ys =
      ap (λ ts. told game server x ++ ts) (stream-append (stepped game server x) xs ys)
      ∙ sym (append_assoc (told game server x) (stream game (stepped game server x) xs) (stream game (after game (stepped game server x)
      xs) ys))

  pub leads_nowhere : (server : Server E) → Leads game server [] server
  leads_nowhere server = record { steps = []; after_is = refl; stream_is = refl }

  pub leads_by : (server : Server E) (step : Step E) → Leads game server (told game server step) (stepped game server step)
  leads_by server step = record { steps = step ∷ []; after_is = refl; stream_is = append-nil (told game server step) }

  pub leads_on : (a b c : Server E) (xs ys : List (Told W E)) → Leads game a xs b → Leads game b ys c → Leads game a (xs ++ ys) c
  leads_on a b c xs ys p q =
      record {
        steps = p.steps ++ q.steps;
        after_is = after-append a p.steps q.steps ∙ ap (λ s. after game s q.steps) p.after_is ∙ q.after_is;
        stream_is = stream-append a p.steps q.steps ∙ ap₂ (λ ts s. ts ++ stream game s q.steps) p.stream_is p.after_is
            ∙ ap (λ ts. xs ++ ts) q.stream_is;
      }

  pub leads_by_stamp : (server : Server E) (e : E) → game.frame_of e ≡ suc server.permitted
      → Leads game server (if_playing server.stage (Command e)) (record server { journal = server.journal ++ e ∷ [] })
  leads_by_stamp server e is =
      let b : (game.frame_of e == suc server.permitted) ≡ true = eq-eqb (game.frame_of e) (suc server.permitted) is
      in record {
        steps = Stamp e ∷ [];
        after_is = ap (λ b. cond b (record server { journal = server.journal ++ e ∷ [] }) server) b;
        stream_is = append-nil (told game server (Stamp e)) ∙ ap (λ b. cond b (if_playing server.stage (Command e)) []) b;
      }

  one_and_more : (stage : Stage) (e : E) (es : List E) → if_playing {W = W} stage (Command e)
      ++ entries_if_playing game stage es ≡ entries_if_playing game stage (e ∷ es)
  one_and_more BeforeMap e es = refl
  one_and_more (Loading s) e es = refl
  one_and_more (Loaded s) e es = refl
  one_and_more (Playing s) e es = refl
  one_and_more Gone e es = refl

  no_entries : (stage : Stage) → entries_if_playing game stage [] ≡ []
  no_entries BeforeMap = refl
  no_entries (Loading s) = refl
  no_entries (Loaded s) = refl
  no_entries (Playing s) = refl
  no_entries Gone = refl

  pub leads_by_stamps : (server : Server E) (es : List E) → AreStamped game server.permitted es
      → Leads game server (entries_if_playing game server.stage es) (record server { journal = server.journal ++ es })
  leads_by_stamps server [] a =
      record {
        steps = [];
        after_is = ap (λ es. let new : Server E = record server { journal = es } in new)
            (sym (append-nil server.journal));
        stream_is = sym (no_entries server.stage);
      }
  leads_by_stamps server (e ∷ es) a =
      let next : Server E = record server { journal = server.journal ++ e ∷ [] }
      in let p = leads_on server next (record next { journal = next.journal ++ es }) _ _ (leads_by_stamp server e a.0)
      (leads_by_stamps next es a.1)
      in record {
        steps = p.steps;
        after_is = p.after_is ∙ ap (λ es. let new : Server E = record server { journal = es } in new) (append_assoc server.journal (e ∷ [])
            es);
        stream_is = p.stream_is ∙ one_and_more server.stage e es;
      }

  -- a frame below the permitted one
  pub leads_by_run : (server : Server E) → suc server.frame ≤ server.permitted
      → Leads game server [] (record server { frame = suc server.frame })
  leads_by_run server l =
      let b = le-ltb server.permitted (suc server.frame) l
      in record {
        steps = RunFrame ∷ [];
        after_is = ap (λ b. cond b (record server { frame = suc server.frame; permitted = suc server.frame + game.lead })
            (record server { frame = suc server.frame })) b;
        stream_is = append-nil (told game server RunFrame)
            ∙ ap (λ b. cond b (if_playing server.stage (Frame (suc server.frame) (suc server.frame + game.lead))) []) b;
      }

  -- and one above it
  pub leads_by_frame : (server : Server E) → server.permitted < suc server.frame
      → Leads game server (if_playing server.stage (Frame (suc server.frame) (suc server.frame + game.lead))) (record server {
        frame =
            suc server.frame;
        permitted = suc server.frame + game.lead;
      })
  leads_by_frame server l =
      let b = lt-ltb server.permitted (suc server.frame) l
      in record {
        steps = RunFrame ∷ [];
        after_is = ap (λ b. cond b (record server { frame = suc server.frame; permitted = suc server.frame + game.lead })
            (record server { frame = suc server.frame })) b;
        stream_is = append-nil (told game server RunFrame)
            ∙ ap (λ b. cond b (if_playing server.stage (Frame (suc server.frame) (suc server.frame + game.lead))) []) b;
      }

  -- the theorem, for a server that was led there
  pub led_in_step : (server : Server E) (ts : List (Told W E)) (calls : List (Call W E)) (later : List (Told W E))
      → Leads game initial ts server → ts ≡ fed calls ++ later → IsInStep game server.journal (run game (Following Joining 0) calls)
  led_in_step server ts calls later p e =
      subst (λ s. IsInStep game s.journal (run game (Following Joining 0) calls)) p.after_is (lockstep_holds game p.steps calls later
      (p.stream_is ∙ e))
