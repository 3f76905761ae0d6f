-- The theorem: the server tells what is true, so each front of it is, and who is shown what is true stays in step.
use Rattle.std.proofs.Common.{◌≡◌, ℕ, ◌<◌, ◌≤◌, true, List, [], ◌∷◌, ◌++◌, ◌⊎◌, ap, sym, ◌∙◌, subst, append_assoc}
use Rattle.tt_lockstep.specs.Game.{Game}
use Rattle.tt_lockstep.specs.Told.{Told, Sync}
use Rattle.tt_lockstep.specs.Server.{Step, after, stream, initial}
use Rattle.tt_lockstep.specs.Shown.{View, Joining, Running, shown}
use Rattle.tt_lockstep.specs.Client.{Call, Following, fed, is_recent, run}
use Rattle.tt_lockstep.specs.InStep.{IsInStep}
use Rattle.tt_lockstep.specs.Facts.{Agrees}
use Rattle.tt_lockstep.proofs.Views.{shown-append, front, Reach-shown}
use Rattle.tt_lockstep.proofs.Clients.{IsInStep-run, word_in_reach-run}
use Rattle.tt_lockstep.proofs.Servers.{told_is_true}

module _ {W E : Type 0} (game : Game W E) (steps : List (Step E)) where
  pub fronts : (xs later : List (Told W E)) → stream game initial steps ≡ xs ++ later
      → Agrees game (after game initial steps).journal (after game initial steps).permitted (shown game Joining xs)
  fronts xs later e =
      front game (after game initial steps).journal (after game initial steps).permitted (shown game Joining xs) later
      (Reach-shown game Joining xs tt)
      (subst (λ h. Agrees game (after game initial steps).journal (after game initial steps).permitted h) (ap (λ ts. shown game Joining ts)
      e ∙ shown-append game Joining xs later) (told_is_true game steps))

  pub lockstep_holds : (calls : List (Call W E)) (later : List (Told W E)) → stream game initial steps ≡ fed calls ++ later
      → IsInStep game (after game initial steps).journal (run game (Following Joining 0) calls)
  lockstep_holds calls later e =
      IsInStep-run game (after game initial steps).journal (after game initial steps).permitted calls (fronts (fed calls) later e)

  pub compared_holds : (calls : List (Call W E)) (later : List (Told W E)) (v : View W E) (f g w : ℕ) → game.lead < 128
      → stream game initial steps ≡ fed calls ++ Sync g w ∷ later → run game (Following Joining 0) calls ≡ Following (Running v) f
      → (f < g) ⊎ ((g ≤ v.map_frame) ⊎ (is_recent game v f g ≡ true))
  compared_holds calls later v f g w few e is =
      word_in_reach-run game (after game initial steps).journal (after game initial steps).permitted calls v f g w few is
      (subst (λ h. Agrees game (after game initial steps).journal (after game initial steps).permitted h) (shown-append game Joining
      (fed calls) (Sync g w ∷ []))
      (fronts (fed calls ++ Sync g w ∷ []) later (e ∙ sym (append_assoc (fed calls) (Sync g w ∷ []) later))))
