-- A front of the bytes gives a front of the things told, however it is cut.
use Rattle.std.proofs.Common.{◌≡◌, ℕ, List, [], ◌∷◌, ◌++◌, Option, Some, None, refl, ap, ap₂, sym, ◌∙◌, map}
use Rattle.std.specs.List.{flat_map, AllByRecursion}
use Rattle.tt_lockstep.specs.Game.{Game}
use Rattle.tt_lockstep.specs.Told.{Told}
use Rattle.tt_lockstep.specs.Server.{Server, initial}
use Rattle.tt_lockstep.specs.Client.{Call, Feed, Advance, fed, run, unfed}
use Rattle.tt_lockstep.specs.InStep.{IsInStep}
use Rattle.tt_lockstep.specs.Leads.{Leads}
use Rattle.tt_lockstep.specs.Dialog.{Dialog, things, place_after}
use Rattle.tt_lockstep.specs.Wire.{
  Wire,
  with_message,
  held_after,
  messages,
  IsReadBack,
  PieceCall,
  FeedPiece,
  AdvanceBy,
  fed_bytes,
  calls_of,
}
use Rattle.tt_lockstep.proofs.Leading.{led_in_step}
use Rattle.tt_lockstep.proofs.Dialogs.{things-append}

with_message-append : {M : Type 0} (o : Option M) (xs ys : List M) → with_message o (xs ++ ys) ≡ with_message o xs ++ ys
with_message-append None xs ys = refl
with_message-append (Some m) xs ys = refl

module _ {S M : Type 0} (wire : Wire S M) where
  pub messages-append : (held : S) (xs ys : List ℕ) → messages wire held (xs ++ ys) ≡ messages wire held xs
      ++ messages wire (held_after wire held xs) ys
  messages-append held [] ys = refl
  messages-append held (x ∷ xs) ys =
      ap (λ ms. with_message (wire.byte held x).message ms) (messages-append (wire.byte held x).held xs ys)
      ∙ with_message-append (wire.byte held x).message (messages wire (wire.byte held x).held xs)
      (messages wire (held_after wire (wire.byte held x).held xs) ys)

  -- what was told is read back
  pub read_back : (ms : List M) → AllByRecursion (λ m. IsReadBack wire m) ms → messages wire wire.empty (flat_map wire.spelled ms) ≡ ms
  read_back [] r = refl
  read_back (m ∷ ms) r =
      messages-append wire.empty (wire.spelled m) (flat_map wire.spelled ms)
      ∙ ap₂ (λ xs s. xs ++ messages wire s (flat_map wire.spelled ms)) r.0.gives r.0.leaves
      ∙ ap (λ xs. m ∷ xs) (read_back ms r.1)

pub fed-append : {W E : Type 0} (xs ys : List (Call W E)) → fed (xs ++ ys) ≡ fed xs ++ fed ys
fed-append [] ys = refl
fed-append (Feed t ∷ xs) ys = ap (λ ts. t ∷ ts) (fed-append xs ys)
fed-append (Advance n ∷ xs) ys = fed-append xs ys

pub fed-map : {W E : Type 0} (ts : List (Told W E)) → fed (map (λ t. Feed t) ts) ≡ ts
fed-map [] = refl
fed-map (t ∷ ts) = ap (λ ts. t ∷ ts) (fed-map ts)

module _ {S D M W E : Type 0} (wire : Wire S M) (dialog : Dialog D M W E) where
  -- however it is cut, what is fed is what all the bytes tell
  pub fed-calls : (held : S) (place : D) (calls : List PieceCall) → fed (calls_of wire dialog held place calls) ≡ things dialog place
      (messages wire held (fed_bytes calls))
  fed-calls held place [] = refl
  fed-calls held place (FeedPiece bytes ∷ calls) =
      let ms = messages wire held bytes
      in fed-append (map (λ t. Feed t) (things dialog place ms)) (calls_of wire dialog (held_after wire held bytes)
      (place_after dialog place ms) calls)
      ∙ ap₂ (λ xs ys. xs ++ ys) (fed-map (things dialog place ms)) (fed-calls (held_after wire held bytes) (place_after dialog place ms)
      calls)
      ∙ sym (things-append dialog place ms (messages wire (held_after wire held bytes) (fed_bytes calls)))
      ∙ ap (λ ms. things dialog place ms) (sym (messages-append wire held bytes (fed_bytes calls)))
  fed-calls held place (AdvanceBy n ∷ calls) = fed-calls held place calls

  pub bytes_in_step : (game : Game W E) (server : Server E) (ms : List M) (calls : List PieceCall) (later : List ℕ)
      → Leads game initial (things dialog dialog.first ms) server
      → AllByRecursion (λ m. IsReadBack wire m) ms
      → flat_map wire.spelled ms ≡ fed_bytes calls ++ later
      → IsInStep game server.journal (run game unfed (calls_of wire dialog wire.empty dialog.first calls))
  bytes_in_step game server ms calls later leads back e =
      let front = messages wire wire.empty (fed_bytes calls)
      in let rest = messages wire (held_after wire wire.empty (fed_bytes calls)) later
      in let is : ms ≡ front ++ rest =
      sym (read_back wire ms back) ∙ ap (λ bs. messages wire wire.empty bs) e ∙ messages-append wire wire.empty (fed_bytes calls) later
      in led_in_step game server (things dialog dialog.first ms) (calls_of wire dialog wire.empty dialog.first calls)
      (things dialog (place_after dialog dialog.first front) rest) leads
      (ap (λ ms. things dialog dialog.first ms) is ∙ things-append dialog dialog.first front rest
      ∙ ap (λ ts. ts ++ things dialog (place_after dialog dialog.first front) rest) (sym (fed-calls wire.empty dialog.first calls)))
