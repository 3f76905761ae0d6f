-- What the server has done at its end.
use Rattle.std.specs.Prelude.{◌≡◌, ℕ, ◌⊎◌, ◌<◌, ◌+◌, List, length, IfSome, Option, None, Some}
use Rattle.tt_edge.specs.Count.{Rose}
use Rattle.tt_edge.specs.Source.{ConsumesCount}
use Rattle.tt_world.specs.World.{WorldState}
use Rattle.tt_log.specs.Saved.{IsSaved, most_saved}
use Rattle.tt_hub.specs.Hub.{HubState, made_of, sent, is_live, is_over}
use Rattle.tt_words.specs.declared.server.ServerWords.{ServerWords}
use Rattle.tt_words.specs.Forms.{IsServerForm}
use Rattle.tt_workers.specs.Working.{DoorView, TickView, core_view}
use Rattle.tt_workers.specs.Running.{OfBoth}
use Rattle.tt_workers.specs.declared.working.Doors.{Doors}
use Rattle.tt_serving.specs.Told.{SinkNow, Serves}
use Rattle.tt_server.specs.Saved.{OfSaved, IsNoSaved, StartsFrom}
use Rattle.tt_server.specs.Summary.{game_summary}

-- The words are in the form, and a game was served: over their setup, from the saved map where one was handed in. There is one list of
-- events of it; each worker's part of them is what its listener served or the ticker told; each link was written what its connection is
-- told by them; and the summary is that of just these events.
pub record HasServed {S L K A B T : Type 0} (args : List (List ℕ)) (left : S → Option (List ℕ)) (saved : Option S) (game : DoorView L K)
    (admin : DoorView A B) (ticker : TickView T) (before after : Doors L A T) (sink sink' : SinkNow) (status : ℕ) : Type 0 where
  pub words : ServerWords
  pub form : IsServerForm args words
  pub start : WorldState
  pub starts : StartsFrom left saved words.setup start
  pub serves : Serves made_of (λ (hub : HubState). hub.events) game_summary
      (core_view (sent (words.setup, start)) (is_live (words.setup, start)) (is_over (words.setup, start))) game admin ticker
      (words.setup, start) before after sink sink' status

-- the words are in the server's form
abbrev pub AreInForm : List (List ℕ) → Type 0
AreInForm args = (words : ServerWords) × IsServerForm args words

-- Why nothing was served.
abbrev pub Refuses : {S : Type 0} → List (List ℕ) → (S → Option (List ℕ)) → (S → ℕ) → Option S → Option S → ℕ → Type 0
Refuses args left faults saved saved' status =
    -- the words are in no form, and the map was not touched
    ((status ≡ 2) × (AreInForm args → ⊥) × (saved' ≡ saved))
    -- the map was read to its end, and is none that a game may start from
    ⊎ (((status ≡ 3) × AreInForm args × OfSaved saved (λ source. IfSome (left source) IsNoSaved))
    -- reading it failed
    ⊎ (((status ≡ 4) × AreInForm args × OfBoth saved saved' (λ source source'. Rose (faults source) (faults source')))
    -- more was read than the most that a map has
    ⊎ (((status ≡ 7) × AreInForm args × OfBoth saved saved' (λ source source'. ConsumesCount (most_saved + 1) (left source) (left source')
    × IfSome (left source) (λ bytes. most_saved < length bytes)))
    -- memory ran out
    ⊎ (status ≡ 6))))

-- Nothing was served and nothing was written: the doors and the sink stand as before.
pub record HasRefused {S D K : Type 0} (args : List (List ℕ)) (left : S → Option (List ℕ)) (faults : S → ℕ) (saved saved' : Option S)
    (before after : D) (sink sink' : K) (status : ℕ) : Type 0 where
  pub why : Refuses args left faults saved saved' status
  pub kept_doors : after ≡ before
  pub kept_sink : sink' ≡ sink

-- What was handed in is nothing, or a source that tells its bytes, and they are a map that a game may start from.
abbrev pub MayStart : {S : Type 0} → (S → Option (List ℕ)) → Option S → Type 0
MayStart left None = Unit {0}
MayStart left (Some source) = (bytes : List ℕ) × (left source ≡ Some bytes) × IsSaved bytes

-- all was done, or memory ran out
abbrev pub IsDoneOrShort : ℕ → Type 0
IsDoneOrShort status = (status ≡ 0) ⊎ (status ≡ 6)
