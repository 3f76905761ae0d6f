-- A game that was served over a setup that is the words' own.
use Rattle.std.proofs.Common.{◌≡◌, ℕ, ◌⊎◌, List, Option, subst, inl, inr}
use Rattle.tt_world.specs.declared.setup.Setup.{Setup}
use Rattle.tt_hub.specs.Hub.{HubState, made_of, sent, is_live, is_over}
use Rattle.tt_words.specs.declared.server.ServerWords.{ServerWords}
use Rattle.tt_words.specs.Forms.{IsServerForm}
use Rattle.tt_workers.specs.Working.{DoorView, TickView, core_view}
use Rattle.tt_workers.specs.declared.working.Doors.{Doors}
use Rattle.tt_serving.specs.Told.{SinkNow, Serves}
use Rattle.tt_server.specs.Saved.{StartsFrom}
use Rattle.tt_server.specs.Summary.{game_summary}
use Rattle.tt_server.specs.Serving.{HasServed, HasRefused}

pub as-asked : {M L K A B T S : Type 0} (args : List (List ℕ)) (left : M → Option (List ℕ)) (faults : M → ℕ) (saved saved' : Option M)
    (game : DoorView L K) (admin : DoorView A B) (ticker : TickView T) (before after : Doors L A T) (held : S → SinkNow) (sink sink' : S)
    (status : ℕ) (words : ServerWords) (hub : HubState) → IsServerForm args words → hub.setup ≡ words.setup
    → StartsFrom left saved words.setup hub.start
    → Serves made_of (λ (h : HubState). h.events) game_summary
    (core_view (sent (made_of hub)) (is_live (made_of hub)) (is_over (made_of hub))) game admin ticker (made_of hub) before after
    (held sink)
    (held sink') status
    ⊎ ((status ≡ 6) × (after ≡ before) × (sink' ≡ sink))
    → HasServed args left saved game admin ticker before after (held sink) (held sink') status
    ⊎ HasRefused args left faults saved saved' before after sink sink' status
as-asked args left faults saved saved' game admin ticker before after held sink sink' status words hub form same starts (inl s) =
    inl (record {
      words = words;
      form = form;
      start = hub.start;
      starts = starts;
      serves = subst (λ (x : Setup). Serves made_of (λ (h : HubState). h.events) game_summary
          (core_view (sent (x, hub.start)) (is_live (x, hub.start)) (is_over (x, hub.start))) game admin ticker (x, hub.start) before after
          (held sink) (held sink') status) same s;
    })
as-asked args left faults saved saved' game admin ticker before after held sink sink' status words hub form same starts (inr r) =
    inr (record {
      why = inr (inr (inr (inr r.0)));
      kept_doors = r.1;
      kept_sink = r.2;
    })
