-- What the player printed where its link gave what a server sent.
use Rattle.std.specs.Prelude.{◌≡◌, ◌≢◌, ℕ, ◌⊎◌, ◌++◌, List, Option, None, Some}
use Rattle.std.specs.Io.KnownBytes.{Appends}
use Rattle.tt_edge.specs.declared.event.Event.{Event}
use Rattle.tt_edge.specs.Sink.{AppendsPart}
use Rattle.tt_client.specs.InStep.{IsSent}
use Rattle.tt_log.specs.Origin.{Origin}
use Rattle.tt_session.specs.InStep.{IsOfJournal}
use Rattle.tt_session.specs.Session.{SinkNow}

-- a link tells that it gave these bytes
abbrev pub Gives : Option (List ℕ) → Option (List ℕ) → List ℕ → Type 0
Gives None after bytes = ⊥
Gives (Some before) after bytes = after ≡ Some (before ++ bytes)

-- Each line that was printed of the client is of the world of the server's journal at its own frame. All that was printed was written,
-- but where the sink failed. And the client was neither out of step, nor told what is not permitted.
pub record PrintsInStep (o : Origin) (events : List Event) (k k' : SinkNow) (status : ℕ) : Type 0 where
  pub text : List ℕ
  pub of_journal : IsOfJournal o events text
  pub written : Appends k.held k'.held text ⊎ ((status ≡ 5) × AppendsPart k.held k'.held text)
  pub in_step : status ≢ 10
  pub right : status ≢ 11

-- Where the link gave a front of what the server of this game sent to a player, so it is.
abbrev pub PlaysInStep : Option (List ℕ) → Option (List ℕ) → SinkNow → SinkNow → ℕ → Type 0
PlaysInStep read read' k k' status = (o : Origin) (events : List Event) (conn : ℕ) (bytes : List ℕ) → Gives read read' bytes
    → IsSent o events conn bytes → PrintsInStep o events k k' status
