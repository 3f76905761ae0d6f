-- What a plan holds, as plain data.
use Rattle.std.specs.Prelude.{◌≡◌, ℕ, Bool, false, List, [], Option, None}
use Rattle.tt_world.specs.declared.command.Command.{Command}
use Rattle.tt_log.specs.Member.{Member}
use Rattle.tt_members.specs.declared.edit.Beat.{Beat}
use Rattle.tt_members.specs.declared.edit.Edit.{Edit}
use Rattle.tt_members.specs.declared.edit.Offer.{Offer}
use Rattle.tt_members.specs.declared.step.Step.{Step}

pub record Planned : Type 0 where
  -- a member that has another name from then on: its connection, and the name
  pub names : Option (ℕ × List ℕ)
  -- a command that waits from then on
  pub offers : Option Offer
  -- changes of members and queue, in order
  pub edits : List Edit
  -- who stands last in the queue from then on
  pub asks : Option ℕ
  -- a client number more is given
  pub counts : Bool
  -- who is a member from then on
  pub arrives : Option Member
  -- what goes on the server's own list
  pub orders : Option Command
  -- the digest that a company has from then on, or that it has none
  pub locks : Option (ℕ × Option (List ℕ))
  -- the random words of the tokens from then on, where one was drawn
  pub words : Option (ℕ × ℕ)
  -- the frame that is run
  pub beat : Option Beat
  pub steps : List Step

-- nothing is done
abbrev pub nothing : Planned
nothing = record {
  names = None;
  offers = None;
  edits = [];
  asks = None;
  counts = false;
  arrives = None;
  orders = None;
  locks = None;
  words = None;
  beat = None;
  steps = [];
}

-- nothing but changes and steps was added
pub record IsPlain (before after : Planned) : Type 0 where
  pub names : after.names ≡ before.names
  pub offers : after.offers ≡ before.offers
  pub asks : after.asks ≡ before.asks
  pub counts : after.counts ≡ before.counts
  pub arrives : after.arrives ≡ before.arrives
  pub orders : after.orders ≡ before.orders
  pub locks : after.locks ≡ before.locks
  pub words : after.words ≡ before.words
  pub beat : after.beat ≡ before.beat
