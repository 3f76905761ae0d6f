-- How a client that runs stands to what its stream shows.
use Rattle.std.specs.Prelude.{◌≡◌, ℕ, true}
use Rattle.tt_lockstep.specs.Client.{Client, Following}
use Rattle.tt_world.specs.declared.command.Entry.{Entry}
use Rattle.tt_world.specs.World.{WorldState}
use Rattle.tt_log.specs.Shown.{Phase, WrongAt, Shown, goes_on}
use Rattle.tt_client.specs.Player.{Player, told_place}

-- a phase as it is told: with a place that 64 bits can hold
abbrev pub told_phase : Phase → Phase
told_phase (WrongAt at) = WrongAt (told_place at)
told_phase other = other

-- what it was shown is what its stream shows: the phase, the map, the commands and the words, its number and its company; and
-- the place of the dialogue, until it has ended
pub record IsShown (p : Player (Client WorldState Entry)) (s : Shown) : Type 0 where
  pub frame : ℕ
  pub runs : p.runs ≡ Following s.seen frame
  pub phase : p.phase ≡ told_phase s.phase
  pub place : goes_on s.phase ≡ true → p.place ≡ s.place
  pub number : p.number ≡ s.client
  pub company : p.company ≡ s.company
