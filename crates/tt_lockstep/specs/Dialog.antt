-- From messages to things told. A client's dialogue goes from place to place with each message, and at its place each message is a thing
-- told.
use Rattle.std.specs.Prelude.{List, [], ◌∷◌}
use Rattle.tt_lockstep.specs.Told.{Told}

-- a dialogue with places D over messages M
pub record Dialog (D M W E : Type 0) : Type 0 where
  -- the place at which a connection begins
  pub first : D
  -- the place behind a message
  pub next : D → M → D
  -- what a message tells at a place; one that is not permitted there tells a Stray
  pub thing : D → M → Told W E

module _ {D M W E : Type 0} (dialog : Dialog D M W E) where
  -- what messages tell from a place on, one thing for each
  abbrev pub things : D → List M → List (Told W E)
  things place [] = []
  things place (m ∷ ms) = dialog.thing place m ∷ things (dialog.next place m) ms

  -- the place behind messages
  abbrev pub place_after : D → List M → D
  place_after place [] = place
  place_after place (m ∷ ms) = place_after (dialog.next place m) ms
