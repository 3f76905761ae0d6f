-- What a hub keeps beside its game: what waits for each connection is what it was told and has not taken.
use Rattle.std.specs.Prelude.{◌≡◌, ℕ, ◌≤◌, ◌<◌, ◌^◌, List, [], ◌++◌, drop, length}
use Rattle.tt_admin.specs.declared.message.AdminMsg.TheVariants as admins
use Rattle.tt_game.specs.declared.message.GameMsg.TheVariants as games
use Rattle.tt_log.specs.Deed.{game, admin}
use Rattle.tt_log.specs.Told as book
use Rattle.tt_outgoing.specs.Staging.{Packet, packet_to}
use Rattle.tt_outgoing.specs.Waiting.{Waiting, list_of, opened}
use Rattle.tt_table.specs.Ending.{Ended}
use Rattle.tt_table.specs.Held.{Played, table}
use Rattle.tt_hub.specs.Hub.{count_of}

-- one connection's waiting bytes
pub record IsWaiting (told waits : List ℕ) (count most : ℕ) : Type 0 where
  pub rest : waits ≡ drop count told
  pub within : count ≤ length told
  pub most_is : length told ≤ most

-- seats are there for all connections that were opened, and maybe for more, of which nothing was told
pub record IsRunning (g : Played) (w : Waiting) (counts : List ℕ) (most : ℕ) : Type 0 where
  pub counts_are : length counts ≡ opened w
  pub enough : (table g).openings ≤ opened w
  pub fits : most < 2 ^ 64
  pub each : (c : ℕ) → 1 ≤ c → c ≤ opened w
      → IsWaiting (book.sent g.origin g.events c) (list_of w c) (count_of counts c) most

-- seats are as before, and there may be one more, of which nothing was told and nothing taken
pub record HasSeats (w v : Waiting) (counts more : List ℕ) : Type 0 where
  pub counts_are : length more ≡ opened v
  pub grows : opened w ≤ opened v
  pub lists : (c : ℕ) → 1 ≤ c → c ≤ opened w → list_of v c ≡ list_of w c
  pub taken : (c : ℕ) → 1 ≤ c → c ≤ opened w → count_of more c ≡ count_of counts c
  pub fresh : (c : ℕ) → opened w < c → c ≤ opened v → (list_of v c ≡ []) × (count_of more c ≡ 0)

-- that the game is over, as the packets of those that are told so
abbrev pub farewells : Ended → List Packet
farewells e = packet_to e.members (game games.ServerShutdown) ++ packet_to e.admins (admin admins.ServerShutdown)
