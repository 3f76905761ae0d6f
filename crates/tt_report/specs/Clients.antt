-- The text of a client: how it stands, and where it runs its frame and its world.
use Rattle.std.specs.Prelude.{ℕ, List, [], ◌++◌, codes, Option, None, Some}
use Rattle.std.specs.Fmt.{decimal}
use Rattle.tt_client.specs.Held.{Held, frame_of, world_of}
use Rattle.tt_client.specs.State.{state_of}
use Rattle.tt_client.specs.declared.state.State.{State}
use Rattle.tt_client.specs.declared.state.State.TheVariants.{Joining, Running, Ended, Shutdown, Desync, Wrong}
use Rattle.tt_world.specs.World.{WorldState}
use Rattle.tt_report.specs.Worlds.{word_text, world_text, holding_lines}

-- whose line it is
abbrev pub client_head : ℕ → List ℕ
client_head conn = codes "client " ++ decimal conn

-- of a client that runs: its frame and its world, and the lines of what the world holds
abbrev pub running_lines : ℕ → ℕ → WorldState → List ℕ
running_lines conn frame world =
    client_head conn ++ codes " running " ++ decimal frame ++ codes " " ++ world_text world ++ codes "\n" ++ holding_lines world

-- A client has a frame and a world from its map on, so one that runs has both.
abbrev pub played_lines : ℕ → Option ℕ → Option WorldState → List ℕ
played_lines conn (Some frame) (Some world) = running_lines conn frame world
played_lines conn frame world = []

-- the lines of a client that stands so, by its frame and its world
abbrev pub client_lines : ℕ → State → Option ℕ → Option WorldState → List ℕ
client_lines conn Joining frame world = client_head conn ++ codes " joining\n"
client_lines conn Running frame world = played_lines conn frame world
client_lines conn (Ended code) frame world = client_head conn ++ codes " ended " ++ decimal code ++ codes "\n"
client_lines conn Shutdown frame world = client_head conn ++ codes " shutdown\n"
client_lines conn (Desync at mine theirs) frame world =
    client_head conn ++ codes " desync " ++ decimal at ++ codes " " ++ word_text mine ++ codes " " ++ word_text theirs ++ codes "\n"
client_lines conn (Wrong at) frame world = client_head conn ++ codes " wrong " ++ decimal at ++ codes "\n"

-- the lines of a client
abbrev pub lines_of_client : ℕ → Held → List ℕ
lines_of_client conn h = client_lines conn (state_of h.player) (frame_of h.player) (world_of h.player)
