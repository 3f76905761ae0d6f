-- In the game, and the server's own words: what each changes and tells.
use Rattle.std.specs.Prelude.{ℕ, ◌&&◌, List, [], ◌∷◌, filter, map, Option, Some, None}
use Rattle.tt_game.specs.declared.message.GameMsg.TheVariants.{ServerMove}
use Rattle.tt_game.specs.declared.message.GameMsg.TheVariants as game
use Rattle.tt_admin.specs.declared.message.AdminMsg.TheVariants.{ServerChat, ServerClientUpdate}
use Rattle.tt_world.specs.declared.command.Command.{Command}
use Rattle.tt_log.specs.Admin.{chat_updates, client_updates}
use Rattle.tt_log.specs.Member.{Member, is_playing}
use Rattle.tt_log.specs.PacketRules.{is_in_scope}
use Rattle.tt_members.specs.declared.edit.Edit.TheVariants.{Move}
use Rattle.tt_members.specs.Leaving.{playing_in}
use Rattle.tt_members.specs.Planned.{Planned, nothing}
use Rattle.tt_members.specs.Steps.{says_several, shows}

-- COMMAND: it waits, with the company for which it was allowed
abbrev pub waiting : Member → ℕ → Option Command → Planned
waiting m company None = nothing
waiting m company (Some command) = record nothing { offers = Some (record { conn = m.conn; company = company; command = command }) }

-- the connections of those that play and are in a scope
abbrev pub hearers : ℕ → ℕ → List Member → List ℕ
hearers scope to ms = map (λ m. m.conn) (filter (λ m. is_playing m && is_in_scope scope to m) ms)

-- CHAT: they are told, and the admins that watch
abbrev pub chatting : ℕ → ℕ → ℕ → List ℕ → List Member → Planned
chatting client scope to text ms = record nothing {
  steps = says_several (hearers scope to ms) (game.ServerChat client scope text) ∷ shows chat_updates (ServerChat scope client text) ∷ [];
}

-- SET_PASSWORD
abbrev pub locking : Member → Option (List ℕ) → Planned
locking m digest = record nothing { locks = Some (m.company, digest) }

-- MOVE: all that play are told, and the admins that watch
abbrev pub moving_to : ℕ → List Member → Member → Planned
moving_to company ms m = record nothing {
  edits = Move m.conn company ∷ [];
  steps = says_several (playing_in ms) (ServerMove m.client company) ∷ shows client_updates (ServerClientUpdate m.client m.name company) ∷
      [];
}

-- a command of the server's own
abbrev pub ordering : Command → Planned
ordering command = record nothing { orders = Some command }
