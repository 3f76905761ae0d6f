-- How a member ends: the others learn it where it was welcomed, and its place in the queue is free.
use Rattle.std.specs.Prelude.{ℕ, [], ◌∷◌}
use Rattle.tt_game.specs.declared.message.GameMsg.{GameMsg}
use Rattle.tt_game.specs.declared.message.GameMsg.TheVariants.{ServerError, ServerErrorQuit, ServerQuit}
use Rattle.tt_log.specs.declared.deed.What.TheVariants.{End}
use Rattle.tt_log.specs.Member.{Member, is_welcomed}
use Rattle.tt_log.specs.Table.{Table, without_member}
use Rattle.tt_log.specs.Deed.{tells_what, Deed, ◌▹◌, where_, tells, tells_playing}
use Rattle.tt_log.specs.Queue.{leaves_queue}
use Rattle.tt_log.specs.Watching.{sees_quit, sees_error}

-- how a member goes
pub data Farewell : Type 0 where
  -- by its own word
  Quitting : Farewell
  -- for a reason, which has a code
  Failing : (code : ℕ) → Farewell

-- what those that play are told of it
abbrev pub news_of : Farewell → Member → GameMsg
news_of Quitting m = ServerQuit m.client
news_of (Failing code) m = ServerErrorQuit m.client code

-- and what admins see
abbrev pub sees_farewell : Farewell → Member → Table → Deed
sees_farewell Quitting m t = sees_quit m t
sees_farewell (Failing code) m t = sees_error code m t

abbrev pub tells_farewell : Farewell → Member → Table → Deed
tells_farewell farewell m t = tells_playing (news_of farewell m) t ▹ sees_farewell farewell m

-- it is a member no longer; those that still play are told so where it was welcomed
abbrev pub leaves : Member → Farewell → Table → Deed
leaves m farewell t = tells_what (m.conn ∷ []) End (without_member m.conn t) ▹ where_ (is_welcomed m) (tells_farewell farewell m)
    ▹ leaves_queue m.conn

-- it is told a code, and ends
abbrev pub ends : Member → ℕ → Table → Deed
ends m code t = tells (m.conn ∷ []) (ServerError code) t ▹ leaves m (Failing code)

-- it ends untold, with a code for the others
abbrev pub ends_untold : Member → ℕ → Table → Deed
ends_untold m code t = leaves m (Failing code) t

abbrev pub quits : Member → Table → Deed
quits m t = leaves m Quitting t
