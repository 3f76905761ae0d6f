-- What a rule does: the table behind it, and the steps that tell it, in order.
use Rattle.std.specs.Prelude.{ℕ, Bool, true, false, List, [], ◌∷◌, ◌++◌, map, Option, Some, None}
use Rattle.tt_game.specs.declared.message.GameMsg.{GameMsg}
use Rattle.tt_admin.specs.declared.message.AdminMsg.{AdminMsg}
use Rattle.tt_frame.specs.Packet.{packet}
use Rattle.tt_game.specs.Apart as games
use Rattle.tt_admin.specs.Apart as admins
use Rattle.tt_log.specs.declared.deed.Step.{Step}
use Rattle.tt_log.specs.declared.deed.What.{What}
use Rattle.tt_log.specs.declared.deed.What.TheVariants.{Msg}
use Rattle.tt_log.specs.Table.{Table, playing}

-- what is said on a connection: a message of the game, or one of the admin family
pub data Said : Type 0 where
  game : GameMsg → Said
  admin : AdminMsg → Said

abbrev pub spelled : Said → List ℕ
spelled (game m) = packet (games.kind_of m) (games.body_bytes m)
spelled (admin m) = packet (admins.kind_of m) (admins.body_bytes m)

pub record Deed : Type 0 where
  pub table : Table
  pub told : List Step

-- one rule, and then another
infixl 20 ◌▹◌
abbrev pub ◌▹◌ : Deed → (Table → Deed) → Deed
d ▹ rule = let next = rule d.table in record { table = next.table; told = d.told ++ next.told }

-- nothing is told
abbrev pub becomes : Table → Deed
becomes t = record { table = t; told = [] }

-- a rule that holds only in a case
abbrev pub where_ : Bool → (Table → Deed) → Table → Deed
where_ true rule t = rule t
where_ false rule t = becomes t

-- a rule on something, which may not be there
abbrev pub where_some : {A : Type 0} → Option A → (A → Table → Deed) → Table → Deed
where_some None rule t = becomes t
where_some (Some x) rule t = rule x t

-- some connections are told what may have to be filled in
abbrev pub tells_what : List ℕ → What → Table → Deed
tells_what to w t = record { table = t; told = record { to = to; what = w } ∷ [] }

-- some connections are told a message
abbrev pub tells : List ℕ → GameMsg → Table → Deed
tells to m t = tells_what to (Msg m) t

-- one connection is told messages, in order
abbrev pub tells_each : ℕ → List GameMsg → Table → Deed
tells_each conn messages t = record { table = t; told = map (λ m. record { to = conn ∷ []; what = Msg m }) messages }

-- all that play are told a message
abbrev pub tells_playing : GameMsg → Table → Deed
tells_playing m t = tells (playing t) m t
