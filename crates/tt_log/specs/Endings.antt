-- An event that ends a member with a code, and what is left then: what the laws say of it.
use Rattle.std.specs.Prelude.{◌≡◌, ◌⊎◌, ℕ, Bool, true, Some, None}
use Rattle.tt_edge.specs.declared.event.Event.{Event}
use Rattle.tt_edge.specs.declared.event.Event.TheVariants.{Packet, Broken}
use Rattle.tt_game.specs.declared.message.GameMsg.{GameMsg}
use Rattle.tt_game.specs.declared.message.GameMsg.TheVariants.{ServerErrorQuit, ServerWait, ServerMapBegin, ServerMapSize, ServerShutdown}
use Rattle.tt_admin.specs.declared.message.AdminMsg.{AdminMsg}
use Rattle.tt_admin.specs.declared.message.AdminMsg.TheVariants as admins
use Rattle.tt_rules.specs.declared.status.Verdict.TheVariants.{Ends}
use Rattle.tt_log.specs.Origin.{Origin}
use Rattle.tt_log.specs.Member.{Member}
use Rattle.tt_log.specs.Table.{Table, member_of}
use Rattle.tt_log.specs.Deed.{Said, game, admin}
use Rattle.tt_log.specs.Queue.{downloading}
use Rattle.tt_log.specs.Judged.{judged}
use Rattle.tt_log.specs.Events.{read_msg}

-- a packet of a member is judged so: it spells nothing, or it is refused; or its stream breaks, which is judged alike
abbrev pub EndsWith : Origin → Table → Event → Member → ℕ → Type 0
EndsWith o t (Packet conn kind body) m code = (member_of t conn ≡ Some m) × (judged o t m (read_msg kind body) ≡ Ends code)
EndsWith o t (Broken conn) m code = (member_of t conn ≡ Some m) × (judged o t m None ≡ Ends code)
EndsWith o t other m code = ⊥

-- what another one may be told by it: that the member ended, and what it itself has become in the queue; and that the game is
-- over, where it is
abbrev pub IsEchoOfGame : Member → ℕ → Bool → GameMsg → Type 0
IsEchoOfGame m code over (ServerErrorQuit client said) = (client ≡ m.client) × (said ≡ code)
IsEchoOfGame m code over (ServerWait number) = Unit {0}
IsEchoOfGame m code over (ServerMapBegin frame) = Unit {0}
IsEchoOfGame m code over (ServerMapSize size) = Unit {0}
IsEchoOfGame m code over ServerShutdown = over ≡ true
IsEchoOfGame m code over other = ⊥

abbrev pub IsEchoOfAdmins : Member → ℕ → Bool → AdminMsg → Type 0
IsEchoOfAdmins m code over (admins.ServerClientError client said) = (client ≡ m.client) × (said ≡ code)
IsEchoOfAdmins m code over admins.ServerShutdown = over ≡ true
IsEchoOfAdmins m code over other = ⊥

abbrev pub IsEcho : Member → ℕ → Bool → Said → Type 0
IsEcho m code over (game msg) = IsEchoOfGame m code over msg
IsEcho m code over (admin msg) = IsEchoOfAdmins m code over msg

-- how another member may stand then: as before, or its download has begun
abbrev pub StaysButForQueue : Table → Member → Member → Type 0
StaysButForQueue t before behind = (behind ≡ before) ⊎ (behind ≡ downloading t before)

-- what else of a table stays
pub record IsSameGame (t u : Table) : Type 0 where
  pub frame : u.frame ≡ t.frame
  pub top : u.top ≡ t.top
  pub journal : u.journal ≡ t.journal
  pub own : u.own ≡ t.own
  pub digests : u.digests ≡ t.digests
  pub tokens : u.tokens ≡ t.tokens
