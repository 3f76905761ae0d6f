use Rattle.std.proofs.Common.{◌≡◌, ◌∙◌, ℕ, Option, Some, None, refl}
use Rattle.tt_game.specs.declared.message.GameMsg.{GameMsg}
use Rattle.tt_rules.specs.Codes.{connection_lost}
use Rattle.tt_log.specs.Admin.{Admin}
use Rattle.tt_log.specs.Deed.{Deed, where_some}
use Rattle.tt_log.specs.Desk.{admin_hears, admin_leaves, read_admin}
use Rattle.tt_log.specs.Ending.{ends_untold}
use Rattle.tt_log.specs.Events.{heard, read_msg, to_named}
use Rattle.tt_log.specs.Member.{Member}
use Rattle.tt_log.specs.Origin.{Origin}
use Rattle.tt_log.specs.Table.{Table, admin_of, member_of}
use Rattle.tt_join.specs.Inputs.{by_input}
use Rattle.tt_join.specs.Ties.{packet_input}
use Rattle.tt_join.proofs.laws.an_event_is_its_input.Goals as goal

-- a member is named before an admin is
named : (x : Option Member) (m : Member) (admin : Option Admin) (of_member : Member → Table → Deed) (of_admin : Admin → Table → Deed)
    (t : Table) → x ≡ Some m → to_named x admin of_member of_admin t ≡ where_some x of_member t
named (Some n) m admin of_member of_admin t is = refl
named None m admin of_member of_admin t is = absurd cc

by_packet : (said : Option GameMsg) (o : Origin) (t : Table) (conn : ℕ) → where_some (member_of t conn) (heard o said) t
    ≡ by_input (packet_input conn said) o t
by_packet None o t conn = refl
by_packet (Some msg) o t conn = refl

pub returns : goal.returns
returns c = record {
  opening = λ o t peer. refl;
  packet = λ o t conn kind body m is.
      named (member_of t conn) m (admin_of t conn) (heard o (read_msg kind body)) (admin_hears o (read_admin kind body)) t is
      ∙ by_packet (read_msg kind body) o t conn;
  broken = λ o t conn m is. named (member_of t conn) m (admin_of t conn) (heard o None) (admin_hears o None) t is;
  shut = λ o t conn m is. named (member_of t conn) m (admin_of t conn) (λ n. ends_untold n connection_lost) admin_leaves t is;
}
