-- Which events come to the members, and which to an admin.
use Rattle.std.proofs.Common.{◌≡◌, ℕ, ◌+◌, List, Option, Some, None, true, false, refl, ap, ap₂, ◌∙◌}
use Rattle.std.specs.Prelude.{is_some}
use Rattle.tt_edge.specs.declared.event.Door.TheVariants.{Main}
use Rattle.tt_edge.specs.declared.event.Event.TheVariants.{Open, Packet, Broken, Shut}
use Rattle.tt_edge.specs.declared.event.Peer.{Peer}
use Rattle.tt_game.specs.declared.message.GameMsg.{GameMsg}
use Rattle.tt_rules.specs.Codes.{connection_lost, illegal_packet}
use Rattle.tt_log.specs.Admin.{Admin}
use Rattle.tt_log.specs.Deed.{Deed}
use Rattle.tt_log.specs.Desk.{admin_hears, admin_judged, admin_leaves, quits_at, quits_by, read_admin}
use Rattle.tt_log.specs.Ending.{ends_untold}
use Rattle.tt_log.specs.Events.{by_event, heard, read_msg, to_named}
use Rattle.tt_log.specs.Member.{Member}
use Rattle.tt_log.specs.Origin.{Origin}
use Rattle.tt_log.specs.Table.{Table, admin_of, member_of}
use Rattle.tt_admin_desk.specs.declared.heard.Heard.{Heard}
use Rattle.tt_admin_desk.specs.declared.heard.Heard.TheVariants.{Leave, Ends}
use Rattle.tt_admin_desk.specs.Hearing.{does}
use Rattle.tt_join.specs.declared.input.Input.TheVariants as inputs
use Rattle.tt_join.specs.Inputs.{by_input}
use Rattle.tt_join.specs.Ties.{packet_input}
use Rattle.tt_table.specs.Coming.{Comes, IsHeard, IsInput, quits_in}

pub some_member : (x : Option Member) → is_some x ≡ true → (m : Member) × (x ≡ Some m)
some_member None is = absurd cc
some_member (Some m) is = (m, refl)

pub no_member : (x : Option Member) → is_some x ≡ false → x ≡ None
no_member None is = refl
no_member (Some m) is = absurd cc

pub some_admin : (x : Option Admin) → is_some x ≡ true → (a : Admin) × (x ≡ Some a)
some_admin None is = absurd cc
some_admin (Some a) is = (a, refl)

-- ---- to members

pub packet_comes : (t : Table) (conn : ℕ) (said : Option GameMsg) → Comes t (packet_input conn said)
packet_comes t conn None = tt
packet_comes t conn (Some msg) = tt

pub opening_is : (o : Origin) (t : Table) (peer : Peer) → IsInput o t (Open Main peer) (inputs.Open (t.openings + 1))
opening_is o t peer = record { tick = refl; stops = refl; rule = refl }

pub packet_is : (o : Origin) (t : Table) (conn kind : ℕ) (body : List ℕ) → is_some (member_of t conn) ≡ true
    → ((m : Member) → member_of t conn ≡ Some m
    → by_event o (Packet conn kind body) t ≡ by_input (packet_input conn (read_msg kind body)) o t)
    → IsInput o t (Packet conn kind body) (packet_input conn (read_msg kind body))
packet_is o t conn kind body there rule =
    let m = some_member (member_of t conn) there in
    record {
      tick = refl;
      stops = ap (λ (x : Option Member). quits_at x (admin_of t conn) o (read_admin kind body)) m.1;
      rule = rule m.0 m.1;
    }

pub broken_is : (o : Origin) (t : Table) (conn : ℕ) → is_some (member_of t conn) ≡ true
    → ((m : Member) → member_of t conn ≡ Some m → by_event o (Broken conn) t ≡ by_input (inputs.Bad conn) o t)
    → IsInput o t (Broken conn) (inputs.Bad conn)
broken_is o t conn there rule =
    let m = some_member (member_of t conn) there in
    record { tick = refl; stops = refl; rule = rule m.0 m.1 }

pub shut_is : (o : Origin) (t : Table) (conn : ℕ) → is_some (member_of t conn) ≡ true
    → ((m : Member) → member_of t conn ≡ Some m → by_event o (Shut conn) t ≡ by_input (inputs.Shut conn) o t)
    → IsInput o t (Shut conn) (inputs.Shut conn)
shut_is o t conn there rule =
    let m = some_member (member_of t conn) there in
    record { tick = refl; stops = refl; rule = rule m.0 m.1 }

-- ---- to admins

to_admin : (x : Option Member) (y : Option Admin) (a : Admin) (of_member : Member → Table → Deed) (of_admin : Admin → Table → Deed)
    (t : Table)
    → x ≡ None → y ≡ Some a → to_named x y of_member of_admin t ≡ of_admin a t
to_admin None (Some b) a of_member of_admin t none is = ap (λ (z : Admin). of_admin z t) (same b a is)
  where
    same : (p q : Admin) → Some p ≡ Some q → p ≡ q
    same p q e = cc
to_admin None None a of_member of_admin t none is = absurd cc
to_admin (Some m) y a of_member of_admin t none is = absurd cc

pub packet_heard : (o : Origin) (t : Table) (conn kind : ℕ) (body : List ℕ) (h : Heard) → member_of t conn ≡ None
    → is_some (admin_of t conn) ≡ true
    → ((a : Admin) (u : Table) → admin_of t conn ≡ Some a → admin_hears o (read_admin kind body) a u ≡ does h a u)
    → ((a : Admin) → admin_of t conn ≡ Some a
    → quits_by (admin_judged o a (read_admin kind body)) (read_admin kind body) ≡ quits_in h)
    → IsHeard o t (Packet conn kind body) conn h
packet_heard o t conn kind body h none there rule quits =
    let a = some_admin (admin_of t conn) there in
    record {
      tick = refl;
      stops = ap₂ (λ (x : Option Member) (y : Option Admin). quits_at x y o (read_admin kind body)) none a.1 ∙ quits a.0 a.1;
      rule = λ b is. to_admin (member_of t conn) (admin_of t conn) b (heard o (read_msg kind body)) (admin_hears o (read_admin kind body)) t
          none is ∙ rule b t is;
    }

pub broken_heard : (o : Origin) (t : Table) (conn : ℕ) → member_of t conn ≡ None → IsHeard o t (Broken conn) conn (Ends illegal_packet)
broken_heard o t conn none = record {
  tick = refl;
  stops = refl;
  rule = λ a is. to_admin (member_of t conn) (admin_of t conn) a (heard o None) (admin_hears o None) t none is;
}

pub shut_heard : (o : Origin) (t : Table) (conn : ℕ) → member_of t conn ≡ None → IsHeard o t (Shut conn) conn Leave
shut_heard o t conn none = record {
  tick = refl;
  stops = refl;
  rule = λ a is. to_admin (member_of t conn) (admin_of t conn) a (λ m. ends_untold m connection_lost) admin_leaves t none is;
}
