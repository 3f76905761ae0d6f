-- A packet that spells nothing ends its own connection, and no other.
use Rattle.std.proofs.Common.{◌≡◌, ℕ, Bool, true, false, not, ◌&&◌, ◌||◌, cond, List, [], ◌∷◌, ◌++◌, Option, Some, None, refl, sym, ap, ap₂}
use Rattle.std.proofs.Common.{subst, ◌∙◌}
use Rattle.std.specs.Prelude.{eqb, filter, find, is_some, nat_le}
use Rattle.std.proofs.lemmas.Bool.{eqb-true, and_right, ne_eqb, true≢false, false≢true}
use Rattle.tt_edge.specs.declared.event.Peer.{Peer}
use Rattle.tt_edge.specs.declared.event.Event.{Event}
use Rattle.tt_edge.specs.declared.event.Event.TheVariants.{Packet}
use Rattle.tt_coord.specs.declared.stun.StunMsg.{StunMsg}
use Rattle.tt_coord.specs.declared.stun.StunMsg.TheVariants.{SercliStun}
use Rattle.tt_attempts.specs.Attempts.{stepped as attempt_stepped}
use Rattle.tt_attempts.specs.declared.attempt.Stage.{Stage}
use Rattle.tt_attempts.specs.declared.attempt.Heard.{Heard}
use Rattle.tt_attempts.specs.declared.attempt.Heard.TheVariants.{Connected, ServerGone}
use Rattle.tt_gc_table.specs.declared.setup.GcSetup.{GcSetup}
use Rattle.tt_gc_table.specs.Table.{Table, Connection, Server, Meeting, is_on, is_servers, connection_of, meeting_of, without_meeting}
use Rattle.tt_gc_table.specs.Table.{with_meeting, without_server, served_by, asked_by}
use Rattle.tt_gc_table.specs.Table as table
use Rattle.tt_gc_table.specs.Deed.{Deed, ◌▹◌, where_, either, given, each, becomes}
use Rattle.tt_gc_table.specs.Meetings.{is_over, reaches, hears_it, is_heard}
use Rattle.tt_gc_table.specs.Ending.{goes, client_gone, server_gone, leaves}
use Rattle.tt_gc_table.specs.PacketRules.{read_msg, heard}
use Rattle.tt_gc_table.specs.Desk.{is_at_stun, with_note, read_stun, on_stun, at_desk}
use Rattle.tt_gc_table.specs.Events.{on_packet, by_event, charged, shut_down, closed, is_stop, last_tick, stepped, table_of}
use Rattle.tt_gc_table.specs.Told.{is_live}
use Rattle.tt_gc_table.specs.Told as book
use Rattle.tt_gc_table.specs.Laws.{table_of-push}
use Rattle.tt_gc_table.proofs.Finding.{found, find_filter_other, find_filter_same}
use Rattle.tt_gc_table.proofs.WaysLaws.{it_table}

-- the same connections and servers, and as much over
pub record IsStill (t u : Table) : Type 0 where
  pub connections : u.connections ≡ t.connections
  pub servers : u.servers ≡ t.servers
  pub drawn : u.drawn ≡ t.drawn
  pub cost : u.cost ≡ t.cost
  pub ticks : u.ticks ≡ t.ticks
  pub over : u.over ≡ t.over

pub still : (t : Table) → IsStill t t
still t = record { connections = refl; servers = refl; drawn = refl; cost = refl; ticks = refl; over = refl }

still_on : (t u v : Table) → IsStill t u → IsStill u v → IsStill t v
still_on t u v one two = record {
  connections = two.connections ∙ one.connections;
  servers = two.servers ∙ one.servers;
  drawn = two.drawn ∙ one.drawn;
  cost = two.cost ∙ one.cost;
  ticks = two.ticks ∙ one.ticks;
  over = two.over ∙ one.over;
}

still_reaches : (stage : Stage) (token : List ℕ) (t : Table) → IsStill t (reaches stage token t).table
still_reaches stage token t = by (is_over stage)
  where
    by : (b : Bool)
        → IsStill t (either b (λ t. becomes (without_meeting token t))
        (λ t. becomes (with_meeting token (λ m. record m { state = record m.state { stage = stage } }) t)) t).table
    by true = record { connections = refl; servers = refl; drawn = refl; cost = refl; ticks = refl; over = refl }
    by false = record { connections = refl; servers = refl; drawn = refl; cost = refl; ticks = refl; over = refl }

pub still_heard : (s : GcSetup) (h : Heard) (t : Table) (o : Option Meeting) → IsStill t (given o (hears_it s h) t).table
still_heard s h t None = still t
still_heard s h t (Some m) =
    let stage : Stage = (attempt_stepped m.state.ways m.state.stage h).stage in
    let is = it_table s h m t in
    let r : IsStill t (reaches stage m.token t).table = still_reaches stage m.token t in
    record {
      connections = ap (λ (u : Table). u.connections) is ∙ r.connections;
      servers = ap (λ (u : Table). u.servers) is ∙ r.servers;
      drawn = ap (λ (u : Table). u.drawn) is ∙ r.drawn;
      cost = ap (λ (u : Table). u.cost) is ∙ r.cost;
      ticks = ap (λ (u : Table). u.ticks) is ∙ r.ticks;
      over = ap (λ (u : Table). u.over) is ∙ r.over;
    }

still_each : (s : GcSetup) (h : Heard) (tokens : List (List ℕ)) (t : Table) → IsStill t (each tokens (is_heard s h) t).table
still_each s h [] t = still t
still_each s h (token ∷ tokens) t =
    let u : Table = (is_heard s h token t).table in
    still_on t u (each tokens (is_heard s h) u).table (still_heard s h t (meeting_of t token)) (still_each s h tokens u)

-- a connection is gone, with its server, and no other
record IsWithout (conn : ℕ) (t u : Table) : Type 0 where
  pub connections : u.connections ≡ filter (λ x. not (is_on conn x)) t.connections
  pub servers : filter (λ v. not (is_servers conn v)) u.servers ≡ filter (λ v. not (is_servers conn v)) t.servers
  pub over : u.over ≡ t.over

keep_again : (a : Bool) (p : Server → Bool) (v : Server) (vs : List Server) → p v ≡ a → filter p vs ≡ vs
    → filter p (cond a (v ∷ vs) vs) ≡ cond a (v ∷ vs) vs
keep_again true p v vs is rest = ap (λ (b : Bool). cond b (v ∷ filter p vs) (filter p vs)) is ∙ ap (λ (l : List Server). v ∷ l) rest
keep_again false p v vs is rest = rest

filter_again : (p : Server → Bool) (vs : List Server) → filter p (filter p vs) ≡ filter p vs
filter_again p [] = refl
filter_again p (v ∷ vs) = keep_again (p v) p v (filter p vs) refl (filter_again p vs)

without_leaves : (s : GcSetup) (conn : ℕ) (t : Table) → IsWithout conn t (leaves s conn t).table
without_leaves s conn t =
    let d1 : Deed = goes conn t in
    let d2 : Deed = d1 ▹ client_gone s conn in
    let d3 : Deed = d2 ▹ (λ t. becomes (without_server conn t)) in
    let d4 : Deed = d3 ▹ server_gone s conn in
    let s2 : IsStill d1.table d2.table = still_each s Connected (asked_by d1.table conn) d1.table in
    let s4 : IsStill d3.table d4.table = still_each s ServerGone (served_by d3.table conn) d3.table in
    record {
      connections = s4.connections ∙ s2.connections;
      servers = ap (filter (λ v. not (is_servers conn v))) s4.servers ∙ filter_again (λ v. not (is_servers conn v)) d2.table.servers
          ∙ ap (filter (λ v. not (is_servers conn v))) s2.servers;
      over = s4.over ∙ s2.over;
    }

without_goes : (conn : ℕ) (t u : Table) → IsStill t u → IsWithout conn t (goes conn u).table
without_goes conn t u same = record {
  connections = ap (filter (λ x. not (is_on conn x))) same.connections;
  servers = ap (filter (λ v. not (is_servers conn v))) same.servers;
  over = same.over;
}

pub still_shows : (t : Table) (peer : Peer) (token : List ℕ) (side : ℕ) (o : Option Meeting)
    → IsStill t (given o (λ (m : Meeting). where_ (is_at_stun m.state.stage) (λ t. becomes (with_meeting token (with_note side peer) t)))
    t).table
still_shows t peer token side None = still t
still_shows t peer token side (Some m) = by (is_at_stun m.state.stage)
  where
    by : (b : Bool) → IsStill t (where_ b (λ t. becomes (with_meeting token (with_note side peer) t)) t).table
    by true = record { connections = refl; servers = refl; drawn = refl; cost = refl; ticks = refl; over = refl }
    by false = still t

still_stun : (t : Table) (c : Connection) (o : Option StunMsg) → IsStill t (given o (on_stun c.peer) t).table
still_stun t c None = still t
still_stun t c (Some (SercliStun token side)) = still_shows t c.peer token side (meeting_of t token)

-- a packet at the desk, and one that spells nothing at the main door
without_packet : (s : GcSetup) (kind : ℕ) (body : List ℕ) (c : Connection) (t : Table) → read_msg kind body ≡ None
    → IsWithout c.conn t (on_packet s kind body c t).table
without_packet s kind body c t none = by c.side
  where
    main : (o : _) → o ≡ None → IsWithout c.conn t (heard s c o t).table
    main None is = without_leaves s c.conn t
    main (Some m) is = absurd (true≢false (ap is_some is))

    by : (b : Bool) → IsWithout c.conn t (either b (at_desk c (read_stun kind body)) (heard s c (read_msg kind body)) t).table
    by true = without_goes c.conn t (given (read_stun kind body) (on_stun c.peer) t).table (still_stun t c (read_stun kind body))
    by false = main (read_msg kind body) none

-- ---- the event

parts : (a b : Bool) → not a && b ≡ true → (a ≡ false) × (b ≡ true)
parts true b is = absurd (false≢true is)
parts false b is = (refl, is)

witness : (o : Option Connection) → is_some o ≡ true → (c : Connection) × (o ≡ Some c)
witness None is = absurd (false≢true is)
witness (Some c) is = (c, refl)

abbrev finished : GcSetup → Event → Table → Table
finished s e u = (closed s e (charged e u).table).table

without_finished : (s : GcSetup) (e : Event) (conn : ℕ) (t u : Table) → (finished s e u).over ≡ false → IsWithout conn t u
    → IsWithout conn t (finished s e u)
without_finished s e conn t u on w = by (is_stop e || nat_le s.cost (charged e u).table.cost || eqb (charged e u).table.ticks last_tick) on
  where
    by : (b : Bool) → (where_ b shut_down (charged e u).table).table.over ≡ false
        → IsWithout conn t (where_ b shut_down (charged e u).table).table
    by true is = absurd (true≢false is)
    by false is = record { connections = w.connections; servers = w.servers; over = w.over }

-- what the packet makes of the table
packet_step : (s : GcSetup) (t : Table) (conn kind : ℕ) (body : List ℕ) (c : Connection) → table.is_live t conn ≡ true
    → connection_of t conn ≡ Some c
    → stepped s t (Packet conn kind body) ≡ finished s (Packet conn kind body) (on_packet s kind body c t).table
packet_step s t conn kind body c live is =
    let e : Event = Packet conn kind body in
    let p = parts t.over (is_some (connection_of t conn)) live in
    ap (λ (b : Bool). (where_ b (λ t. by_event s e t ▹ charged e ▹ closed s e) t).table)
    (ap (λ (b : Bool). not b && (not b && is_some (connection_of t conn))) p.0 ∙ p.1)
    ∙ ap (λ (o : Option Connection). finished s e (given o (on_packet s kind body) t).table) is

without_step : (s : GcSetup) (t : Table) (conn kind : ℕ) (body : List ℕ) → read_msg kind body ≡ None → table.is_live t conn ≡ true
    → (stepped s t (Packet conn kind body)).over ≡ false → IsWithout conn t (stepped s t (Packet conn kind body))
without_step s t conn kind body none live on =
    let e : Event = Packet conn kind body in
    let c = witness (connection_of t conn) (parts t.over (is_some (connection_of t conn)) live).1 in
    let own : c.0.conn ≡ conn = eqb-true c.0.conn conn (found (is_on conn) t.connections c.0 c.1) in
    let step = packet_step s t conn kind body c.0 live c.1 in
    let w : IsWithout conn t (on_packet s kind body c.0 t).table =
    subst (λ (n : ℕ). IsWithout n t (on_packet s kind body c.0 t).table) own (without_packet s kind body c.0 t none) in
    subst (λ (u : Table). IsWithout conn t u) (sym step) (without_finished s e conn t (on_packet s kind body c.0 t).table
    (sym (ap (λ (u : Table). u.over) step) ∙ on) w)

-- the law, for a table
own_dead : (conn : ℕ) (t u : Table) → IsWithout conn t u → table.is_live u conn ≡ false
own_dead conn t u w =
    ap (λ (cs : List Connection). not u.over && is_some (find (is_on conn) cs)) w.connections
    ∙ ap (λ (o : Option Connection). not u.over && is_some o) (find_filter_same (is_on conn) (is_on conn) (λ x is. is) t.connections)
    ∙ and_right (not u.over) false refl

other_kept : (conn other : ℕ) (t u : Table) → (other ≡ conn → ⊥) → IsWithout conn t u → table.is_live u other ≡ table.is_live t other
other_kept conn other t u apart w =
    ap₂ (λ (b : Bool) (cs : List Connection). not b && is_some (find (is_on other) cs)) w.over w.connections
    ∙ ap (λ (o : Option Connection). not t.over && is_some o) (find_filter_other (is_on other) (is_on conn)
    (λ x is. ne_eqb x.conn other (λ same. apart (sym same ∙ eqb-true x.conn conn is))) t.connections)

pub bad_packet : (s : GcSetup) (es : List Event) (conn kind : ℕ) (body : List ℕ) → read_msg kind body ≡ None → is_live s es conn ≡ true
    → book.is_over s (es ++ Packet conn kind body ∷ []) ≡ false
    → (is_live s (es ++ Packet conn kind body ∷ []) conn ≡ false)
    × ((other : ℕ) → (other ≡ conn → ⊥) → is_live s (es ++ Packet conn kind body ∷ []) other ≡ is_live s es other)
    × (filter (λ v. not (is_servers conn v)) (table_of s (es ++ Packet conn kind body ∷ [])).servers
    ≡ filter (λ v. not (is_servers conn v)) (table_of s es).servers)
bad_packet s es conn kind body none live on =
    let t : Table = table_of s es in
    let e : Event = Packet conn kind body in
    let push = table_of-push s es e in
    let w : IsWithout conn t (table_of s (es ++ e ∷ [])) =
    subst (λ (u : Table). IsWithout conn t u) (sym push) (without_step s t conn kind body none live (sym (ap (λ (u : Table). u.over) push)
    ∙ on)) in
    (own_dead conn t (table_of s (es ++ e ∷ [])) w, λ other apart. other_kept conn other t (table_of s (es ++ e ∷ [])) apart w, w.servers)
