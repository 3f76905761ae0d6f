-- What holds where nothing was registered yet, and goes on to hold where a server is registered, or nothing is drawn and no code
-- has more servers, holds after every list of events.
use Rattle.std.proofs.Common.{◌≡◌, ℕ, ◌+◌, Bool, true, false, ◌||◌, List, [], ◌∷◌, ◌++◌}
use Rattle.std.proofs.Common.{refl, sym, subst}
use Rattle.std.specs.Prelude.{eqb, fold, nat_le}
use Rattle.tt_edge.specs.declared.event.Peer.{Peer}
use Rattle.tt_edge.specs.declared.event.Door.{Door}
use Rattle.tt_edge.specs.declared.event.Door.TheVariants.{Main, Side}
use Rattle.tt_edge.specs.declared.event.Event.{Event}
use Rattle.tt_edge.specs.declared.event.Event.TheVariants.{Open, Packet, Broken, Shut, Tick, Stop}
use Rattle.tt_attempts.specs.Attempts.{from_direct}
use Rattle.tt_gc_table.specs.declared.setup.GcSetup.{GcSetup}
use Rattle.tt_gc_table.specs.Table.{Table, Connection, Meeting, first, connection_of, live_sides, meeting_of}
use Rattle.tt_gc_table.specs.Deed.{Deed, ◌▹◌, either, given, becomes}
use Rattle.tt_gc_table.specs.Codes.{new_token, behind_token}
use Rattle.tt_gc_table.specs.Meetings.{is_over, hears_it, new_meeting, stands, begins_it}
use Rattle.tt_gc_table.specs.Ending.{goes, leaves, ends}
use Rattle.tt_gc_table.specs.PacketRules.{read_msg, heard}
use Rattle.tt_gc_table.specs.Desk.{most_sides, shows, read_stun, at_desk}
use Rattle.tt_gc_table.specs.Events.{arrives, opened, on_packet, on_broken, on_shut, by_event, charged, is_stop, last_tick, shut_down}
use Rattle.tt_gc_table.specs.Events.{closed}
use Rattle.tt_gc_table.specs.Events.{counted, deed, stepped, table_of}
use Rattle.tt_gc_table.specs.Events as events
use Rattle.tt_gc_table.specs.Walk.{IsKept, Registers, kept_given, kept_where, kept_either, kept_leaves, kept_ends}
use Rattle.tt_gc_table.specs.Walk.{kept_heard}
use Rattle.tt_gc_table.specs.Walk.{kept_desk}
use Rattle.tt_gc_table.proofs.OneConnection.{IsStill, still_heard, still_shows}
use Rattle.tt_gc_table.proofs.WaysLaws.{word_table}

-- so it goes on to hold
pub record IsCarried (I : Table → Type 0) : Type 0 where
  pub same : (t u : Table) → u.servers ≡ t.servers → u.drawn ≡ t.drawn → I t → I u
  pub registers : (t u : Table) → Registers t u → I t → I u

abbrev Keeps : (Table → Type 0) → Table → Deed → Type 0
Keeps I t d = I t → I d.table

carried_still : (I : Table → Type 0) (k : IsCarried I) (t u : Table) → IsStill t u → I t → I u
carried_still I k t u is own = k.same t u is.servers is.drawn own

carried_begins : (s : GcSetup) (I : Table → Type 0) (k : IsCarried I) (t : Table) (code : List ℕ) (m : Meeting) → I t → I
    (begins_it s code m t).table
carried_begins s I k t code m own =
    let u : Table = (stands m.state.stage m (behind_token t)).table in
    let is : (begins_it s code m t).table ≡ u = word_table s (from_direct s.ways).told m u in
    subst I (sym is) (by (is_over m.state.stage))
  where
    by : (b : Bool) → I (either b becomes (λ t. becomes (record t { meetings = t.meetings ++ m ∷ [] })) (behind_token t)).table
    by true = k.same t (behind_token t) refl refl own
    by false = k.same t (record (behind_token t) { meetings = t.meetings ++ m ∷ [] }) refl refl own

carried : (s : GcSetup) (I : Table → Type 0) (k : IsCarried I) → IsKept s (Keeps I)
carried s I k = record {
  plain = λ t u like own. k.registers t u like.5 own;
  tells = λ t to m none own. own;
  goes = λ t conn own. k.same t (goes conn t).table refl refl own;
  hears = λ t h token own. carried_still I k t (given (meeting_of t token) (hears_it s h) t).table (still_heard s h t
      (meeting_of t token)) own;
  shows = λ t peer token side own. carried_still I k t (shows peer token side t).table (still_shows t peer token side
      (meeting_of t token)) own;
  joins = λ t d rule one two own. two (one own);
}

carried_arrives : (I : Table → Type 0) (k : IsCarried I) (side : Bool) (peer : Peer) (t : Table) → Keeps I t (arrives side peer t)
carried_arrives I k side peer t own = k.same t (arrives side peer t).table refl refl own

carried_opened : (s : GcSetup) (I : Table → Type 0) (k : IsCarried I) (door : Door) (peer : Peer) (t : Table) → Keeps I t
    (opened door peer t)
carried_opened s I k Main peer t = carried_arrives I k false peer t
carried_opened s I k Side peer t =
    kept_either (Keeps I) t (nat_le most_sides (live_sides t)) (goes t.openings) (arrives true peer) ((carried s I k).goes t t.openings)
    (carried_arrives I k true peer t)

carried_packet : (s : GcSetup) (I : Table → Type 0) (k : IsCarried I) (kind : ℕ) (body : List ℕ) (x : Connection)
    (t : Table) → Keeps I t (on_packet s kind body x t)
carried_packet s I k kind body x t =
    kept_either (Keeps I) t x.side (at_desk x (read_stun kind body)) (heard s x (read_msg kind body))
    (kept_desk s (Keeps I) (carried s I k) t x (read_stun kind body))
    (kept_heard s (Keeps I) (carried s I k)
    (λ t code server v client. carried_begins s I k t code (new_meeting s (new_token t) server v client)) t x (read_msg kind body))

carried_rule : (s : GcSetup) (I : Table → Type 0) (k : IsCarried I) (e : Event) (t : Table) → Keeps I t (by_event s e t)
carried_rule s I k (Open door peer) t = carried_opened s I k door peer t
carried_rule s I k (Packet conn kind body) t =
    kept_given s (Keeps I) (carried s I k) t (connection_of t conn) (on_packet s kind body) (λ x. carried_packet s I k kind body x t)
carried_rule s I k (Broken conn) t = kept_given s (Keeps I) (carried s I k) t (connection_of t conn) (on_broken s)
    (λ x. kept_either (Keeps I) t x.side (goes x.conn) (ends s x.conn 0 []) ((carried s I k).goes t x.conn)
    (kept_ends s (Keeps I) (carried s I k) t x.conn 0 []))
carried_rule s I k (Shut conn) t = kept_given s (Keeps I) (carried s I k) t (connection_of t conn) (on_shut s)
    (λ x. kept_either (Keeps I) t x.side (goes x.conn) (leaves s x.conn) ((carried s I k).goes t x.conn)
    (kept_leaves s (Keeps I) (carried s I k) t x.conn))
carried_rule s I k Tick t = λ own. k.same t (record t { ticks = t.ticks + 1 }) refl refl own
carried_rule s I k Stop t = λ own. own

carried_taken : (s : GcSetup) (I : Table → Type 0) (k : IsCarried I) (e : Event) (t : Table) → Keeps I t
    (by_event s e t ▹ charged e ▹ closed s e)
carried_taken s I k e t own =
    let d1 : Deed = by_event s e t in
    let d2 : Deed = d1 ▹ charged e in
    let last : Bool = is_stop e || nat_le s.cost d2.table.cost || eqb d2.table.ticks last_tick in
    kept_where s (Keeps I) (carried s I k) d2.table last shut_down (λ own. k.same d2.table (shut_down d2.table).table refl refl own)
    (k.same d1.table d2.table refl refl (carried_rule s I k e t own))

carried_counted : (I : Table → Type 0) (k : IsCarried I) (e : Event) (t : Table) → I t → I (counted e t)
carried_counted I k (Open door peer) t own = k.same t (record t { openings = t.openings + 1 }) refl refl own
carried_counted I k (Packet conn kind body) t own = own
carried_counted I k (Broken conn) t own = own
carried_counted I k (Shut conn) t own = own
carried_counted I k Tick t own = own
carried_counted I k Stop t own = own

carried_deed : (s : GcSetup) (I : Table → Type 0) (k : IsCarried I) (e : Event) (t : Table) → I t → I (stepped s t e)
carried_deed s I k e t own =
    kept_where s (Keeps I) (carried s I k) (counted e t) (events.takes t e) (λ t. by_event s e t ▹ charged e ▹ closed s e)
    (carried_taken s I k e (counted e t)) (carried_counted I k e t own)

carried_after : (s : GcSetup) (I : Table → Type 0) (k : IsCarried I) (t : Table) (es : List Event) → I t → I (fold (stepped s) t es)
carried_after s I k t [] own = own
carried_after s I k t (e ∷ es) own = carried_after s I k (stepped s t e) es (carried_deed s I k e t own)

pub carried_to : (s : GcSetup) (I : Table → Type 0) → IsCarried I → I (first s) → (es : List Event) → I (table_of s es)
carried_to s I k own es = carried_after s I k (first s) es own
