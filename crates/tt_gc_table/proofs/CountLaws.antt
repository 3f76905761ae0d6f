-- What the events cost, how many ticks there were, and when all is over.
use Rattle.std.proofs.Common.{◌≡◌, ℕ, ◌+◌, Bool, true, false, not, ◌&&◌, ◌||◌, cond, List, [], ◌∷◌, ◌++◌, refl, ap, ap₂, ◌∙◌, arith}
use Rattle.std.specs.Prelude.{eqb, nat_le}
use Rattle.tt_edge.specs.declared.event.Door.TheVariants.{Main, Side}
use Rattle.tt_edge.specs.declared.event.Event.{Event}
use Rattle.tt_edge.specs.declared.event.Event.TheVariants.{Open, Packet, Broken, Shut, Tick, Stop}
use Rattle.tt_edge.specs.Event.{event_cost, is_tick}
use Rattle.tt_attempts.specs.Attempts.{from_direct}
use Rattle.tt_gc_table.specs.declared.setup.GcSetup.{GcSetup}
use Rattle.tt_gc_table.specs.Table.{Table, Connection, Meeting, connection_of, live_sides, meeting_of}
use Rattle.tt_gc_table.specs.Deed.{Deed, ◌▹◌, where_, either, becomes, given}
use Rattle.tt_gc_table.specs.Codes.{new_token, behind_token}
use Rattle.tt_gc_table.specs.Meetings.{is_over, hears_it, new_meeting, stands, begins_it}
use Rattle.tt_gc_table.specs.Ending.{goes, leaves, ends}
use Rattle.tt_gc_table.specs.PacketRules.{read_msg, heard}
use Rattle.tt_gc_table.specs.Desk.{most_sides, shows, read_stun, at_desk}
use Rattle.tt_gc_table.specs.Events.{arrives, opened, on_packet, on_broken, on_shut, by_event, charged, is_stop, last_tick, shut_down}
use Rattle.tt_gc_table.specs.Events.{closed}
use Rattle.tt_gc_table.specs.Events.{names_live, counted, stepped, table_of}
use Rattle.tt_gc_table.specs.Events as events
use Rattle.tt_gc_table.specs.Told as book
use Rattle.tt_gc_table.specs.Laws.{table_of-push}
use Rattle.tt_gc_table.specs.Walk.{IsKept, kept_given, kept_either, kept_leaves, kept_ends, kept_heard, kept_desk}
use Rattle.tt_gc_table.proofs.OneConnection.{IsStill, still_heard, still_shows}
use Rattle.tt_gc_table.proofs.WaysLaws.{word_table}

-- cost and ticks are as they were, and as much is over
record IsCounted (t : Table) (d : Deed) : Type 0 where
  pub cost : d.table.cost ≡ t.cost
  pub ticks : d.table.ticks ≡ t.ticks
  pub over : d.table.over ≡ t.over

of_still : (t : Table) (d : Deed) → IsStill t d.table → IsCounted t d
of_still t d is = record { cost = is.cost; ticks = is.ticks; over = is.over }

counts_begin : (s : GcSetup) (t : Table) (code : List ℕ) (m : Meeting) → IsCounted t (begins_it s code m t)
counts_begin s t code m =
    let u : Table = (stands m.state.stage m (behind_token t)).table in
    let is : (begins_it s code m t).table ≡ u = word_table s (from_direct s.ways).told m u in
    let b : IsCounted t (stands m.state.stage m (behind_token t)) = by (is_over m.state.stage) in
    record {
      cost = ap (λ (u : Table). u.cost) is ∙ b.cost;
      ticks = ap (λ (u : Table). u.ticks) is ∙ b.ticks;
      over = ap (λ (u : Table). u.over) is ∙ b.over;
    }
  where
    by : (b : Bool) → IsCounted t (either b becomes (λ t. becomes (record t { meetings = t.meetings ++ m ∷ [] })) (behind_token t))
    by true = record { cost = refl; ticks = refl; over = refl }
    by false = record { cost = refl; ticks = refl; over = refl }

counts : (s : GcSetup) → IsKept s IsCounted
counts s = record {
  plain = λ t u like. record { cost = like.6; ticks = like.7; over = like.1 };
  tells = λ t to m none. record { cost = refl; ticks = refl; over = refl };
  goes = λ t conn. record { cost = refl; ticks = refl; over = refl };
  hears = λ t h token. of_still t (given (meeting_of t token) (hears_it s h) t) (still_heard s h t (meeting_of t token));
  shows = λ t peer token side. of_still t (shows peer token side t) (still_shows t peer token side (meeting_of t token));
  joins = λ t d rule one two. record { cost = two.cost ∙ one.cost; ticks = two.ticks ∙ one.ticks; over = two.over ∙ one.over };
}

counts_packet : (s : GcSetup) (kind : ℕ) (body : List ℕ) (x : Connection) (t : Table) → IsCounted t (on_packet s kind body x t)
counts_packet s kind body x t =
    kept_either IsCounted t x.side (at_desk x (read_stun kind body)) (heard s x (read_msg kind body))
    (kept_desk s IsCounted (counts s) t x (read_stun kind body))
    (kept_heard s IsCounted (counts s)
    (λ t code server v client. counts_begin s t code (new_meeting s (new_token t) server v client)) t x (read_msg kind body))

-- a rule counts its tick, and nothing else
record IsRuled (t u : Table) (e : Event) : Type 0 where
  pub cost : u.cost ≡ t.cost
  pub ticks : u.ticks ≡ t.ticks + cond (is_tick e) 1 0
  pub over : u.over ≡ t.over

no_tick : (t : Table) (d : Deed) (e : Event) → is_tick e ≡ false → IsCounted t d → IsRuled t d.table e
no_tick t d e none is = record {
  cost = is.cost;
  ticks = is.ticks ∙ omega (arith, ap (λ (b : Bool). cond {A = ℕ} b 1 0) none);
  over = is.over;
}

ruled : (s : GcSetup) (e : Event) (t : Table) → IsRuled (counted e t) (by_event s e (counted e t)).table e
ruled s (Open Main peer) t = no_tick (counted (Open Main peer) t) (arrives false peer (counted (Open Main peer) t)) (Open Main peer) refl
    (record { cost = refl; ticks = refl; over = refl })
ruled s (Open Side peer) t =
    let u : Table = counted (Open Side peer) t in
    no_tick u (opened Side peer u) (Open Side peer) refl
    (kept_either IsCounted u (nat_le most_sides (live_sides u)) (goes u.openings) (arrives true peer) ((counts s).goes u u.openings)
    (record { cost = refl; ticks = refl; over = refl }))
ruled s (Packet conn kind body) t =
    no_tick t (given (connection_of t conn) (on_packet s kind body) t) (Packet conn kind body) refl
    (kept_given s IsCounted (counts s) t (connection_of t conn) (on_packet s kind body) (λ x. counts_packet s kind body x t))
ruled s (Broken conn) t = no_tick t (given (connection_of t conn) (on_broken s) t) (Broken conn) refl
    (kept_given s IsCounted (counts s) t (connection_of t conn) (on_broken s)
    (λ x. kept_either IsCounted t x.side (goes x.conn) (ends s x.conn 0 []) ((counts s).goes t x.conn)
    (kept_ends s IsCounted (counts s) t x.conn 0 [])))
ruled s (Shut conn) t = no_tick t (given (connection_of t conn) (on_shut s) t) (Shut conn) refl
    (kept_given s IsCounted (counts s) t (connection_of t conn) (on_shut s)
    (λ x. kept_either IsCounted t x.side (goes x.conn) (leaves s x.conn) ((counts s).goes t x.conn)
    (kept_leaves s IsCounted (counts s) t x.conn)))
ruled s Tick t = record { cost = refl; ticks = refl; over = refl }
ruled s Stop t = record { cost = refl; ticks = omega arith; over = refl }

counted_same : (e : Event) (t : Table) → IsCounted t (becomes (counted e t))
counted_same (Open door peer) t = record { cost = refl; ticks = refl; over = refl }
counted_same (Packet conn kind body) t = record { cost = refl; ticks = refl; over = refl }
counted_same (Broken conn) t = record { cost = refl; ticks = refl; over = refl }
counted_same (Shut conn) t = record { cost = refl; ticks = refl; over = refl }
counted_same Tick t = record { cost = refl; ticks = refl; over = refl }
counted_same Stop t = record { cost = refl; ticks = refl; over = refl }

over_closed : (b : Bool) (t : Table) → t.over ≡ false → (where_ b shut_down t).table.over ≡ b
over_closed true t none = refl
over_closed false t none = none

over_step : (s : GcSetup) (t : Table) (e : Event) → t.over ≡ false → names_live t e ≡ true
    → (stepped s t e).over ≡ is_stop e || nat_le s.cost (t.cost + event_cost e) || eqb (t.ticks + cond (is_tick e) 1 0) last_tick
over_step s t e none live =
    let u : Table = counted e t in
    let c : IsCounted t (becomes u) = counted_same e t in
    let r : IsRuled u (by_event s e u).table e = ruled s e t in
    let v : Table = (charged e (by_event s e u).table).table in
    let taken : events.takes t e ≡ true = ap₂ (λ (a b : Bool). not a && b) none live in
    ap (λ (b : Bool). (where_ b (λ t. by_event s e t ▹ charged e ▹ closed s e) u).table.over) taken
    ∙ over_closed (is_stop e || nat_le s.cost v.cost || eqb v.ticks last_tick) v (r.over ∙ c.over ∙ none)
    ∙ ap₂ (λ (x y : ℕ). is_stop e || nat_le s.cost (x + event_cost e) || eqb y last_tick) (r.cost ∙ c.cost)
    (r.ticks ∙ ap (λ (n : ℕ). n + cond (is_tick e) 1 0) c.ticks)

pub over_exactly : (s : GcSetup) (es : List Event) (e : Event) → book.is_over s es ≡ false → book.takes s es e ≡ true
    → book.is_over s (es ++ e ∷ []) ≡ is_stop e || nat_le s.cost ((table_of s es).cost + event_cost e)
    || eqb ((table_of s es).ticks + cond (is_tick e) 1 0) last_tick
over_exactly s es e none live = ap (λ (t : Table). t.over) (table_of-push s es e) ∙ over_step s (table_of s es) e none live
