-- The laws that a core owes, for the coordinator's definitions.
use Rattle.std.proofs.Common.{◌≡◌, ℕ, ◌+◌, ◌<◌, ◌≤◌, Bool, true, false, not, ◌&&◌, ◌||◌, cond, List, [], ◌∷◌, ◌++◌, map, Option, Some, None}
use Rattle.std.proofs.Common.{refl, sym, ap, ap₂, ◌∙◌, append_assoc, arith, inl, inr}
use Rattle.std.specs.Prelude.{◌⊎◌, fold, eqb, filter, find, is_some, nat_le}
use Rattle.std.proofs.lemmas.Bool.{and_left, ne_eqb, not_from_true, true≢false}
use Rattle.std.proofs.lemmas.List.{append-nil}
use Rattle.std.proofs.lemmas.List.Sums.{fold-append, sum_by-append}
use Rattle.tt_edge.specs.declared.event.Peer.{Peer}
use Rattle.tt_edge.specs.declared.event.Door.{Door}
use Rattle.tt_edge.specs.declared.event.Door.TheVariants.{Main, Side}
use Rattle.tt_edge.specs.declared.event.Event.{Event}
use Rattle.tt_edge.specs.declared.event.Event.TheVariants.{Open, Packet, Broken, Shut, Tick, Stop}
use Rattle.tt_edge.specs.Event.{is_open, is_taken, opens, event_cost}
use Rattle.tt_edge.specs.Core.{GrowsTo, IsUnopened}
use Rattle.tt_coord.specs.declared.coord.CoordMsg.{CoordMsg}
use Rattle.tt_coord.specs.declared.coord.CoordMsg.TheVariants.{GcConnecting, GcConnectFailed, GcDirectConnect, GcStunRequest, GcStunConnect}
use Rattle.tt_coord.specs.declared.coord.CoordMsg.TheVariants.{GcTurnConnect}
use Rattle.tt_attempts.specs.Attempts.{from_direct, stepped as attempt_stepped}
use Rattle.tt_attempts.specs.declared.attempt.Stage.{Stage}
use Rattle.tt_attempts.specs.declared.attempt.Heard.{Heard}
use Rattle.tt_attempts.specs.declared.attempt.Told as word
use Rattle.tt_attempts.specs.declared.attempt.Told.TheVariants.{Nothing, Direct, AskStun, Stun, Turn, AllFailed}
use Rattle.tt_gc_table.specs.declared.setup.GcSetup.{GcSetup}
use Rattle.tt_gc_table.specs.Table.{Table, Connection, Server, Meeting, first, is_on, connection_of, live_sides, meeting_of}
use Rattle.tt_gc_table.specs.Table.{without_meeting}
use Rattle.tt_gc_table.specs.Table.{with_meeting}
use Rattle.tt_gc_table.specs.Table as table
use Rattle.tt_gc_table.specs.Deed.{What, Step, Deed, begins, hears, ◌▹◌, where_, either, given, becomes, tells, notes}
use Rattle.tt_gc_table.specs.Codes.{new_token, behind_token}
use Rattle.tt_gc_table.specs.Meetings.{host_text, shown, tells_word, is_over, reaches, hears_it, new_meeting, stands, begins_it}
use Rattle.tt_gc_table.specs.Ending.{goes, leaves, ends}
use Rattle.tt_gc_table.specs.PacketRules.{read_msg, heard}
use Rattle.tt_gc_table.specs.Desk.{most_sides, is_at_stun, with_note, read_stun, at_desk}
use Rattle.tt_gc_table.specs.Events.{arrives, opened, on_packet, on_broken, on_shut, by_event, charged, is_stop, last_tick, shut_down}
use Rattle.tt_gc_table.specs.Events.{closed}
use Rattle.tt_gc_table.specs.Events.{names_live, counted, deed, stepped, table_of}
use Rattle.tt_gc_table.specs.Events as events
use Rattle.tt_gc_table.specs.Told.{copies, bytes_of, bytes_to, told, sent_from, sent, is_live, takes}
use Rattle.tt_gc_table.specs.Told as book
use Rattle.tt_gc_table.specs.Walk.{IsKept, kept_given, kept_where, kept_either, kept_leaves, kept_ends, kept_heard, kept_desk}

-- ---- lists

parts : {A : Type 0} (b : Bool) (x : A) (r : Option A) → is_some (cond b (Some x) r) ≡ false → (b ≡ false) × (is_some r ≡ false)
parts true x r is = absurd (true≢false is)
parts false x r is = (refl, is)

front : {A : Type 0} (p : A → Bool) (x : A) (ys : List A) (a : Bool) → p x ≡ false → is_some (find p ys) ≡ false
    → is_some (find p (cond a (x ∷ ys) ys)) ≡ false
front p x ys true other none = ap (λ (b : Bool). is_some (cond b (Some x) (find p ys))) other ∙ none
front p x ys false other none = none

find_filter : {A : Type 0} (p q : A → Bool) (xs : List A) → is_some (find p xs) ≡ false → is_some (find p (filter q xs)) ≡ false
find_filter p q [] none = refl
find_filter p q (x ∷ xs) none = let h = parts (p x) x (find p xs) none in front p x (filter q xs) (q x) h.0 (find_filter p q xs h.1)

find_push : {A : Type 0} (p : A → Bool) (xs : List A) (x : A) → is_some (find p xs) ≡ false → p x ≡ false
    → is_some (find p (xs ++ x ∷ [])) ≡ false
find_push p [] x none other = ap (λ (b : Bool). is_some (cond b (Some x) None)) other
find_push p (y ∷ ys) x none other = let h =
    parts (p y) y (find p ys) none in ap (λ (b : Bool). is_some (cond b (Some y) (find p (ys ++ x ∷ [])))) h.0 ∙ find_push p ys x h.1 other

-- ---- bytes

copies_front : (c x : ℕ) (ys bytes : List ℕ) (a : Bool) → (a ≡ true → eqb x c ≡ false) → copies c ys bytes ≡ []
    → copies c (cond a (x ∷ ys) ys) bytes ≡ []
copies_front c x ys bytes true other none = ap (λ (b : Bool). cond b (bytes ++ copies c ys bytes) (copies c ys bytes)) (other refl) ∙ none
copies_front c x ys bytes false other none = none

-- a connection at which a test is false is told nothing of what is told to those at which it is true
copies_filter : (c : ℕ) (p : ℕ → Bool) (xs bytes : List ℕ) → p c ≡ false → copies c (filter p xs) bytes ≡ []
copies_filter c p [] bytes dead = refl
copies_filter c p (x ∷ xs) bytes dead =
    copies_front c x (filter p xs) bytes (p x) (λ yes. ne_eqb x c (λ same. true≢false (sym yes ∙ ap p same ∙ dead)))
    (copies_filter c p xs bytes dead)

either_way : (b : Bool) (ys : List ℕ) → ys ≡ [] → cond b ([] ++ ys) ys ≡ []
either_way true ys is = is
either_way false ys is = is

copies_none : (c : ℕ) (to : List ℕ) → copies c to [] ≡ []
copies_none c [] = refl
copies_none c (x ∷ to) = either_way (eqb x c) (copies c to []) (copies_none c to)

bytes_to-append : (c : ℕ) (xs ys : List Step) → bytes_to c (xs ++ ys) ≡ bytes_to c xs ++ bytes_to c ys
bytes_to-append c [] ys = refl
bytes_to-append c (x ∷ xs) ys = ap (λ (l : List ℕ). copies c x.to (bytes_of x.what) ++ l) (bytes_to-append c xs ys)
    ∙ sym (append_assoc (copies c x.to (bytes_of x.what)) (bytes_to c xs) (bytes_to c ys))

-- ---- a rule leaves a connection that isn't live so, tells it nothing, and opens none

pub record Quiet (c : ℕ) (t : Table) (d : Deed) : Type 0 where
  pub openings : d.table.openings ≡ t.openings
  pub gone : table.is_live t c ≡ false → table.is_live d.table c ≡ false
  pub silent : table.is_live t c ≡ false → bytes_to c d.told ≡ []

quiet_joins : (c : ℕ) (t : Table) (d : Deed) (rule : Table → Deed) → Quiet c t d → Quiet c d.table (rule d.table) → Quiet c t (d ▹ rule)
quiet_joins c t d rule one two = record {
  openings = two.openings ∙ one.openings;
  gone = λ dead. two.gone (one.gone dead);
  silent = λ dead. bytes_to-append c d.told (rule d.table).told ∙ ap₂ (λ (x y : List ℕ). x ++ y) (one.silent dead)
      (two.silent (one.gone dead));
}

quiet_becomes : (c : ℕ) (t u : Table) → u.connections ≡ t.connections → u.over ≡ t.over → u.openings ≡ t.openings → Quiet c t (becomes u)
quiet_becomes c t u conns over openings = record {
  openings = openings;
  gone = λ dead. ap₂ (λ (b : Bool) (cs : List Connection). not b && is_some (find (is_on c) cs)) over conns ∙ dead;
  silent = λ dead. refl;
}

quiet_tells : (c : ℕ) (t : Table) (to : List ℕ) (m : CoordMsg) → Quiet c t (tells to m t)
quiet_tells c t to m = record {
  openings = refl;
  gone = λ dead. dead;
  silent = λ dead. append-nil (copies c (filter (table.is_live t) to) (book.spelled m))
      ∙ copies_filter c (table.is_live t) to (book.spelled m) dead;
}

quiet_notes : (c : ℕ) (t : Table) (w : What) → Quiet c t (notes w t)
quiet_notes c t w = record { openings = refl; gone = λ dead. dead; silent = λ dead. refl }

gone_by : (over a b : Bool) → (a ≡ false → b ≡ false) → not over && a ≡ false → not over && b ≡ false
gone_by true a b f is = refl
gone_by false a b f is = f is

quiet_goes : (c : ℕ) (t : Table) (conn : ℕ) → Quiet c t (goes conn t)
quiet_goes c t conn = record {
  openings = refl;
  gone = gone_by t.over (is_some (find (is_on c) t.connections))
      (is_some (find (is_on c) (filter (λ x. not (is_on conn x)) t.connections))) (find_filter (is_on c) (λ x. not (is_on conn x))
      t.connections);
  silent = λ dead. append-nil (copies c (conn ∷ []) []) ∙ copies_none c (conn ∷ []);
}

quiet_either : (c : ℕ) (t : Table) (b : Bool) (rule other : Table → Deed) → Quiet c t (rule t) → Quiet c t (other t)
    → Quiet c t (either b rule other t)
quiet_either c t b rule other f g = kept_either (Quiet c) t b rule other f g

quiet_word : (s : GcSetup) (c : ℕ) (w : word.Told) (m : Meeting) (t : Table) → Quiet c t (tells_word s w m t)
quiet_word s c Nothing m t = quiet_becomes c t t refl refl refl
quiet_word s c Direct m t = quiet_tells c t (m.client.conn ∷ []) (GcDirectConnect m.token 1 (host_text m.server.seen) m.port)
quiet_word s c AskStun m t = quiet_tells c t (m.server.conn ∷ m.client.conn ∷ []) (GcStunRequest m.token)
quiet_word s c Stun m t =
    let one : CoordMsg = GcStunConnect m.token 2 0 (host_text (shown m.client)) (shown m.client).port in
    let two : CoordMsg = GcStunConnect m.token 2 1 (host_text (shown m.server)) (shown m.server).port in
    quiet_joins c t (tells (m.server.conn ∷ []) one t) (tells (m.client.conn ∷ []) two) (quiet_tells c t (m.server.conn ∷ []) one)
    (quiet_tells c t (m.client.conn ∷ []) two)
quiet_word s c Turn m t = quiet_tells c t (m.server.conn ∷ m.client.conn ∷ []) (GcTurnConnect m.token 3 m.token s.turn_host)
quiet_word s c AllFailed m t = quiet_tells c t (m.client.conn ∷ []) (GcConnectFailed m.token)

quiet_reaches : (c : ℕ) (stage : Stage) (token : List ℕ) (t : Table) → Quiet c t (reaches stage token t)
quiet_reaches c stage token t =
    let change = λ (m : Meeting). record m { state = record m.state { stage = stage } } in
    quiet_either c t (is_over stage) (λ t. becomes (without_meeting token t)) (λ t. becomes (with_meeting token change t))
    (quiet_becomes c t (without_meeting token t) refl refl refl) (quiet_becomes c t (with_meeting token change t) refl refl refl)

quiet_it : (s : GcSetup) (c : ℕ) (h : Heard) (m : Meeting) (t : Table) → Quiet c t (hears_it s h m t)
quiet_it s c h m t =
    let step = attempt_stepped m.state.ways m.state.stage h in
    let d1 : Deed = notes (hears m.token h) t in
    let d2 : Deed = d1 ▹ reaches step.stage m.token in
    quiet_joins c t d2 (tells_word s step.told m) (quiet_joins c t d1 (reaches step.stage m.token) (quiet_notes c t (hears m.token h))
    (quiet_reaches c step.stage m.token d1.table)) (quiet_word s c step.told m d2.table)

quiet_hears : (s : GcSetup) (c : ℕ) (h : Heard) (t : Table) (o : Option Meeting) → Quiet c t (given o (hears_it s h) t)
quiet_hears s c h t None = quiet_becomes c t t refl refl refl
quiet_hears s c h t (Some m) = quiet_it s c h m t

quiet_shows : (c : ℕ) (peer : Peer) (token : List ℕ) (side : ℕ) (t : Table) (o : Option Meeting)
    → Quiet c t (given o (λ (m : Meeting). where_ (is_at_stun m.state.stage) (λ t. becomes (with_meeting token (with_note side peer) t))) t)
quiet_shows c peer token side t None = quiet_becomes c t t refl refl refl
quiet_shows c peer token side t (Some m) = by (is_at_stun m.state.stage)
  where
    by : (b : Bool) → Quiet c t (where_ b (λ t. becomes (with_meeting token (with_note side peer) t)) t)
    by true = quiet_becomes c t (with_meeting token (with_note side peer) t) refl refl refl
    by false = quiet_becomes c t t refl refl refl

quiet_stands : (c : ℕ) (stage : Stage) (m : Meeting) (t : Table) → Quiet c t (stands stage m t)
quiet_stands c stage m t =
    quiet_either c t (is_over stage) becomes (λ t. becomes (record t { meetings = t.meetings ++ m ∷ [] })) (quiet_becomes c t t refl refl
    refl) (quiet_becomes c t (record t { meetings = t.meetings ++ m ∷ [] }) refl refl refl)

quiet_begins : (s : GcSetup) (c : ℕ) (t : Table) (code : List ℕ) (m : Meeting) → Quiet c t (begins_it s code m t)
quiet_begins s c t code m =
    let d0 : Deed = becomes (behind_token t) in
    let d1 : Deed = d0 ▹ notes (begins m.token) in
    let d2 : Deed = d1 ▹ stands m.state.stage m in
    let d3 : Deed = d2 ▹ tells (m.client.conn ∷ []) (GcConnecting m.token code) in
    let p1 : Quiet c t d1 = quiet_joins c t d0 (notes (begins m.token)) (quiet_becomes c t (behind_token t) refl refl refl)
    (quiet_notes c d0.table (begins m.token)) in
    let p2 : Quiet c t d2 = quiet_joins c t d1 (stands m.state.stage m) p1 (quiet_stands c m.state.stage m d1.table) in
    let p3 : Quiet c t d3 = quiet_joins c t d2 (tells (m.client.conn ∷ []) (GcConnecting m.token code)) p2 (quiet_tells c d2.table
    (m.client.conn ∷ []) (GcConnecting m.token code)) in
    quiet_joins c t d3 (tells_word s (from_direct s.ways).told m) p3 (quiet_word s c (from_direct s.ways).told m d3.table)

-- so is each packet's rule
pub quiet : (s : GcSetup) (c : ℕ) → IsKept s (Quiet c)
quiet s c = record {
  plain = λ t u like. quiet_becomes c t u like.0 like.1 like.4;
  tells = λ t to m none. quiet_tells c t to m;
  goes = λ t conn. quiet_goes c t conn;
  hears = λ t h token. quiet_hears s c h t (meeting_of t token);
  shows = λ t peer token side. quiet_shows c peer token side t (meeting_of t token);
  joins = λ t d rule one two. quiet_joins c t d rule one two;
}

-- ---- events

arrived : (c : ℕ) (side : Bool) (peer : Peer) (t : Table) → (t.openings ≡ c → ⊥) → Quiet c t (arrives side peer t)
arrived c side peer t other =
    let new : Connection = record { conn = t.openings; side = side; peer = peer } in
    record {
      openings = refl;
      gone = gone_by t.over (is_some (find (is_on c) t.connections)) (is_some (find (is_on c) (t.connections ++ new ∷ [])))
          (λ none. find_push (is_on c) t.connections new none (ne_eqb t.openings c other));
      silent = λ dead. refl;
    }

quiet_opened : (c : ℕ) (door : Door) (peer : Peer) (t : Table) → (t.openings ≡ c → ⊥) → Quiet c t (opened door peer t)
quiet_opened c Main peer t other = arrived c false peer t other
quiet_opened c Side peer t other = quiet_either c t (nat_le most_sides (live_sides t)) (goes t.openings) (arrives true peer)
    (quiet_goes c t t.openings) (arrived c true peer t other)

quiet_packet : (s : GcSetup) (c kind : ℕ) (body : List ℕ) (x : Connection) (t : Table) → Quiet c t (on_packet s kind body x t)
quiet_packet s c kind body x t =
    quiet_either c t x.side (at_desk x (read_stun kind body)) (heard s x (read_msg kind body)) (kept_desk s (Quiet c) (quiet s c) t x
    (read_stun kind body)) (kept_heard s (Quiet c) (quiet s c) (λ t code server v client. quiet_begins s c t code
    (new_meeting s (new_token t) server v client)) t x (read_msg kind body))

quiet_rule : (s : GcSetup) (c : ℕ) (e : Event) (t : Table) → (is_open e ≡ true → t.openings ≡ c → ⊥) → Quiet c t (by_event s e t)
quiet_rule s c (Open door peer) t other = quiet_opened c door peer t (other refl)
quiet_rule s c (Packet conn kind body) t other =
    kept_given s (Quiet c) (quiet s c) t (connection_of t conn) (on_packet s kind body) (λ x. quiet_packet s c kind body x t)
quiet_rule s c (Broken conn) t other =
    kept_given s (Quiet c) (quiet s c) t (connection_of t conn) (on_broken s) (λ x. quiet_either c t x.side (goes x.conn)
    (ends s x.conn 0 []) (quiet_goes c t x.conn) (kept_ends s (Quiet c) (quiet s c) t x.conn 0 []))
quiet_rule s c (Shut conn) t other =
    kept_given s (Quiet c) (quiet s c) t (connection_of t conn) (on_shut s) (λ x. quiet_either c t x.side (goes x.conn) (leaves s x.conn)
    (quiet_goes c t x.conn) (kept_leaves s (Quiet c) (quiet s c) t x.conn))
quiet_rule s c Tick t other = quiet_becomes c t (record t { ticks = t.ticks + 1 }) refl refl refl
quiet_rule s c Stop t other = quiet_becomes c t t refl refl refl

quiet_shut_down : (c : ℕ) (t : Table) → Quiet c t (shut_down t)
quiet_shut_down c t = record {
  openings = refl;
  gone = λ dead. refl;
  silent = λ dead. append-nil (copies c (map (λ (x : Connection). x.conn) t.connections) [])
      ∙ copies_none c (map (λ (x : Connection). x.conn) t.connections);
}

quiet_taken : (s : GcSetup) (c : ℕ) (e : Event) (t : Table) → (is_open e ≡ true → t.openings ≡ c → ⊥)
    → Quiet c t (by_event s e t ▹ charged e ▹ closed s e)
quiet_taken s c e t other =
    let d1 : Deed = by_event s e t in
    let d2 : Deed = d1 ▹ charged e in
    let last : Bool = is_stop e || nat_le s.cost d2.table.cost || eqb d2.table.ticks last_tick in
    quiet_joins c t d2 (closed s e) (quiet_joins c t d1 (charged e) (quiet_rule s c e t other) (quiet_becomes c d1.table
    (record d1.table { cost = d1.table.cost + event_cost e }) refl refl refl))
    (kept_where s (Quiet c) (quiet s c) d2.table last shut_down (quiet_shut_down c d2.table))

pub quiet_deed : (s : GcSetup) (c : ℕ) (e : Event) (t : Table) → (is_open e ≡ true → (counted e t).openings ≡ c → ⊥)
    → Quiet c (counted e t) (deed s e t)
quiet_deed s c e t other =
    kept_where s (Quiet c) (quiet s c) (counted e t) (events.takes t e) (λ t. by_event s e t ▹ charged e ▹ closed s e)
    (quiet_taken s c e (counted e t) other)

-- ---- one event more

live_counted : (e : Event) (t : Table) (c : ℕ) → table.is_live (counted e t) c ≡ table.is_live t c
live_counted (Open door peer) t c = refl
live_counted (Packet conn kind body) t c = refl
live_counted (Broken conn) t c = refl
live_counted (Shut conn) t c = refl
live_counted Tick t c = refl
live_counted Stop t c = refl

plus_none : (n : ℕ) → n ≡ n + 0
plus_none n = omega arith

openings_counted : (e : Event) (t : Table) → (counted e t).openings ≡ t.openings + cond (is_open e) 1 0
openings_counted (Open door peer) t = refl
openings_counted (Packet conn kind body) t = plus_none t.openings
openings_counted (Broken conn) t = plus_none t.openings
openings_counted (Shut conn) t = plus_none t.openings
openings_counted Tick t = plus_none t.openings
openings_counted Stop t = plus_none t.openings

-- the numbers of openings rise by its own, whatever an event does
openings_stepped : (s : GcSetup) (t : Table) (e : Event) → (stepped s t e).openings ≡ t.openings + cond (is_open e) 1 0
openings_stepped s t e = (quiet_deed s ((counted e t).openings + 1) e t (λ is same. omega (arith, same))).openings ∙ openings_counted e t

-- a connection that isn't live, and isn't the one that an opening would give, stays so and is told nothing
dead_step : (s : GcSetup) (t : Table) (e : Event) (c : ℕ) → table.is_live t c ≡ false → (is_open e ≡ true → t.openings + 1 ≡ c → ⊥)
    → (table.is_live (stepped s t e) c ≡ false) × (told s t e c ≡ [])
dead_step s t e c dead other =
    let q : Quiet c (counted e t) (deed s e t) =
    quiet_deed s c e t (λ is same. other is (sym (openings_counted e t ∙ ap (λ (b : Bool). t.openings + cond b 1 0) is) ∙ same)) in
    let here : table.is_live (counted e t) c ≡ false = live_counted e t c ∙ dead in
    (q.gone here, q.silent here)

pub table_of-push : (s : GcSetup) (es : List Event) (e : Event) → table_of s (es ++ e ∷ []) ≡ stepped s (table_of s es) e
table_of-push s es e = fold-append (stepped s) (first s) es (e ∷ [])

sent_from-push : (s : GcSetup) (t : Table) (es : List Event) (e : Event) (c : ℕ) → sent_from s t (es ++ e ∷ []) c ≡ sent_from s t es c
    ++ told s (fold (stepped s) t es) e c
sent_from-push s t [] e c = append-nil (told s t e c)
sent_from-push s t (x ∷ es) e c = ap (λ (l : List ℕ). told s t x c ++ l) (sent_from-push s (stepped s t x) es e c)
    ∙ sym (append_assoc (told s t x c) (sent_from s (stepped s t x) es c) (told s (fold (stepped s) (stepped s t x) es) e c))

pub sent-push : (s : GcSetup) (es : List Event) (e : Event) (c : ℕ) → sent s (es ++ e ∷ []) c ≡ sent s es c ++ told s (table_of s es) e c
sent-push s es e c = sent_from-push s (first s) es e c

-- the table knows how many openings there were
opens-cons : (e : Event) (es : List Event) → opens (e ∷ es) ≡ cond (is_open e) 1 0 + opens es
opens-cons e es = omega (arith, sum_by-append (λ (x : Event). cond (is_open x) 1 0) (e ∷ []) es)

openings_behind : (s : GcSetup) (t : Table) (es : List Event) → (fold (stepped s) t es).openings ≡ t.openings + opens es
openings_behind s t [] = omega arith
openings_behind s t (e ∷ es) = omega (arith, openings_behind s (stepped s t e) es, openings_stepped s t e, opens-cons e es)

pub openings_of : (s : GcSetup) (es : List Event) → (table_of s es).openings ≡ opens es
openings_of s es = omega (arith, openings_behind s (first s) es)

-- ---- the laws

-- what was told stands
pub sent_grows : (s : GcSetup) (es : List Event) (e : Event) (c : ℕ) → GrowsTo (sent s es c) (sent s (es ++ e ∷ []) c)
sent_grows s es e c = (told s (table_of s es) e c, sent-push s es e c)

-- an ended connection stays so, and is told no more
pub ended_stays : (s : GcSetup) (es : List Event) (e : Event) (c : ℕ) → c ≤ opens es → is_live s es c ≡ false
    → (is_live s (es ++ e ∷ []) c ≡ false) × (sent s (es ++ e ∷ []) c ≡ sent s es c)
ended_stays s es e c within dead =
    let step = dead_step s (table_of s es) e c dead (λ is same. omega (arith, same, openings_of s es, within)) in (
      ap (λ (t : Table). table.is_live t c) (table_of-push s es e) ∙ step.0,
      sent-push s es e c ∙ ap (λ (l : List ℕ). sent s es c
          ++ l) step.1 ∙ append-nil (sent s es c),
    )

-- the openings to come don't reach the connection's number
abbrev IsAhead : ℕ → ℕ → ℕ → Type 0
IsAhead c now more = (c ≡ 0) ⊎ (now + more < c)

ahead_next : (c now step more all next : ℕ) → all ≡ step + more → next ≡ now + step → IsAhead c now all → IsAhead c next more
ahead_next c now step more all next is on (inl none) = inl none
ahead_next c now step more all next is on (inr less) = inr (omega (arith, is, on, less))

ahead_apart : (c now more all : ℕ) → all ≡ 1 + more → IsAhead c now all → now + 1 ≡ c → ⊥
ahead_apart c now more all is (inl none) same = omega (arith, none, same)
ahead_apart c now more all is (inr less) same = omega (arith, is, less, same)

untouched : (s : GcSetup) (c : ℕ) (t : Table) (es : List Event) → table.is_live t c ≡ false → IsAhead c t.openings (opens es)
    → (table.is_live (fold (stepped s) t es) c ≡ false) × (sent_from s t es c ≡ [])
untouched s c t [] dead ahead = (dead, refl)
untouched s c t (e ∷ es) dead ahead =
    let step = dead_step s t e c dead (λ is. ahead_apart c t.openings (opens es) (opens (e ∷ es)) (opens-cons e es
    ∙ ap (λ (b : Bool). cond b 1 0 + opens es) is) ahead) in
    let rest = untouched s c (stepped s t e) es step.0 (ahead_next c t.openings (cond (is_open e) 1 0) (opens es) (opens (e ∷ es))
    (stepped s t e).openings (opens-cons e es) (openings_stepped s t e) ahead) in
    (rest.0, ap₂ (λ (x y : List ℕ). x ++ y) step.1 rest.1)

-- before its opening a connection is not live, and is told nothing
pub unopened : (s : GcSetup) (es : List Event) (c : ℕ) → IsUnopened es c → (is_live s es c ≡ false) × (sent s es c ≡ [])
unopened s es c none = untouched s c (first s) es refl (from (opens es) none)
  where
    from : (n : ℕ) → (c ≡ 0) ⊎ (n < c) → IsAhead c 0 n
    from n (inl is) = inl is
    from n (inr less) = inr (omega (arith, less))

over_stays : (s : GcSetup) (t : Table) (e : Event) → t.over ≡ true → (stepped s t e).over ≡ true
over_stays s t e over = ap (λ (b : Bool). (where_ b (λ t. by_event s e t ▹ charged e ▹ closed s e) (counted e t)).table.over)
    (and_left (not t.over) (names_live t e) (not_from_true t.over over)) ∙ over_counted e ∙ over
  where
    over_counted : (e : Event) → (counted e t).over ≡ t.over
    over_counted (Open door peer) = refl
    over_counted (Packet conn kind body) = refl
    over_counted (Broken conn) = refl
    over_counted (Shut conn) = refl
    over_counted Tick = refl
    over_counted Stop = refl

-- where all is over no connection is live, and it stays over
pub over_is_last : (s : GcSetup) (es : List Event) (e : Event) (c : ℕ) → book.is_over s es ≡ true → (is_live s es c ≡ false)
    × (book.is_over s (es ++ e ∷ []) ≡ true)
over_is_last s es e c over =
    let t : Table = table_of s es in (
      and_left (not t.over) (is_some (connection_of t c)) (not_from_true t.over over),
      ap (λ (t : Table). t.over) (table_of-push s es e)
          ∙ over_stays s t e over,
    )

-- an opening, a tick, a stop, or what names a live connection is taken
pub takes_live : (s : GcSetup) (es : List Event) (e : Event) → takes s es e ≡ is_taken (is_live s es) e
takes_live s es (Open door peer) = refl
takes_live s es (Packet conn kind body) = refl
takes_live s es (Broken conn) = refl
takes_live s es (Shut conn) = refl
takes_live s es Tick = refl
takes_live s es Stop = refl
