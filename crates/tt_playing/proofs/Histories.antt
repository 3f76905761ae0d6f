-- Events behind others: what is taken, who lives, and at which doors connections came in.
use Rattle.std.proofs.Common.{◌≡◌, ℕ, zero, suc, ◌+◌, ◌≤◌, ◌<◌, Bool, true, false, not, ◌&&◌, ◌||◌, cond, List, [], ◌∷◌, ◌++◌, refl, sym}
use Rattle.std.proofs.Common.{ap, ap₂, subst, ◌∙◌, append_assoc, arith, Option, Some, None, inl, inr}
use Rattle.std.specs.Prelude.{map, replicate, ◌==◌, if◌then◌else◌, is_some}
use Rattle.std.proofs.lemmas.List.{append-nil}
use Rattle.std.proofs.lemmas.Bool.{true≢false, eqb-true, eq-eqb}
use Rattle.std.proofs.lemmas.List.Sums.{sum_by-cons, sum_by-append}
use Rattle.tt_frame.specs.Packet.{Packet}
use Rattle.tt_frame.specs.Stream.{End, rest_of, bad_size}
use Rattle.tt_frame.specs.StreamReading.{reading}
use Rattle.tt_edge.specs.declared.event.Door.{Door}
use Rattle.tt_edge.specs.declared.event.Peer.{Peer}
use Rattle.tt_edge.specs.declared.event.Event.{Event}
use Rattle.tt_edge.specs.declared.event.Event.TheVariants as event
use Rattle.tt_edge.specs.Event.{is_open, opens}
use Rattle.tt_rules.specs.Codes.{illegal_packet}
use Rattle.tt_log.specs.Origin.{Origin}
use Rattle.tt_log.specs.Member.{Member}
use Rattle.tt_log.specs.Admin.{Admin}
use Rattle.tt_log.specs.Table.{member_of, admin_of, is_admin_on}
use Rattle.tt_log.specs.Events.{takes, names_live}
use Rattle.tt_log.specs.History.{table_of}
use Rattle.tt_log.specs.Doors.{door_from, door_of}
use Rattle.tt_log.proofs.Crew.{found-on}
use Rattle.tt_log.proofs.Lists.{found-passes}
use Rattle.tt_log.proofs.Malformed as members
use Rattle.tt_log.proofs.AdminEnds as admins
use Rattle.tt_hub.specs.Laws.{ended_stays, unopened, over_is_last}
use Rattle.tt_playing.specs.Played.{is_live, is_over, as_long_as, nobody, reader_limit, packet_event, end_events, stream_events}

-- ---- how many openings

pub opens-cons : (e : Event) (es : List Event) → opens (e ∷ es) ≡ cond (is_open e) 1 0 + opens es
opens-cons e es = sum_by-cons (λ (x : Event). cond (is_open x) 1 0) e es

pub opens-append : (es more : List Event) → opens (es ++ more) ≡ opens es + opens more
opens-append es more = sum_by-append (λ (x : Event). cond (is_open x) 1 0) es more

pub opens-push : (es : List Event) (e : Event) → opens (es ++ e ∷ []) ≡ opens es + cond (is_open e) 1 0
opens-push es e = omega (arith, opens-append es (e ∷ []), opens-cons e [])

-- ---- more events, as long as something holds

pub goes-on : (holds : List Event → Bool) (es : List Event) (e : Event) (more : List Event) → holds es ≡ true
    → as_long_as holds es (e ∷ more) ≡ as_long_as holds (es ++ e ∷ []) more
goes-on holds es e more is = rw is refl

pub goes-no-further : (holds : List Event → Bool) (es more : List Event) → holds es ≡ false → as_long_as holds es more ≡ es
goes-no-further holds es [] is = refl
goes-no-further holds es (e ∷ more) is = rw is refl

abbrev pub Goes : (List Event → Bool) → List Event → List Event → Type 0
Goes holds es more = (front : List Event) × (as_long_as holds es more ≡ es ++ front)

-- what was there stays in front
pub in-front : (holds : List Event → Bool) (es more : List Event) → Goes holds es more
in-front holds es [] = ([], sym (append-nil es))
in-front holds es (e ∷ more) =
    let later = in-front holds (es ++ e ∷ []) more in
    elim (holds es) as (λ (b : Bool). (front : List Event) × ((if b then as_long_as holds (es ++ e ∷ []) more else es) ≡ es ++ front)) [
      | true ↦ (e ∷ later.0, later.1 ∙ append_assoc es (e ∷ []) later.0)
      | false ↦ ([], sym (append-nil es))
    ]

-- events that open nothing leave the number of openings
pub opens-stay : (holds : List Event → Bool) (es more : List Event) → opens more ≡ 0 → opens (as_long_as holds es more) ≡ opens es
opens-stay holds es [] none = refl
opens-stay holds es (e ∷ more) none =
    let count = opens-cons e more in
    let later : opens (as_long_as holds (es ++ e ∷ []) more) ≡ opens (es ++ e ∷ []) = opens-stay holds (es ++ e ∷ []) more
    (omega (arith, none, count)) in
    elim (holds es) as (λ (b : Bool). opens (if b then as_long_as holds (es ++ e ∷ []) more else es) ≡ opens es) [
      | true ↦ omega (arith, later, opens-push es e, none, count)
      | false ↦ refl
    ]

pub opens-ticks : (n : ℕ) → opens (replicate n event.Tick) ≡ 0
opens-ticks zero = refl
opens-ticks (suc n) = omega (arith, opens-cons event.Tick (replicate n event.Tick), opens-ticks n)

opens-packets : (conn : ℕ) (packets : List Packet) → opens (map (packet_event conn) packets) ≡ 0
opens-packets conn [] = refl
opens-packets conn (p ∷ packets) =
    omega (arith, opens-cons (packet_event conn p) (map (packet_event conn) packets), opens-packets conn packets)

opens-end : (conn : ℕ) (end : End) → opens (end_events conn end) ≡ 0
opens-end conn (rest_of rest) = refl
opens-end conn (bad_size n) = refl

-- a stream opens nothing
pub opens-stream : (conn : ℕ) (bytes : List ℕ) → opens (stream_events conn bytes) ≡ 0
opens-stream conn bytes =
    let read = reading reader_limit bytes in
    omega (
      arith,
      opens-append (map (packet_event conn) read.0) (end_events conn read.1),
      opens-packets conn read.0,
      opens-end conn read.1,
    )

-- ---- who lives

-- a connection that ended stays so
dead-later : (o : Origin) (es more : List Event) (c : ℕ) → c ≤ opens es → is_live o es c ≡ false → is_live o (es ++ more) c ≡ false
dead-later o es [] c low dead = subst (λ (xs : List Event). is_live o xs c ≡ false) (sym (append-nil es)) dead
dead-later o es (e ∷ more) c low dead =
    let next : is_live o (es ++ e ∷ []) c ≡ false = (ended_stays (o.setup, o.start) es e c low dead).0 in
    let within : c ≤ opens (es ++ e ∷ []) = omega (arith, low, opens-push es e) in
    subst (λ (xs : List Event). is_live o xs c ≡ false) (append_assoc es (e ∷ []) more) (dead-later o (es ++ e ∷ []) more c within next)

-- so one that lives has lived
pub live-before : (o : Origin) (es more : List Event) (c : ℕ) → c ≤ opens es → is_live o (es ++ more) c ≡ true → is_live o es c ≡ true
live-before o es more c low live = elim (is_live o es c) as (λ (b : Bool). is_live o es c ≡ b → b ≡ true) [
  | true ↦ (λ is. refl)
  | false ↦ (λ dead. absurd (true≢false (sym live ∙ dead-later o es more c low dead)))
] refl

pub record IsOpened (es : List Event) (c : ℕ) : Type 0 where
  pub some : 1 ≤ c
  pub within : c ≤ opens es

opened-by : (o : Origin) (es : List Event) (c : ℕ) → is_live o es c ≡ true → (c ≡ 0 → ⊥) → (opens es < c → ⊥) → IsOpened es c
opened-by o es c live some within = record { some = omega (arith, some); within = omega (arith, within) }

-- a connection that lives was opened
pub live-opened : (o : Origin) (es : List Event) (c : ℕ) → is_live o es c ≡ true → IsOpened es c
live-opened o es c live = opened-by o es c live
    (λ none. true≢false (sym live ∙ (unopened (o.setup, o.start) es c (inl none)).0))
    (λ above. true≢false (sym live ∙ (unopened (o.setup, o.start) es c (inr above)).0))

-- and the game goes on
pub live-goes-on : (o : Origin) (es : List Event) (c : ℕ) → is_live o es c ≡ true → is_over o es ≡ false
live-goes-on o es c live = elim (is_over o es) as (λ (b : Bool). is_over o es ≡ b → b ≡ false) [
  | true ↦ (λ over. absurd (true≢false (sym live ∙ (over_is_last (o.setup, o.start) es event.Tick c over).0)))
  | false ↦ (λ is. refl)
] refl

-- ---- which events are taken

both : (a b : Bool) → a ≡ false → b ≡ true → not a && b ≡ true
both true b e f = absurd (true≢false e)
both false b e f = f

pub is-taken : (o : Origin) (es : List Event) (e : Event) → is_over o es ≡ false → names_live (table_of o es) e ≡ true
    → takes (table_of o es) e ≡ true
is-taken o es e going named = both (is_over o es) (names_live (table_of o es) e) going named

pub live-taken : (o : Origin) (es : List Event) (e : Event) (c : ℕ) → is_live o es c ≡ true → names_live (table_of o es) e ≡ is_live o es c
    → takes (table_of o es) e ≡ true
live-taken o es e c live named = is-taken o es e (live-goes-on o es c live) (named ∙ live)

-- ---- a stream that breaks

module _ (o : Origin) (es : List Event) (c : ℕ) where
  abbrev Gone : Type 0
  Gone = is_live o (es ++ event.Broken c ∷ []) c ≡ false

  member-ends : (m : Member) → member_of (table_of o es) c ≡ Some m → Gone
  member-ends m is = subst (λ (n : ℕ). is_live o (es ++ event.Broken c ∷ []) n ≡ false) (found-on c (table_of o es).members m is)
      (members.own-ends o es (event.Broken c) m illegal_packet (is, refl))

  admin-ends : (a : Admin) → admin_of (table_of o es) c ≡ Some a → Gone
  admin-ends a is =
      let on : a.conn ≡ c = eqb-true a.conn c (found-passes (is_admin_on c) a (table_of o es).admins is) in
      subst (λ (n : ℕ). is_live o (es ++ event.Broken c ∷ []) n ≡ false) on
      (admins.own-ends o es (event.Broken c) a illegal_packet (is, refl))

  by-admin : (x : Option Admin) → member_of (table_of o es) c ≡ None → admin_of (table_of o es) c ≡ x → is_live o es c ≡ true → Gone
  by-admin (Some a) none is live = admin-ends a is
  by-admin None none is live =
      absurd (true≢false (sym live ∙ ap₂ (λ (m : Option Member) (a : Option Admin). is_some m || is_some a) none is))

  by-member : (x : Option Member) → member_of (table_of o es) c ≡ x → is_live o es c ≡ true → Gone
  by-member (Some m) is live = member-ends m is
  by-member None is live = by-admin (admin_of (table_of o es) c) is refl live

-- a stream that breaks ends its connection
pub broken-ends : (o : Origin) (es : List Event) (c : ℕ) → is_live o es c ≡ true → is_live o (es ++ event.Broken c ∷ []) c ≡ false
broken-ends o es c live = by-member o es c (member_of (table_of o es) c) refl live

-- ---- doors

pub another : (a b : ℕ) → (a == b) ≡ false → a ≡ b → ⊥
another a b is same = true≢false (sym (eq-eqb a b same) ∙ is)

-- later openings change no door
front-from : (es more : List Event) (n c : ℕ) → n < c → c ≤ n + opens es → door_from n (es ++ more) c ≡ door_from n es c
front-from [] more n c above within = absurd (omega (arith, above, within))
front-from (event.Open at peer ∷ es) more n c above within =
    let count = opens-cons (event.Open at peer) es in
    elim (n + 1 == c) as (λ (b : Bool). (n + 1 == c) ≡ b → cond b (Some at) (door_from (n + 1) (es ++ more) c)
    ≡ cond b (Some at) (door_from (n + 1) es c)) [
      | true ↦ (λ is. refl)
      | false ↦ (λ is. front-from es more (n + 1) c (omega (arith, above, another (n + 1) c is)) (omega (arith, within, count)))
    ] refl
front-from (event.Packet conn kind body ∷ es) more n c above within =
    front-from es more n c above (omega (arith, within, opens-cons (event.Packet conn kind body) es))
front-from (event.Broken conn ∷ es) more n c above within =
    front-from es more n c above (omega (arith, within, opens-cons (event.Broken conn) es))
front-from (event.Shut conn ∷ es) more n c above within =
    front-from es more n c above (omega (arith, within, opens-cons (event.Shut conn) es))
front-from (event.Tick ∷ es) more n c above within =
    front-from es more n c above (omega (arith, within, opens-cons event.Tick es))
front-from (event.Stop ∷ es) more n c above within =
    front-from es more n c above (omega (arith, within, opens-cons event.Stop es))

pub door-stays : (es more : List Event) (c : ℕ) → 1 ≤ c → c ≤ opens es → door_of (es ++ more) c ≡ door_of es c
door-stays es more c some within = front-from es more 0 c (omega (arith, some)) (omega (arith, within))

-- the door of the last opening
last-from : (es : List Event) (at : Door) (peer : Peer) (n c : ℕ) → c ≡ n + opens es + 1
    → door_from n (es ++ event.Open at peer ∷ []) c ≡ Some at
last-from [] at peer n c is =
    ap (λ (b : Bool). cond b (Some at) (door_from (n + 1) [] c)) (eq-eqb (n + 1) c (omega (arith, is)))
last-from (event.Open other from ∷ es) at peer n c is =
    let count = opens-cons (event.Open other from) es in
    elim (n + 1 == c) as (λ (b : Bool). (n + 1 == c) ≡ b → cond b (Some other) (door_from (n + 1) (es ++ event.Open at peer ∷ []) c)
    ≡ Some at) [
      | true ↦ (λ same. let here = eqb-true (n + 1) c same in absurd (omega (arith, here, is, count)))
      | false ↦ (λ apart. last-from es at peer (n + 1) c (omega (arith, is, count)))
    ] refl
last-from (event.Packet conn kind body ∷ es) at peer n c is =
    last-from es at peer n c (omega (arith, is, opens-cons (event.Packet conn kind body) es))
last-from (event.Broken conn ∷ es) at peer n c is = last-from es at peer n c (omega (arith, is, opens-cons (event.Broken conn) es))
last-from (event.Shut conn ∷ es) at peer n c is = last-from es at peer n c (omega (arith, is, opens-cons (event.Shut conn) es))
last-from (event.Tick ∷ es) at peer n c is = last-from es at peer n c (omega (arith, is, opens-cons event.Tick es))
last-from (event.Stop ∷ es) at peer n c is = last-from es at peer n c (omega (arith, is, opens-cons event.Stop es))

pub door-new : (es : List Event) (at : Door) (peer : Peer) → door_of (es ++ event.Open at peer ∷ []) (opens es + 1) ≡ Some at
door-new es at peer = last-from es at peer 0 (opens es + 1) (omega arith)

-- one opening more
pub opened_one : (es : List Event) (at : Door) → opens (es ++ event.Open at nobody ∷ []) ≡ opens es + 1
opened_one es at = opens-push es (event.Open at nobody)
