-- A play behind events more.
use Rattle.std.proofs.Common.{◌≡◌, ◌≢◌, ℕ, zero, suc, ◌+◌, ◌≤◌, ◌<◌, Bool, true, false, not, cond, List, [], ◌∷◌, ◌++◌, length, take, drop}
use Rattle.std.proofs.Common.{replicate, refl, sym, ap, ap₂, subst, ◌∙◌, arith, Option, Some}
use Rattle.std.specs.Prelude.{◌==◌, slice_index_or, slice_set, if◌then◌else◌}
use Rattle.std.proofs.lemmas.List.{append-nil, drop-drop, length-drop, length-append, get_or-drop, get_or_append_left, get_or_push}
use Rattle.std.proofs.lemmas.List.{get_or-set_same, get_or-set_other, length-set}
use Rattle.std.proofs.lemmas.Bool.{eqb-true, eq-eqb, ne_eqb}
use Rattle.tt_frame.specs.Packet.{IsBytes}
use Rattle.tt_frame.specs.Stream.{IsPartial, IsBadSize, rest_of}
use Rattle.tt_frame.specs.StreamReading.{reading, reading_within}
use Rattle.tt_frame.specs.Framing.{BeginsWith}
use Rattle.tt_frame.proofs.PacketLaws.{drop-packet, size_within}
use Rattle.tt_frame.proofs.FirstLaws.{read_packet, read_partial}
use Rattle.tt_edge.specs.declared.event.Door.{Door}
use Rattle.tt_edge.specs.declared.event.Event.{Event}
use Rattle.tt_edge.specs.declared.event.Event.TheVariants as event
use Rattle.tt_edge.specs.Event.{is_open, opens}
use Rattle.tt_client.specs.Held.{Held}
use Rattle.tt_hub.specs.Hub.{HubState, origin, taken}
use Rattle.tt_log.specs.Doors.{door_of}
use Rattle.tt_log.specs.Origin.{Origin}
use Rattle.tt_log.specs.Told.{sent}
use Rattle.tt_log.proofs.Going.{sent-grows}
use Rattle.tt_playing.specs.declared.play.Play.{Play}
use Rattle.tt_playing.specs.declared.play.Connection.{Connection}
use Rattle.tt_playing.specs.Attached.{Attached, client_in, client_of, given_in}
use Rattle.tt_playing.specs.Played.{Played, reader_limit, is_live, is_over, stream_events, added, until_ended}
use Rattle.tt_playing.specs.Played.{until_over, nobody, opened, one_refused, fed_more, with_event, with_piece, with_ticks}
use Rattle.tt_playing.specs.Playing.{IsKept, IsAt}
use Rattle.tt_playing.proofs.Pieces.{take-front}
use Rattle.tt_playing.proofs.Histories.{opens-push, goes-on, goes-no-further, in-front, live-before, live-opened, door-stays}
use Rattle.tt_playing.proofs.Histories.{another, door-new, opens-stay, opens-ticks, opens-stream}
use Rattle.tt_playing.proofs.Streams.{events_packet, events_partial, events_bad_size, read_joined, added_is}

-- ---- the packets of some bytes, one after another

pub bytes_drop : (n : ℕ) (bytes : List ℕ) → IsBytes bytes → IsBytes (drop n bytes)
bytes_drop n bytes fits i = rw get_or-drop (fits (n + i))

pub record NextPacket (o : Origin) (conn : ℕ) (bytes : List ℕ) (place next : ℕ) (start after : List Event) : Type 0 where
  pub within : next ≤ length bytes
  pub events : until_ended o conn after (stream_events conn (drop next bytes)) ≡ until_ended o conn start (stream_events conn bytes)
  pub rest : (reading reader_limit (drop next bytes)).1 ≡ (reading reader_limit bytes).1

-- one packet was handed over
pub next_packet : (o : Origin) (conn : ℕ) (bytes : List ℕ) (place kind : ℕ) (body rest : List ℕ) (start events after : List Event)
    → IsBytes bytes → place ≤ length bytes
    → BeginsWith reader_limit (drop place bytes) (record { kind = kind; body = body }) rest → is_live o events conn ≡ true
    → after ≡ events ++ event.Packet conn kind body ∷ []
    → until_ended o conn events (stream_events conn (drop place bytes)) ≡ until_ended o conn start (stream_events conn bytes)
    → (reading reader_limit (drop place bytes)).1 ≡ (reading reader_limit bytes).1
    → NextPacket o conn bytes place (place + (length body + 3)) start after
next_packet o conn bytes place kind body rest start events after fits within first live more so_far ends =
    let behind : drop (place + (length body + 3)) bytes ≡ rest = sym (drop-drop (length body + 3) place bytes)
    ∙ drop-packet reader_limit (drop place bytes) (record { kind = kind; body = body }) rest first in
    let also = bytes_drop place bytes fits in
    let left : IsBytes rest = subst (λ (xs : List ℕ). IsBytes xs) behind (bytes_drop (place + (length body + 3)) bytes fits) in
    let size = size_within reader_limit (drop place bytes) (record { kind = kind; body = body }) rest first in
    record {
      within = omega (arith, size, length-drop place bytes, within);
      events = ap₂ (λ (es : List Event) (xs : List ℕ). until_ended o conn es (stream_events conn xs)) more behind
          ∙ sym (goes-on (λ es. is_live o es conn) events (event.Packet conn kind body) (stream_events conn rest) live)
          ∙ ap (until_ended o conn events) (sym (events_packet conn (drop place bytes) (record { kind = kind; body = body }) rest also
          left first)) ∙ so_far;
      rest = ap (λ (xs : List ℕ). (reading reader_limit xs).1) behind
          ∙ sym (read_packet reader_limit (drop place bytes) (record { kind = kind; body = body }) rest (omega arith) (omega arith) also
          left first).1 ∙ ends;
    }

-- no packet is whole any more
pub partial_events : (o : Origin) (conn : ℕ) (bytes : List ℕ) (place : ℕ) (start events : List Event) → IsBytes bytes
    → IsPartial reader_limit (drop place bytes)
    → until_ended o conn events (stream_events conn (drop place bytes)) ≡ until_ended o conn start (stream_events conn bytes)
    → events ≡ until_ended o conn start (stream_events conn bytes)
partial_events o conn bytes place start events fits partial so_far =
    ap (until_ended o conn events) (sym (events_partial conn (drop place bytes) (bytes_drop place bytes fits) partial)) ∙ so_far

pub partial_rest : (bytes : List ℕ) (place : ℕ) → IsBytes bytes → IsPartial reader_limit (drop place bytes)
    → (reading reader_limit (drop place bytes)).1 ≡ (reading reader_limit bytes).1
    → (reading reader_limit bytes).1 ≡ rest_of (drop place bytes)
partial_rest bytes place fits partial ends =
    sym ends ∙ (read_partial reader_limit (drop place bytes) (omega arith) (omega arith) (bytes_drop place bytes fits) partial).1

-- a bad size
pub broken_events : (o : Origin) (conn : ℕ) (bytes : List ℕ) (place n : ℕ) (start events after : List Event) → IsBytes bytes
    → IsBadSize reader_limit (drop place bytes) n → is_live o events conn ≡ true → after ≡ events ++ event.Broken conn ∷ []
    → until_ended o conn events (stream_events conn (drop place bytes)) ≡ until_ended o conn start (stream_events conn bytes)
    → after ≡ until_ended o conn start (stream_events conn bytes)
broken_events o conn bytes place n start events after fits bad live more so_far =
    more ∙ sym (goes-on (λ es. is_live o es conn) events (event.Broken conn) [] live)
    ∙ ap (until_ended o conn events) (sym (events_bad_size conn (drop place bytes) n (bytes_drop place bytes fits) bad)) ∙ so_far

-- the connection has ended
pub ended_events : (o : Origin) (conn : ℕ) (start events more whole : List Event) → is_live o events conn ≡ false
    → until_ended o conn events more ≡ until_ended o conn start whole → events ≡ until_ended o conn start whole
ended_events o conn start events more whole dead so_far = sym (goes-no-further (λ es. is_live o es conn) events more dead) ∙ so_far

-- ---- a rest and a piece

bytes_append : (xs ys : List ℕ) → IsBytes xs → IsBytes ys → IsBytes (xs ++ ys)
bytes_append [] ys fits also i = also i
bytes_append (x ∷ xs) ys fits also zero = fits 0
bytes_append (x ∷ xs) ys fits also (suc i) = bytes_append xs ys (λ k. fits (suc k)) also i

-- ---- what is kept of a connection

pub record Stays (o : Origin) (es fs : List Event) (conn n : ℕ) : Type 0 where
  pub within : n ≤ length (sent o fs conn)
  pub told : take n (sent o fs conn) ≡ take n (sent o es conn)

-- what was sent stays
pub sent_stays : (o : Origin) (es fs more : List Event) (conn n : ℕ) → fs ≡ es ++ more → n ≤ length (sent o es conn) → Stays o es fs conn n
sent_stays o es fs more conn n is within =
    let grows = sent-grows o es more conn in
    let now : sent o fs conn ≡ sent o es conn ++ grows.0 = ap (λ (xs : List Event). sent o xs conn) is ∙ grows.1 in
    record {
      within = omega (arith, ap length now, length-append (sent o es conn) grows.0, within);
      told = ap (take n) now ∙ take-front n (sent o es conn) grows.0 within;
    }

-- more events leave it, where nothing was fed to it, and its client is the same
kept_more : (o : Origin) (keeps : Bool) (p q : Played) (more : List Event) (conn : ℕ) (c : Connection) → q.events ≡ p.events ++ more
    → q.fed conn ≡ p.fed conn → q.clients conn ≡ p.clients conn → 1 ≤ conn → conn ≤ opens p.events → IsKept o keeps p conn c
    → IsKept o keeps q conn c
kept_more o keeps p q more conn c events fed clients some within kept =
    let given : given_in (q.clients conn) ≡ given_in (p.clients conn) = ap given_in clients in
    let stays = sent_stays o p.events q.events more conn (given_in (p.clients conn)) events kept.within in
    record {
      door = ap (λ (es : List Event). door_of es conn) events ∙ door-stays p.events more conn some within ∙ kept.door;
      bytes = subst (λ (xs : List ℕ). IsBytes xs) (sym fed) kept.bytes;
      held = kept.held;
      rest = λ live. ap (λ (xs : List ℕ). (reading reader_limit xs).1) fed ∙ kept.rest (live-before o p.events more conn within
          (subst (λ (es : List Event). is_live o es conn ≡ true) events live));
      client = kept.client ∙ ap client_in (sym clients);
      within = omega (arith, given, stays.within);
      told = λ is. kept.told is ∙ sym stays.told ∙ ap (λ (n : ℕ). take n (sent o q.events conn)) (sym given);
    }

read_nothing : (reading reader_limit []).1 ≡ rest_of []
unfolding reading_within
read_nothing = refl

no_bytes : IsBytes []
no_bytes i = omega arith

-- one that was opened just now
kept_new : (o : Origin) (keeps : Bool) (p : Played) (at : Door) (conn : ℕ) (c : Connection) (clients : ℕ → Option Attached)
    → conn ≡ opens p.events + 1 → p.fed conn ≡ [] → c.door ≡ at → c.rest.items ≡ [] → c.client ≡ client_in (clients conn)
    → given_in (clients conn) ≡ 0 → c.told.items ≡ [] → IsKept o keeps (record (opened at p) { clients = clients }) conn c
kept_new o keeps p at conn c clients number unfed door none client nothing_given untold =
    let es = p.events ++ event.Open at nobody ∷ [] in
    record {
      door = ap (λ (n : ℕ). door_of es n) number ∙ door-new p.events at nobody ∙ ap Some (sym door);
      bytes = subst (λ (xs : List ℕ). IsBytes xs) (sym unfed) no_bytes;
      held = subst (λ (xs : List ℕ). IsBytes xs) (sym none) no_bytes;
      rest = λ live. ap (λ (xs : List ℕ). (reading reader_limit xs).1) unfed ∙ read_nothing ∙ ap rest_of (sym none);
      client = client;
      within = omega (arith, nothing_given);
      told = λ is. untold ∙ sym (ap (λ (n : ℕ). take n (sent o es conn)) nothing_given);
    }

fed_here : (conn : ℕ) (piece : List ℕ) (fed : ℕ → List ℕ) → fed_more conn piece fed conn ≡ fed conn ++ piece
fed_here conn piece fed =
    ap (λ (b : Bool). if b then fed conn ++ piece else fed conn) (eq-eqb conn conn refl)

fed_elsewhere : (conn other : ℕ) (piece : List ℕ) (fed : ℕ → List ℕ) → other ≢ conn → fed_more conn piece fed other ≡ fed other
fed_elsewhere conn other piece fed apart = ap (λ (b : Bool). if b then fed other ++ piece else fed other) (ne_eqb other conn apart)

-- one that a piece was fed to
kept_piece : (o : Origin) (keeps : Bool) (p : Played) (conn : ℕ) (piece : List ℕ) (old new : Connection) → is_live o p.events conn ≡ true
    → IsBytes piece → IsKept o keeps p conn old → new.door ≡ old.door → new.client ≡ old.client → new.told.items ≡ old.told.items
    → IsBytes new.rest.items
    → (is_live o (with_piece o conn piece p).events conn ≡ true
    → (reading reader_limit (old.rest.items ++ piece)).1 ≡ rest_of new.rest.items)
    → IsKept o keeps (with_piece o conn piece p) conn new
kept_piece o keeps p conn piece old new live is kept door client told held rest =
    let q = with_piece o conn piece p in
    let more = in-front (λ es. is_live o es conn) p.events (added conn (p.fed conn) piece) in
    let there = live-opened o p.events conn live in
    let here = fed_here conn piece p.fed in
    let all = bytes_append (p.fed conn) piece kept.bytes is in
    let joined = read_joined (p.fed conn) old.rest.items piece kept.bytes all (bytes_append old.rest.items piece kept.held is)
    (kept.rest live) in
    let stays = sent_stays o p.events q.events more.0 conn (given_in (p.clients conn)) more.1 kept.within in
    record {
      door = ap (λ (es : List Event). door_of es conn) more.1 ∙ door-stays p.events more.0 conn there.some there.within ∙ kept.door
          ∙ ap Some (sym door);
      bytes = subst (λ (xs : List ℕ). IsBytes xs) (sym here) all;
      held = held;
      rest = λ still. ap (λ (xs : List ℕ). (reading reader_limit xs).1) here ∙ joined.1 ∙ rest still;
      client = client ∙ kept.client;
      within = stays.within;
      told = λ k. told ∙ kept.told k ∙ sym stays.told;
    }

-- ---- one line more

-- more events, none of which opens a connection
at_more : (o : Origin) (play : Play) (hub : HubState) (p : Played) (events more : List Event) → IsAt o play p
    → origin hub ≡ origin play.hub → hub.events ≡ events → events ≡ p.events ++ more → opens events ≡ opens p.events
    → ((conn : ℕ) → taken hub conn ≡ taken play.hub conn) → IsAt o (record play { hub = hub }) (record p { events = events })
at_more o play hub p events more at same now is opened untaken = record {
  made = same ∙ at.made;
  revision = at.revision;
  events = now;
  given = λ conn. untaken conn ∙ at.given conn;
  refused = at.refused;
  count = at.count ∙ sym opened;
  each = λ place other within. kept_more o play.keeps p (record p { events = events }) more (place + 1) _ is refl refl (omega arith)
      (omega (arith, within, at.count)) (at.each place other within);
  unfed = λ conn above. at.unfed conn (omega (arith, above, opened));
  bare = λ conn above. at.bare conn (omega (arith, above, opened));
  none = at.none;
}

-- one event that opens none
pub at_event : (o : Origin) (play : Play) (hub : HubState) (p : Played) (e : Event) → IsAt o play p → ◌≡◌ {A = ℕ} (cond (is_open e) 1 0) 0
    → origin hub ≡ origin play.hub → hub.events ≡ play.hub.events ++ e ∷ [] → ((conn : ℕ) → taken hub conn ≡ taken play.hub conn)
    → IsAt o (record play { hub = hub }) (with_event e p)
at_event o play hub p e at none same now untaken =
    at_more o play hub p (p.events ++ e ∷ []) (e ∷ []) at same (now ∙ ap (λ (es : List Event). es ++ e ∷ []) at.events) refl
    (omega (arith, opens-push p.events e, none)) untaken

pub at_ticks : (o : Origin) (play : Play) (hub : HubState) (p : Played) (n : ℕ) → IsAt o play p → origin hub ≡ origin play.hub
    → hub.events ≡ until_over (origin play.hub) play.hub.events (replicate n event.Tick)
    → ((conn : ℕ) → taken hub conn ≡ taken play.hub conn) → IsAt o (record play { hub = hub }) (with_ticks o n p)
at_ticks o play hub p n at same now untaken =
    let holds : List Event → Bool = λ es. not (is_over o es) in
    let more = in-front holds p.events (replicate n event.Tick) in
    at_more o play hub p (until_over o p.events (replicate n event.Tick)) more.0 at same
    (now ∙ ap₂ (λ (g : Origin) (es : List Event). until_over g es (replicate n event.Tick)) at.made at.events) more.1
    (opens-stay holds p.events (replicate n event.Tick) (opens-ticks n)) untaken

pub at_refused : (o : Origin) (play : Play) (p : Played) (refused : ℕ) → IsAt o play p → refused ≡ play.refused + 1
    → IsAt o (record play { refused = refused }) (one_refused p)
at_refused o play p refused at is = record {
  made = at.made;
  revision = at.revision;
  events = at.events;
  given = at.given;
  refused = is ∙ ap (λ (n : ℕ). n + 1) at.refused;
  count = at.count;
  each = λ place other within. kept_more o play.keeps p (one_refused p) [] (place + 1) _ (sym (append-nil p.events)) refl refl (omega arith)
      (omega (arith, within, at.count)) (at.each place other within);
  unfed = at.unfed;
  bare = at.bare;
  none = at.none;
}

-- an opening, with a client or without one
pub at_opening : (o : Origin) (play next : Play) (p : Played) (door : Door) (c : Connection) (clients : ℕ → Option Attached) → IsAt o play p
    → origin next.hub ≡ origin play.hub → next.hub.events ≡ play.hub.events ++ event.Open door nobody ∷ []
    → ((conn : ℕ) → taken next.hub conn ≡ taken play.hub conn) → next.refused ≡ play.refused → next.revision ≡ play.revision
    → next.keeps ≡ play.keeps
    → next.connections.items ≡ play.connections.items ++ c ∷ [] → c.door ≡ door → c.rest.items ≡ [] → c.told.items ≡ []
    → ((conn : ℕ) → conn ≢ opens p.events + 1 → clients conn ≡ p.clients conn)
    → c.client ≡ client_in (clients (opens p.events + 1)) → given_in (clients (opens p.events + 1)) ≡ 0
    → IsAt o next (record (opened door p) { clients = clients })
at_opening o play next p door c clients at same now untaken refused revision keeps pushed at_door none untold others client fresh_one =
    let e = event.Open door nobody in
    let q : Played = record (opened door p) { clients = clients } in
    let n = length play.connections.items in
    let push = opens-push p.events e in
    let long : length next.connections.items ≡ n + 1 = ap length pushed ∙ length-append play.connections.items (c ∷ []) in
    let number : n ≡ opens p.events = at.count in
    let Kept : ℕ → Connection → Type 0 = λ place k. IsKept o next.keeps q (place + 1) k in
    let new : (place : ℕ) (other : Connection) → place ≡ n → Kept place (slice_index_or next.connections.items place other) =
    λ place other is.
    let here : place + 1 ≡ opens p.events + 1 = omega (arith, is, number) in
    subst (λ (k : Connection). Kept place k)
    (sym (ap (λ (cs : List Connection). slice_index_or cs place other) pushed ∙ get_or_push play.connections.items c other place (sym is)))
    (kept_new o next.keeps p door (place + 1) c clients here (at.unfed (place + 1) (omega (arith, is, number))) at_door none
    (client ∙ ap (λ (m : ℕ). client_in (clients m)) (sym here)) (ap (λ (m : ℕ). given_in (clients m)) here ∙ fresh_one) untold) in
    let old : (place : ℕ) (other : Connection) → place < n → Kept place (slice_index_or next.connections.items place other) =
    λ place other low. subst (λ (k : Connection). Kept place k)
    (sym (ap (λ (cs : List Connection). slice_index_or cs place other) pushed
    ∙ get_or_append_left play.connections.items (c ∷ []) other place low))
    (subst (λ (b : Bool). IsKept o b q (place + 1) (slice_index_or play.connections.items place other)) (sym keeps)
    (kept_more o play.keeps p q (e ∷ []) (place + 1) _ refl refl (others (place + 1) (λ is. omega (arith, is, low, number))) (omega arith)
    (omega (arith, low, number)) (at.each place other low))) in
    record {
      made = same ∙ at.made;
      revision = revision ∙ at.revision;
      events = now ∙ ap (λ (es : List Event). es ++ e ∷ []) at.events;
      given = λ conn. elim (conn == opens p.events + 1) as (λ (b : Bool). (conn == opens p.events + 1) ≡ b
          → taken next.hub conn ≡ given_in (clients conn)) [
            | true ↦ (λ is. let here = eqb-true conn (opens p.events + 1) is in
                untaken conn ∙ at.given conn ∙ ap given_in (at.bare conn (omega (arith, here)))
                ∙ sym (ap (λ (m : ℕ). given_in (clients m)) here ∙ fresh_one))
            | false ↦ (λ is. untaken conn ∙ at.given conn ∙ ap given_in (sym (others conn (another conn (opens p.events + 1) is))))
          ] refl;
      refused = refused ∙ at.refused;
      count = omega (arith, long, number, push);
      each = λ place other within. elim (place == n) as (λ (b : Bool). (place == n) ≡ b
          → Kept place (slice_index_or next.connections.items place other)) [
            | true ↦ (λ is. new place other (eqb-true place n is))
            | false ↦ (λ is. old place other (omega (arith, within, long, another place n is)))
          ] refl;
      unfed = λ conn above. at.unfed conn (omega (arith, above, push));
      bare = λ conn above. others conn (λ is. omega (arith, is, above, push)) ∙ at.bare conn (omega (arith, above, push));
      none = others 0 (λ is. omega (arith, is)) ∙ at.none;
    }

-- a piece of a connection that is live
pub at_piece : (o : Origin) (play next : Play) (p : Played) (conn place : ℕ) (piece : List ℕ) (old new : Connection) → IsAt o play p
    → IsBytes piece → is_live (origin play.hub) play.hub.events conn ≡ true → place + 1 ≡ conn
    → origin next.hub ≡ origin play.hub
    → next.hub.events ≡ until_ended (origin play.hub) conn play.hub.events (stream_events conn (old.rest.items ++ piece))
    → ((c : ℕ) → taken next.hub c ≡ taken play.hub c) → next.refused ≡ play.refused → next.revision ≡ play.revision
    → next.keeps ≡ play.keeps
    → old ≡ slice_index_or play.connections.items place old
    → next.connections.items ≡ slice_set play.connections.items place new → new.door ≡ old.door → new.client ≡ old.client
    → new.told.items ≡ old.told.items
    → (IsBytes old.rest.items → IsBytes new.rest.items)
    → (is_live (origin play.hub) next.hub.events conn ≡ true
    → (reading reader_limit (old.rest.items ++ piece)).1 ≡ rest_of new.rest.items)
    → IsAt o next (with_piece o conn piece p)
at_piece o play next p conn place piece old new at is live number same now untaken refused revision keeps read written door client told held
    rest =
    let q = with_piece o conn piece p in
    let cs = play.connections.items in
    let live_then : is_live o p.events conn ≡ true = ap₂ (λ (g : Origin) (es : List Event). is_live g es conn) (sym at.made) (sym at.events)
    ∙ live in
    let there = live-opened o p.events conn live_then in
    let low : place < length cs = omega (arith, there.within, number, at.count) in
    let found : IsKept o play.keeps p (place + 1) old = subst (λ (k : Connection). IsKept o play.keeps p (place + 1) k) (sym read)
    (at.each place old low) in
    let kept : IsKept o play.keeps p conn old = subst (λ (n : ℕ). IsKept o play.keeps p n old) number found in
    let all = bytes_append (p.fed conn) piece kept.bytes is in
    let adds = added_is conn (p.fed conn) old.rest.items piece kept.bytes all (bytes_append old.rest.items piece kept.held is)
    (kept.rest live_then) in
    let events : next.hub.events ≡ q.events =
    now ∙ ap₂ (λ (g : Origin) (es : List Event). until_ended g conn es (stream_events conn (old.rest.items ++ piece))) at.made at.events
    ∙ ap (until_ended o conn p.events) (sym adds) in
    let holds : List Event → Bool = λ es. is_live o es conn in
    let more = in-front holds p.events (added conn (p.fed conn) piece) in
    let count : opens q.events ≡ opens p.events =
    opens-stay holds p.events (added conn (p.fed conn) piece) (ap opens adds ∙ opens-stream conn (old.rest.items ++ piece)) in
    let rest_then : is_live o q.events conn ≡ true → (reading reader_limit (old.rest.items ++ piece)).1 ≡ rest_of new.rest.items =
    λ still. rest (ap₂ (λ (g : Origin) (es : List Event). is_live g es conn) at.made events ∙ still) in
    let long : length next.connections.items ≡ length cs = ap length written ∙ length-set cs place new in
    let Kept : ℕ → Connection → Type 0 = λ n k. IsKept o play.keeps q (n + 1) k in
    let here : (n : ℕ) (other : Connection) → n ≡ place → Kept n (slice_index_or next.connections.items n other) =
    λ n other one. subst (λ (k : Connection). Kept n k)
    (sym (ap₂ (λ (ks : List Connection) (i : ℕ). slice_index_or ks i other) written one ∙ get_or-set_same cs place new other low))
    (subst (λ (i : ℕ). IsKept o play.keeps q i new) (sym number ∙ ap (λ (i : ℕ). i + 1) (sym one))
    (kept_piece o play.keeps p conn piece old new live_then is kept door client told (held kept.held) rest_then)) in
    let elsewhere : (n : ℕ) (other : Connection) → n < length cs → n ≢ place → Kept n (slice_index_or next.connections.items n other) =
    λ n other within apart. subst (λ (k : Connection). Kept n k)
    (sym (ap (λ (ks : List Connection). slice_index_or ks n other) written ∙ get_or-set_other cs place n new other apart))
    (kept_more o play.keeps p q more.0 (n + 1) _ more.1 (fed_elsewhere conn (n + 1) piece p.fed (λ e. apart (omega
    (arith, e, number)))) refl
    (omega arith) (omega (arith, within, at.count)) (at.each n other within)) in
    record {
      made = same ∙ at.made;
      revision = revision ∙ at.revision;
      events = events;
      given = λ c. untaken c ∙ at.given c;
      refused = refused ∙ at.refused;
      count = omega (arith, long, at.count, count);
      each = λ n other within. subst (λ (b : Bool). IsKept o b q (n + 1) (slice_index_or next.connections.items n other)) (sym keeps)
          (elim (n == place) as (λ (b : Bool). (n == place) ≡ b → Kept n (slice_index_or next.connections.items n other)) [
            | true ↦ (λ one. here n other (eqb-true n place one))
            | false ↦ (λ apart. elsewhere n other (omega (arith, within, long)) (another n place apart))
          ] refl);
      unfed = λ c above. fed_elsewhere conn c piece p.fed (λ e. omega (arith, e, above, count, there.within))
          ∙ at.unfed c (omega (arith, above, count));
      bare = λ c above. at.bare c (omega (arith, above, count));
      none = at.none;
    }
