-- What a hub keeps beside its game, behind each of its calls.
use Rattle.std.proofs.Common.{◌≡◌, ◌⊎◌, inl, inr, ℕ, ◌+◌, ◌<◌, ◌≤◌, Bool, true, false, List, [], ◌∷◌, ◌++◌, refl, sym, ap, ap₂, subst, ◌∙◌}
use Rattle.std.proofs.Common.{arith, length, drop, ◌≢◌, ◌-◌, ◌^◌}
use Rattle.std.specs.Prelude.{flat_map, slice_set, ◌==◌}
use Rattle.std.specs.List.{list_any}
use Rattle.std.proofs.Math.ListN.{length-set}
use Rattle.std.proofs.lemmas.List.{drop-append-le, drop-drop, length-append, length-drop}
use Rattle.tt_edge.specs.declared.event.Event.{Event}
use Rattle.tt_edge.specs.Event.{conn_of}
use Rattle.tt_game.specs.declared.message.GameMsg.TheVariants as games
use Rattle.tt_admin.specs.declared.message.AdminMsg.TheVariants as admins
use Rattle.tt_log.specs.Deed.{Said, admin, game, spelled}
use Rattle.tt_log.specs.Events.{by_event, takes}
use Rattle.tt_log.specs.History.{table_of}
use Rattle.tt_log.specs.Origin.{Origin}
use Rattle.tt_log.specs.Tellings.{tellings}
use Rattle.tt_log.specs.Told as book
use Rattle.tt_log.proofs.Ended.{unopened as unopened-is}
use Rattle.tt_outgoing.specs.Staging.{Packet, bytes_for, bytes_in, packet_to, packets_of}
use Rattle.tt_outgoing.specs.Waiting.{Waiting, bytes_if, list_of, opened}
use Rattle.tt_table.specs.Ending.{Ended, ended_admins, ended_members}
use Rattle.tt_table.specs.Held.{Played, table}
use Rattle.tt_hub.specs.Hub.{count_of}
use Rattle.tt_hub.specs.Running.{HasSeats, IsRunning, IsWaiting, farewells}
use Rattle.tt_hub.proofs.About.{enough-behind}
use Rattle.tt_hub.proofs.Seats.{count-beyond, count-set-other, count-set-same, old-or-new, same-or-other}
use Rattle.tt_hub.proofs.Telling.{all-told, sent-more}

-- a connection is told no more bytes of packets than they have
part-most : (b : Bool) (bytes : List ℕ) → length (bytes_if b bytes) ≤ length bytes
part-most true bytes = omega arith
part-most false bytes = omega arith

pub bytes-most : (c : ℕ) (packets : List Packet) → length (bytes_for c packets) ≤ bytes_in packets
bytes-most c [] = omega arith
bytes-most c (p ∷ packets) =
    let b = list_any (λ x. x == c) p.to in
    let sum = length-append (bytes_if b p.bytes) (bytes_for c packets) in
    omega (arith, sum, part-most b p.bytes, bytes-most c packets)

-- ---- seats more

seated-by : (told : List ℕ) (w v : Waiting) (counts more : List ℕ) (most c : ℕ) → 1 ≤ c → c ≤ opened v → HasSeats w v counts more
    → (c ≤ opened w → IsWaiting told (list_of w c) (count_of counts c) most) → (opened w < c → told ≡ [])
    → (c ≤ opened w) ⊎ (opened w < c) → IsWaiting told (list_of v c) (count_of more c) most
seated-by told w v counts more most c low high seats was none (inl old) = rw (seats.lists c low old, seats.taken c low old) (was old)
seated-by told w v counts more most c low high seats was none (inr new) =
    let f = seats.fresh c new high in
    rw (f.0, f.1, none new) (record { rest = refl; within = omega arith; most_is = omega arith })

-- a hub goes on where only seats and room were taken
pub running-seated : (g h : Played) (w v : Waiting) (counts more : List ℕ) (most : ℕ) → h.origin ≡ g.origin → h.events ≡ g.events
    → IsRunning g w counts most → HasSeats w v counts more → IsRunning h v more most
running-seated g h w v counts more most same events is seats =
    let tables : table h ≡ table g = ap₂ (λ (o : Origin) (es : List Event). table_of o es) same events in
    let few : (table h).openings ≤ opened w = rw tables is.enough in
    record {
      counts_are = seats.counts_are;
      enough = omega (arith, few, seats.grows);
      fits = is.fits;
      each = λ c low high. rw (same, events)
          (seated-by (book.sent g.origin g.events c) w v counts more most c low high seats (λ old. is.each c low old)
          (λ new. untold g.origin g.events c (let l = is.enough in omega (arith, l, new))) (old-or-new c (opened w)));
    }
  where
    untold : (o : Origin) (es : List Event) (c : ℕ) → (table_of o es).openings < c → book.sent o es c ≡ []
    untold o es c above = ap (λ (s : List Said). flat_map spelled s) (unopened-is o es c above).1

-- ---- an event more

-- what waits for a connection that is told more
waiting-more : (told waits more : List ℕ) (count most extra : ℕ) → IsWaiting told waits count most → length more ≤ extra
    → IsWaiting (told ++ more) (waits ++ more) count (most + extra)
waiting-more told waits more count most extra is few =
    let sum = length-append told more in
    record {
      rest = ap (λ (l : List ℕ). l ++ more) is.rest ∙ sym (drop-append-le count told more is.within);
      within = omega (arith, sum, is.within);
      most_is = omega (arith, sum, is.most_is, few);
    }

-- a hub goes on where an event was told
pub running-told : (g h : Played) (w v : Waiting) (counts : List ℕ) (most extra : ℕ) (packets : List Packet) → h.origin ≡ g.origin
    → (table h).openings ≤ opened w → most + extra < 2 ^ 64 → bytes_in packets ≤ extra
    → ((c : ℕ) → book.sent g.origin h.events c ≡ book.sent g.origin g.events c ++ bytes_for c packets)
    → opened v ≡ opened w → ((c : ℕ) → 1 ≤ c → c ≤ opened w → list_of v c ≡ list_of w c ++ bytes_for c packets)
    → IsRunning g w counts most → IsRunning h v counts (most + extra)
running-told g h w v counts most extra packets same few fits bytes sent size told is = record {
  counts_are = is.counts_are ∙ sym size;
  enough = omega (arith, few, size);
  fits = fits;
  each = λ c low high.
      let old = is.each c low (omega (arith, high, size)) in
      let more = bytes-most c packets in
      rw (same, sent c, told c low (omega (arith, high, size)))
      (waiting-more (book.sent g.origin g.events c) (list_of w c) (bytes_for c packets) (count_of counts c) most extra old
      (omega (arith, more, bytes)));
}

-- ---- an event is told

bytes-append : (xs ys : List Packet) → bytes_in (xs ++ ys) ≡ bytes_in xs + bytes_in ys
bytes-append [] ys = omega arith
bytes-append (x ∷ xs) ys = let rest = bytes-append xs ys in omega (arith, rest)

member-bytes : (to : List ℕ) → bytes_in (packet_to to (game games.ServerShutdown)) ≤ 3
member-bytes [] = omega arith
member-bytes (c ∷ to) = omega arith

admin-bytes : (to : List ℕ) → bytes_in (packet_to to (admin admins.ServerShutdown)) ≤ 3
admin-bytes [] = omega arith
admin-bytes (c ∷ to) = omega arith

few-bytes : (packets : List Packet) (ends : Ended) → bytes_in (packets ++ farewells ends) ≤ bytes_in packets + 6
few-bytes packets ends =
    let m : List Packet = packet_to ends.members (game games.ServerShutdown) in
    let a : List Packet = packet_to ends.admins (admin admins.ServerShutdown) in
    let all = bytes-append packets (m ++ a) in
    let both = bytes-append m a in
    let l = member-bytes ends.members in
    let k = admin-bytes ends.admins in
    omega (arith, all, both, l, k)

-- a hub behind an event: there were seats, and all that it tells was delivered
pub running-event : (g h : Played) (w v u : Waiting) (counts more : List ℕ) (most next : ℕ) (e : Event) (staged : List Packet)
    (ends : Ended) → h.origin ≡ g.origin → h.events ≡ g.events ++ e ∷ [] → takes (table g) e ≡ true → IsRunning g w counts most
    → HasSeats w v counts more → conn_of g.events e ≤ opened v
    → staged ≡ packets_of (tellings g.origin (table g) (by_event g.origin e (table g)))
    → ends.members ≡ ended_members g.origin e (table g) → ends.admins ≡ ended_admins g.origin e (table g)
    → next ≡ most + (bytes_in staged + 6) → next < 2 ^ 64 → opened u ≡ opened v
    → ((c : ℕ) → 1 ≤ c → c ≤ opened v → list_of u c ≡ list_of v c ++ bytes_for c (staged ++ farewells ends)) → IsRunning h u more next
running-event g h w v u counts more most next e staged ends same events is was seats about staged_is ms gs next_is fits size told =
    let o : Origin = g.origin in
    let es : List Event = g.events in
    let all : List Packet = staged ++ farewells ends in
    let begun : IsRunning g v more most = running-seated g g w v counts more most refl refl was seats in
    let tables : table h ≡ table_of o (es ++ e ∷ []) = ap₂ (λ (p : Origin) (l : List Event). table_of p l) same events in
    let few : (table_of o es).openings ≤ opened v = begun.enough in
    let enough : (table_of o (es ++ e ∷ [])).openings ≤ opened v = enough-behind o es e (opened v) is few about in
    let sent : (c : ℕ) → book.sent o h.events c ≡ book.sent o es c ++ bytes_for c all =
    λ c. ap (λ (l : List Event). book.sent o l c) events ∙ sent-more o es e c
    ∙ ap (λ (l : List Packet). book.sent o es c ++ bytes_for c l) (all-told o (table_of o es) e ends is ms gs
    ∙ ap (λ (l : List Packet). l ++ farewells ends) (sym staged_is)) in
    rw next_is (running-told g h v u more most (bytes_in staged + 6) all same (rw tables enough)
    (let l = fits in omega (arith, l, next_is)) (few-bytes staged ends) sent size told begun)

-- nothing is taken of a connection that was not opened
pub count-fresh : (g : Played) (w : Waiting) (counts : List ℕ) (most c : ℕ) → IsRunning g w counts most → (table g).openings < c
    → count_of counts c ≡ 0
count-fresh g w counts most c is above = by (old-or-new c (opened w))
  where
    none : book.sent g.origin g.events c ≡ []
    none = ap (λ (s : List Said). flat_map spelled s) (unopened-is g.origin g.events c above).1

    by : (c ≤ opened w) ⊎ (opened w < c) → count_of counts c ≡ 0
    by (inl low) =
        let l = (is.each c (omega (arith, above)) low).within in
        let empty : length (book.sent g.origin g.events c) ≡ 0 = ap length none in omega (arith, l, empty)
    by (inr high) = let size = is.counts_are in count-beyond counts c (omega (arith, high, size))

-- ---- bytes are taken

taking-by : (told waits after : List ℕ) (before count now most : ℕ) → IsWaiting told waits before most → count ≤ length waits
    → after ≡ drop count waits → now ≡ before + count → IsWaiting told after now most
taking-by told waits after before count now most is few after_is now_is =
    let rest : waits ≡ drop before told = is.rest in
    let left : length waits ≡ length told - before = ap length rest ∙ length-drop before told in
    let within = is.within in
    rw now_is (record {
      rest = after_is ∙ ap (λ (l : List ℕ). drop count l) rest ∙ drop-drop count before told;
      within = omega (arith, left, few, within);
      most_is = is.most_is;
    })

-- each connection's bytes are where they were, but for those that are taken of one
taken-by : (told : List ℕ) (w v : Waiting) (counts more : List ℕ) (most conn count c : ℕ) → 1 ≤ conn → conn ≤ length counts
    → more ≡ slice_set counts (conn - 1) (count_of counts conn + count) → count ≤ length (list_of w conn)
    → list_of v conn ≡ drop count (list_of w conn) → (c ≢ conn → list_of v c ≡ list_of w c)
    → IsWaiting told (list_of w c) (count_of counts c) most → (c ≡ conn) ⊎ (c ≢ conn) → IsWaiting told (list_of v c) (count_of more c) most
taken-by told w v counts more most conn count c low high set few rest others was (inl at) =
    let now : count_of more conn ≡ count_of counts conn + count = ap (λ (l : List ℕ). count_of l conn) set
    ∙ count-set-same counts (count_of counts conn + count) conn low high in
    let here : IsWaiting told (list_of w conn) (count_of counts conn) most =
    subst (λ (n : ℕ). IsWaiting told (list_of w n) (count_of counts n) most) at was in
    subst (λ (n : ℕ). IsWaiting told (list_of v n) (count_of more n) most) (sym at)
    (taking-by told (list_of w conn) (list_of v conn) (count_of counts conn) count (count_of more conn) most here few rest now)
taken-by told w v counts more most conn count c low high set few rest others was (inr ne) =
    let same : count_of more c ≡ count_of counts c = ap (λ (l : List ℕ). count_of l c) set
    ∙ count-set-other counts (count_of counts conn + count) conn c low ne in
    rw (others ne, same) was

-- a hub goes on where bytes of one connection were taken
pub running-taken : (g : Played) (w v : Waiting) (counts more : List ℕ) (most conn count : ℕ) → IsRunning g w counts most → 1 ≤ conn
    → conn ≤ length counts → count ≤ length (list_of w conn) → more ≡ slice_set counts (conn - 1) (count_of counts conn + count)
    → opened v ≡ opened w → list_of v conn ≡ drop count (list_of w conn)
    → ((c : ℕ) → 1 ≤ c → c ≤ opened w → c ≢ conn → list_of v c ≡ list_of w c) → IsRunning g v more most
running-taken g w v counts more most conn count is low high few set same rest others =
    let size = is.counts_are in
    let kept : length more ≡ length counts = ap length set ∙ length-set counts (conn - 1) (count_of counts conn + count) in
    record {
      counts_are = kept ∙ size ∙ sym same;
      enough = let l = is.enough in omega (arith, l, same);
      fits = is.fits;
      each = λ c least within.
          let old : c ≤ opened w = omega (arith, within, same) in
          taken-by (book.sent g.origin g.events c) w v counts more most conn count c low high set few rest (others c least old)
          (is.each c least old) (same-or-other c conn);
    }
