-- How the running download goes on by an event.
use Rattle.std.proofs.Common.{◌≡◌, ℕ, ◌+◌, ◌≤◌, List, [], ◌∷◌, ◌++◌, refl, ap, sym, ◌∙◌, true, false, Bool, Option, Some, None, arith}
use Rattle.std.specs.Prelude.{◌==◌, ◌*◌, cond, drop, is_some}
use Rattle.std.proofs.lemmas.Bool.{eqb-true}
use Rattle.std.proofs.lemmas.List.{drop-drop}
use Rattle.tt_edge.specs.declared.event.Event.{Event}
use Rattle.tt_edge.specs.declared.event.Event.TheVariants.{Open, Packet, Broken, Shut, Tick, Stop}
use Rattle.tt_edge.specs.Event.{is_tick}
use Rattle.tt_world.specs.declared.command.Entry.{Entry}
use Rattle.tt_world.specs.World.{WorldState}
use Rattle.tt_map.specs.Layout.{map_of}
use Rattle.tt_rules.specs.Statuses.{rank}
use Rattle.tt_rules.specs.declared.status.Status.TheVariants.{MapWait}
use Rattle.tt_log.specs.Origin.{Origin, game_of, world_at}
use Rattle.tt_log.specs.Member.{Member, is_in}
use Rattle.tt_log.specs.Table.{Table, downloader, first_loading, member_of, world_of}
use Rattle.tt_log.specs.Tick.{left_by, left_of, map_left, stamps, ticked}
use Rattle.tt_log.specs.Events.{by_event}
use Rattle.tt_log.specs.History.{table_of}
use Rattle.tt_log.specs.Downloads.{IsMapped, IsMember, IsQueue}
use Rattle.tt_log.proofs.Lists.{all-so, among-all}
use Rattle.tt_log.proofs.Crew.{on-found}
use Rattle.tt_log.proofs.Clock.{event-same, is-near, ticked-is}
use Rattle.tt_log.proofs.Entries.{for-above, stamps-for}
use Rattle.tt_log.proofs.Ordered.{is-ordered}
use Rattle.tt_log.proofs.Queueing.{is-queue}
use Rattle.tt_log.proofs.Loading.{are-mapped}
use Rattle.tt_lockstep.proofs.Journals.{world-stable}
use Rattle.tt_outgoing.specs.Carrying.{IsCarriedOn}
use Rattle.tt_outgoing.specs.Sources.{four_pieces}
use Rattle.tt_outgoing.proofs.Loaders.{Alone, Idle, if-loading}
use Rattle.tt_outgoing.proofs.Parting.{IsFresh, WholeBy}
use Rattle.tt_outgoing.proofs.Hearing.{event-whole}
use Rattle.tt_outgoing.proofs.Ticking.{TickGoes, ticked-goes}

-- ---- in a queue the others wait

waiting-idle : (t : Table) (c : ℕ) → IsMember (is_in MapWait) t c → Idle t c
waiting-idle t c w k is at =
    let both : Some w.0 ≡ Some k = sym w.1 ∙ is in
    let e : w.0 ≡ k = cc in
    let low : rank w.0.status ≡ 5 = eqb-true (rank w.0.status) 5 w.2 in
    absurd (omega (arith, low, let high : rank w.0.status ≡ 6 = ap (λ (m : Member). rank m.status) e ∙ at in high))

queue-alone : (t : Table) (q : List ℕ) → IsQueue t q → Alone t q
queue-alone t [] h = tt
queue-alone t (d ∷ ds) h = all-so (IsMember (is_in MapWait) t) (λ y. (y == d) ≡ false → Idle t y) ds
    (λ y w apart. waiting-idle t y w) h.1

-- ---- what is left

some-left : (o : Origin) (t : Table) (m : Member) → downloader t ≡ Some m → left_of o t ≡ map_left o t m
some-left o t m is = ap (λ (x : Option Member). left_by x o t) is

fresh-left : (o : Origin) (t : Table) → IsFresh t → left_of o t ≡ map_of (world_of o t)
fresh-left o t f =
    some-left o t f.who f.loads
    ∙ ap (λ (n : ℕ). drop (1400 * n) (map_of (world_at o t.journal f.who.map_frame))) f.pieces
    ∙ ap (λ (n : ℕ). map_of (world_at o t.journal n)) f.map_frame

-- the member that downloads has a map of no later frame
loader-frame : (o : Origin) (es : List Event) (m : Member) → downloader (table_of o es) ≡ Some m → m.map_frame ≤ (table_of o es).frame
loader-frame o es m is = by (table_of o es).queue is
  where
    t : Table
    t = table_of o es

    by : (q : List ℕ) → first_loading q t ≡ Some m → m.map_frame ≤ t.frame
    by [] none = absurd cc
    by (d ∷ ds) some =
        let a = if-loading (member_of t d) m some in
        (among-all (IsMapped o t.journal t.frame) m t.members (on-found t d m a.0) (are-mapped o es)).begun

is-loader : (x : Option Member) → is_some x ≡ true → (m : Member) × (x ≡ Some m)
is-loader None is = absurd cc
is-loader (Some m) is = (m, refl)

-- ---- an event that is no tick

still-on : (o : Origin) (es : List Event) (e : Event) → is_tick e ≡ false → IsCarriedOn o e (table_of o es)
still-on o es e still =
    let t : Table = table_of o es in
    let u : Table = (by_event o e t).table in
    let w : WholeBy t (by_event o e t) = event-whole o e t still (queue-alone t t.queue (is-queue o es)) in
    record {
      begun = λ is. fresh-left o u (w.fresh is);
      goes = λ no there.
          let k = is-loader (downloader u) there in
          let g = w.goes no k.0 k.1 in
          let same : u.journal ≡ t.journal = (event-same o e t still).journal in
          some-left o u k.0 k.1
          ∙ ap (λ (n : ℕ). drop (1400 * n) (map_of (world_at o u.journal k.0.map_frame))) g.2.pieces
          ∙ ap (λ (f : ℕ). drop (1400 * g.0.pieces) (map_of (world_at o u.journal f))) g.2.map_frame
          ∙ ap (λ (journal : List Entry). drop (1400 * g.0.pieces) (map_of (world_at o journal g.0.map_frame))) same
          ∙ sym (some-left o t g.0 g.1)
          ∙ ap (λ (b : Bool). cond b (drop four_pieces (left_of o t)) (left_of o t)) (sym still);
    }

-- ---- a tick

four-more : (n : ℕ) (bytes : List ℕ) → drop (1400 * (n + 4)) bytes ≡ drop (4 * 1400) (drop (1400 * n) bytes)
four-more n bytes =
    let sum : 1400 * (n + 4) ≡ 1400 * n + 4 * 1400 = omega arith in
    ap (λ (k : ℕ). drop k bytes) sum ∙ sym (drop-drop (4 * 1400) (1400 * n) bytes)

tick-on : (o : Origin) (es : List Event) → IsCarriedOn o Tick (table_of o es)
tick-on o es =
    let t : Table = table_of o es in
    let u : Table = (ticked o t).table in
    let w : TickGoes t (ticked o t) = ticked-goes o t (is-ordered o es).rise (queue-alone t t.queue (is-queue o es)) in
    record {
      begun = λ is. fresh-left o u (w.fresh is);
      goes = λ no there.
          let k = is-loader (downloader u) there in
          let g = w.goes no k.0 k.1 in
          let m : Member = g.0 in
          let low : m.map_frame ≤ t.top = let l = loader-frame o es m g.1 in let a = (is-near o es).ahead in omega (arith, l, a) in
          let same : world_at o (t.journal ++ stamps t) m.map_frame ≡ world_at o t.journal m.map_frame =
          world-stable (game_of o) m.map_frame t.top t.journal (stamps t) (for-above o t.top (stamps t) (stamps-for t)) low in
          some-left o u k.0 k.1
          ∙ ap (λ (n : ℕ). drop (1400 * n) (map_of (world_at o u.journal k.0.map_frame))) g.3
          ∙ ap (λ (f : ℕ). drop (1400 * (m.pieces + 4)) (map_of (world_at o u.journal f))) g.2
          ∙ ap (λ (journal : List Entry). drop (1400 * (m.pieces + 4)) (map_of (world_at o journal m.map_frame))) (ticked-is o t).journal
          ∙ ap (λ (v : WorldState). drop (1400 * (m.pieces + 4)) (map_of v)) same
          ∙ four-more m.pieces (map_of (world_at o t.journal m.map_frame))
          ∙ ap (λ (bytes : List ℕ). drop four_pieces bytes) (sym (some-left o t m g.1));
    }

pub carried-on : (o : Origin) (es : List Event) (e : Event) → IsCarriedOn o e (table_of o es)
carried-on o es Tick = tick-on o es
carried-on o es (Open door peer) = still-on o es (Open door peer) refl
carried-on o es (Packet conn kind body) = still-on o es (Packet conn kind body) refl
carried-on o es (Broken conn) = still-on o es (Broken conn) refl
carried-on o es (Shut conn) = still-on o es (Shut conn) refl
carried-on o es Stop = still-on o es Stop refl
