-- What a game holds behind an event, where its change was put in force.
use Rattle.std.proofs.Common.{◌≡◌, ℕ, ◌+◌, ◌≤◌, ◌<◌, Bool, true, false, List, [], ◌∷◌, ◌++◌, Option, Some, None}
use Rattle.std.proofs.Common.{arith, length, refl, ap, sym}
use Rattle.std.proofs.Common.{◌∙◌, append-nil, subst}
use Rattle.std.specs.Prelude.{◌^◌, ◌==◌, ◌||◌, drop, fold, if◌then◌else◌, is_some, map, nat_le}
use Rattle.std.proofs.lemmas.List.{length-append}
use Rattle.tt_edge.specs.declared.event.Event.{Event}
use Rattle.tt_edge.specs.Event.{event_cost, is_open, is_tick}
use Rattle.tt_map.specs.Layout.{map_of}
use Rattle.tt_world.specs.Economy.{framed}
use Rattle.tt_world.specs.World.{WorldState}
use Rattle.tt_world.specs.declared.command.Entry.{Entry}
use Rattle.tt_lockstep.specs.Journal.{applied_all}
use Rattle.tt_lockstep.proofs.Journals.{AreAbove-less}
use Rattle.tt_log.specs.Admin.{Admin}
use Rattle.tt_log.specs.Deed.{Deed, where_}
use Rattle.tt_log.specs.Events.{by_event, charged, last_frame, shut_down, stepped, stops, taken, takes}
use Rattle.tt_log.specs.History.{AllTaken, table_of}
use Rattle.tt_log.specs.Origin.{IsJournal, Origin, above, at_frame, game_of}
use Rattle.tt_log.specs.Table.{Table, downloader, first, first_loading, world_of}
use Rattle.tt_log.specs.Member.{Member}
use Rattle.tt_log.specs.Tick.{left_by, left_of, stamps}
use Rattle.tt_log.proofs.Clock.{event-over, is-near}
use Rattle.tt_log.proofs.Counting.{one_if, taken-counts}
use Rattle.tt_log.proofs.Entries.{is-stamped}
use Rattle.tt_log.proofs.Refusing.{table-snoc}
use Rattle.tt_members.specs.Crew.{Crew, crew_of}
use Rattle.tt_members.specs.Planned.{Planned}
use Rattle.tt_members.specs.Steps.{stamped_in}
use Rattle.tt_admin_desk.specs.Seats.{opening, seats}
use Rattle.tt_table.specs.declared.change.Change.{Change}
use Rattle.tt_table.specs.Change.{committed_by, done_by, seated, steps_by, steps_of}
use Rattle.tt_table.specs.Does.{IsBegun, IsChange, begins_map, due_by}
use Rattle.tt_table.specs.Ending.{ended_admins, ended_members, is_last, ruled}
use Rattle.tt_table.specs.Held.{Held, IsAlive, IsGame, IsHeld, left_in}
use Rattle.tt_table.specs.Putting.{carried_on, conns_where, left_for, one_more, raised, ran_where, told_on}
use Rattle.tt_table.proofs.Clocks.{IsRunBy, going, run-by, stamps-above, top-ticked, world-same, world-ticked}
use Rattle.tt_table.proofs.Journals.{IsNextPlace, carried-on}

-- ---- the table behind an event

where-yes : (b : Bool) (rule : Table → Deed) (t : Table) → b ≡ true → where_ b rule t ≡ rule t
where-yes true rule t is = refl
where-yes false rule t is = absurd cc

pub table-behind : (o : Origin) (es : List Event) (e : Event) → takes (table_of o es) e ≡ true
    → table_of o (es ++ e ∷ []) ≡ (taken o e (table_of o es)).table
table-behind o es e is =
    table-snoc o es e ∙ ap (λ (d : Deed). d.table) (where-yes (takes (table_of o es) e) (taken o e) (table_of o es) is)

all-taken : (o : Origin) (t : Table) (es : List Event) (e : Event) → AllTaken o t es → takes (fold (stepped o) t es) e ≡ true
    → AllTaken o t (es ++ e ∷ [])
all-taken o t [] e all is = (is, tt)
all-taken o t (f ∷ es) e all is = (all.0, all-taken o (stepped o t f) es e all.1 is)

-- ---- what is held of a table behind the rule of an event, whether the game is over by it or not

pub record IsRuled (o : Origin) (v : Table) (k : Held) : Type 0 where
  pub setup : k.members.setup ≡ o.setup
  pub journal : k.journal ≡ v.journal
  pub carried : drop k.carried v.journal ≡ above o v.frame v.journal
  pub some : k.carried ≤ length v.journal
  pub frame : k.frame ≡ v.frame
  pub top : k.top ≡ v.top
  pub openings : k.openings ≡ v.openings
  pub cost : k.cost ≡ v.cost
  pub world : k.world ≡ world_of o v
  pub alive : IsAlive o v k

closed-held : (b : Bool) (o : Origin) (v : Table) (k : Held) → IsRuled o v k → k.over ≡ b → v.over ≡ false
    → IsHeld o (where_ b shut_down v).table k
closed-held true o v k h over was = record {
  setup = h.setup;
  journal = h.journal;
  carried = h.carried;
  some = h.some;
  frame = h.frame;
  top = h.top;
  openings = h.openings;
  cost = h.cost;
  over = over;
  world = h.world;
  alive = λ not. absurd cc;
}
closed-held false o v k h over was = record {
  setup = h.setup;
  journal = h.journal;
  carried = h.carried;
  some = h.some;
  frame = h.frame;
  top = h.top;
  openings = h.openings;
  cost = h.cost;
  over = over ∙ sym was;
  world = h.world;
  alive = λ not. h.alive;
}

-- ---- a change put in force

-- what is held behind it, of what was held before
pub record IsPut (o : Origin) (e : Event) (c : Change) (h k : Held) : Type 0 where
  pub setup : k.members.setup ≡ h.members.setup
  pub crew : k.members.crew ≡ committed_by c.plan h.members.crew
  pub admins : (t : Table) → k.admins ≡ seated c.seating (seats h.admins (opening h.openings h.frame t))
  pub journal : k.journal ≡ h.journal ++ stamped_in (steps_by c.plan)
  pub carried : k.carried ≡ h.carried + length c.due.items
  pub frame : k.frame ≡ one_more c.beats h.frame
  pub top : k.top ≡ raised c.beats o.setup.frame_freq h.frame h.top
  pub openings : k.openings ≡ h.openings + one_more (is_open e) 0
  pub cost : k.cost ≡ h.cost + event_cost e
  pub over : k.over ≡ (c.stops || nat_le o.setup.cost k.cost || (k.frame == last_frame))
  pub world : k.world ≡ ran_where c.beats o h.world c.due.items
  pub left : (t : Table) → t.members ≡ k.members.crew.members → t.queue ≡ k.members.crew.queue
      → left_in k.download ≡ carried_on c.download (is_some (downloader t)) c.beats (left_in h.download)

-- ---- the journal

stamped-behind : (p : Option Planned) (t : Table) → t.journal ++ stamped_in (steps_by p) ≡ (done_by p t).journal
stamped-behind None t = append-nil t.journal
stamped-behind (Some p) t = refl

-- ---- the clock: at a tick, and at another event

pub record IsClock (o : Origin) (u : Table) (k : Held) : Type 0 where
  pub carried : drop k.carried u.journal ≡ above o u.frame u.journal
  pub some : k.carried ≤ length u.journal
  pub frame : k.frame ≡ u.frame
  pub top : k.top ≡ u.top
  pub world : k.world ≡ world_of o u

clock-by : (b : Bool) (o : Origin) (t u : Table) (due : List Entry) (h k : Held) → IsRunBy b o t u → IsHeld o t h
    → due ≡ due_by b o u → t.frame ≤ t.top → IsJournal o u.journal
    → k.carried ≡ h.carried + length due → k.frame ≡ one_more b h.frame → k.top ≡ raised b o.setup.frame_freq h.frame h.top
    → k.world ≡ ran_where b o h.world due → IsClock o u k
clock-by true o t u due h k runs held is near rising carried frame top world =
    let next : u.frame ≡ t.frame + 1 = runs.frame in
    let place : IsNextPlace o t.frame h.carried u.journal =
    subst (λ (xs : List Entry). IsNextPlace o t.frame h.carried xs) (sym runs.journal) (carried-on o t.frame h.carried t.journal (stamps t)
    (subst (λ (xs : List Entry). IsJournal o xs) runs.journal rising)
    (AreAbove-less (game_of o) t.frame t.top (stamps t) (stamps-above o t) near) held.some held.carried) in
    let now : due ≡ at_frame o (t.frame + 1) u.journal = is ∙ ap (λ (f : ℕ). at_frame o f u.journal) next in
    let at : k.carried ≡ h.carried + length (at_frame o (t.frame + 1) u.journal) =
    carried ∙ ap (λ (xs : List Entry). h.carried + length xs) now in
    record {
      carried = ap (λ (n : ℕ). drop n u.journal) at ∙ place.place ∙ ap (λ (f : ℕ). above o f u.journal) (sym next);
      some = subst (λ (n : ℕ). n ≤ length u.journal) (sym at) place.within;
      frame = frame ∙ ap (λ (f : ℕ). f + 1) held.frame ∙ sym next;
      top = top ∙ ap (λ (f : ℕ). raised true o.setup.frame_freq f h.top) held.frame
          ∙ ap (λ (n : ℕ). raised true o.setup.frame_freq t.frame n) held.top ∙ sym (top-ticked o t u runs);
      world = world ∙ ap (λ (w : WorldState). framed (applied_all (game_of o) w due)) held.world
          ∙ ap (λ (xs : List Entry). framed (applied_all (game_of o) (world_of o t) xs)) is ∙ sym (world-ticked o t u runs near);
    }
clock-by false o t u due h k runs held is near rising carried frame top world =
    let at : k.carried ≡ h.carried = carried ∙ ap (λ (xs : List Entry). h.carried + length xs) is ∙ omega arith in
    let same : drop h.carried u.journal ≡ above o u.frame u.journal =
    ap (λ (xs : List Entry). drop h.carried xs) runs.journal ∙ held.carried
    ∙ ap (λ (xs : List Entry). above o t.frame xs) (sym runs.journal)
    ∙ ap (λ (f : ℕ). above o f u.journal) (sym runs.frame) in
    record {
      carried = ap (λ (n : ℕ). drop n u.journal) at ∙ same;
      some = subst (λ (n : ℕ). n ≤ length u.journal) (sym at)
          (subst (λ (xs : List Entry). h.carried ≤ length xs) (sym runs.journal) held.some);
      frame = frame ∙ held.frame ∙ sym runs.frame;
      top = top ∙ held.top ∙ sym runs.top;
      world = world ∙ held.world ∙ sym (world-same o t u runs);
    }

-- ---- the running download

-- how the download goes on by the rule of an event
pub record GoesOn (o : Origin) (e : Event) (t u : Table) (c : Change) : Type 0 where
  pub begun : begins_map (steps_of c) ≡ true → left_of o u ≡ map_of (world_of o u)
  pub goes : begins_map (steps_of c) ≡ false → is_some (downloader u) ≡ true → left_of o u ≡ told_on (is_tick e) (left_of o t)

nobody : (x : Option Member) (o : Origin) (u : Table) → is_some x ≡ false → left_by x o u ≡ []
nobody None o u is = refl
nobody (Some m) o u is = absurd cc

first-charged : (q : List ℕ) (u : Table) (n : ℕ) → first_loading q (record u { cost = n }) ≡ first_loading q u
first-charged [] u n = refl
first-charged (conn ∷ conns) u n = refl

by-charged : (x : Option Member) (o : Origin) (u : Table) (n : ℕ) → left_by x o (record u { cost = n }) ≡ left_by x o u
by-charged None o u n = refl
by-charged (Some m) o u n = refl

-- what an event costs changes nothing of it
left-charged : (o : Origin) (u : Table) (n : ℕ) → left_of o (record u { cost = n }) ≡ left_of o u
left-charged o u n = by-charged (downloader (record u { cost = n })) o u n
    ∙ ap (λ (x : Option Member). left_by x o u) (first-charged u.queue u n)

left-for : (b : Bool) (o : Origin) (e : Event) (t u : Table) (c : Change) → GoesOn o e t u c → begins_map (steps_of c) ≡ false
    → is_some (downloader u) ≡ b → left_for b (is_tick e) (left_of o t) ≡ left_of o u
left-for true o e t u c goes none is = sym (goes.goes none is)
left-for false o e t u c goes none is = sym (nobody (downloader u) o u is)

left-with : (x : Option (List ℕ)) (o : Origin) (e : Event) (t u : Table) (c : Change) → GoesOn o e t u c
    → is_some x ≡ begins_map (steps_of c) → IsBegun o u x
    → carried_on x (is_some (downloader u)) (is_tick e) (left_of o t) ≡ left_of o u
left-with None o e t u c goes begins begun = left-for (is_some (downloader u)) o e t u c goes (sym begins) refl
left-with (Some bytes) o e t u c goes begins begun = begun ∙ sym (goes.begun (sym begins))

-- ---- what is counted, and the end

one-more : (b : Bool) → one_more b 0 ≡ one_if b
one-more true = refl
one-more false = refl

closed-counts : (b : Bool) (v : Table) → ((where_ b shut_down v).table.openings ≡ v.openings) × ((where_ b shut_down v).table.cost ≡ v.cost)
closed-counts true v = (refl, refl)
closed-counts false v = (refl, refl)

closed-journal : (b : Bool) (v : Table) → (where_ b shut_down v).table.journal ≡ v.journal
closed-journal true v = refl
closed-journal false v = refl

over-by : (a b : Bool) (cost m n l : ℕ) (x y : ℕ) → a ≡ b → m ≡ n → x ≡ y
    → (a || nat_le cost m || (x == l)) ≡ (b || nat_le cost n || (y == l))
over-by a b cost m n l x y stops costs frames = ap (λ (c : Bool). c || nat_le cost m || (x == l)) stops
    ∙ ap (λ (c : ℕ). b || nat_le cost c || (x == l)) costs ∙ ap (λ (f : ℕ). b || nat_le cost n || (f == l)) frames

-- ---- all of it

module _ (o : Origin) (e : Event) (t : Table) (c : Change) (h k : Held) where
  abbrev ruled_table : Table
  ruled_table = (by_event o e t).table

  alive-behind : t.over ≡ false → IsHeld o t h → IsChange o e t c → GoesOn o e t ruled_table c → IsPut o e c h k
      → IsAlive o ruled_table k
  alive-behind was held is goes put =
      let u : Table = ruled_table in
      let before : IsAlive o t h = held.alive was in
      let crew : k.members.crew ≡ crew_of o u = put.crew ∙ ap (λ (x : Crew). committed_by c.plan x) before.crew ∙ is.does.crew in
      let same : seats h.admins (opening h.openings h.frame t) ≡ t =
      ap (λ (xs : List Admin). record t { admins = xs; openings = h.openings; frame = h.frame }) before.admins
      ∙ ap (λ (n : ℕ). record t { openings = n; frame = h.frame }) held.openings ∙ ap (λ (f : ℕ). record t { frame = f }) held.frame in
      record {
        crew = crew;
        admins = put.admins t ∙ ap (λ (x : Table). seated c.seating x) same ∙ ap (λ (x : Table). x.admins) is.does.table;
        left = put.left u (ap (λ (x : Crew). x.members) (sym crew)) (ap (λ (x : Crew). x.queue) (sym crew))
            ∙ ap (λ (b : Bool). carried_on c.download (is_some (downloader u)) b (left_in h.download)) is.beats
            ∙ ap (λ (xs : List ℕ). carried_on c.download (is_some (downloader u)) (is_tick e) xs) before.left
            ∙ left-with c.download o e t u c goes is.begins is.begun;
      }

  -- whatever of the game's end follows
  ruled-behind : t.over ≡ false → t.frame ≤ t.top → IsJournal o ruled_table.journal → IsHeld o t h → IsChange o e t c
      → GoesOn o e t ruled_table c → IsPut o e c h k → IsRuled o (charged e ruled_table).table k
  ruled-behind was near rising held is goes put =
      let u : Table = ruled_table in
      let clock : IsClock o u k = clock-by (is_tick e) o t u c.due.items h k (run-by o e t) held is.due near rising put.carried
      (put.frame ∙ ap (λ (b : Bool). one_more b h.frame) is.beats)
      (put.top ∙ ap (λ (b : Bool). raised b o.setup.frame_freq h.frame h.top) is.beats)
      (put.world ∙ ap (λ (b : Bool). ran_where b o h.world c.due.items) is.beats) in
      let counts = taken-counts true o e t refl in
      let v : Table = (charged e u).table in
      let same = closed-counts (stops o e t || nat_le o.setup.cost v.cost || (v.frame == last_frame)) v in
      let journal : k.journal ≡ u.journal =
      put.journal ∙ ap (λ (xs : List Entry). xs ++ stamped_in (steps_by c.plan)) held.journal ∙ stamped-behind c.plan t
      ∙ ap (λ (x : Table). x.journal) is.does.table in
      let alive : IsAlive o u k = alive-behind was held is goes put in
      record {
        setup = put.setup ∙ held.setup;
        journal = journal;
        carried = clock.carried;
        some = clock.some;
        frame = clock.frame;
        top = clock.top;
        openings = omega (arith, put.openings, held.openings, one-more (is_open e), counts.0, same.0);
        cost = omega (arith, put.cost, held.cost, counts.2, same.1);
        world = clock.world;
        alive = record { crew = alive.crew; admins = alive.admins; left = alive.left ∙ sym (left-charged o u v.cost) };
      }

-- the game behind an event whose change was put in force
module _ (o : Origin) (es : List Event) (e : Event) (c : Change) (h k : Held) where
  pub rising-behind : takes (table_of o es) e ≡ true → IsJournal o (by_event o e (table_of o es)).table.journal
  rising-behind is =
      let t : Table = table_of o es in
      let v : Table = (charged e (by_event o e t).table).table in
      let same : (table_of o (es ++ e ∷ [])).journal ≡ (by_event o e t).table.journal =
      ap (λ (x : Table). x.journal) (table-behind o es e is)
      ∙ closed-journal (stops o e t || nat_le o.setup.cost v.cost || (v.frame == last_frame)) v in
      subst (λ (xs : List Entry). IsJournal o xs) same (is-stamped o (es ++ e ∷ [])).rising

  pub over-behind : IsRuled o (charged e (by_event o e (table_of o es)).table).table k → IsChange o e (table_of o es) c → IsPut o e c h k
      → k.over ≡ is_last o e (table_of o es)
  over-behind ruled is put =
      let t : Table = table_of o es in
      let v : Table = (charged e (by_event o e t).table).table in
      put.over ∙ over-by c.stops (stops o e t) o.setup.cost k.cost v.cost last_frame k.frame v.frame is.stops ruled.cost ruled.frame

  pub ruled-by : takes (table_of o es) e ≡ true → IsGame o es h → IsChange o e (table_of o es) c
      → GoesOn o e (table_of o es) (by_event o e (table_of o es)).table c → IsPut o e c h k
      → IsRuled o (charged e (by_event o e (table_of o es)).table).table k
  ruled-by taken game is goes put = ruled-behind o e (table_of o es) c h k (going (table_of o es) e taken) (is-near o es).ahead
      (rising-behind taken) game.held is goes put

  pub game-behind : takes (table_of o es) e ≡ true → IsGame o es h → IsChange o e (table_of o es) c
      → GoesOn o e (table_of o es) (by_event o e (table_of o es)).table c → IsPut o e c h k → length es + 1 < 2 ^ 63
      → IsGame o (es ++ e ∷ []) k
  game-behind taken game is goes put few =
      let t : Table = table_of o es in
      let v : Table = (charged e (by_event o e t).table).table in
      let ruled : IsRuled o v k = ruled-by taken game is goes put in
      let over : k.over ≡ is_last o e t = over-behind ruled is put in
      let was : v.over ≡ false = event-over o e t ∙ going t e taken in
      record {
        fits = game.fits;
        taken = all-taken o (first o) es e game.taken taken;
        few = let more = length-append es (e ∷ []) in omega (arith, more, few);
        held = subst (λ (x : Table). IsHeld o x k) (sym (table-behind o es e taken)) (closed-held (is_last o e t) o v k ruled over was);
      }

-- ---- who is told that the game is over

where-conns : {A : Type 0} (b : Bool) (f : A → ℕ) (xs : List A) → conns_where b f xs ≡ (if b then map f xs else [])
where-conns true f xs = refl
where-conns false f xs = refl

module _ (o : Origin) (es : List Event) (e : Event) (c : Change) (h k : Held) where
  pub members-told : IsRuled o (charged e (by_event o e (table_of o es)).table).table k → IsChange o e (table_of o es) c → IsPut o e c h k
      → conns_where k.over (λ (m : Member). m.conn) k.members.crew.members ≡ ended_members o e (table_of o es)
  members-told ruled is put =
      let t : Table = table_of o es in
      ap (λ (x : Crew). conns_where k.over (λ (m : Member). m.conn) x.members) ruled.alive.crew
      ∙ where-conns k.over (λ (m : Member). m.conn) (by_event o e t).table.members
      ∙ ap (λ (b : Bool). if b then map (λ (m : Member). m.conn) (by_event o e t).table.members else [])
      (over-behind o es e c h k ruled is put)

  pub admins-told : IsRuled o (charged e (by_event o e (table_of o es)).table).table k → IsChange o e (table_of o es) c → IsPut o e c h k
      → conns_where k.over (λ (a : Admin). a.conn) k.admins ≡ ended_admins o e (table_of o es)
  admins-told ruled is put =
      let t : Table = table_of o es in
      ap (λ (xs : List Admin). conns_where k.over (λ (a : Admin). a.conn) xs) ruled.alive.admins
      ∙ where-conns k.over (λ (a : Admin). a.conn) (by_event o e t).table.admins
      ∙ ap (λ (b : Bool). if b then map (λ (a : Admin). a.conn) (by_event o e t).table.admins else [])
      (over-behind o es e c h k ruled is put)
