-- What a game holds, and the plan of a tick for its members: the change that the other parts make of them is the tick's.
use Rattle.std.proofs.Common.{◌≡◌, ℕ, ◌+◌, ◌<◌, ◌≤◌, List, ◌++◌, ap, sym, subst, ◌∙◌, true, arith}
use Rattle.std.specs.Prelude.{◌^◌, drop}
use Rattle.tt_edge.specs.declared.event.Event.{Event}
use Rattle.tt_edge.specs.declared.event.Event.TheVariants.{Tick}
use Rattle.tt_world.specs.declared.command.Entry.{Entry}
use Rattle.tt_world.specs.World.{WorldState}
use Rattle.tt_log.specs.Admin.{Admin}
use Rattle.tt_log.specs.Deed.{◌▹◌}
use Rattle.tt_log.specs.Desk.{admins_limited}
use Rattle.tt_log.specs.Events.{by_event, last_frame, takes}
use Rattle.tt_log.specs.History.{table_of}
use Rattle.tt_log.specs.Origin.{IsJournal, Origin, above, at_frame}
use Rattle.tt_log.specs.Polls.{admins_told}
use Rattle.tt_log.specs.Table.{Table, world_of}
use Rattle.tt_log.proofs.Clock.{is-near}
use Rattle.tt_log.proofs.Counting.{is-low}
use Rattle.tt_log.proofs.Entries.{is-stamped}
use Rattle.tt_log.proofs.Ordered.{is-ordered}
use Rattle.tt_members.specs.Planned.{Planned}
use Rattle.tt_members.specs.Steps.{stamped_in}
use Rattle.tt_join.specs.declared.input.Input.{Input}
use Rattle.tt_join.specs.declared.input.Input.TheVariants.{Tick as Beat}
use Rattle.tt_join.specs.Inputs.{by_input}
use Rattle.tt_join.specs.Ties.{IsTied, outside, outside_by}
use Rattle.tt_table.specs.declared.change.Change.{Change}
use Rattle.tt_table.specs.Does.{IsChange}
use Rattle.tt_table.specs.Frames.{ran}
use Rattle.tt_table.specs.Held.{Held, IsAlive, IsGame, IsHeld, Played, table}
use Rattle.tt_table.specs.Ticking.{IsTick}
use Rattle.tt_table.proofs.Playing.{goes_on}
use Rattle.tt_table.proofs.Ticks.{change_is}

-- the entries that were found are those of the frame
abbrev IsDue : List Entry → List Entry → ℕ → Planned → Type 0
IsDue left due frame p = (o : Origin) (journal : List Entry) (past : ℕ) → IsJournal o journal → left ≡ above o past journal → past < frame
    → due ≡ at_frame o frame (journal ++ stamped_in p.steps)

-- a law on ticks, and one on what all inputs leave
abbrev TickLaw : Type 0
TickLaw = (o : Origin) (t : Table) → by_event o Tick t ≡ (by_input Beat o t ▹ admins_limited o ▹ admins_told (world_of o t).day o)

abbrev OutsideLaw : Type 0
OutsideLaw = (o : Origin) (t : Table) (input : Input) → outside (by_input input o t).table ≡ outside_by input o t

same_tick : (most frame f n : ℕ) (admins guests : List Admin) (before w : WorldState) (o : Origin) (p : Planned) (due : List Entry)
    (c : Change) → f ≡ frame → n ≡ most → guests ≡ admins → w ≡ before → IsTick n (f + 1) guests w (ran o w due) p due c
    → IsTick most (frame + 1) admins before (ran o before due) p due c
same_tick most frame f n admins guests before w o p due c frames mosts same worlds is =
    subst (λ (v : WorldState). IsTick most (frame + 1) admins v (ran o v due) p due c) worlds
    (subst (λ (xs : List Admin). IsTick most (frame + 1) xs w (ran o w due) p due c) same
    (subst (λ (k : ℕ). IsTick k (frame + 1) guests w (ran o w due) p due c) mosts
    (subst (λ (k : ℕ). IsTick n (k + 1) guests w (ran o w due) p due c) frames is)))

-- the frame that is run is a number of 32 bits
pub next_frame : (o : Origin) (es : List Event) (h : Held) → IsGame o es h → h.frame + 1 < 2 ^ 32
next_frame o es h game =
    let low : (table_of o es).frame ≤ last_frame = is-low o es in
    let is : h.frame ≡ (table_of o es).frame = game.held.frame in
    omega (arith, low, is)

-- the change that the other parts make is that of a tick
pub beat_is : (o : Origin) (es : List Event) (h : Held) (most : ℕ) (p : Planned) (left due : List Entry) (c : Change) → IsGame o es h
    → TickLaw → OutsideLaw → most ≡ o.setup.init → left ≡ drop h.carried h.journal → IsDue left due (h.frame + 1) p
    → IsTick most (h.frame + 1) h.admins h.world (ran o h.world due) p due c
    → takes (table_of o es) Tick ≡ true → IsTied o (table_of o es) Beat p → IsChange o Tick (table_of o es) c
beat_is o es h most p left due c game ticks others limit behind found is takes tied =
    let t : Table = table_of o es in
    let held : IsHeld o t h = game.held in
    let alive : IsAlive o t h = held.alive (goes_on t Tick takes) in
    let rest : left ≡ above o t.frame t.journal =
    behind ∙ ap (λ (es : List Entry). drop h.carried es) held.journal ∙ held.carried
    in
    let next : t.frame < h.frame + 1 = let f : h.frame ≡ t.frame = held.frame in omega (arith, f) in
    let entries : due ≡ at_frame o (t.frame + 1) (t.journal ++ stamped_in p.steps) =
    found o t.journal t.frame (is-stamped o es).rising rest next
    ∙ ap (λ (f : ℕ). at_frame o (f + 1) (t.journal ++ stamped_in p.steps)) held.frame
    in
    change_is o t p due c (record {
      rule = ticks o t;
      out = others o t Beat;
      tied = tied;
      rise = (is-ordered o es).admins_rise;
      near = (is-near o es).ahead;
    }) entries (same_tick o.setup.init t.frame h.frame most t.admins h.admins (world_of o t) h.world o p due c held.frame limit alive.admins
    held.world is)

-- ---- a game that is seen alike

-- the plan of a game's members is that of a game with the same origin and the same events
pub same_tie : (g h : Played) (p : Planned) → h.origin ≡ g.origin → h.events ≡ g.events → IsTied g.origin (table g) Beat p
    → IsTied h.origin (table h) Beat p
same_tie g h p origin events is =
    subst (λ (o : Origin). IsTied o (table_of o h.events) Beat p) (sym origin)
    (subst (λ (es : List Event). IsTied g.origin (table_of g.origin es) Beat p) (sym events) is)
