-- What `stage` makes the sources from is what an event's steps are filled in from.
use Rattle.std.proofs.Common.{◌≡◌, ◌∙◌, ap, sym, subst, ℕ, ◌≤◌, Bool, true, false, List, ◌++◌, Option, Some, None, length, refl}
use Rattle.std.specs.Prelude.{nat_lt, take}
use Rattle.tt_edge.specs.declared.event.Event.{Event}
use Rattle.tt_edge.specs.Event.{is_tick}
use Rattle.tt_world.specs.World.{WorldState}
use Rattle.tt_world.specs.declared.command.Entry.{Entry}
use Rattle.tt_log.specs.declared.deed.Step as book
use Rattle.tt_log.specs.Admin.{Admin}
use Rattle.tt_log.specs.Events.{by_event, takes}
use Rattle.tt_log.specs.Filling.{Filling}
use Rattle.tt_log.specs.History.{table_of}
use Rattle.tt_log.specs.Origin.{IsJournal, Origin, at_frame}
use Rattle.tt_log.specs.Table.{Table, world_of}
use Rattle.tt_log.specs.Tellings.{filled, filling, tellings}
use Rattle.tt_log.proofs.Clock.{is-near}
use Rattle.tt_log.proofs.Entries.{is-stamped}
use Rattle.tt_members.specs.Crew.{Crew}
use Rattle.tt_members.specs.Planned.{Planned}
use Rattle.tt_members.specs.Steps.{steps_in}
use Rattle.tt_outgoing.specs.declared.sources.Sources.{Sources}
use Rattle.tt_outgoing.specs.Sources.{AreAtHand, AreLocks, four_pieces}
use Rattle.tt_outgoing.specs.Staging.{Packet, packets_of}
use Rattle.tt_table.specs.declared.change.Change.{Change}
use Rattle.tt_table.specs.Change.{done_by, steps_of}
use Rattle.tt_table.specs.Does.{IsChange, due_by}
use Rattle.tt_table.specs.Held.{Held, IsAlive, IsGame}
use Rattle.tt_table.specs.Putting.{one_more, ran_where}
use Rattle.tt_table.specs.Telling.{AreHeld, digests_by, entries_by, world_by}
use Rattle.tt_table.proofs.AtHand.{AreSources, change-at-hand}
use Rattle.tt_table.proofs.Behind.{rising-behind}
use Rattle.tt_table.proofs.Clocks.{IsRunBy, going, run-by, world-same, world-ticked}

frame-by : (b : Bool) (o : Origin) (t u : Table) → IsRunBy b o t u → one_more b t.frame ≡ u.frame
frame-by true o t u runs = sym runs.frame
frame-by false o t u runs = sym runs.frame

world-by : (b : Bool) (o : Origin) (t u : Table) → IsRunBy b o t u → t.frame ≤ t.top
    → ran_where b o (world_of o t) (due_by b o u) ≡ world_of o u
world-by true o t u runs near = sym (world-ticked o t u runs near)
world-by false o t u runs near = sym (world-same o t u runs)

entries-by : (b : Bool) (o : Origin) (t u : Table) → IsRunBy b o t u → entries_by b o (due_by b o u) t.frame t.journal
    ≡ at_frame o u.frame u.journal
entries-by true o t u runs = refl
entries-by false o t u runs = ap (λ (f : ℕ). at_frame o f t.journal) (sym runs.frame) ∙ ap (λ (xs : List Entry). at_frame o u.frame xs)
    (sym runs.journal)

digests-behind : (p : Option Planned) (t : Table) → digests_by p t.digests ≡ (done_by p t).digests
digests-behind None t = refl
digests-behind (Some p) t = refl

module _ (o : Origin) (es : List Event) (e : Event) (c : Change) (h : Held) (s : Sources) where
  sources-behind : takes (table_of o es) e ≡ true → IsGame o es h → IsChange o e (table_of o es) c → AreHeld o c h s
      → AreSources o (table_of o es) (by_event o e (table_of o es)).table c s
  sources-behind taken game is are =
      let t : Table = table_of o es in
      let u : Table = (by_event o e t).table in
      let runs : IsRunBy (is_tick e) o t u = run-by o e t in
      let alive : IsAlive o t h = game.held.alive (going t e taken) in
      let near : t.frame ≤ t.top = (is-near o es).ahead in
      let rising : IsJournal o h.journal = subst (λ (xs : List Entry). IsJournal o xs) (sym game.held.journal) (is-stamped o es).rising in
      let digests : digests_by c.plan h.members.crew.digests ≡ u.digests =
      ap (λ (x : Crew). digests_by c.plan x.digests) alive.crew ∙ digests-behind c.plan t ∙ ap (λ (x : Table). x.digests) is.does.table in
      let world : ran_where c.beats o h.world c.due.items ≡ world_of o u =
      ap (λ (b : Bool). ran_where b o h.world c.due.items) is.beats
      ∙ ap (λ (w : WorldState). ran_where (is_tick e) o w c.due.items) game.held.world
      ∙ ap (λ (xs : List Entry). ran_where (is_tick e) o (world_of o t) xs) is.due ∙ world-by (is_tick e) o t u runs near in
      let entries : entries_by c.beats o c.due.items h.frame h.journal ≡ at_frame o u.frame u.journal =
      ap (λ (b : Bool). entries_by b o c.due.items h.frame h.journal) is.beats
      ∙ ap (λ (xs : List Entry). entries_by (is_tick e) o xs h.frame h.journal) is.due
      ∙ ap (λ (f : ℕ). entries_by (is_tick e) o (due_by (is_tick e) o u) f h.journal) game.held.frame
      ∙ ap (λ (xs : List Entry). entries_by (is_tick e) o (due_by (is_tick e) o u) t.frame xs) game.held.journal
      ∙ entries-by (is_tick e) o t u runs in
      record {
        setup = are.setup;
        frame = are.frame ∙ ap (λ (b : Bool). one_more b h.frame) is.beats ∙ ap (λ (f : ℕ). one_more (is_tick e) f) game.held.frame
            ∙ frame-by (is_tick e) o t u runs;
        word = λ told. are.word told ∙ ap (λ (w : WorldState). w.words.0) world;
        world = are.world ∙ ap (λ (w : WorldState). world_by c.behind w) game.held.world;
        size = are.size;
        before = are.before ∙ game.held.world;
        entries = are.entries rising ∙ entries;
        journal = are.journal ∙ game.held.journal;
        locked = subst (λ (ds : List (ℕ × List ℕ)). AreLocks s.locked.now ds) digests are.locked;
        next = are.next ∙ ap (λ (xs : List ℕ). take four_pieces xs) alive.left;
        more = are.more ∙ ap (λ (xs : List ℕ). nat_lt four_pieces (length xs)) alive.left;
      }

  -- the packets of all steps are those of what the event tells
  pub stage-told : (admins : List Admin) (old new : List Packet) → takes (table_of o es) e ≡ true → IsGame o es h
      → IsChange o e (table_of o es) c → AreHeld o c h s → admins ≡ h.admins
      → ((f : Filling) → AreAtHand o f s (steps_of c) → new ≡ old ++ packets_of (filled o f (steps_in admins (steps_of c))))
      → new ≡ old ++ packets_of (tellings o (table_of o es) (by_event o e (table_of o es)))
  stage-told admins old new taken game is are same staged =
      let t : Table = table_of o es in
      let u : Table = (by_event o e t).table in
      let alive : IsAlive o t h = game.held.alive (going t e taken) in
      let at : AreAtHand o (filling o t u) s (steps_of c) =
      change-at-hand o e t c s is (sources-behind taken game is are) (rising-behind o es e c h h taken) in
      let told : steps_in admins (steps_of c) ≡ (by_event o e t).told =
      ap (λ (xs : List Admin). steps_in xs (steps_of c)) (same ∙ alive.admins) ∙ is.does.told in
      staged (filling o t u) at ∙ ap (λ (ss : List book.Step). old ++ packets_of (filled o (filling o t u) ss)) told
