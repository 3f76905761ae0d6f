use Rattle.std.proofs.Common.{◌≡◌, ◌∙◌, ap, sym, subst, ◌+◌, ◌≤◌, ◌<◌, ℕ, List, Bool, [], ◌∷◌, ◌++◌, true, arith, length}
use Rattle.std.specs.Prelude.{◌^◌}
use Rattle.tt_edge.specs.declared.event.Event.{Event}
use Rattle.tt_edge.specs.Event.{is_open}
use Rattle.std.proofs.lemmas.List.{length-append}
use Rattle.tt_world.specs.declared.command.Entry.{Entry}
use Rattle.tt_log.specs.Admin.{Admin}
use Rattle.tt_log.specs.Events.{by_event, charged, takes}
use Rattle.tt_log.specs.History.{table_of}
use Rattle.tt_log.specs.Member.{Member}
use Rattle.tt_log.specs.Origin.{Origin}
use Rattle.tt_table.specs.Does.{IsChange}
use Rattle.tt_table.specs.Ending.{ended_admins, ended_members}
use Rattle.tt_table.specs.Held.{Held, IsGame, Played, left_in, table}
use Rattle.tt_table.specs.Putting.{carried_on, conns_where, raised, ran_where}
use Rattle.tt_table.proofs.Behind.{IsPut, IsRuled, admins-told, game-behind, members-told, ruled-by}
use Rattle.tt_table.proofs.PutFacts.{cheap, few-admins, few-members, few-open, few-opened, goes-on, low-frame, seat-there}
use Rattle.tt_table.proofs.game.Game.put.Goals as goal

pub seat-requires-clause-room : goal.seat-requires-clause-room
seat-requires-clause-room c =
    seat-there _ _ _ c.self.invariant.0 c.args.event (subst (λ (g : Played). takes (table g) c.args.event ≡ true) (sym c.self.view_is)
    c.requires.taken) c.args.change
    (subst (λ (g : Played). IsChange g.origin c.args.event (table g) c.args.change) (sym c.self.view_is) c.requires.change)

pub seat-requires-clause-few : goal.seat-requires-clause-few
seat-requires-clause-few c =
    few-open _ _ _ c.self.invariant.0 c.args.event (subst (λ (g : Played). takes (table g) c.args.event ≡ true) (sym c.self.view_is)
    c.requires.taken)

pub top_behind-self-inside-requires-clause-low : goal.top_behind-self-inside-requires-clause-low
top_behind-self-inside-requires-clause-low c = low-frame _ _ _ c.self.invariant.0

pub frame_behind-self-inside-requires : goal.frame_behind-self-inside-requires
frame_behind-self-inside-requires c = record { low = low-frame _ _ _ c.self.invariant.0 }

pub overflow_add-self-2 : goal.overflow_add-self-2
overflow_add-self-2 c =
    let few = few-opened _ _ _ c.self.invariant.0 c.args.event (subst (λ (g : Played). takes (table g) c.args.event ≡ true)
    (sym c.self.view_is) c.requires.taken) (is_open c.args.event) c.opened_by.result c.opened_by.ensures.opened in
    omega (arith, few)

pub overflow_add-self-3 : goal.overflow_add-self-3
overflow_add-self-3 c =
    let low = cheap _ _ _ c.self.invariant.0 c.args.event
    (subst (λ (g : Played). takes (table g) c.args.event ≡ true) (sym c.self.view_is) c.requires.taken) in
    let most = c.cost_of.ensures.low in
    omega (arith, low, most)

pub fill-requires-clause-members : goal.fill-requires-clause-members
fill-requires-clause-members c =
    few-members _ _ _ c.self.invariant.0 c.args.event (subst (λ (g : Played). takes (table g) c.args.event ≡ true) (sym c.self.view_is)
    c.requires.taken) c.args.change c.args.ends.now.room c.all.result.now c.commit.new.members.crew c.all.ensures.all c.commit.ensures.crew
    (subst (λ (g : Played). length (table g).members + 1 ≤ c.args.ends.now.room) (sym c.self.view_is) c.requires.members)

pub fill-requires-clause-admins : goal.fill-requires-clause-admins
fill-requires-clause-admins c =
    few-admins _ _ _ c.self.invariant.0 c.args.event (subst (λ (g : Played). takes (table g) c.args.event ≡ true) (sym c.self.view_is)
    c.requires.taken) c.args.change c.args.ends.now.room c.all-2.result.now (λ t. c.all-2.ensures.all ∙ c.in_ok-seat.ensures.seated t)
    (subst (λ (g : Played). length (table g).admins + 1 ≤ c.args.ends.now.room) (sym c.self.view_is) c.requires.admins)

-- ---- what is held before and behind

abbrev origin-in : goal.Joined-change-2 → Origin
origin-in c = record { setup = c.self.inside.setup; start = c.self.inside.start }

abbrev before : goal.Joined-change-2 → Held
before c = record {
  members = c.self.inside.members;
  admins = c.self.inside.desk;
  journal = c.self.inside.journal.items;
  carried = c.self.inside.carried;
  frame = c.self.inside.frame;
  top = c.self.inside.top;
  openings = c.self.inside.openings;
  cost = c.self.inside.cost;
  over = c.self.inside.over;
  world = c.self.inside.world;
  download = c.self.inside.download;
}

abbrev after : goal.Joined-change-2 → Held
after c = record {
  members = c.commit.new.members;
  admins = c.seat.new.desk;
  journal = c.commit.new.journal.items;
  carried = c.self.inside.carried + c.len.result;
  frame = c.frame_behind-self-inside.result;
  top = c.top_behind-self-inside.result;
  openings = c.self.inside.openings + c.opened_by.result;
  cost = c.self.inside.cost + c.cost_of.result;
  over = c.is_over-self-inside.result;
  world = c.run_where.new.world;
  download = c.carry_on.new.running;
}

taken-in : (c : goal.Joined-change-2) → takes (table_of (origin-in c) c.self.inside.history.events) c.args.event ≡ true
taken-in c = subst (λ (g : Played). takes (table g) c.args.event ≡ true) (sym c.self.view_is) c.requires.taken

change-in : (c : goal.Joined-change-2)
    → IsChange (origin-in c) c.args.event (table_of (origin-in c) c.self.inside.history.events) c.args.change
change-in c = subst (λ (g : Played). IsChange g.origin c.args.event (table g) c.args.change) (sym c.self.view_is) c.requires.change

few-in : (c : goal.Joined-change-2) → length c.self.inside.history.events + 1 < 2 ^ 63
few-in c = subst (λ (g : Played). length g.events + 1 < 2 ^ 63) (sym c.self.view_is) c.requires.room.few

game-in : (c : goal.Joined-change-2) → IsGame (origin-in c) c.self.inside.history.events (before c)
game-in c = c.self.invariant.0

put-in : (c : goal.Joined-change-2) → IsPut (origin-in c) c.args.event c.args.change (before c) (after c)
put-in c = record {
  setup = c.commit.ensures.setup;
  crew = c.commit.ensures.crew;
  admins = λ t. c.in_ok-seat.ensures.seated t;
  journal = c.commit.ensures.journal;
  carried = ap (λ (n : ℕ). c.self.inside.carried + n) (let due : length c.as_slice.result.now ≡ length c.args.change.due.items =
      ap (λ (xs : List Entry). length xs) c.as_slice.ensures.value in
      let size = c.as_slice.ensures.len in let is = c.len.ensures in omega (arith, due, size, is));
  frame = c.frame_behind-self-inside.ensures.frame;
  top = c.top_behind-self-inside.ensures.top
      ∙ ap (λ (n : ℕ). raised c.args.change.beats n c.self.inside.frame c.self.inside.top) c.from.ensures;
  openings = ap (λ (n : ℕ). c.self.inside.openings + n) c.opened_by.ensures.opened;
  cost = ap (λ (n : ℕ). c.self.inside.cost + n) c.cost_of.ensures.cost;
  over = c.is_over-self-inside.ensures.over;
  world = c.run_where.ensures.world (origin-in c)
      ∙ ap (λ (xs : List Entry). ran_where c.args.change.beats (origin-in c) c.self.inside.world xs) c.as_slice.ensures.value;
  left = λ t members queue. c.carry_on.ensures.left ∙ ap (λ (b : Bool). carried_on c.args.change.download b c.args.change.beats
      (left_in c.self.inside.download)) (c.downloads-downloads.ensures.downloads t members queue);
}

ruled-in : (c : goal.Joined-change-2) → IsRuled (origin-in c) (charged c.args.event (by_event (origin-in c) c.args.event
    (table_of (origin-in c) c.self.inside.history.events)).table).table (after c)
ruled-in c = ruled-by (origin-in c) c.self.inside.history.events c.args.event c.args.change (before c) (after c) (taken-in c) (game-in c)
    (change-in c) (goes-on (origin-in c) c.self.inside.history.events c.args.event c.args.change (change-in c)) (put-in c)

pub invariant_of-self-2 : goal.invariant_of-self-2
invariant_of-self-2 c =
    let events : List Event = c.self.inside.history.events in
    let goes = goes-on (origin-in c) events c.args.event c.args.change (change-in c) in
    let game : IsGame (origin-in c) (events ++ c.args.event ∷ []) (after c) =
    game-behind (origin-in c) events c.args.event c.args.change (before c) (after c) (taken-in c) (game-in c) (change-in c) goes (put-in c)
    (few-in c) in
    let count = c.self.invariant.1 in
    let more = length-append events (c.args.event ∷ []) in
    let now : length c.add.new.self.events ≡ length (events ++ c.args.event ∷ []) =
    ap (λ (xs : List Event). length xs) c.add.ensures.events in
    (subst (λ (xs : List Event). IsGame (origin-in c) xs (after c)) (sym c.add.ensures.events) game, omega (arith, count, more, now))

pub returns-clause-members_told : goal.returns-clause-members_told
returns-clause-members_told c =
    c.fill.ensures.members ∙ ap (λ (ms : List Member). conns_where c.is_over-self-inside.result (λ m. m.conn) ms) c.all.ensures.all
    ∙ members-told (origin-in c) c.self.inside.history.events c.args.event c.args.change (before c) (after c) (ruled-in c) (change-in c)
    (put-in c)
    ∙ ap (λ (g : Played). ended_members g.origin c.args.event (table g)) c.self.view_is

pub returns-clause-admins_told : goal.returns-clause-admins_told
returns-clause-admins_told c =
    c.fill.ensures.admins ∙ ap (λ (xs : List Admin). conns_where c.is_over-self-inside.result (λ a. a.conn) xs) c.all-2.ensures.all
    ∙ admins-told (origin-in c) c.self.inside.history.events c.args.event c.args.change (before c) (after c) (ruled-in c) (change-in c)
    (put-in c)
    ∙ ap (λ (g : Played). ended_admins g.origin c.args.event (table g)) c.self.view_is
