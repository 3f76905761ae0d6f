-- What a game knows that holds the table of its events.
use Rattle.std.proofs.Common.{◌≡◌, ℕ, ◌+◌, ◌≤◌, ◌<◌, List, [], ◌∷◌, Option, Some, None, true, false, Bool, refl, ap, ap₂, sym, subst, ◌∙◌}
use Rattle.std.proofs.Common.{arith}
use Rattle.std.specs.Prelude.{◌&&◌, ◌||◌, not, find, is_some, drop, length, map}
use Rattle.std.specs.List.{AllByRecursion}
use Rattle.tt_edge.specs.declared.event.Event.{Event}
use Rattle.tt_world.specs.declared.setup.Setup.{Setup}
use Rattle.tt_world.specs.Setup.{Fits}
use Rattle.tt_log.specs.Events.{names_live, takes}
use Rattle.tt_log.specs.History.{table_of}
use Rattle.tt_log.specs.Member.{Member}
use Rattle.tt_log.specs.Origin.{Origin}
use Rattle.tt_log.specs.Admin.{Admin}
use Rattle.tt_log.specs.Table.{Table, admin_of, first, is_admin_on, is_live, is_on, living_in, member_of}
use Rattle.tt_log.specs.Tick.{left_of}
use Rattle.tt_log.proofs.Clock.{IsNear, is-near, over-is-empty}
use Rattle.tt_log.proofs.Counting.{is-low}
use Rattle.tt_log.proofs.Ordered.{Ordered, is-ordered}
use Rattle.tt_log.proofs.Queueing.{is-queue}
use Rattle.tt_members.specs.Crew.{Crew, crew_of}
use Rattle.tt_members.specs.Planned.{Planned}
use Rattle.tt_members.specs.Rules.{Rise}
use Rattle.tt_join.specs.declared.input.Input.{Input}
use Rattle.tt_join.specs.declared.input.Input.TheVariants.{Open, Msg, Bad, Shut, Own, Kick, Say, Tick}
use Rattle.tt_join.specs.declared.input.Now.{Now}
use Rattle.tt_join.specs.Inputs.{IsNextOpening, IsTaken, Plans}
use Rattle.tt_join.specs.Members.{Kept}
use Rattle.tt_join.specs.Ties.{IsTimeOf}
use Rattle.tt_table.specs.Coming.{Comes}
use Rattle.tt_table.specs.Held.{Held, IsAlive, IsGame, IsHeld, Played, left_in, table}

-- ---- members and admins

-- the connections of the members rise
pub members_rise : (o : Origin) (es : List Event) (ms : List Member) → ms ≡ (table_of o es).members → Rise ms
members_rise o es ms is = subst Rise (sym is) (is-ordered o es).rise

-- other room for the members, which hold the same, is nothing to the game
pub same_game : (o : Origin) (es : List Event) (h : Held) (m : Kept) → m.crew ≡ h.members.crew → m.setup ≡ h.members.setup
    → IsGame o es h → IsGame o es (record h { members = m })
same_game o es h m crew setup game =
    let held : IsHeld o (table_of o es) h = game.held in
    record {
      fits = game.fits;
      taken = game.taken;
      few = game.few;
      held = record {
        setup = setup ∙ held.setup;
        journal = held.journal;
        carried = held.carried;
        some = held.some;
        frame = held.frame;
        top = held.top;
        openings = held.openings;
        cost = held.cost;
        over = held.over;
        world = held.world;
        alive = λ going. let alive : IsAlive o (table_of o es) h = held.alive going in
            record { crew = crew ∙ alive.crew; admins = alive.admins; left = alive.left };
      };
    }

-- ---- how a game is seen

-- what a game holds, whose events and members are seen
pub record IsSeen (g : Played) (h : Held) : Type 0 where
  pub game : IsGame g.origin g.events h
  pub members : h.members ≡ g.members

pub seen : (o : Origin) (es : List Event) (h : Held) (spare room : ℕ) (g : Played) → IsGame o es h
    → record { origin = o; events = es; members = h.members; spare = spare; room = room } ≡ g → IsSeen g h
seen o es h spare room g game is = subst (λ (x : Played). IsSeen x h) is (record { game = game; members = refl })

-- a member or an admin is on a connection where the lists that are held say so
pub member_there : (g : Played) (h : Held) (conn : ℕ) (ms : List Member) (there : Bool) → IsSeen g h → (table g).over ≡ false
    → ms ≡ h.members.crew.members → there ≡ is_some (find (is_on conn) ms) → there ≡ is_some (member_of (table g) conn)
member_there g h conn ms there s going same is =
    is ∙ ap (λ (x : List Member). is_some (find (is_on conn) x)) same
    ∙ ap (λ (x : Crew). is_some (find (is_on conn) x.members)) (s.game.held.alive going).crew

pub admin_there : (g : Played) (h : Held) (conn : ℕ) (admins : List Admin) (there : Bool) → IsSeen g h → (table g).over ≡ false
    → admins ≡ h.admins → there ≡ is_some (find (is_admin_on conn) admins) → there ≡ is_some (admin_of (table g) conn)
admin_there g h conn admins there s going same is =
    is ∙ ap (λ (x : List Admin). is_some (find (is_admin_on conn) x)) (same ∙ (s.game.held.alive going).admins)

pub held_rise : (g : Played) (h : Held) (ms : List Member) → IsSeen g h → (table g).over ≡ false → ms ≡ h.members.crew.members → Rise ms
held_rise g h ms s going same =
    members_rise g.origin g.events ms (same ∙ ap (λ (x : Crew). x.members) (s.game.held.alive going).crew)

-- where the game is over nobody is live
pub over_not_live : (g : Played) (conn : ℕ) → (table g).over ≡ true → is_live (table g) conn ≡ false
over_not_live g conn over =
    let is = over-is-empty g.origin g.events over in
    ap₂ (λ (ms : List Member) (admins : List Admin). is_some (find (is_on conn) ms) || is_some (find (is_admin_on conn) admins)) is.0 is.1

-- ---- a new game

pub crew_is : (c d : Crew) → c.members ≡ d.members → c.queue ≡ d.queue → c.digests ≡ d.digests → c.own ≡ d.own → c.tokens ≡ d.tokens
    → c.clients ≡ d.clients → c.founders ≡ d.founders → c ≡ d
crew_is c d members queue digests own tokens clients founders =
    ap (λ x. record c { members = x }) members
    ∙ ap (λ x. record c { members = d.members; queue = x }) queue
    ∙ ap (λ x. record c { members = d.members; queue = d.queue; digests = x }) digests
    ∙ ap (λ x. record c { members = d.members; queue = d.queue; digests = d.digests; own = x }) own
    ∙ ap (λ x. record d { tokens = x; clients = c.clients; founders = c.founders }) tokens
    ∙ ap (λ x. record d { clients = x; founders = c.founders }) clients
    ∙ ap (λ x. record d { founders = x }) founders

pub new_game : (o : Origin) (h : Held) → Fits o.setup → h.members.setup ≡ o.setup → h.members.crew ≡ crew_of o (first o) → h.admins ≡ []
    → h.journal ≡ [] → h.carried ≡ 0 → h.frame ≡ 0 → h.top ≡ 0 → h.openings ≡ 0 → h.cost ≡ 0 → h.over ≡ false → h.world ≡ o.start
    → h.download ≡ None → IsGame o [] h
new_game o h fits setup crew admins journal carried frame top openings cost over world download = record {
  fits = fits;
  taken = tt;
  few = omega arith;
  held = record {
    setup = setup;
    journal = journal;
    carried = ap (λ (n : ℕ). drop n []) carried;
    some = omega (arith, carried);
    frame = frame;
    top = top;
    openings = openings;
    cost = cost;
    over = over;
    world = world;
    alive = λ going. record { crew = crew; admins = admins; left = ap left_in download };
  };
}

-- ---- the time

above_all : (n conn : ℕ) (ms : List Member) → n < conn → AllByRecursion (λ (c : ℕ). c ≤ n) (map (λ (m : Member). m.conn) ms)
    → AllByRecursion (λ (m : Member). m.conn < conn) ms
above_all n conn [] less all = tt
above_all n conn (m ∷ ms) less all = let one : m.conn ≤ n = all.0 in (omega (arith, one, less), above_all n conn ms less all.1)

taken_by : (o : Origin) (t : Table) (now : Now) (input : Input) → Fits o.setup → Ordered t → IsNear o t.frame t.top → t.frame ≤ 4000000000
    → now.frame ≡ t.frame → now.top ≡ t.top → Comes t input → IsTaken t.members now input
taken_by o t now (Open conn) fits order near low frame top comes =
    let next : conn ≡ t.openings + 1 = comes in
    (omega (arith, next), above_all t.openings conn t.members (omega (arith, next)) order.under)
taken_by o t now (Msg conn msg) fits order near low frame top comes = tt
taken_by o t now (Bad conn) fits order near low frame top comes = tt
taken_by o t now (Shut conn) fits order near low frame top comes = tt
taken_by o t now (Own command) fits order near low frame top comes = tt
taken_by o t now (Kick client) fits order near low frame top comes = tt
taken_by o t now (Say scope to text) fits order near low frame top comes = comes
taken_by o t now Tick fits order near low frame top comes =
    let ahead = near.ahead in
    let few = near.near in
    let most : o.setup.frame_freq ≤ 64 = fits.frame_freq.1 in
    (omega (arith, ahead, frame, top), omega (arith, few, most, low, top))

-- what can come can be planned
pub can_be_planned : (o : Origin) (es : List Event) (ms : List Member) (now : Now) (input : Input) → Fits o.setup
    → ms ≡ (table_of o es).members → now.frame ≡ (table_of o es).frame → now.top ≡ (table_of o es).top → Comes (table_of o es) input
    → IsTaken ms now input
can_be_planned o es ms now input fits is frame top comes =
    subst (λ (x : List Member). IsTaken x now input) (sym is)
    (taken_by o (table_of o es) now input fits (is-ordered o es) (is-near o es) (is-low o es) frame top comes)

next_opening : (t : Table) (input : Input) → Comes t input → IsNextOpening t.openings input
next_opening t (Open conn) comes = comes
next_opening t (Msg conn msg) comes = tt
next_opening t (Bad conn) comes = tt
next_opening t (Shut conn) comes = tt
next_opening t (Own command) comes = tt
next_opening t (Kick client) comes = tt
next_opening t (Say scope to text) comes = tt
next_opening t Tick comes = tt

pub is_time : (o : Origin) (es : List Event) (now : Now) (input : Input) → now.frame ≡ (table_of o es).frame
    → now.top ≡ (table_of o es).top → now.live ≡ living_in o (table_of o es) → length now.live ≡ 15
    → now.left ≡ length (left_of o (table_of o es)) → Comes (table_of o es) input → IsTimeOf o (table_of o es) now input
is_time o es now input frame top live many left comes = record {
  frame = frame;
  top = top;
  live = sym live;
  many = many;
  left = sym left;
  queued = is-queue o es;
  next = next_opening (table_of o es) input comes;
}

-- ---- what can be taken

-- where an event can be taken the game goes on
pub goes_on : (t : Table) (e : Event) → takes t e ≡ true → t.over ≡ false
goes_on t e is = not_first t.over (names_live t e) is
  where
    not_first : (x y : Bool) → not x && y ≡ true → x ≡ false
    not_first true y so = absurd cc
    not_first false y so = refl

-- and what it names is live
pub names : (t : Table) (e : Event) → takes t e ≡ true → names_live t e ≡ true
names t e is = second t.over (names_live t e) is
  where
    second : (x y : Bool) → not x && y ≡ true → y ≡ true
    second true y so = absurd cc
    second false y so = so

-- who is live and no member is an admin
pub is_aside : (t : Table) (conn : ℕ) → is_live t conn ≡ true → member_of t conn ≡ None → is_some (admin_of t conn) ≡ true
is_aside t conn live none = by_member (member_of t conn) (is_some (admin_of t conn)) none live
  where
    by_member : (x : Option Member) (b : Bool) → x ≡ None → (is_some x || b) ≡ true → b ≡ true
    by_member None b none so = so
    by_member (Some m) b none so = absurd cc

-- a plan of the members that are held is one of the table's members
pub planned_here : (g : Played) (h : Held) (now : Now) (input : Input) (p : Planned) → IsSeen g h → (table g).over ≡ false
    → Plans h.members.setup h.members.crew now input p → Plans g.origin.setup (crew_of g.origin (table g)) now input p
planned_here g h now input p s going plans =
    subst (λ (x : Setup). Plans x (crew_of g.origin (table g)) now input p) s.game.held.setup
    (subst (λ (x : Crew). Plans h.members.setup x now input p) (s.game.held.alive going).crew plans)
