-- What putting a change in force stands on: facts of a game, its table and a change of it.
use Rattle.std.proofs.Common.{◌≡◌, ◌∙◌, ap, sym, subst, ℕ, ◌+◌, ◌≤◌, ◌<◌, Bool, true, false, List, [], ◌∷◌, arith, length, refl}
use Rattle.std.specs.Prelude.{◌^◌, ◌||◌, cond, drop}
use Rattle.tt_edge.specs.declared.event.Event.{Event}
use Rattle.tt_edge.specs.Event.{is_tick}
use Rattle.tt_log.specs.declared.deed.What.{What}
use Rattle.tt_log.specs.declared.deed.What.TheVariants.{Msg, ToAdmin, MapBegin, MapPieces, Sync, Entries, Stamp, End}
use Rattle.tt_log.specs.Admin.{Admin}
use Rattle.tt_log.specs.Events.{by_event, last_frame, takes}
use Rattle.tt_log.specs.History.{table_of}
use Rattle.tt_log.specs.Member.{Member}
use Rattle.tt_log.specs.Origin.{Origin}
use Rattle.tt_log.specs.Table.{Table}
use Rattle.tt_log.specs.Tick.{left_of}
use Rattle.tt_log.proofs.Clock.{over-is-empty}
use Rattle.tt_log.proofs.Counting.{is-low}
use Rattle.tt_admin_desk.specs.Seats.{opening, seats}
use Rattle.tt_members.specs.declared.step.Step.{Step}
use Rattle.tt_members.specs.Crew.{Crew}
use Rattle.tt_members.specs.Steps.{steps_in}
use Rattle.tt_outgoing.specs.Carrying as carrying
use Rattle.tt_outgoing.specs.Sources.{four_pieces}
use Rattle.tt_outgoing.proofs.Carrying.{carried-on}
use Rattle.tt_table.specs.declared.change.Change.{Change}
use Rattle.tt_table.specs.Change.{committed_by, seated, steps_of}
use Rattle.tt_table.specs.Does.{IsChange, begins_map, is_begin}
use Rattle.tt_table.specs.Held.{Held, IsAlive, IsGame}
use Rattle.tt_table.specs.Putting.{HasSeat, one_more, told_on}
use Rattle.tt_table.proofs.Behind.{GoesOn}
use Rattle.tt_table.proofs.Clocks.{going}
use Rattle.tt_table.proofs.Paid.{few_openings, is_paid}
use Rattle.tt_table.proofs.Seats.{has-seat, one-more-admin, one-more-by}

-- ---- the download

same-begin : (w : What) → carrying.is_begin w ≡ is_begin w
same-begin MapBegin = refl
same-begin (Msg m) = refl
same-begin (ToAdmin r) = refl
same-begin MapPieces = refl
same-begin Sync = refl
same-begin (Entries frame) = refl
same-begin (Stamp e) = refl
same-begin End = refl

same-begins : (admins : List Admin) (steps : List Step) → carrying.begins_map (steps_in admins steps) ≡ begins_map steps
same-begins admins [] = refl
same-begins admins (s ∷ steps) =
    ap (λ (b : Bool). b || carrying.begins_map (steps_in admins steps)) (same-begin s.what)
    ∙ ap (λ (b : Bool). is_begin s.what || b) (same-begins admins steps)

told-on : (b : Bool) (left : List ℕ) → cond b (drop four_pieces left) left ≡ told_on b left
told-on true left = refl
told-on false left = refl

pub goes-on : (o : Origin) (es : List Event) (e : Event) (c : Change) → IsChange o e (table_of o es) c
    → GoesOn o e (table_of o es) (by_event o e (table_of o es)).table c
goes-on o es e c is =
    let t : Table = table_of o es in
    let law = carried-on o es e in
    let begins : begins_map (steps_of c) ≡ carrying.begins_map (by_event o e t).told =
    sym (same-begins t.admins (steps_of c)) ∙ ap carrying.begins_map is.does.told in
    record {
      begun = λ so. law.begun (sym begins ∙ so);
      goes = λ none there. law.goes (sym begins ∙ none) there ∙ told-on (is_tick e) (left_of o t);
    }

-- ---- numbers

one-more-le : (b : Bool) → one_more b 0 ≤ 1
one-more-le true = omega arith
one-more-le false = omega arith

module _ (o : Origin) (es : List Event) (h : Held) (game : IsGame o es h) where
  pub low-frame : h.frame ≤ last_frame
  low-frame = let is = game.held.frame in let low = is-low o es in omega (arith, is, low)

  module _ (e : Event) (taken : takes (table_of o es) e ≡ true) where
    alive : IsAlive o (table_of o es) h
    alive = game.held.alive (going (table_of o es) e taken)

    pub few-open : h.openings + 1 < 2 ^ 32
    few-open =
        let few = few_openings o es game.fits (going (table_of o es) e taken) in
        let is = game.held.openings in
        omega (arith, few, is)

    pub few-opened : (b : Bool) (n : ℕ) → n ≡ one_more b 0 → h.openings + n < 2 ^ 32
    few-opened b n is = let few = few-open in let one = one-more-le b in omega (arith, few, one, is)

    pub cheap : h.cost < 2 ^ 31
    cheap =
        let less = (is_paid o es game.fits).going (going (table_of o es) e taken) in
        let most = game.fits.cost.1 in
        let is = game.held.cost in
        omega (arith, less, most, is)

    pub seat-there : (c : Change) → IsChange o e (table_of o es) c → HasSeat c.seating h.admins
    seat-there c is = subst (λ (xs : List Admin). HasSeat c.seating xs) (sym alive.admins) (has-seat o es e c is)

    pub few-members : (c : Change) (room : ℕ) (ms : List Member) (crew : Crew) → ms ≡ crew.members
        → crew ≡ committed_by c.plan h.members.crew → length (table_of o es).members + 1 ≤ room → length ms ≤ room
    few-members c room ms crew is committed most =
        let more = one-more-by c.plan h.members.crew in
        let same : length ms ≡ length (committed_by c.plan h.members.crew).members =
        ap (λ (xs : List Member). length xs) (is ∙ ap (λ (x : Crew). x.members) committed) in
        let before : length h.members.crew.members ≡ length (table_of o es).members =
        ap (λ (x : Crew). length x.members) alive.crew in
        omega (arith, more, same, before, most)

    pub few-admins : (c : Change) (room : ℕ) (admins : List Admin)
        → ((t : Table) → admins ≡ seated c.seating (seats h.admins (opening h.openings h.frame t)))
        → length (table_of o es).admins + 1 ≤ room → length admins ≤ room
    few-admins c room admins is most =
        let t : Table = seats h.admins (opening h.openings h.frame (table_of o es)) in
        let more = one-more-admin c.seating t in
        let same : length admins ≡ length (seated c.seating t) = ap (λ (xs : List Admin). length xs) (is (table_of o es)) in
        let before : length h.admins ≡ length (table_of o es).admins = ap (λ (xs : List Admin). length xs) alive.admins in
        omega (arith, more, same, before, most)

-- where a game is over nobody is there, else whom it holds
most-by : (b : Bool) (o : Origin) (es : List Event) (h : Held) → IsGame o es h → (table_of o es).over ≡ b
    → (length (table_of o es).members ≤ length h.members.crew.members) × (length (table_of o es).admins ≤ length h.admins)
most-by true o es h game is =
    let none = over-is-empty o es is in
    let members : length (table_of o es).members ≡ 0 = ap (λ (xs : List Member). length xs) none.0 in
    let admins : length (table_of o es).admins ≡ 0 = ap (λ (xs : List Admin). length xs) none.1 in
    (omega (arith, members), omega (arith, admins))
most-by false o es h game is =
    let alive = game.held.alive is in
    let members : length h.members.crew.members ≡ length (table_of o es).members = ap (λ (x : Crew). length x.members) alive.crew in
    let admins : length h.admins ≡ length (table_of o es).admins = ap (λ (xs : List Admin). length xs) alive.admins in
    (omega (arith, members), omega (arith, admins))

pub most-there : (o : Origin) (es : List Event) (h : Held) → IsGame o es h
    → (length (table_of o es).members ≤ length h.members.crew.members) × (length (table_of o es).admins ≤ length h.admins)
most-there o es h game = most-by (table_of o es).over o es h game refl
