-- The connection that an event is about, and how many are opened behind it.
use Rattle.std.proofs.Common.{◌≡◌, ◌⊎◌, inl, inr, ℕ, ◌+◌, ◌<◌, ◌≤◌, Bool, true, false, List, [], ◌∷◌, ◌++◌, refl, sym, ap, ap₂, ◌∙◌, arith}
use Rattle.std.specs.Prelude.{◌&&◌, cond, not}
use Rattle.std.proofs.lemmas.List.Sums.{sum_by-append}
use Rattle.tt_edge.specs.declared.event.Event.{Event}
use Rattle.tt_edge.specs.declared.event.Event.TheVariants.{Open, Packet, Broken, Shut, Tick, Stop}
use Rattle.tt_edge.specs.Event.{conn_of, is_open, opens}
use Rattle.tt_log.specs.Events.{by_event, deed, names_live, takes}
use Rattle.tt_log.specs.History.{table_of}
use Rattle.tt_log.specs.Origin.{Origin}
use Rattle.tt_log.specs.Table.{Table, is_live}
use Rattle.tt_log.specs.Tellings.{tellings}
use Rattle.tt_log.proofs.Counting.{one_if, taken-counts}
use Rattle.tt_log.proofs.Ended.{unopened as unopened-is}
use Rattle.tt_log.proofs.Refusing.{table-snoc}
use Rattle.tt_outgoing.specs.Staging.{MayAllBeTold, Packet as Parcel, packets_of}
use Rattle.tt_outgoing.proofs.Packets.{packets_for}
use Rattle.tt_outgoing.proofs.Tellable.{may-all-be-told}
use Rattle.tt_table.specs.Ending.{Ended, ended_admins, ended_members}
use Rattle.tt_hub.specs.Laws.{is-opened}
use Rattle.tt_hub.specs.Running.{farewells}
use Rattle.tt_hub.proofs.Seats.{old-or-new}
use Rattle.tt_hub.proofs.Telling.{all-told}

going : (x y : Bool) → not x && y ≡ true → (x ≡ false) × (y ≡ true)
going true y e = absurd cc
going false y e = (refl, e)

pub may-take : (t : Table) (e : Event) → t.over ≡ false → names_live t e ≡ true → takes t e ≡ true
may-take t e goes names = ap₂ (λ (x y : Bool). not x && y) goes names

-- ---- which connection

-- a connection that lives was opened
live-by : (o : Origin) (es : List Event) (c : ℕ) → is_live (table_of o es) c ≡ true
    → (c ≤ (table_of o es).openings) ⊎ ((table_of o es).openings < c) → c ≤ (table_of o es).openings
live-by o es c live (inl low) = low
live-by o es c live (inr high) = absurd (let dead = (unopened-is o es c high).0 in cc)

live-opened : (o : Origin) (es : List Event) (c : ℕ) → is_live (table_of o es) c ≡ true → c ≤ (table_of o es).openings
live-opened o es c live = live-by o es c live (old-or-new c (table_of o es).openings)

-- it is opened, or comes next
pub about-next : (o : Origin) (es : List Event) (e : Event) → takes (table_of o es) e ≡ true → conn_of es e ≤ (table_of o es).openings + 1
about-next o es (Open door peer) is =
    let goes = going (table_of o es).over true is in
    let same = (is-opened o es).all goes.0 in omega (arith, same)
about-next o es (Packet conn kind body) is =
    let low = live-opened o es conn (going (table_of o es).over (is_live (table_of o es) conn) is).1 in omega (arith, low)
about-next o es (Broken conn) is =
    let low = live-opened o es conn (going (table_of o es).over (is_live (table_of o es) conn) is).1 in omega (arith, low)
about-next o es (Shut conn) is =
    let low = live-opened o es conn (going (table_of o es).over (is_live (table_of o es) conn) is).1 in omega (arith, low)
about-next o es Tick is = omega arith
about-next o es Stop is = omega arith

-- ---- how many are opened behind it

openings-behind : (o : Origin) (es : List Event) (e : Event) → takes (table_of o es) e ≡ true
    → (table_of o (es ++ e ∷ [])).openings ≡ (table_of o es).openings + one_if (is_open e)
openings-behind o es e is =
    ap (λ (t : Table). t.openings) (table-snoc o es e) ∙ (taken-counts (takes (table_of o es) e) o e (table_of o es) is).0

pub enough-behind : (o : Origin) (es : List Event) (e : Event) (n : ℕ) → takes (table_of o es) e ≡ true → (table_of o es).openings ≤ n
    → conn_of es e ≤ n → (table_of o (es ++ e ∷ [])).openings ≤ n
enough-behind o es (Open door peer) n is low about =
    let goes = going (table_of o es).over true is in
    let same = (is-opened o es).all goes.0 in
    let more = openings-behind o es (Open door peer) is in omega (arith, more, same, about)
enough-behind o es (Packet conn kind body) n is low about =
    let more = openings-behind o es (Packet conn kind body) is in omega (arith, more, low)
enough-behind o es (Broken conn) n is low about = let more = openings-behind o es (Broken conn) is in omega (arith, more, low)
enough-behind o es (Shut conn) n is low about = let more = openings-behind o es (Shut conn) is in omega (arith, more, low)
enough-behind o es Tick n is low about = let more = openings-behind o es Tick is in omega (arith, more, low)
enough-behind o es Stop n is low about = let more = openings-behind o es Stop is in omega (arith, more, low)

-- a connection that is opened by it was none before
pub fresh-above : (o : Origin) (es after : List Event) (e : Event) → after ≡ es ++ e ∷ [] → is_open e ≡ true
    → (table_of o es).openings < opens after
fresh-above o es after e is opens_one =
    let sum = sum_by-append (λ (x : Event). cond (is_open x) 1 0) es (e ∷ []) in
    let one : cond {A = ℕ} (is_open e) 1 0 ≡ 1 = ap (λ (b : Bool). cond b 1 0) opens_one in
    let all : opens after ≡ opens (es ++ e ∷ []) = ap opens is in
    let low = (is-opened o es).few in omega (arith, sum, one, all, low)

-- ---- who is told

wider : (m n : ℕ) (packets : List Parcel) → m ≤ n → MayAllBeTold m packets → MayAllBeTold n packets
wider m n [] low all = tt
wider m n (p ∷ packets) low all = (
  record {
    opened = λ k d inside. let is = all.0.opened k d inside in (is.0, let l = is.1 in omega (arith, l, low));
    distinct = all.0.distinct;
  },
  wider m n packets low all.1,
)

-- all packets of an event may be told, where enough connections are opened
pub packets-may : (o : Origin) (es : List Event) (e : Event) (n : ℕ) (staged : List Parcel) (ends : Ended)
    → takes (table_of o es) e ≡ true → staged ≡ packets_of (tellings o (table_of o es) (by_event o e (table_of o es)))
    → ends.members ≡ ended_members o e (table_of o es) → ends.admins ≡ ended_admins o e (table_of o es)
    → (table_of o es).openings ≤ n → conn_of es e ≤ n → MayAllBeTold n (staged ++ farewells ends)
packets-may o es e n staged ends is staged_is ms gs low about =
    let t : Table = table_of o es in
    let all : List Parcel = packets_of (tellings o t (deed o e t)) in
    let may : MayAllBeTold (table_of o (es ++ e ∷ [])).openings all =
    packets_for (table_of o (es ++ e ∷ [])).openings (tellings o t (deed o e t)) (may-all-be-told o es e) in
    let same : staged ++ farewells ends ≡ all =
    ap (λ (l : List Parcel). l ++ farewells ends) staged_is ∙ sym (all-told o t e ends is ms gs) in
    rw same (wider (table_of o (es ++ e ∷ [])).openings n all (enough-behind o es e n is low about) may)
