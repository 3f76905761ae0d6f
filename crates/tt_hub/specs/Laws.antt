-- The laws that a core owes, for the game's book, over every list of events.
use Rattle.std.proofs.Common.{◌≡◌, inl, inr, ℕ, ◌+◌, ◌≤◌, Bool, true, false, List, [], ◌∷◌, ◌++◌, refl, ap, ◌∙◌, arith}
use Rattle.std.specs.Prelude.{◌&&◌, cond, flat_map, fold, not}
use Rattle.std.proofs.lemmas.List.Sums.{sum_by-cons}
use Rattle.tt_edge.specs.declared.event.Event.{Event}
use Rattle.tt_edge.specs.declared.event.Event.TheVariants.{Open, Packet, Broken, Shut, Tick, Stop}
use Rattle.tt_edge.specs.Event.{is_open, is_taken, opens}
use Rattle.tt_edge.specs.Core.{GrowsTo, IsUnopened}
use Rattle.tt_world.specs.declared.setup.Setup.{Setup}
use Rattle.tt_world.specs.World.{WorldState}
use Rattle.tt_log.specs.Deed.{Said, spelled, where_}
use Rattle.tt_log.specs.Events.{stepped, takes, names_live, taken}
use Rattle.tt_log.specs.History.{table_of}
use Rattle.tt_log.specs.Origin.{Origin}
use Rattle.tt_log.specs.Table.{Table, first}
use Rattle.tt_log.specs.Table as table
use Rattle.tt_log.specs.Told as book
use Rattle.tt_log.proofs.Clock.{over-is-empty}
use Rattle.tt_log.proofs.Counting.{one_if, taken-counts}
use Rattle.tt_log.proofs.Ended.{ended-not-live, ended-heard, nought, unopened as unopened-is}
use Rattle.tt_log.proofs.Going.{over-for-good, sent-grows}
use Rattle.tt_log.proofs.Refusing.{heard-stays}
use Rattle.tt_hub.specs.Hub.{origin_made, is_live, is_over, sent}
use Rattle.tt_hub.specs.Hub as hub

-- ---- openings

-- no more connections were opened than there are openings; and as many, where the game goes on
pub record IsOpened (t : Table) (n : ℕ) : Type 0 where
  pub few : t.openings ≤ n
  pub all : t.over ≡ false → t.openings ≡ n

going : (x y : Bool) → not x && y ≡ true → x ≡ false
going true y e = absurd cc
going false y e = refl

-- an opening is taken where the game goes on
no-opening : (e : Event) (t : Table) → takes t e ≡ false → t.over ≡ false → is_open e ≡ false
no-opening (Open door peer) t is goes = absurd cc
no-opening (Packet conn kind body) t is goes = refl
no-opening (Broken conn) t is goes = refl
no-opening (Shut conn) t is goes = refl
no-opening Tick t is goes = refl
no-opening Stop t is goes = refl

opened-by : (b : Bool) (o : Origin) (e : Event) (t : Table) (n : ℕ) → takes t e ≡ b → IsOpened t n
    → IsOpened (where_ b (taken o e) t).table (n + one_if (is_open e))
opened-by true o e t n is h =
    let a = (taken-counts true o e t refl).0 in
    let same : t.openings ≡ n = h.all (going t.over (names_live t e) is) in
    record { few = omega (arith, a, same); all = λ goes. omega (arith, a, same) }
opened-by false o e t n is h = let l = h.few in record {
  few = omega (arith, l);
  all = λ goes. let none = ap (λ (b : Bool). one_if b) (no-opening e t is goes) in let same = h.all goes in omega (arith, same, none);
}

opened-from : (o : Origin) (es : List Event) (t : Table) (n : ℕ) → IsOpened t n → IsOpened (fold (stepped o) t es) (n + opens es)
opened-from o [] t n h = let l = h.few in record { few = omega (arith, l); all = λ goes. let same = h.all goes in omega (arith, same) }
opened-from o (e ∷ es) t n h =
    let rest = opened-from o es (stepped o t e) (n + one_if (is_open e)) (opened-by (takes t e) o e t n refl h) in
    let more = sum_by-cons (λ (x : Event). cond (is_open x) 1 0) e es in
    let l = rest.few in
    record { few = omega (arith, l, more); all = λ goes. let same = rest.all goes in omega (arith, same, more) }

pub is-opened : (o : Origin) (es : List Event) → IsOpened (table_of o es) (opens es)
is-opened o es = let a = opened-from o es (first o) 0 (record { few = omega arith; all = λ goes. refl }) in let l = a.few in
    record { few = omega (arith, l); all = λ goes. let same = a.all goes in omega (arith, same) }

-- ---- what the book says of an event that is refused, and behind the end

-- what was said is sent alike
sent-same : (said told : List Said) → said ≡ told → flat_map spelled said ≡ flat_map spelled told
sent-same said told same = ap (λ (s : List Said). flat_map spelled s) same

not-taken : (t : Table) (e : Event) → t.over ≡ true → takes t e ≡ false
not-taken t e over = ap (λ (b : Bool). not b && names_live t e) over

none-live : (o : Origin) (es : List Event) (c : ℕ) → (table_of o es).over ≡ true → table.is_live (table_of o es) c ≡ false
none-live o es c over = let none = over-is-empty o es over in rw (none.0, none.1) refl

-- ---- the laws

-- what was told stands
pub sent_grows : (made : Setup × WorldState) (es : List Event) (e : Event) (c : ℕ) → GrowsTo (sent made es c) (sent made (es ++ e ∷ []) c)
sent_grows made es e c = sent-grows (origin_made made) es (e ∷ []) c

ended-by : (b : Bool) (made : Setup × WorldState) (es : List Event) (e : Event) (c : ℕ) → is_over made es ≡ b → c ≤ opens es
    → is_live made es c ≡ false → (is_live made (es ++ e ∷ []) c ≡ false) × (sent made (es ++ e ∷ []) c ≡ sent made es c)
ended-by true made es e c over low dead = let o = origin_made made in let t = table_of o es in (
  ap (λ (u : Table). table.is_live u c) (over-for-good o es (e ∷ []) over) ∙ dead,
  sent-same (book.heard o (es ++ e ∷ []) c) (book.heard o es c) (heard-stays o es e c (not-taken t e over)),
)
ended-by false made es e c goes low dead =
    let o = origin_made made in
    let same = (is-opened o es).all goes in
    let within : c ≤ (table_of o es).openings = omega (arith, same, low) in (
      ended-not-live o es (e ∷ []) c within dead,
      sent-same (book.heard o (es ++ e ∷ []) c) (book.heard o es c) (ended-heard o es (e ∷ []) c within dead),
    )

-- an ended connection stays so, and is told no more
pub ended_stays : (made : Setup × WorldState) (es : List Event) (e : Event) (c : ℕ) → c ≤ opens es → is_live made es c ≡ false
    → (is_live made (es ++ e ∷ []) c ≡ false) × (sent made (es ++ e ∷ []) c ≡ sent made es c)
ended_stays made es e c low dead = ended-by (is_over made es) made es e c refl low dead

-- before its opening a connection is not live, and is told nothing
pub unopened : (made : Setup × WorldState) (es : List Event) (c : ℕ) → IsUnopened es c
    → (is_live made es c ≡ false) × (sent made es c ≡ [])
unopened made es c (inl none) =
    let o = origin_made made in let is = nought o es in (
      ap (λ (n : ℕ). table.is_live (table_of o es) n) none ∙ is.0,
      ap (λ (n : ℕ). book.sent o es n) none ∙ sent-same (book.heard o es 0) [] is.1,
    )
unopened made es c (inr above) =
    let o = origin_made made in
    let l = (is-opened o es).few in
    let is = unopened-is o es c (omega (arith, l, above)) in (is.0, sent-same (book.heard o es c) [] is.1)

-- where all is over no connection is live, and it stays over
pub over_is_last : (made : Setup × WorldState) (es : List Event) (e : Event) (c : ℕ) → is_over made es ≡ true
    → (is_live made es c ≡ false) × (is_over made (es ++ e ∷ []) ≡ true)
over_is_last made es e c over =
    let o = origin_made made in (none-live o es c over, ap (λ (u : Table). u.over) (over-for-good o es (e ∷ []) over) ∙ over)

-- an opening, a tick, a stop, or what names a live connection is taken
pub takes_live : (made : Setup × WorldState) (es : List Event) (e : Event) → hub.takes made es e ≡ is_taken (is_live made es) e
takes_live made es (Open door peer) = refl
takes_live made es (Packet conn kind body) = refl
takes_live made es (Broken conn) = refl
takes_live made es (Shut conn) = refl
takes_live made es Tick = refl
takes_live made es Stop = refl
