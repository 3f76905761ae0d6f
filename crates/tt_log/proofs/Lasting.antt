-- Whatever comes behind, a company that lives goes on living.
use Rattle.std.proofs.Common.{◌≡◌, ℕ, zero, suc, ◌+◌, ◌≤◌, Bool, true, false, List, ◌++◌, refl, sym, subst, arith}
use Rattle.std.specs.Prelude.{fold, ◌-◌}
use Rattle.std.proofs.lemmas.List.Sums.{fold-append}
use Rattle.tt_edge.specs.declared.event.Event.{Event}
use Rattle.tt_edge.specs.declared.event.Event.TheVariants.{Open, Packet, Broken, Shut, Tick, Stop}
use Rattle.tt_world.specs.declared.command.Entry.{Entry}
use Rattle.tt_world.specs.World.{WorldState}
use Rattle.tt_rules.specs.Companies.{living}
use Rattle.tt_log.specs.Origin.{Origin, world_at}
use Rattle.tt_log.specs.Table.{Table, first, living_in}
use Rattle.tt_log.specs.Deed.{where_}
use Rattle.tt_log.specs.Events.{by_event, stepped, taken, takes}
use Rattle.tt_log.specs.History.{table_of}
use Rattle.tt_log.specs.Seats.{Lives}
use Rattle.tt_log.proofs.Clock.{event-same, from-all, is-near, taken-run, ticked-is}
use Rattle.tt_log.proofs.Entries.{world-stays}
use Rattle.tt_log.proofs.Living.{Lasts, next-lasts}

event-frame : (o : Origin) (e : Event) (t : Table) → t.frame ≤ (by_event o e t).table.frame
event-frame o Tick t = let s = (ticked-is o t).frame in omega (arith, s)
event-frame o (Open door peer) t = let s = (event-same o (Open door peer) t refl).frame in omega (arith, s)
event-frame o (Packet conn kind body) t = let s = (event-same o (Packet conn kind body) t refl).frame in omega (arith, s)
event-frame o (Broken conn) t = let s = (event-same o (Broken conn) t refl).frame in omega (arith, s)
event-frame o (Shut conn) t = let s = (event-same o (Shut conn) t refl).frame in omega (arith, s)
event-frame o Stop t = omega arith

frame-by : (b : Bool) (o : Origin) (e : Event) (t : Table) → t.frame ≤ (where_ b (taken o e) t).table.frame
frame-by true o e t = let s = (taken-run o e t).frame in let l = event-frame o e t in omega (arith, s, l)
frame-by false o e t = omega arith

frame-rises : (o : Origin) (es fs : List Event) → (table_of o es).frame ≤ (table_of o (es ++ fs)).frame
frame-rises o es fs =
    let a : Table = table_of o es in
    let later : a.frame ≤ (fold (stepped o) a fs).frame = from-all o (λ (u : Table). a.frame ≤ u.frame)
    (λ e t l. let k : t.frame ≤ (stepped o t e).frame = frame-by (takes t e) o e t in omega (arith, k, l)) fs a (omega arith) in
    subst (λ (u : Table). a.frame ≤ u.frame) (sym (fold-append (stepped o) (first o) es fs)) later

frames-last : (o : Origin) (journal : List Entry) (f k : ℕ) → Lasts (living (world_at o journal f)) (living (world_at o journal (f + k)))
frames-last o journal f zero n is = subst (λ (g : ℕ). Lives (living (world_at o journal g)) n) {x = f} {y = f + zero} (omega arith) is
frames-last o journal f (suc k) n is =
    subst (λ (g : ℕ). Lives (living (world_at o journal g)) n) {x = (f + k) + 1} {y = f + suc k} (omega arith)
    (next-lasts o journal (f + k) n (frames-last o journal f k n is))

pub lives-on : (o : Origin) (es fs : List Event) (n : ℕ) → Lives (living_in o (table_of o es)) n
    → Lives (living_in o (table_of o (es ++ fs))) n
lives-on o es fs n is =
    let a : Table = table_of o es in
    let b : Table = table_of o (es ++ fs) in
    let low : a.frame ≤ b.frame = frame-rises o es fs in
    let same : world_at o b.journal a.frame ≡ world_at o a.journal a.frame = world-stays o es fs a.frame (is-near o es).ahead in
    subst (λ (g : ℕ). Lives (living (world_at o b.journal g)) n) {x = a.frame + (b.frame - a.frame)} {y = b.frame} (omega (arith, low))
    (frames-last o b.journal a.frame (b.frame - a.frame) n
    (subst (λ (w : WorldState). Lives (living w) n) (sym same) is))
