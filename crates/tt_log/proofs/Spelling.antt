-- All that a connection is told has its spelling, so it is read again, and is small.
use Rattle.std.proofs.Common.{ℕ, ◌+◌, ◌≤◌, ◌<◌, List, [], ◌∷◌, refl, ap, arith}
use Rattle.std.specs.Prelude.{◌^◌, Result, fold}
use Rattle.std.specs.Result.{result_ok}
use Rattle.std.specs.List.{AllByRecursion}
use Rattle.tt_frame.proofs.TableLaws.{again}
use Rattle.tt_edge.specs.declared.event.Event.{Event}
use Rattle.tt_game.specs.declared.message.GameMsg.{GameMsg}
use Rattle.tt_game.specs.Apart as games
use Rattle.tt_game.specs.Messages as game_rows
use Rattle.tt_admin.specs.declared.message.AdminMsg.{AdminMsg}
use Rattle.tt_admin.specs.Apart as admins
use Rattle.tt_admin.specs.Messages as admin_rows
use Rattle.tt_log.specs.Origin.{Origin, IsOrigin}
use Rattle.tt_log.specs.Table.{Table, first}
use Rattle.tt_log.specs.Deed.{Said, game, admin, Deed}
use Rattle.tt_log.specs.Filling.{Filling}
use Rattle.tt_log.specs.Tellings.{filling}
use Rattle.tt_log.specs.Events.{deed, last_frame, stepped, takes}
use Rattle.tt_log.specs.History.{AreEvents, IsEvent, journal_of, table_of}
use Rattle.tt_log.specs.PacketRules.{told_command}
use Rattle.tt_world.specs.declared.command.Entry.{Entry}
use Rattle.tt_log.specs.Told.{heard, heard_from, told_by}
use Rattle.tt_log.specs.Spelled.{AreSpelled, IsReadAgain, IsSmall, IsSpelled}
use Rattle.tt_log.proofs.Lists.{all-append, all-so}
use Rattle.tt_log.proofs.Clock.{is-near}
use Rattle.tt_log.proofs.Counting.{Low, is-low, low-by}
use Rattle.tt_log.proofs.Numbers.{IsPaid, step-paid, first-paid}
use Rattle.tt_log.proofs.Sending.{AreSent, IsSent}
use Rattle.tt_log.specs.Ranges.{FitsEntry}
use Rattle.tt_log.proofs.Ranges.{FitsFilling, command-spelled, FitsSteps, FitsTable, short-entries, told-spelled}
use Rattle.tt_log.proofs.Worlds.{world-good}
use Rattle.tt_log.proofs.Fitting.{Fitting, deed-fits}

-- ---- histories

-- how a table is between events
pub record Lasts (o : Origin) (t : Table) : Type 0 where
  pub fits : FitsTable o t
  pub low : Low t
  pub paid : IsPaid o t

filling-fits : (o : Origin) (before behind : Table) → IsOrigin o → behind.frame ≤ last_frame → FitsTable o before → FitsTable o behind
    → FitsFilling (filling o before behind)
filling-fits o before behind ok low old h = record {
  frame = omega (arith, low);
  world = world-good o behind.journal behind.frame ok (short-entries behind.journal h.journal);
  before = world-good o before.journal before.frame ok (short-entries before.journal old.journal);
  journal = h.journal;
}

-- what an event makes of it, and what it tells
pub record Tells (o : Origin) (t : Table) (e : Event) : Type 0 where
  pub lasts : Lasts o (stepped o t e)
  pub said : FitsSteps (deed o e t).told

pub event-tells : (o : Origin) (e : Event) (t : Table) → IsOrigin o → IsEvent e → Lasts o t → Tells o t e
event-tells o e t ok bytes h =
    let low : Low (stepped o t e) = low-by (takes t e) o e t refl h.low in
    let paid : IsPaid o (stepped o t e) = step-paid o e t ok h.paid in
    let few = paid.few in
    let made : Fitting o e ok bytes t (deed o e t).told (stepped o t e) = deed-fits o e ok bytes t in
    let fits = made.fits low.least (omega (arith, few)) h.fits in
    record { lasts = record { fits = fits.0; low = low; paid = paid }; said = fits.1 }

pub first-lasts : (o : Origin) → IsOrigin o → Lasts o (first o)
first-lasts o ok = record {
  fits = record { members = tt; few = omega arith; own = tt; journal = tt; near = omega arith };
  low = record { least = omega arith; over = λ going. omega arith };
  paid = first-paid o ok;
}

pub from-lasts : (o : Origin) (es : List Event) (t : Table) → IsOrigin o → AreEvents es → Lasts o t → Lasts o (fold (stepped o) t es)
from-lasts o [] t ok are h = h
from-lasts o (e ∷ es) t ok are h = from-lasts o es (stepped o t e) ok are.1 (event-tells o e t ok are.0 h).lasts

-- a table between events is in range
pub it-lasts : (o : Origin) (es : List Event) → IsOrigin o → AreEvents es → Lasts o (table_of o es)
it-lasts o es ok are = from-lasts o es (first o) ok are (first-lasts o ok)

heard-sent : (o : Origin) (c : ℕ) (es : List Event) (t : Table) → IsOrigin o → AreEvents es → Lasts o t
    → AreSent (heard_from o t es c)
heard-sent o c [] t ok are h = tt
heard-sent o c (e ∷ es) t ok are h =
    let d : Deed = deed o e t in
    let f : Filling = filling o t d.table in
    let p : Tells o t e = event-tells o e t ok are.0 h in
    all-append IsSent (told_by o t e c) (heard_from o (stepped o t e) es c)
    (told-spelled c o f d.told ok (filling-fits o t d.table ok p.lasts.low.least h.fits p.lasts.fits) p.said)
    (heard-sent o c es (stepped o t e) ok are.1 p.lasts)

all-sent : (o : Origin) (es : List Event) (c : ℕ) → IsOrigin o → AreEvents es → AreSent (heard o es c)
all-sent o es c ok are = heard-sent o c es (first o) ok are (first-lasts o ok)

-- all that a connection is told has its spelling, and is small
pub all-spelled : (o : Origin) (es : List Event) (c : ℕ) → IsOrigin o → AreEvents es → AreSpelled (heard o es c)
all-spelled o es c ok are = all-so IsSent IsSpelled (heard o es c) (λ s a. a.0) (all-sent o es c ok are)

pub all-small : (o : Origin) (es : List Event) (c : ℕ) → IsOrigin o → AreEvents es → AllByRecursion IsSmall (heard o es c)
all-small o es c ok are = all-so IsSent IsSmall (heard o es c) (λ s a. a.1) (all-sent o es c ok are)

-- ---- what follows

pub spelled-again : (s : Said) → IsSpelled s → IsReadAgain s
spelled-again (game m) is =
    ap (λ (r : Result GameMsg ℕ). result_ok r) (again game_rows.messages (games.kind_of m) (games.body_bytes m) m is)
spelled-again (admin m) is =
    ap (λ (r : Result AdminMsg ℕ). result_ok r) (again admin_rows.messages (admins.kind_of m) (admins.body_bytes m) m is)

-- so it is read again
pub all-read : (o : Origin) (es : List Event) (c : ℕ) → IsOrigin o → AreEvents es → AllByRecursion IsReadAgain (heard o es c)
all-read o es c ok are = all-so IsSpelled IsReadAgain (heard o es c) spelled-again (all-spelled o es c ok are)

-- what is told of each entry of the journal has its spelling
pub journal-spelled : (o : Origin) (es : List Event) → IsOrigin o → AreEvents es
    → AllByRecursion (λ (e : Entry). IsSpelled (game (told_command e))) (journal_of o es)
journal-spelled o es ok are = all-so FitsEntry (λ (e : Entry). IsSpelled (game (told_command e))) (journal_of o es)
    (λ (e : Entry) h. (command-spelled e h).0) (it-lasts o es ok are).fits.journal

-- the frame above the permitted one is a number too
pub top-small : (o : Origin) (es : List Event) → IsOrigin o → (table_of o es).top + 1 < 2 ^ 32
top-small o es ok =
    let near = (is-near o es).near in
    let low = is-low o es in
    let freq : o.setup.frame_freq ≤ 64 = ok.setup.frame_freq.1 in
    omega (arith, near, low, freq)
