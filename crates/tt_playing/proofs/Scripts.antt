-- All lines of a script, from its start on: what the clients were handed, and that the events are events of a server.
use Rattle.std.proofs.Common.{◌≡◌, ℕ, ◌+◌, ◌⊎◌, inl, inr, Bool, true, false, not, ◌==◌, List, [], ◌∷◌, ◌++◌, Option, Some}
use Rattle.std.proofs.Common.{None, refl, sym, ap, subst, ◌∙◌, arith, eqb-true}
use Rattle.std.specs.Prelude.{Err, Result, fold, length, replicate, if◌then◌else◌}
use Rattle.std.specs.List.{AllByRecursion}
use Rattle.tt_frame.specs.Text.{IsName}
use Rattle.tt_frame.proofs.TextLaws.{IsText-from_is_plain, length_of_text}
use Rattle.tt_edge.specs.declared.event.Door.TheVariants.{Main, Side}
use Rattle.tt_edge.specs.declared.event.Event.{Event}
use Rattle.tt_edge.specs.declared.event.Event.TheVariants as event
use Rattle.tt_edge.specs.Event.{opens}
use Rattle.tt_world.specs.declared.command.Code.{Code}
use Rattle.tt_world.specs.declared.command.Code.TheVariants.{IncreaseLoan, DecreaseLoan, Give, PlaceSign, RenameSign, RenameCompany}
use Rattle.tt_world.specs.declared.command.Code.TheVariants.{RenamePresident, Pause, NewCompany}
use Rattle.tt_world.specs.declared.setup.Setup.{Setup}
use Rattle.tt_world.specs.Setup.{Fits, plain}
use Rattle.tt_world.specs.World.{WorldState, start}
use Rattle.tt_map.specs.Reading.{map_in}
use Rattle.tt_map.specs.declared.bad.MapBad.{MapBad}
use Rattle.tt_map.specs.declared.bad.MapBad.TheVariants as bad
use Rattle.tt_map.proofs.MapLaws.{map_is_read}
use Rattle.tt_log.specs.Contents.{Contents}
use Rattle.tt_log.specs.Doors.{door_of}
use Rattle.tt_log.specs.Forms.{WordFits}
use Rattle.tt_log.specs.Forms as forms
use Rattle.tt_log.specs.History.{AreEvents, IsEvent}
use Rattle.tt_log.specs.Lines.{IsLine}
use Rattle.tt_log.specs.Orders.{UsesAll, words_by}
use Rattle.tt_log.specs.Origin.{IsOrigin, Origin}
use Rattle.tt_log.specs.Printing.{IsScript, IsTold}
use Rattle.tt_log.specs.Told.{sent}
use Rattle.tt_log.specs.declared.script.line.Line1.{Line1}
use Rattle.tt_log.specs.declared.script.line.Line1.TheVariants.{Open, Side as AtSide, Bytes, Shut, Tick, Stop, Join, Up, Down, Run}
use Rattle.tt_log.specs.declared.script.line.Line1.TheVariants.{Pump, Do, Forge, Expect}
use Rattle.tt_log.proofs.Beginnings.{new-game}
use Rattle.tt_log.proofs.Lists.{all-append}
use Rattle.tt_client.specs.Calls.{Advance, Take}
use Rattle.tt_client.specs.declared.login.Login.{Login}
use Rattle.tt_playing.specs.Attached.{Attached, called, changed, client_in, fresh, handed, login_of, misled, ordered, waiting_in}
use Rattle.tt_playing.specs.Begun.{origin_from, origin_in, world_from, world_or}
use Rattle.tt_playing.specs.Played.{Played, added, brought_down, brought_up, did, done, fed_more, is_gone, is_live, is_over, is_refused}
use Rattle.tt_playing.specs.Played.{joined, most, nobody, nothing, on_client, one_refused, opened, played, pumped, until_ended, until_over}
use Rattle.tt_playing.specs.Played.{with_event, with_piece, with_ticks}
use Rattle.tt_playing.proofs.Bytes.{AreBytes, by-turn, join}
use Rattle.tt_playing.proofs.PieceEvents.{GoOn, goes-on, piece-events, tick-events}
use Rattle.tt_playing.proofs.Handing.{HearsIt, hears-call, hears-forged, hears-more, hears-on, hears-order, waits}
use Rattle.tt_playing.proofs.Histories.{door-new, opened_one}
use Rattle.tt_playing.proofs.Spellings.{written-bytes}

pub record IsGood (o : Origin) (p : Played) : Type 0 where
  pub events : AreEvents p.events
  pub fed : (conn : ℕ) → AreBytes (p.fed conn)
  pub clients : (conn : ℕ) (a : Attached) → p.clients conn ≡ Some a → HearsIt o p.events conn a

-- ---- more events

grown : (o : Origin) (p : Played) (all : List Event) (stream : ℕ → List ℕ) → GoOn p.events all → ((conn : ℕ) → AreBytes (stream conn))
    → IsGood o p → IsGood o (record p { events = all; fed = stream })
grown o p all stream on fits is = record {
  events = subst AreEvents (sym on.1) (all-append IsEvent p.events on.0 is.events on.2);
  fed = fits;
  clients = λ conn a there. subst (λ (es : List Event). HearsIt o es conn a) (sym on.1)
      (hears-on o p.events on.0 conn a (is.clients conn a there));
}

with-event : (o : Origin) (e : Event) (p : Played) → IsEvent e → IsGood o p → IsGood o (with_event e p)
with-event o e p event is = grown o p (p.events ++ e ∷ []) p.fed (e ∷ [], refl, (event, tt)) is.fed is

with-ticks : (o : Origin) (n : ℕ) (p : Played) → IsGood o p → IsGood o (with_ticks o n p)
with-ticks o n p is =
    let on = goes-on (λ es. not (is_over o es)) p.events (replicate n event.Tick) (tick-events n) in
    grown o p (until_over o p.events (replicate n event.Tick)) p.fed on is.fed is

fed-fits : (conn : ℕ) (piece : List ℕ) (fed : ℕ → List ℕ) → AreBytes piece → ((c : ℕ) → AreBytes (fed c)) → (c : ℕ)
    → AreBytes (fed_more conn piece fed c)
fed-fits conn piece fed a fits c = elim (c == conn) as (λ (b : Bool). AreBytes (if b then fed c ++ piece else fed c)) [
  | true ↦ join (fed c) piece (fits c) a
  | false ↦ fits c
]

with-piece : (o : Origin) (conn : ℕ) (piece : List ℕ) (p : Played) → AreBytes piece → IsGood o p → IsGood o (with_piece o conn piece p)
with-piece o conn piece p a is =
    let more = added conn (p.fed conn) piece in
    let on = goes-on (λ es. is_live o es conn) p.events more (piece-events conn (p.fed conn) piece (is.fed conn) a) in
    grown o p (until_ended o conn p.events more) (fed_more conn piece p.fed) on (fed-fits conn piece p.fed a is.fed) is

-- ---- clients

choose : {A : Type 0} (b : Bool) (x y z : A) → (if b then x else y) ≡ z → ((b ≡ true) × (x ≡ z)) ⊎ (y ≡ z)
choose true x y z is = inl (refl, is)
choose false x y z is = inr is

on-client : (o : Origin) (conn : ℕ) (change : Attached → Attached) (p : Played)
    → ((a : Attached) → HearsIt o p.events conn a → HearsIt o p.events conn (change a)) → IsGood o p → IsGood o (on_client conn change p)
on-client o conn change p goes is = record {
  events = is.events;
  fed = is.fed;
  clients = λ c a there. elim (choose (c == conn) (changed change (p.clients conn)) (p.clients c) (Some a) there) [
    | inl own ↦ subst (λ (k : ℕ). HearsIt o p.events k a) (sym (eqb-true c conn own.0)) (by (p.clients conn) refl a own.1)
    | inr other ↦ is.clients c a other
  ];
}
  where
    by : (x : Option Attached) → p.clients conn ≡ x → (a : Attached) → changed change x ≡ Some a → HearsIt o p.events conn a
    by None at a there = absurd cc
    by (Some b) at a there =
        let same : change b ≡ a = cc in subst (λ (d : Attached). HearsIt o p.events conn d) same (goes b (is.clients conn b at))

opened-good : (o : Origin) (p : Played) → IsGood o p → IsGood o (opened Main p)
opened-good o p is = with-event o (event.Open Main nobody) p tt is

-- a client that has just joined
begins : (o : Origin) (es : List Event) (login : Login) → AreBytes login.revision → AreBytes login.name
    → HearsIt o (es ++ event.Open Main nobody ∷ []) (opens (es ++ event.Open Main nobody ∷ [])) (fresh login)
begins o es login revision name =
    let all = es ++ event.Open Main nobody ∷ [] in
    let count : opens all ≡ opens es + 1 = opened_one es Main in
    record {
      revision = revision;
      name = name;
      says = tt;
      some = omega (arith, count);
      opened = omega arith;
      door = ap (λ (n : ℕ). door_of all n) count ∙ door-new es Main nobody;
      within = omega arith;
      fed_is = λ plain. refl;
    }

joined-good : (o : Origin) (login : Login) (p : Played) → AreBytes login.revision → AreBytes login.name → IsGood o p
    → IsGood o (joined login p)
joined-good o login p revision name is =
    let q = opened Main p in
    let good = opened-good o p is in
    record {
      events = good.events;
      fed = good.fed;
      clients = λ c a there. elim (choose (c == opens q.events) (Some (fresh login)) (q.clients c) (Some a) there) [
        | inl own ↦ (
            let same : fresh login ≡ a = cc (own.1) in
            let here : c ≡ opens q.events = eqb-true c (opens q.events) own.0 in
            subst (λ (d : Attached). HearsIt o q.events c d) same (subst (λ (k : ℕ). HearsIt o q.events k (fresh login)) (sym here)
            (begins o p.events login revision name))
            )
        | inr other ↦ good.clients c a other
      ];
    }

-- ---- what lines do

brought-up : (o : Origin) (conn n : ℕ) (p : Played) → IsGood o p → IsGood o (brought_up o conn n p)
brought-up o conn n p is =
    let piece = waiting_in n (client_in (p.clients conn)) in
    let fits = waits o p.events conn n (p.clients conn) (is.clients conn) in
    with-piece o conn piece (on_client conn (called (Take (length piece))) p) fits
    (on-client o conn (called (Take (length piece))) p (λ a known. hears-call o p.events conn (Take (length piece)) a refl tt known) is)

brought-down : (o : Origin) (conn n : ℕ) (p : Played) → IsGood o p → IsGood o (brought_down o conn n p)
brought-down o conn n p is =
    on-client o conn (handed n (sent o p.events conn)) p (λ a known. hears-more o p.events conn n a known) is

ran : (o : Origin) (conn n : ℕ) (p : Played) → IsGood o p → IsGood o (on_client conn (called (Advance n)) p)
ran o conn n p is = on-client o conn (called (Advance n)) p (λ a known. hears-call o p.events conn (Advance n) a refl tt known) is

pumped-good : (o : Origin) (conn : ℕ) (p : Played) → IsGood o p → IsGood o (pumped o conn p)
pumped-good o conn p is =
    let run = on_client conn (called (Advance most)) (brought_down o conn most p) in
    let good = ran o conn most (brought_down o conn most p) (brought-down o conn most p is) in
    elim (is_gone o p.events conn) as (λ (b : Bool). IsGood o (if b then run else brought_up o conn most run)) [
      | true ↦ good
      | false ↦ brought-up o conn most run good
    ]

-- the text of a command that a line says
text-of : (code : Code) (n to : ℕ) (bytes : List ℕ) → AllByRecursion WordFits (words_by code n to bytes) → UsesAll code n to bytes
    → AreBytes bytes
text-of IncreaseLoan n to bytes fits uses = subst AreBytes (sym uses.1) tt
text-of DecreaseLoan n to bytes fits uses = subst AreBytes (sym uses.1) tt
text-of Give n to bytes fits uses = subst AreBytes (sym uses) tt
text-of PlaceSign n to bytes fits uses = by-turn bytes fits.1.1.0.bytes
text-of RenameSign n to bytes fits uses = by-turn bytes fits.1.1.0.bytes
text-of RenameCompany n to bytes fits uses = by-turn bytes fits.1.0.bytes
text-of RenamePresident n to bytes fits uses = by-turn bytes fits.1.0.bytes
text-of Pause n to bytes fits uses = absurd uses
text-of NewCompany n to bytes fits uses = absurd uses

did-good : (o : Origin) (p : Played) (line : Line1) → IsOrigin o → IsLine line → IsGood o p → IsGood o (did o p line)
did-good o p Open ok fits is = opened-good o p is
did-good o p AtSide ok fits is = with-event o (event.Open Side nobody) p tt is
did-good o p (Bytes conn piece) ok fits is = with-piece o conn piece p (by-turn piece fits.0.1.1.0.bytes) is
did-good o p (Shut conn) ok fits is = with-event o (event.Shut conn) p tt is
did-good o p (Tick n) ok fits is = with-ticks o n p is
did-good o p Stop ok fits is = with-event o event.Stop p tt is
did-good o p (Join name company password own) ok fits is =
    joined-good o (login_of o.setup name company password own) p (written-bytes o.setup.revision ok.revision.text)
    (by-turn name fits.0.1.0.bytes) is
did-good o p (Up conn n) ok fits is = brought-up o conn n p is
did-good o p (Down conn n) ok fits is = brought-down o conn n p is
did-good o p (Run conn n) ok fits is = ran o conn n p is
did-good o p (Pump conn) ok fits is = pumped-good o conn p is
did-good o p (Do conn command) ok fits is =
    let text = text-of command.code command.number command.to command.text fits.0.1.1 fits.1 in
    on-client o conn (ordered command) p (λ a known. hears-order o p.events conn command a text known) is
did-good o p (Forge conn bytes) ok fits is =
    on-client o conn (misled bytes) p (λ a known. hears-forged o p.events conn bytes a known) is
did-good o p (Expect line) ok fits is = is

done-good : (o : Origin) (p : Played) (line : Line1) → IsOrigin o → IsLine line → IsGood o p → IsGood o (done o p line)
done-good o p line ok fits is = elim (is_refused o p line) as (λ (b : Bool). IsGood o (if b then one_refused p else did o p line)) [
  | true ↦ record { events = is.events; fed = is.fed; clients = is.clients }
  | false ↦ did-good o p line ok fits is
]

from : (o : Origin) (lines : List Line1) (p : Played) → IsOrigin o → AllByRecursion IsLine lines → IsGood o p
    → IsGood o (fold (done o) p lines)
from o [] p ok fits is = is
from o (line ∷ lines) p ok fits is = from o lines (done o p line) ok fits.1 (done-good o p line ok fits.0 is)

pub all-good : (o : Origin) (lines : List Line1) → IsOrigin o → AllByRecursion IsLine lines → IsGood o (played o lines)
all-good o lines ok fits = from o lines nothing ok fits (record { events = tt; fed = λ conn. tt; clients = λ conn a there. absurd cc })

-- ---- the start of a script

name-of : (name own : List ℕ) → IsName own → name ≡ own → IsName name
name-of name own is same = subst IsName (sym same) is

plain-name : IsName plain.name
plain-name = record { text = IsText-from_is_plain plain.name refl; some = omega arith; fits = omega arith }

plain-revision : IsName plain.revision
plain-revision = record { text = IsText-from_is_plain plain.revision refl; some = omega arith; fits = omega arith }

plain-id : IsName plain.id
plain-id = record { text = IsText-from_is_plain plain.id refl; some = omega arith; fits = omega arith }

fits-of : (s : Setup) → IsTold s → Fits s
fits-of s is =
    let a = is.settings in
    let b = a.1.1.1.1.1 in
    let c = b.1.1.1.1.1 in
    record {
      frame_freq = (a.1.0.1.0.0, a.1.0.1.0.1);
      sync_freq = (a.1.1.0.1.0.0, a.1.1.0.1.0.1);
      max_clients = (a.1.1.1.0.1.0.0, a.1.1.1.0.1.0.1);
      init = (a.1.1.1.1.0.1.0.0, a.1.1.1.1.0.1.0.1);
      pass_limit = (b.0.1.0.0, b.0.1.0.1);
      download = (b.1.0.1.0.0, b.1.0.1.0.1);
      join = (b.1.1.0.1.0.0, b.1.1.0.1.0.1);
      lag = (b.1.1.1.0.1.0.0, b.1.1.1.0.1.0.1);
      cost = (b.1.1.1.1.0.1.0.0, b.1.1.1.1.0.1.0.1);
      password = length_of_text 32 s.password c.0.1.0.text;
      admin_password = length_of_text 32 s.admin_password c.1.0.1.0.text;
    }

no-map : map_in [] ≡ Err (bad.Chunk 0)
unfolding map_in
no-map = refl

started : (s : Setup) (saved : List ℕ) → IsTold s → (saved ≡ []) ⊎ forms.Fits forms.saved saved → IsOrigin (origin_from s saved)
started s saved is (inl none) =
    let own : world_from s saved ≡ start s = ap (λ (m : List ℕ). world_or (map_in m) (start s)) none
    ∙ ap (λ (r : Result WorldState MapBad). world_or r (start s)) no-map in
    subst (λ (w : WorldState). IsOrigin (record { setup = s; start = w })) (sym own)
    (new-game s (fits-of s is) is.settings.0.1.0.2 (name-of s.name plain.name plain-name is.name)
    (name-of s.revision plain.revision plain-revision is.revision) (name-of s.id plain.id plain-id is.id))
started s saved is (inr map) =
    let of = map.1 in
    let own : world_from s saved ≡ of.world =
    ap (λ (r : Result WorldState MapBad). world_or r (start s)) (map_is_read saved of.world of.is) in
    subst (λ (w : WorldState). IsOrigin (record { setup = s; start = w })) (sym own) (record {
      setup = fits-of s is;
      seed = is.settings.0.1.0.2;
      name = name-of s.name plain.name plain-name is.name;
      revision = name-of s.revision plain.revision plain-revision is.revision;
      id = name-of s.id plain.id plain-id is.id;
      start = of.is.is.told;
      early = of.day;
    })

pub script-origin : (script : Contents) → IsScript script → IsOrigin (origin_in script)
script-origin script is = started script.setup script.saved is.setup is.map
