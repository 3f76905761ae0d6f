-- An attached client: what it was handed is a front of what its connection is sent, and stays one.
use Rattle.std.proofs.Common.{◌≡◌, ℕ, zero, suc, ◌+◌, ◌≤◌, false, List, [], ◌∷◌, ◌++◌, Option, Some, None, refl, sym}
use Rattle.std.proofs.Common.{ap, subst, ◌∙◌, append_assoc, arith, length-drop, length-take, take-add, take-append-drop, true≢false}
use Rattle.std.specs.Prelude.{drop, length, take}
use Rattle.std.specs.List.{AllByRecursion}
use Rattle.std.proofs.lemmas.List.{append-nil, length-append}
use Rattle.tt_edge.specs.declared.event.Door.TheVariants.{Main, Side}
use Rattle.tt_edge.specs.declared.event.Event.{Event}
use Rattle.tt_edge.specs.Event.{opens}
use Rattle.tt_world.specs.declared.command.Command.{Command}
use Rattle.tt_log.specs.Doors.{door_of}
use Rattle.tt_log.specs.History.{AreEvents}
use Rattle.tt_log.specs.Origin.{IsOrigin, Origin}
use Rattle.tt_log.specs.Told.{sent}
use Rattle.tt_log.proofs.Going.{sent-grows}
use Rattle.tt_log.proofs.Lists.{all-append}
use Rattle.tt_client.specs.Calls.{Call, Feed, Advance, Submit, Take, fed}
use Rattle.tt_client.specs.InStep.{IsSent}
use Rattle.tt_client.specs.Saying.{bytes_of}
use Rattle.tt_playing.specs.Attached.{Attached, called, client_in, client_of, handed, misled, next_of, ordered, waiting_in}
use Rattle.tt_playing.proofs.Bytes.{AreBytes, by-place, cut}
use Rattle.tt_playing.proofs.Histories.{door-stays, opens-append}
use Rattle.tt_playing.proofs.SaidBytes.{SaysBytes, says-bytes}
use Rattle.tt_playing.proofs.SentBytes.{sent-bytes}

-- ---- lists

take-front : (n : ℕ) (xs ys : List ℕ) → n ≤ length xs → take n (xs ++ ys) ≡ take n xs
take-front zero xs ys low = refl
take-front (suc n) [] ys low = absurd (omega (arith, low))
take-front (suc n) (x ∷ xs) ys low = ap (λ (t : List ℕ). x ∷ t) (take-front n xs ys (omega (arith, low)))

take-own : (n : ℕ) (xs : List ℕ) → take (length (take n xs)) xs ≡ take n xs
take-own zero xs = refl
take-own (suc n) [] = refl
take-own (suc n) (x ∷ xs) = ap (λ (t : List ℕ). x ∷ t) (take-own n xs)

-- so many and then so many more
take-more : (m n : ℕ) (xs : List ℕ) → take m xs ++ take n (drop m xs) ≡ take (m + length (take n (drop m xs))) xs
take-more m n xs = sym (take-add m (length (take n (drop m xs))) xs ∙ ap (λ (t : List ℕ). take m xs ++ t) (take-own n (drop m xs)))

take-within : (m n : ℕ) (xs : List ℕ) → m ≤ length xs → m + length (take n (drop m xs)) ≤ length xs
take-within m n xs low = omega (arith, low, length-take n (drop m xs), length-drop m xs)

-- ---- calls

fed-both : (xs ys : List Call) → fed (xs ++ ys) ≡ fed xs ++ fed ys
fed-both [] ys = refl
fed-both (Feed piece ∷ xs) ys = ap (λ (t : List ℕ). piece ++ t) (fed-both xs ys) ∙ sym (append_assoc piece (fed xs) (fed ys))
fed-both (Advance n ∷ xs) ys = fed-both xs ys
fed-both (Submit company command ∷ xs) ys = fed-both xs ys
fed-both (Take room ∷ xs) ys = fed-both xs ys

-- ---- what is known of a client

-- Its texts are bytes; its connection was opened at the main door; and where nothing was forged to it, it was fed the bytes that were
-- handed to it, the first of all that its connection is sent.
pub record HearsIt (o : Origin) (es : List Event) (conn : ℕ) (a : Attached) : Type 0 where
  pub revision : AreBytes a.login.revision
  pub name : AreBytes a.login.name
  pub says : AllByRecursion SaysBytes a.calls
  pub some : 1 ≤ conn
  pub opened : conn ≤ opens es
  pub door : door_of es conn ≡ Some Main
  pub within : a.given ≤ length (sent o es conn)
  pub fed_is : a.forged ≡ false → fed a.calls ≡ take a.given (sent o es conn)

-- later events change nothing of it
pub hears-on : (o : Origin) (es more : List Event) (conn : ℕ) (a : Attached) → HearsIt o es conn a → HearsIt o (es ++ more) conn a
hears-on o es more conn a is =
    let grown = sent-grows o es more conn in
    let size : length (sent o (es ++ more) conn) ≡ length (sent o es conn) + length grown.0 =
    ap length grown.1 ∙ length-append (sent o es conn) grown.0 in
    record {
      revision = is.revision;
      name = is.name;
      says = is.says;
      some = is.some;
      opened = omega (arith, is.opened, opens-append es more);
      door = door-stays es more conn is.some is.opened ∙ is.door;
      within = omega (arith, is.within, size);
      fed_is = λ plain. is.fed_is plain ∙ sym (take-front a.given (sent o es conn) grown.0 is.within)
          ∙ sym (ap (λ (t : List ℕ). take a.given t) grown.1);
    }

-- a call that feeds nothing
pub hears-call : (o : Origin) (es : List Event) (conn : ℕ) (c : Call) (a : Attached) → fed (c ∷ []) ≡ [] → SaysBytes c → HearsIt o es conn a
    → HearsIt o es conn (called c a)
hears-call o es conn c a none says is = record {
  revision = is.revision;
  name = is.name;
  says = all-append SaysBytes a.calls (c ∷ []) is.says (says, tt);
  some = is.some;
  opened = is.opened;
  door = is.door;
  within = is.within;
  fed_is = λ plain. fed-both a.calls (c ∷ []) ∙ ap (λ (t : List ℕ). fed a.calls ++ t) none ∙ append-nil (fed a.calls) ∙ is.fed_is plain;
}

-- the next bytes of its connection
pub hears-more : (o : Origin) (es : List Event) (conn n : ℕ) (a : Attached) → HearsIt o es conn a
    → HearsIt o es conn (handed n (sent o es conn) a)
hears-more o es conn n a is =
    let told = sent o es conn in
    let next = next_of n told a in
    record {
      revision = is.revision;
      name = is.name;
      says = all-append SaysBytes a.calls (Feed next ∷ []) is.says (tt, tt);
      some = is.some;
      opened = is.opened;
      door = is.door;
      within = take-within a.given n told is.within;
      fed_is = λ plain. fed-both a.calls (Feed next ∷ []) ∙ ap (λ (t : List ℕ). fed a.calls ++ t) (append-nil next)
          ∙ ap (λ (t : List ℕ). t ++ next) (is.fed_is plain) ∙ take-more a.given n told;
    }

-- of one to which bytes are forged nothing more is asked
pub hears-forged : (o : Origin) (es : List Event) (conn : ℕ) (bytes : List ℕ) (a : Attached) → HearsIt o es conn a
    → HearsIt o es conn (misled bytes a)
hears-forged o es conn bytes a is = record {
  revision = is.revision;
  name = is.name;
  says = all-append SaysBytes a.calls (Feed bytes ∷ []) is.says (tt, tt);
  some = is.some;
  opened = is.opened;
  door = is.door;
  within = is.within;
  fed_is = λ plain. absurd (true≢false plain);
}

pub hears-order : (o : Origin) (es : List Event) (conn : ℕ) (command : Command) (a : Attached) → AreBytes command.text → HearsIt o es conn a
    → HearsIt o es conn (ordered command a)
hears-order o es conn command a text is = hears-call o es conn (Submit (client_of a).player.company command) a refl text is

-- what it has to say is bytes
pub waits : (o : Origin) (es : List Event) (conn n : ℕ) (x : Option Attached) → ((a : Attached) → x ≡ Some a → HearsIt o es conn a)
    → AreBytes (waiting_in n (client_in x))
waits o es conn n None known = tt
waits o es conn n (Some a) known =
    let is = known a refl in
    cut n (bytes_of (client_of a).player.saying) (says-bytes a.login a.calls is.revision is.name is.says)

-- so what it was fed is a front of what a server sent
pub is-sent : (o : Origin) (es : List Event) (conn : ℕ) (a : Attached) → IsOrigin o → AreEvents es → HearsIt o es conn a → a.forged ≡ false
    → IsSent o es conn (fed a.calls)
is-sent o es conn a ok are is plain =
    let told = sent o es conn in
    let same = is.fed_is plain in
    let at_main : door_of es conn ≡ Some Side → ⊥ = λ side. let both : Some Main ≡ Some Side = sym is.door ∙ side in cc in
    record {
      origin = ok;
      are_events = are;
      player = at_main;
      are_bytes = by-place (fed a.calls) (subst AreBytes (sym same) (cut a.given told (sent-bytes o es conn ok are at_main)));
      later = drop a.given told;
      front = sym (ap (λ (t : List ℕ). t ++ drop a.given told) same ∙ take-append-drop a.given told);
    }
