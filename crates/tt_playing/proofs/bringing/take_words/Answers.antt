use Rattle.std.proofs.Common.{◌≡◌, ◌+◌, ◌-◌, ◌≤◌, ◌<◌, ◌∙◌, ℕ, List, length, drop, ap, refl, sym, subst, arith}
use Rattle.std.proofs.lemmas.List.{length-drop}
use Rattle.tt_client.specs.Calls.{Take}
use Rattle.tt_client.specs.Held.{Held, with_call}
use Rattle.tt_client.specs.Saying.{bytes_of}
use Rattle.tt_playing.proofs.Pieces.{IsTaken, taken_on, taken_all}
use Rattle.tt_playing.proofs.Sayings.{bytes_taken, take_twice}
use Rattle.tt_playing.proofs.bringing.take_words.Goals as goal

pub pieces-preserved : goal.pieces-preserved
pieces-preserved c =
    let so_far = c.pieces.invariant in
    let put = c.in_ok-count.ensures in
    let first = c.args.client.now in
    let said = first.player.saying in
    let len = length c.pieces.bytes.items in
    let count = c.in_ok-count.count in
    let next = c.say_some.new.bytes.items in
    let waits : bytes_of c.pieces.client.player.saying ≡ drop len (bytes_of said) =
    ap (λ (h : Held). bytes_of h.player.saying) so_far.client ∙ bytes_taken len said c.requires.saying in
    let more = rw waits at put.bytes in
    let many = rw waits at put.count in
    let on = taken_on (bytes_of said) c.pieces.bytes.items next 0 len (len + count) count so_far.bytes
    (omega (arith, many, length-drop len (bytes_of said))) more refl in
    record {
      bytes = subst (λ (n : ℕ). IsTaken (bytes_of said) next 0 n) (sym on.1) on.0;
      within = omega (arith, on.1, many, so_far.within);
      client = put.client ∙ ap (λ (h : Held). with_call h (Take count)) so_far.client ∙ take_twice len count first
          ∙ ap (λ (n : ℕ). with_call first (Take n)) (sym on.1);
    }

pub returns-then-count-eq0-clause-bytes : goal.returns-then-count-eq0-clause-bytes
returns-then-count-eq0-clause-bytes c =
    let so_far = c.pieces.invariant in
    let put = c.in_ok-count.ensures in
    let first = c.args.client.now in
    let said = first.player.saying in
    let len = length c.pieces.bytes.items in
    let count = c.in_ok-count.count in
    let next = c.say_some.new.bytes.items in
    let waits : bytes_of c.pieces.client.player.saying ≡ drop len (bytes_of said) =
    ap (λ (h : Held). bytes_of h.player.saying) so_far.client ∙ bytes_taken len said c.requires.saying in
    let more = rw waits at put.bytes in
    let many = rw waits at put.count in
    let on = taken_on (bytes_of said) c.pieces.bytes.items next 0 len (len + count) count so_far.bytes
    (omega (arith, many, length-drop len (bytes_of said))) more refl in
    taken_all (bytes_of said) next 0 (len + count) c.args.n on.0 (omega (arith, many, length-drop len (bytes_of said)))
    (omega (arith, on.1, many, so_far.within))
