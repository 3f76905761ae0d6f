use Rattle.std.proofs.Common.{◌∙◌, List, ap, sym, subst, length, ◌≤◌, ◌<◌, ◌^◌, ◌+◌, arith}
use Rattle.tt_outgoing.specs.declared.outs.seat.Seat.{Seat}
use Rattle.tt_outgoing.specs.Waiting.{Waiting, list_of, opened}
use Rattle.tt_outgoing.specs.Outgoing.{plain, lists_in, IsHeld}
use Rattle.tt_outgoing.proofs.OutsSeats.{lists_length, list_is, held_add, nothing_yet}
use Rattle.tt_outgoing.proofs.outs.Outs.add.Goals as goal

pub overflow_cast-result : goal.overflow_cast-result
overflow_cast-result c =
    let o = c.self.inside in
    omega (arith, c.len.ensures, c.in_ok-push.ensures.len, c.requires, lists_length (plain o.log) 1 o.seats.items, ap opened c.self.view_is)

pub invariant_of-self-2 : goal.invariant_of-self-2
invariant_of-self-2 c =
    let o = c.self.inside in
    let few : length o.seats.items + 1 < 2 ^ 32 = omega (
      arith,
      c.requires,
      lists_length (plain o.log) 1 o.seats.items,
      ap opened c.self.view_is,
    ) in
    subst (λ (l : List Seat). IsHeld (plain o.log) l) (sym c.in_ok-push.ensures.items)
    (held_add (plain o.log) o.seats.items c.self.invariant few)

pub returns-clause-number : goal.returns-clause-number
returns-clause-number c =
    let o = c.self.inside in
    omega (arith, c.len.ensures, c.in_ok-push.ensures.len, lists_length (plain o.log) 1 o.seats.items, ap opened c.self.view_is)

pub returns-clause-opened : goal.returns-clause-opened
returns-clause-opened c =
    let o = c.self.inside in
    omega (
      arith,
      c.in_ok-push.ensures.len,
      lists_length (plain o.log) 1 o.seats.items,
      lists_length (plain o.log) 1 c.push.new.self.items,
      ap opened c.self.view_is,
    )

pub returns-clause-lists : goal.returns-clause-lists
returns-clause-lists c d low high =
    let o = c.self.inside in
    let t = plain o.log in
    let le : d ≤ length o.seats.items = omega (arith, high, lists_length t 1 o.seats.items, ap opened c.self.view_is) in
    list_is t c.push.new.self.items d low (omega (arith, le, c.in_ok-push.ensures.len))
    ∙ sym (list_is t o.seats.items d low le)
    ∙ ap (λ (v : Waiting). list_of v d) c.self.view_is

pub returns-clause-nothing : goal.returns-clause-nothing
returns-clause-nothing c =
    let o = c.self.inside in
    let t = plain o.log in
    let seats = c.push.new.self.items in
    let size = lists_length t 1 seats in
    let more = c.in_ok-push.ensures.len in
    list_is t seats (length (lists_in t 1 seats)) (omega (arith, size, more)) (omega (arith, size))
    ∙ nothing_yet t o.seats.items (length (lists_in t 1 seats)) c.self.invariant (omega (arith, size, more))
