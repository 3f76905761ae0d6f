use Rattle.std.proofs.Common.{◌∙◌, List, ap, sym, length, ◌≤◌, arith}
use Rattle.tt_outgoing.specs.declared.outs.seat.Seat.{Seat}
use Rattle.tt_outgoing.specs.Waiting.{Waiting, list_of, opened}
use Rattle.tt_outgoing.specs.Outgoing.{plain, seat_of}
use Rattle.tt_outgoing.proofs.OutsSeats.{lists_length, list_is}
use Rattle.tt_outgoing.proofs.outs.Outs.left.Goals as goal

pub seat_of-requires : goal.seat_of-requires
seat_of-requires c =
    let o = c.self.inside in (
      c.requires.opened.0,
      omega (
        arith,
        c.requires.opened.1,
        ap length c.as_slice.ensures.value,
        lists_length (plain o.log) 1 o.seats.items,
        ap opened c.self.view_is,
      ),
    )

pub returns : goal.returns
returns c =
    let o = c.self.inside in
    let t = plain o.log in
    let high : c.args.conn ≤ length o.seats.items = omega (
      arith,
      c.requires.opened.1,
      lists_length t 1 o.seats.items,
      ap opened c.self.view_is,
    ) in
    ap (λ (s : Seat). s.left) c.seat_of.ensures
    ∙ ap (λ (l : List Seat). (seat_of l c.args.conn).left) c.as_slice.ensures.value
    ∙ (c.self.invariant.each c.args.conn c.requires.opened.0 high).left
    ∙ ap length (sym (list_is t o.seats.items c.args.conn c.requires.opened.0 high))
    ∙ ap (λ (v : Waiting). length (list_of v c.args.conn)) c.self.view_is
