use Rattle.std.proofs.Common.{◌≡◌, ◌∙◌, List, ℕ, ap, sym, subst, ◌-◌, arith, length, take, drop}
use Rattle.std.proofs.lemmas.List.{length-take}
use Rattle.tt_outgoing.specs.declared.outs.seat.Seat.{Seat}
use Rattle.tt_outgoing.specs.Outgoing.{plain, waits_in, seat_of, IsHeld}
use Rattle.tt_outgoing.proofs.OutsTakes.{held_take}
use Rattle.tt_outgoing.proofs.outs.taking.take_some.Goals as goal

pub returns-clause-held : goal.returns-clause-held
returns-clause-held c =
    let t = plain c.args.log.now in
    let u = plain c.take_from-first.new.log in
    let seats = c.args.seats.now.items in
    let conn = c.args.conn in
    let n = c.min-n.result in
    let had = c.seat_of-had.result in
    let is_had : had ≡ seat_of seats conn = c.seat_of-had.ensures ∙ ap (λ (l : List Seat). seat_of l conn) c.as_slice.ensures.value in
    let now : Seat = record { first = c.take_from-first.result; behind = had.behind; left = had.left - n } in
    let size : length (take n c.args.out.now) ≡ n = omega (arith, length-take n c.args.out.now, c.min-n.ensures) in
    let took = c.take_from-first.ensures in
    subst (λ (s : List Seat). IsHeld u s) (sym c.set_seat.ensures)
    (held_take conn n t u seats now c.requires.held took.keeps c.requires.opened.0 c.requires.opened.1 took.first took.passed
    (ap (λ (s : Seat). s.behind) is_had) (ap (λ (s : Seat). s.left - n) is_had) (took.rest
    ∙ ap (λ (k : ℕ). drop k (waits_in t conn)) size))
