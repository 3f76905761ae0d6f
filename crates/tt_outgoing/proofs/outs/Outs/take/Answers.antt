use Rattle.std.proofs.Common.{◌∙◌, ◌++◌, List, ℕ, ap, sym, ◌≤◌, arith, length, take, drop, min}
use Rattle.tt_outgoing.specs.Waiting.{Waiting, opened, list_of}
use Rattle.tt_outgoing.specs.Outgoing.{plain}
use Rattle.tt_outgoing.proofs.OutsSeats.{lists_length, list_is}
use Rattle.tt_outgoing.proofs.outs.Outs.take.Goals as goal

pub take_some-n-requires-clause-opened : goal.take_some-n-requires-clause-opened
take_some-n-requires-clause-opened c =
    let o = c.self.inside in
    (c.requires.opened.0, omega (arith, c.requires.opened.1, lists_length (plain o.log) 1 o.seats.items, ap opened c.self.view_is))

pub returns-clause-count : goal.returns-clause-count
returns-clause-count c =
    let o = c.self.inside in
    let high : c.args.conn ≤ length o.seats.items =
    omega (arith, c.requires.opened.1, lists_length (plain o.log) 1 o.seats.items, ap opened c.self.view_is) in
    let listed = ap (λ (v : Waiting). list_of v c.args.conn) (sym c.self.view_is)
    ∙ list_is (plain o.log) o.seats.items c.args.conn c.requires.opened.0 high in
    c.take_some-n.ensures.count ∙ ap (λ (l : List ℕ). min (length c.args.out.now) (length l)) (sym listed)

pub returns-clause-taken : goal.returns-clause-taken
returns-clause-taken c =
    let o = c.self.inside in
    let high : c.args.conn ≤ length o.seats.items =
    omega (arith, c.requires.opened.1, lists_length (plain o.log) 1 o.seats.items, ap opened c.self.view_is) in
    let listed = ap (λ (v : Waiting). list_of v c.args.conn) (sym c.self.view_is)
    ∙ list_is (plain o.log) o.seats.items c.args.conn c.requires.opened.0 high in
    c.take_some-n.ensures.taken ∙ ap (λ (l : List ℕ). take c.take_some-n.result l ++ drop c.take_some-n.result c.args.out.now) (sym listed)

pub returns-clause-rest : goal.returns-clause-rest
returns-clause-rest c =
    let o = c.self.inside in
    let conn = c.args.conn in
    let high : conn ≤ length o.seats.items =
    omega (arith, c.requires.opened.1, lists_length (plain o.log) 1 o.seats.items, ap opened c.self.view_is) in
    let listed = ap (λ (v : Waiting). list_of v conn) (sym c.self.view_is)
    ∙ list_is (plain o.log) o.seats.items conn c.requires.opened.0 high in
    list_is (plain c.settle.new.log) c.take_some-n.new.seats.items conn c.requires.opened.0
    (omega (arith, high, c.take_some-n.ensures.opened))
    ∙ c.settle.ensures.waits conn c.requires.opened.0
    ∙ c.take_some-n.ensures.rest
    ∙ ap (λ (l : List ℕ). drop c.take_some-n.result l) (sym listed)

pub returns-clause-others : goal.returns-clause-others
returns-clause-others c d low le ne =
    let o = c.self.inside in
    let inside : d ≤ length o.seats.items = omega (arith, le, lists_length (plain o.log) 1 o.seats.items, ap opened c.self.view_is) in
    list_is (plain c.settle.new.log) c.take_some-n.new.seats.items d low (omega (arith, inside, c.take_some-n.ensures.opened))
    ∙ c.settle.ensures.waits d low
    ∙ c.take_some-n.ensures.others d low ne
    ∙ sym (list_is (plain o.log) o.seats.items d low inside)
    ∙ ap (λ (v : Waiting). list_of v d) c.self.view_is

pub returns-clause-opened : goal.returns-clause-opened
returns-clause-opened c =
    let o = c.self.inside in
    omega (
      arith,
      lists_length (plain c.settle.new.log) 1 c.take_some-n.new.seats.items,
      c.take_some-n.ensures.opened,
      lists_length (plain o.log) 1 o.seats.items,
      ap opened c.self.view_is,
    )
