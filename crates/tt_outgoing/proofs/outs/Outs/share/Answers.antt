use Rattle.std.proofs.Common.{◌≡◌, ◌∙◌, ◌++◌, [], List, ℕ, ap, sym, ◌-◌, ◌≤◌, arith, length, drop}
use Rattle.std.proofs.lemmas.Bool.{eqb-true}
use Rattle.std.proofs.lemmas.List.{append-nil, drop_at}
use Rattle.tt_outgoing.specs.Waiting.{Waiting, opened, list_of, told}
use Rattle.tt_outgoing.specs.Outgoing.{plain, waits_in}
use Rattle.tt_outgoing.proofs.OutsSeats.{lists_length, list_is, none_of_length, told_nothing}
use Rattle.tt_outgoing.proofs.outs.Outs.share.Goals as goal

pub returns-then-is_empty-clause-told : goal.returns-then-is_empty-clause-told
returns-then-is_empty-clause-told c d low high =
    let none : c.args.bytes.now ≡ [] =
    none_of_length c.args.bytes.now (eqb-true (length c.args.bytes.now) 0 (sym c.is_empty.ensures ∙ c.if-is_empty.true)) in
    sym (append-nil (list_of c.args.self.now d))
    ∙ ap (λ (l : List ℕ). list_of c.args.self.now d ++ l)
    (sym (ap (λ (b : List ℕ). told c.args.conns.now d b) none ∙ told_nothing c.args.conns.now d))

pub tell_each-requires-clause-opened : goal.tell_each-requires-clause-opened
tell_each-requires-clause-opened c k d lt =
    let o = c.self.inside in
    let is = c.requires.opened k d lt in
    (is.0, omega (arith, is.1, lists_length (plain o.log) 1 o.seats.items, ap opened c.self.view_is))

pub returns-clause-told : goal.returns-clause-told
returns-clause-told c d low high =
    let o = c.self.inside in
    let t = plain o.log in
    let le : d ≤ length o.seats.items = omega (arith, high, lists_length t 1 o.seats.items, ap opened c.self.view_is) in
    let put = c.put_bytes-start.ensures in
    let bytes : drop (c.put_bytes-start.result - c.put_bytes-start.new.self.base) c.put_bytes-start.new.self.tail.items ≡ c.args.bytes.now =
    ap (λ (l : List ℕ). drop (c.put_bytes-start.result - c.put_bytes-start.new.self.base) l) put.tail
    ∙ drop_at o.log.tail.items c.args.bytes.now (c.put_bytes-start.result - c.put_bytes-start.new.self.base)
    (omega (arith, put.start, put.base)) in
    list_is (plain c.tell_each.new.log) c.tell_each.new.seats.items d low (omega (arith, le, c.tell_each.ensures.opened))
    ∙ c.tell_each.ensures.told d low
    ∙ ap (λ (l : List ℕ). waits_in (plain c.put_bytes-start.new.self) d ++ told c.args.conns.now d l) bytes
    ∙ ap (λ (l : List ℕ). l ++ told c.args.conns.now d c.args.bytes.now) (put.waits d ∙ sym (list_is t o.seats.items d low le)
    ∙ ap (λ (v : Waiting). list_of v d) c.self.view_is)

pub returns-clause-opened : goal.returns-clause-opened
returns-clause-opened c =
    let o = c.self.inside in
    omega (
      arith,
      lists_length (plain c.tell_each.new.log) 1 c.tell_each.new.seats.items,
      c.tell_each.ensures.opened,
      lists_length (plain o.log) 1 o.seats.items,
      ap opened c.self.view_is,
    )
