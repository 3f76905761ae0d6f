use Rattle.std.proofs.Common.{◌∙◌, List, ℕ, ap, sym, subst, ◌+◌}
use Rattle.tt_outgoing.specs.Outgoing.{plain, bytes_of, IsHeld}
use Rattle.tt_outgoing.proofs.OutsSeats.{front_keeps, held_front}
use Rattle.tt_outgoing.proofs.outs.settling.drop_bytes.Goals as goal

pub returns-clause-held : goal.returns-clause-held
returns-clause-held c seats h =
    let t = plain c.args.log.now in
    let n = c.unneeded-dead.result in
    subst (λ (l : List ℕ). IsHeld (record t { tail = l; base = t.base + n }) seats) (sym c.drop_front.ensures.items)
    (held_front t n seats c.unneeded-dead.ensures.few c.unneeded-dead.ensures.rising h)

pub returns-clause-waits : goal.returns-clause-waits
returns-clause-waits c d low =
    let t = plain c.args.log.now in
    let n = c.unneeded-dead.result in
    ap (λ (l : List ℕ). bytes_of d (t.base + n) l t.parts) c.drop_front.ensures.items ∙ front_keeps t n c.unneeded-dead.ensures.rising d
