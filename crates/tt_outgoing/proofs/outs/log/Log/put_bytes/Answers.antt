use Rattle.std.proofs.Common.{◌∙◌, List, ℕ, ap, sym, subst, length, arith}
use Rattle.tt_outgoing.specs.Outgoing.{plain, bytes_of, end_of, IsHeld}
use Rattle.tt_outgoing.proofs.OutsParts.{begin_by_end}
use Rattle.tt_outgoing.proofs.OutsSeats.{bytes_keep, held_bytes}
use Rattle.tt_outgoing.proofs.outs.log.Log.put_bytes.Goals as goal

pub returns-clause-before : goal.returns-clause-before
returns-clause-before c k lt =
    let t = plain c.args.self.now in
    let by = begin_by_end t.base (end_of t) t.parts c.requires.sound.rising k lt in omega (arith, by, ap length c.as_slice.ensures.value)

pub returns-clause-waits : goal.returns-clause-waits
returns-clause-waits c d =
    let t = plain c.args.self.now in
    ap (λ (l : List ℕ). bytes_of d t.base l t.parts) c.put_all.ensures.items ∙ bytes_keep t c.args.bytes.now c.requires.sound d

pub returns-clause-held : goal.returns-clause-held
returns-clause-held c seats h =
    let t = plain c.args.self.now in
    subst (λ (l : List ℕ). IsHeld (record t { tail = l }) seats) (sym c.put_all.ensures.items)
    (held_bytes t c.args.bytes.now seats (omega (arith, c.requires.room, c.requires.sound.bytes)) h)
