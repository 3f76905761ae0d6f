use Rattle.std.proofs.Common.{List, sym, subst, ◌+◌, arith}
use Rattle.tt_outgoing.specs.declared.outs.log.Part.{Part}
use Rattle.tt_outgoing.specs.Outgoing.{plain, IsSound, IsHeld}
use Rattle.tt_outgoing.proofs.OutsLogs.{sound_drop}
use Rattle.tt_outgoing.proofs.OutsSeats.{held_drop}
use Rattle.tt_outgoing.proofs.outs.settling.drop_part.Goals as goal

pub returns-clause-sound : goal.returns-clause-sound
returns-clause-sound c =
    let t = plain c.args.log.now in
    subst (λ (l : List Part). IsSound (record t { parts = l; gone = t.gone + 1 })) (sym c.pop_front.ensures.rest)
    (sound_drop t 1 (omega (arith, c.requires.some)) c.requires.sound)

pub returns-clause-held : goal.returns-clause-held
returns-clause-held c seats h =
    let t = plain c.args.log.now in
    subst (λ (l : List Part). IsHeld (record t { parts = l; gone = t.gone + 1 }) seats) (sym c.pop_front.ensures.rest)
    (held_drop t seats c.requires.some c.requires.taken h)
