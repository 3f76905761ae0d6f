use Rattle.std.proofs.Common.{sym, subst}
use Rattle.tt_client.specs.Calls.{Advance}
use Rattle.tt_client.specs.Held.{Held}
use Rattle.tt_session.specs.Running.{IsSound}
use Rattle.tt_session.proofs.Sounds.{call_sound}
use Rattle.tt_session.proofs.player.Player.advance.Goals as goal

pub invariant_of-self : goal.invariant_of-self
invariant_of-self c = subst (λ (h : Held). IsSound h.player) (sym c.advance.ensures.advanced) (call_sound c.self.inside.client
    (Advance c.args.frames) c.self.invariant)

pub returns-clause-sound : goal.returns-clause-sound
returns-clause-sound c = subst (λ (h : Held). IsSound h.player) c.self.view_is c.self.invariant
