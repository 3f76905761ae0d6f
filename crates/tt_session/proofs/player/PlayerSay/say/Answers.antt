use Rattle.std.proofs.Common.{drop, sym, ap, subst, ◌∙◌}
use Rattle.tt_client.specs.Calls.{Take}
use Rattle.tt_client.specs.Held.{Held}
use Rattle.tt_client.specs.Saying.{bytes_of}
use Rattle.tt_session.specs.Running.{IsSound}
use Rattle.tt_session.proofs.Sounds.{call_sound, left_to_say}
use Rattle.tt_session.proofs.player.PlayerSay.say.Goals as goal

pub invariant_of-self : goal.invariant_of-self
invariant_of-self c = subst (λ (h : Held). IsSound h.player) (sym c.take.ensures.taken) (call_sound c.self.inside.client
    (Take c.take.result)
    c.self.invariant)

pub returns-clause-rest : goal.returns-clause-rest
returns-clause-rest c =
    ap (λ (h : Held). bytes_of h.player.saying) c.take.ensures.taken
    ∙ left_to_say c.take.result c.self.inside.client.player.saying c.self.invariant.0
    ∙ ap (λ (h : Held). drop c.take.result (bytes_of h.player.saying)) c.self.view_is
