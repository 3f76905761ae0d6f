use Rattle.std.proofs.Common.{◌≡◌, ℕ, List, [], true, false, ◌∙◌, sym, ap}
use Rattle.tt_client.specs.Held.{Held, fed_on}
use Rattle.tt_client.specs.Player.{is_on}
use Rattle.tt_client.specs.Runs.{running}
use Rattle.tt_client.proofs.Lockstep.{feeds}
use Rattle.tt_client.proofs.Feeding.{fed_joined, fed_off, held_by}
use Rattle.tt_client.proofs.client.Client.feed.Goals as goal

pub returns-then-not-is_on-clause-fed : goal.returns-then-not-is_on-clause-fed
returns-then-not-is_on-clause-fed c =
    let i = c.self.inside in
    let off : is_on running i.login i.seat ≡ false = sym (c.is_on.ensures.on i.login) ∙ c.if-not-is_on.true in
    fed_off c.args.self.now c.args.piece.now (ap (λ (h : Held). is_on running h.login h.player) (sym c.self.view_is) ∙ off)

pub hear-requires : goal.hear-requires
hear-requires c = let i = c.self.inside in record { on = sym (c.is_on.ensures.on i.login) ∙ c.if-not-is_on.false }

pub returns-in-Ok-clause-fed : goal.returns-in-Ok-clause-fed
returns-in-Ok-clause-fed c =
    let i = c.self.inside in
    let piece = c.args.piece.now in
    let on : is_on running i.login i.seat ≡ true = sym (c.is_on.ensures.on i.login) ∙ c.if-not-is_on.false in
    c.in-Ok.ensures.heard
    ∙ ap (λ (xs : List ℕ). fed_on [] (held_by i.login i.seat xs i.at)) c.in_ok-extend_from_slice.ensures.items
    ∙ fed_joined i.login i.seat i.rest.items piece i.at on
    ∙ ap (λ (h : Held). fed_on piece h) c.self.view_is

pub returns-then-not-is_on-clause-in_step : goal.returns-then-not-is_on-clause-in_step
returns-then-not-is_on-clause-in_step c =
    feeds c.clients_are_in_step.ensures.sent c.args.self.now c.args.self.now c.args.piece.now (returns-then-not-is_on-clause-fed c)

pub returns-in-Ok-clause-in_step : goal.returns-in-Ok-clause-in_step
returns-in-Ok-clause-in_step c =
    feeds c.clients_are_in_step.ensures.sent c.args.self.now c.hear.new.self c.args.piece.now (returns-in-Ok-clause-fed c)
