use Rattle.std.proofs.Common.{◌≡◌, Option, Some, None, refl, ◌∙◌, sym, ap, arith}
use Rattle.tt_game.specs.declared.message.GameMsg.{GameMsg}
use Rattle.tt_log.specs.Shown.{Item, goes_on}
use Rattle.tt_client.specs.declared.verdict.Verdict.{Verdict}
use Rattle.tt_client.specs.Held.{phase_of}
use Rattle.tt_client.specs.Hearing.{with_news}
use Rattle.tt_client.specs.Player.{heard, told_place}
use Rattle.tt_client.specs.Runs.{running}
use Rattle.tt_client.specs.Planned.{played}
use Rattle.tt_client.specs.Verdicts.{runner_as}
use Rattle.tt_client.proofs.Playing.{not_over, plays_on, stray_play}
use Rattle.tt_client.proofs.play.Play.hear.Goals as goal

pub returns-in_default-clause-heard : goal.returns-in_default-clause-heard
returns-in_default-clause-heard c = λ login saying acked.
    let i = c.item.inside in
    let old = c.args.self.now in
    let k = c.args.base.now in
    let place : told_place i.at ≡ i.at = omega (arith, c.item.invariant) in
    let on = not_over (goes_on (phase_of old.phase)) old.off (sym c.if-is_over.ensures.over) in
    stray_play login k old old.news i.at None saying acked (plays_on old.phase old.off c.requires.stands on.0) on.1 refl place
    ∙ ap (λ (m : Option GameMsg). let x : Item = record { at = i.at; msg = m } in heard running login x (played k old saying acked)) (sym
    c.in_default.is)
    ∙ ap (λ (x : Item). heard running login x (played k old saying acked)) c.item.view_is

pub returns-in-Strays-clause-heard : goal.returns-in-Strays-clause-heard
returns-in-Strays-clause-heard c = λ login saying acked.
    let i = c.item.inside in
    let old = c.args.self.now in
    let k = c.args.base.now in
    let place : told_place i.at ≡ i.at = omega (arith, c.item.invariant) in
    let on = not_over (goes_on (phase_of old.phase)) old.off (sym c.if-is_over.ensures.over) in
    let wrong = c.in_ok-hear.ensures.heard ∙ ap (λ (v : Verdict). runner_as v (with_news k c.hear.new.news)) c.in-Strays.is in
    stray_play login k old c.hear.new.news i.at (Some c.in-Some.msg) saying acked (plays_on old.phase old.off c.requires.stands on.0) on.1
    wrong place
    ∙ ap (λ (m : Option GameMsg). let x : Item = record { at = i.at; msg = m } in heard running login x (played k old saying acked)) (sym
    c.in-Some.is)
    ∙ ap (λ (x : Item). heard running login x (played k old saying acked)) c.item.view_is
