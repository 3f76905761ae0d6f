use Rattle.std.proofs.Common.{◌≡◌, List, ℕ, refl, sym, ap, subst, ◌∙◌}
use Rattle.std.specs.Io.KnownBytes.{Appends}
use Rattle.std.proofs.KnownBytes.{Appends-nil}
use Rattle.tt_client.specs.Calls.{Submit}
use Rattle.tt_client.specs.Held.{with_call}
use Rattle.tt_play_file.specs.declared.line.Act.{Act}
use Rattle.tt_session.specs.Acting.{client_by, text_by, IsOther}
use Rattle.tt_session.proofs.acting.do_line.Goals as goal

pub returns-in-Ok : goal.returns-in-Ok
returns-in-Ok g c =
    let held = g.K.Sink.held c.args.sink.now in
    let said : c.submit.new.self ≡ with_call c.args.player.now (Submit c.args.player.now.player.company c.in-Do.command) =
    (let raw = c.in-Ok.ensures.said in let tie = c.in-Do.command-is in cc) in (
      said ∙ ap (λ (a : Act). client_by a c.args.player.now) (sym c.in-Do.is),
      subst (λ (t : List ℕ). Appends held held t) (sym (ap (λ (a : Act). text_by a c.args.player.now) c.in-Do.is)) (Appends-nil held),
      refl,
      subst IsOther (sym c.in-Do.is) tt,
    )
