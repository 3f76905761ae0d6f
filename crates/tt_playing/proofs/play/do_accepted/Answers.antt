use Rattle.std.proofs.Common.{sym, subst, List, ℕ}
use Rattle.std.specs.Prelude.{OnOk}
use Rattle.tt_log.specs.declared.script.line.Line1.{Line1}
use Rattle.tt_playing.specs.Attached.{misled}
use Rattle.tt_playing.specs.Played.{did, on_client}
use Rattle.tt_playing.specs.Playing.{IsAt}
use Rattle.tt_playing.proofs.play.do_accepted.Goals as goal

pub returns-in-Down-clause-at : goal.returns-in-Down-clause-at
returns-in-Down-clause-at c o p at =
    subst (λ (l : Line1). OnOk c.bring_down.result (IsAt o c.bring_down.new.play (did o p l))) (sym c.in-Down.is)
    (c.bring_down.ensures.at o p at)

pub returns-in-Run-clause-at : goal.returns-in-Run-clause-at
returns-in-Run-clause-at c o p at =
    subst (λ (l : Line1). OnOk c.run.result (IsAt o c.run.new.play (did o p l))) (sym c.in-Run.is) (c.run.ensures.at o p at)

pub returns-in-Pump-clause-at : goal.returns-in-Pump-clause-at
returns-in-Pump-clause-at c o p at =
    subst (λ (l : Line1). OnOk c.pump.result (IsAt o c.pump.new.play (did o p l))) (sym c.in-Pump.is) (c.pump.ensures.at o p at)

pub returns-in-Do-clause-at : goal.returns-in-Do-clause-at
returns-in-Do-clause-at c o p at =
    subst (λ (l : Line1). OnOk c.order.result (IsAt o c.order.new.play (did o p l))) (sym c.in-Do.is) (c.order.ensures.at o p at)

pub returns-in-Forge-clause-at : goal.returns-in-Forge-clause-at
returns-in-Forge-clause-at c o p at =
    subst (λ (l : Line1). OnOk c.forge.result (IsAt o c.forge.new.play (did o p l))) (sym c.in-Forge.is)
    (subst (λ (xs : List ℕ). OnOk c.forge.result (IsAt o c.forge.new.play (on_client c.in-Forge.conn (misled xs) p)))
    c.bytes-in-Forge.ensures.bytes (c.forge.ensures.at o p at))
