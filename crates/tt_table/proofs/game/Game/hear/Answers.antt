use Rattle.std.proofs.Common.{ap}
use Rattle.std.specs.Result.{result_ok}
use Rattle.tt_table.specs.Held.{Played}
use Rattle.tt_table.proofs.Inputs.{some_admin}
use Rattle.tt_table.proofs.Playing.{seen}
use Rattle.tt_table.proofs.Says.{hears_fit, hears_quits}
use Rattle.tt_table.proofs.game.Game.hear.Goals as goal

pub returns-in-Ok-clause-quits : goal.returns-in-Ok-clause-quits
returns-in-Ok-clause-quits c =
    hears_quits c.args.self.now _ c.self.inside.setup c.args.conn _ c.in-Ok.msg c.heard.result
    (seen _ _ _ _ _ _ c.self.invariant.0 c.self.view_is) c.requires.going
    (ap (λ (p : Played). p.origin.setup) c.self.view_is) c.heard.ensures.heard (ap result_ok c.in-Ok.ensures.exact)

pub returns-in-Ok-clause-fit : goal.returns-in-Ok-clause-fit
returns-in-Ok-clause-fit c =
    let a = some_admin _ c.requires.there in
    hears_fit c.args.self.now _ c.self.inside.setup c.args.conn c.in-Ok.msg c.heard.result
    (seen _ _ _ _ _ _ c.self.invariant.0 c.self.view_is) c.requires.going
    (ap (λ (p : Played). p.origin.setup) c.self.view_is) c.heard.ensures.heard c.look_at_scope.ensures.scope a.0 a.1
