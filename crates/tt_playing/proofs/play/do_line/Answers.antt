use Rattle.std.proofs.Common.{◌∙◌, sym, subst}
use Rattle.tt_playing.specs.Played.{Played}
use Rattle.tt_playing.specs.Playing.{IsAt}
use Rattle.std.specs.Prelude.{OnOk}
use Rattle.tt_playing.proofs.Lines.{done_so}
use Rattle.tt_playing.proofs.play.do_line.Goals as goal

pub returns-then-is_refused-clause-at : goal.returns-then-is_refused-clause-at
returns-then-is_refused-clause-at c o p at =
    subst (λ (q : Played). OnOk c.refuse.result (IsAt o c.refuse.new.play q))
    (sym (done_so o c.args.play.now p c.args.line.now _ at (sym c.is_refused.ensures.refused ∙ c.if-is_refused.true)))
    (c.refuse.ensures.at o p at)

pub returns-else-is_refused-clause-at : goal.returns-else-is_refused-clause-at
returns-else-is_refused-clause-at c o p at =
    subst (λ (q : Played). OnOk c.do_accepted.result (IsAt o c.do_accepted.new.play q))
    (sym (done_so o c.args.play.now p c.args.line.now _ at (sym c.is_refused.ensures.refused ∙ c.if-is_refused.false)))
    (c.do_accepted.ensures.at o p at)
