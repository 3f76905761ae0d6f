use Rattle.std.proofs.Common.{◌≡◌, List, [], ◌∷◌, fold, refl, sym, ap, subst, ◌∙◌}
use Rattle.std.specs.List.{AllByRecursion}
use Rattle.tt_log.specs.Lines.{IsLine}
use Rattle.tt_log.specs.declared.script.line.Line1.{Line1}
use Rattle.tt_playing.specs.Played.{Played, done}
use Rattle.tt_playing.specs.Playing.{IsAt}
use Rattle.tt_hour_run.proofs.played.do_lines.Goals as goal

pub loop-line-init : goal.loop-line-init
loop-line-init c = record { lines = c.requires.lines; at = λ o p at. (p, at, refl) }

pub do_and_drop-requires : goal.do_and_drop-requires
do_and_drop-requires c =
    let game = c.requires.stands in
    let now = c.loop-line.invariant.at game.0 game.1 game.2 in
    let each = subst (AllByRecursion IsLine) c.in-Some.ensures c.loop-line.invariant.lines in
    record { stands = (game.0, now.0, now.1); line = each.0 }

pub loop-line-preserved : goal.loop-line-preserved
loop-line-preserved c =
    let each = subst (AllByRecursion IsLine) c.in-Some.ensures c.loop-line.invariant.lines in
    record {
      lines = each.1;
      at = λ o p at. (
          let now = c.loop-line.invariant.at o p at in (
            done o now.0 c.in-Some.line,
            c.in_ok-do_and_drop-in-Some.ensures.at o now.0 now.1,
            sym (ap (λ (ls : List Line1). fold (done o) now.0 ls) c.in-Some.ensures) ∙ now.2,
          )
          );
    }

pub returns-in-None : goal.returns-in-None
returns-in-None c = λ o p at. (
    let now = c.loop-line.invariant.at o p at in
    subst (λ (q : Played). IsAt o c.loop-line.play q) (sym (ap (λ (ls : List Line1). fold (done o) now.0 ls) c.in-None.ensures.0) ∙ now.2)
    now.1
    )
