use Rattle.std.proofs.Common.{ℕ, List, [], refl, inl, fold, subst, sym}
use Rattle.std.specs.List.{AllByRecursion}
use Rattle.tt_log.specs.Lines.{IsLine}
use Rattle.tt_log.specs.declared.script.line.Line1.{Line1}
use Rattle.tt_world.specs.declared.setup.Setup.{Setup}
use Rattle.tt_hour.specs.Hour.{hour_script}
use Rattle.tt_hour.proofs.ScriptLaws.{lines_fit}
use Rattle.tt_playing.specs.Begun.{origin_from, origin_in}
use Rattle.tt_playing.specs.Played.{nothing, done}
use Rattle.tt_playing.specs.Playing.{IsAt}
use Rattle.tt_hour_run.proofs.played.hour_played.Goals as goal

pub do_lines-requires : goal.do_lines-requires
do_lines-requires c =
    let play = c.in_ok-play.play in
    let first : IsAt (origin_from c.hour_setup.result []) play nothing =
    subst (λ (m : List ℕ). IsAt (origin_from c.hour_setup.result m) play nothing) c.new.ensures.items c.in_ok-play.ensures.at in
    let start : IsAt (origin_in (hour_script c.args.number)) play nothing =
    subst (λ (s : Setup). IsAt (origin_from s []) play nothing) c.hour_setup.ensures.setup first in
    record {
      stands = (origin_in (hour_script c.args.number), nothing, start);
      lines = subst (AllByRecursion IsLine) (sym c.new-2.ensures) (lines_fit c.args.number);
    }

pub returns : goal.returns
returns c =
    let play = c.in_ok-play.play in
    let game = origin_in (hour_script c.args.number) in
    let first : IsAt (origin_from c.hour_setup.result []) play nothing =
    subst (λ (m : List ℕ). IsAt (origin_from c.hour_setup.result m) play nothing) c.new.ensures.items c.in_ok-play.ensures.at in
    let start : IsAt game play nothing =
    subst (λ (s : Setup). IsAt (origin_from s []) play nothing) c.hour_setup.ensures.setup first in
    subst (λ (ls : List Line1). IsAt game c.do_lines.new.play (fold (done game) nothing ls)) c.new-2.ensures
    (c.in_ok-do_lines.ensures game nothing start)
