use Rattle.std.proofs.Common.{Err, [], ◌∷◌, ◌++◌, ap, ◌∙◌}
use Rattle.tt_lines.specs.Lines.{lines_of}
use Rattle.tt_log.specs.Script.{lines_in}
use Rattle.tt_playing.specs.Begun.{origin_from}
use Rattle.tt_playing.specs.Played.{played}
use Rattle.tt_playing.proofs.Steps.{read_step, none_unread, played_snoc, played_to, start_fits}
use Rattle.tt_playing.proofs.play.play_script.Goals as goal

pub do_step-requires-clause-step : goal.do_step-requires-clause-step
do_step-requires-clause-step c =
    let read = c.loop-step.invariant.0 in
    let at = rw c.in-Ok-Some.field-0-is at (c.in-Ok-Some.ensures.step c.args.bytes.now read c.loop-step.invariant.1.0) in
    read_step _ c.args.bytes.now read c.in-Ok-Some.step at

pub do_step-requires-clause-stands : goal.do_step-requires-clause-stands
do_step-requires-clause-stands c =
    let o = origin_from c.args.start.now.setup c.args.start.now.saved.items in
    (o, played o (lines_in c.loop-step.invariant.0), c.loop-step.invariant.1.1)

pub loop-step-preserved : goal.loop-step-preserved
loop-step-preserved c =
    let read = c.loop-step.invariant.0 in
    let kept = c.loop-step.invariant.1 in
    let step = c.in-Ok-Some.step in
    let o = origin_from c.args.start.now.setup c.args.start.now.saved.items in (
      read ++ step ∷ [],
      (
        rw c.in-Ok-Some.field-0-is at (c.in-Ok-Some.ensures.step c.args.bytes.now read kept.0),
        rw (played_snoc o read step) (c.in_default.ensures.at o (played o (lines_in read)) kept.1),
        c.do_step.ensures.keeps ∙ kept.2,
      ),
    )

pub returns-in-Ok-None-clause-played : goal.returns-in-Ok-None-clause-played
returns-in-Ok-None-clause-played c =
    let kept = c.loop-step.invariant.1 in
    let none = rw c.in-Ok-None.field-0-is at c.in-Ok-None.ensures.end in
    played_to c.args.start.now.setup c.args.start.now.saved.items _ c.args.bytes.now c.loop-step.invariant.0
    c.loop-step.play c.requires.script kept.0 none.0 kept.1

pub unreachable-requires : goal.unreachable-requires
unreachable-requires c =
    let kept = c.loop-step.invariant.1 in
    let line = c.in-Err-Line.field-0-0 in
    none_unread c.args.start.now.setup c.args.start.now.saved.items (lines_of c.args.bytes.now) line c.requires.script
    (c.in-Err-Line.ensures.bad c.args.bytes.now c.loop-step.invariant.0 line kept.0 (ap Err c.in-Err-Line.field-0-is))

pub begun-requires : goal.begun-requires
begun-requires c =
    let fits = start_fits c.args.start.now.setup c.args.start.now.saved.items (lines_of c.args.bytes.now) c.requires.script in
    record { setup = fits.0; saved = fits.1 }
