use Rattle.std.proofs.Common.{◌≡◌, Some}
use Rattle.tt_replay.specs.Statuses.{form_of}
use Rattle.tt_replay.proofs.Answering.{written, partly, refused, differing, never_refused, checked_alone}
use Rattle.tt_replay.proofs.replay.answer_input.Goals as goal

pub returns-in-Err-BadLine-clause-refused : goal.returns-in-Err-BadLine-clause-refused
returns-in-Err-BadLine-clause-refused g c three =
    let asked : form_of c.args.args.now ≡ Some c.in-Some.form = cc in
    refused _ c.args.args.now c.in-Some.form c.in-Ok.input.items _ c.in-Err-BadLine.line _ _ _ c.in-Ok.ensures.whole asked
    c.deref.ensures.value c.in-Ok.ensures.within
    (c.in-Err-BadLine.ensures.bad c.in-Err-BadLine.line cc) (c.refused.ensures.told three)

pub returns-in-Err-BadLine-clause-complete : goal.returns-in-Err-BadLine-clause-complete
returns-in-Err-BadLine-clause-complete g c form input also is within fits quiet whole =
    let asked : form_of c.args.args.now ≡ Some c.in-Some.form = cc in
    absurd (never_refused _ c.args.args.now c.in-Some.form form c.in-Ok.input.items _ input c.in-Err-BadLine.line c.in-Ok.ensures.whole
    asked c.deref.ensures.value (c.in-Err-BadLine.ensures.bad c.in-Err-BadLine.line cc) also is fits)

pub returns-in-Ok-write_all-clause-done : goal.returns-in-Ok-write_all-clause-done
returns-in-Ok-write_all-clause-done g c zero =
    let asked : form_of c.args.args.now ≡ Some c.in-Some.form = cc in
    written _ c.args.args.now c.in-Some.form c.in-Ok.input.items _ c.in-Ok-answer_of.answer.items _ _ _ c.in-Ok.ensures.whole asked
    c.deref.ensures.value c.in-Ok.ensures.within
    c.in-Ok-answer_of.ensures.answer c.deref-2.ensures.value c.in-Ok-write_all.ensures.all

pub returns-clause-partly : goal.returns-clause-partly
returns-clause-partly g c five =
    let asked : form_of c.args.args.now ≡ Some c.in-Some.form = cc in
    partly _ c.args.args.now c.in-Some.form c.in-Ok.input.items _ c.in-Ok-answer_of.answer.items _ _ _ c.in-Ok.ensures.whole asked
    c.deref.ensures.value c.in-Ok.ensures.within
    c.in-Ok-answer_of.ensures.answer c.deref-2.ensures.value c.in-Err.ensures.front

pub returns-in-Err-Differs-clause-differs : goal.returns-in-Err-Differs-clause-differs
returns-in-Err-Differs-clause-differs g c one =
    let asked : form_of c.args.args.now ≡ Some c.in-Some.form = cc in
    let found = c.in-Err-Differs.ensures.differs c.in-Err-Differs.place cc in
    differing _ c.args.args.now c.in-Some.form c.in-Ok.input.items _ c.in-Err-Differs.place _ _ _ c.in-Ok.ensures.whole asked found.0
    c.deref.ensures.value c.in-Ok.ensures.within found.1 (c.differing.ensures.told one)

pub returns-in-Err-Differs-clause-complete : goal.returns-in-Err-Differs-clause-complete
returns-in-Err-Differs-clause-complete g c form input also is within fits quiet whole =
    let asked : form_of c.args.args.now ≡ Some c.in-Some.form = cc in
    let found = c.in-Err-Differs.ensures.differs c.in-Err-Differs.place cc in
    checked_alone c.differing.result c.args.args.now c.in-Some.form form asked also found.0 c.differing.ensures.status
