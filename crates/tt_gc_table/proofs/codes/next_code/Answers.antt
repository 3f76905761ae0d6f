use Rattle.std.proofs.Common.{◌≡◌, ◌∙◌, sym, subst, ap}
use Rattle.std.proofs.lemmas.Bool.{false≢true}
use Rattle.tt_attempts.specs.Codes.{IsCode}
use borrow.Rule.Slice.PartMut.{put_mid}
use Rattle.tt_gc_table.specs.Codes.{next_code}
use Rattle.tt_gc_table.proofs.DrawnLaws.{code_next, put_next}
use Rattle.tt_gc_table.proofs.codes.next_code.Goals as goal

pub unreachable-requires : goal.unreachable-requires
unreachable-requires c =
    let put : put_mid 1 6 c.text.result.now c.count_on.new.text ≡ next_code c.args.code.now =
    put_next c.text.result.now c.count_on.new.text (subst IsCode (sym c.text.ensures.same) c.text.ensures.code) c.count_on.ensures
    ∙ ap next_code c.text.ensures.same in
    false≢true (c.in-None.ensures.code.1 (subst IsCode (sym put) (code_next c.args.code.now c.text.ensures.code)))

pub returns : goal.returns
returns c =
    c.in-Some.ensures.same
    ∙ put_next c.text.result.now c.count_on.new.text (subst IsCode (sym c.text.ensures.same) c.text.ensures.code) c.count_on.ensures
    ∙ ap next_code c.text.ensures.same
