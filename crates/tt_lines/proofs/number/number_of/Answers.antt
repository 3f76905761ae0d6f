use Rattle.tt_lines.specs.Digits.{StartsPlain}
use Rattle.tt_lines.proofs.Decimals.{decimal_plain}
use Rattle.tt_lines.proofs.number.number_of.Goals as goal

pub returns-else-starts_plain-clause-none : goal.returns-else-starts_plain-clause-none
returns-else-starts_plain-clause-none c = λ n lt is.
    let plain : StartsPlain c.args.digits.now = rw is (decimal_plain n lt) in
    let no = c.if-starts_plain.ensures.1 plain in
    absurd cc
