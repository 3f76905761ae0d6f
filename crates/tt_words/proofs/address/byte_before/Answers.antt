use Rattle.std.proofs.Common.{◌∙◌, sym, arith}
use Rattle.tt_words.proofs.AddressLaws.{before_mark, if_none, no_mark}
use Rattle.tt_words.proofs.address.byte_before.Goals as goal

pub returns-in_err-digits-clause-none : goal.returns-in_err-digits-clause-none
returns-in_err-digits-clause-none c = if_none c.from_residual.result _
    (λ n rest small e. no_mark c.args.mark n c.args.text.now rest c.in_err-digits.ensures.none e)

pub returns-in_err-number-clause-none : goal.returns-in_err-number-clause-none
returns-in_err-number-clause-none c = if_none c.from_residual-in_err-number.result _ (λ n rest small e.
    let cut = c.in_ok-digits.ensures in
    let parts = before_mark c.args.mark n c.in_ok-digits.digits.now c.in_ok-digits.rest.now rest c.requires.mark
    (omega (arith, small)) cut.one (sym cut.word ∙ e) in
    c.in_err-number.ensures.none n small parts.0)

pub returns-clause-only : goal.returns-clause-only
returns-clause-only c n rest small e =
    let cut = c.in_ok-digits.ensures in
    let parts = before_mark c.args.mark n c.in_ok-digits.digits.now c.in_ok-digits.rest.now rest c.requires.mark
    (omega (arith, small)) cut.one (sym cut.word ∙ e) in
    sym parts.1
