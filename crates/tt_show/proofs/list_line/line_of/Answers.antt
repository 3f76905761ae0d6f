use Rattle.tt_show.proofs.ListLaws.{no_word, other_word, other_digits, line_found}
use Rattle.tt_show.proofs.list_line.line_of.Goals as goal

pub returns-in_default-clause-none : goal.returns-in_default-clause-none
returns-in_default-clause-none c = no_word c.args.text.now c.in_default.ensures.none

pub returns-in_default-family_of-clause-none : goal.returns-in_default-family_of-clause-none
returns-in_default-family_of-clause-none c = other_word c.args.text.now c.in-Some.word.now c.in-Some.digits.now c.in-Some.ensures.word
    c.in-Some.ensures.one c.in_default-family_of.ensures.none

pub returns-in_default-2-clause-none : goal.returns-in_default-2-clause-none
returns-in_default-2-clause-none c = other_digits c.args.text.now c.in-Some.word.now c.in-Some.digits.now c.in-Some.ensures.word
    c.in-Some.ensures.one (rw c.in_default-2.is at c.in_ok-bytes.ensures.none)

pub returns-clause-found : goal.returns-clause-found
returns-clause-found c = line_found c.args.text.now c.in-Some.word.now c.in-Some.digits.now c.in-Some-2.bytes.items
    c.in-Some-family_of.family c.in-Some.ensures.word c.in-Some-family_of.ensures.found (rw c.in-Some-2.is at c.in_ok-bytes.ensures.found)
