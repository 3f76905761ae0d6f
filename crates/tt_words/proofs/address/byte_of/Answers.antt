use Rattle.std.proofs.Common.{arith}
use Rattle.tt_words.proofs.AddressLaws.{one_number}
use Rattle.tt_words.proofs.address.byte_of.Goals as goal

pub returns-then-number-gt255-clause-none : goal.returns-then-number-gt255-clause-none
returns-then-number-gt255-clause-none c n small e =
    let found = c.in_ok-number.ensures in
    let same = one_number c.args.digits.now c.in_ok-number.number n found.small (omega (arith, small)) found.found e in
    let more = c.if-number-gt255.true in
    omega (arith, same, small, more)
