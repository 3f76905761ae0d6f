use Rattle.std.proofs.Common.{arith}
use Rattle.tt_words.proofs.AddressLaws.{one_number}
use Rattle.tt_words.proofs.address.port_of.Goals as goal

pub returns-then-number-gt65535-clause-none : goal.returns-then-number-gt65535-clause-none
returns-then-number-gt65535-clause-none c n small e =
    let found = c.in_ok-number.ensures in
    let same = one_number c.args.digits.now c.in_ok-number.number n found.small (omega (arith, small)) found.found e in
    let more = c.if-number-gt65535.true in
    omega (arith, same, small, more)
