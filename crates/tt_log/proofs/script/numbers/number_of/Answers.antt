use Rattle.tt_log.proofs.ValueLaws.{number_is}
use Rattle.tt_log.proofs.script.numbers.number_of.Goals as goal

pub returns-clause-read : goal.returns-clause-read
returns-clause-read c =
    number_is c.args.digits.now c.number_of.result c.number_of.ensures.found c.number_of.ensures.small c.number_of.ensures.none
