use Rattle.tt_log.proofs.Tokens.{told-then-open, told-then-one, told-one-more}
use Rattle.tt_log.proofs.facts.tokens_are_answered.Goals as goal

pub returns-clause-open : goal.returns-clause-open
returns-clause-open c o es conn m is = told-then-open o es conn m is

pub returns-clause-ended : goal.returns-clause-ended
returns-clause-ended c o es conn = told-then-one o es conn

pub returns-clause-one : goal.returns-clause-one
returns-clause-one c o es conn = told-one-more o es conn
