use Rattle.std.proofs.Common.{◌∙◌}
use Rattle.tt_client.proofs.noted.drop_run.Goals as goal

pub words-preserved : goal.words-preserved
words-preserved c = record {
  above = c.pop_run.ensures.above ∙ c.words.invariant.above;
  noted = λ start noted all. c.pop_run.ensures.noted start noted (c.words.invariant.noted start noted all);
}

pub returns-clause-noted : goal.returns-clause-noted
returns-clause-noted c = λ start noted all. c.pop_run.ensures.noted start noted (c.words.invariant.noted start noted all)
