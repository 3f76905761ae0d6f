use Rattle.tt_log.specs.Origin.{game_of}
use Rattle.tt_lockstep.proofs.Journals.{world-stable, world-goes_on}
use Rattle.tt_log.proofs.laws.one_journal_one_world.Goals as goal

pub returns-clause-stable : goal.returns-clause-stable
returns-clause-stable c o f n old more a l = world-stable (game_of o) f n old more a l

pub returns-clause-goes_on : goal.returns-clause-goes_on
returns-clause-goes_on c o s k journal = world-goes_on (game_of o) s k journal
