use Rattle.tt_gc.proofs.ChangesLaws.{there_of}
use Rattle.tt_gc.proofs.planning.there.Goals as goal

pub returns-clause-there : goal.returns-clause-there
returns-clause-there c = there_of c.args.parts.now c.args.conn c.connection.result c.connection.ensures
