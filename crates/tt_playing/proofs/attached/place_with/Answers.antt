use Rattle.std.proofs.Common.{arith}
use Rattle.tt_playing.proofs.Lines.{placed}
use Rattle.tt_playing.proofs.attached.place_with.Goals as goal

pub overflow_sub-result : goal.overflow_sub-result
overflow_sub-result c = let there = placed c.args.play.now c.args.conn c.requires.client in omega (arith, there.is)

pub returns-clause-place : goal.returns-clause-place
returns-clause-place c = let there = placed c.args.play.now c.args.conn c.requires.client in omega (arith, there.is)

pub returns-clause-within : goal.returns-clause-within
returns-clause-within c = let there = placed c.args.play.now c.args.conn c.requires.client in omega (arith, there.is, there.low)
