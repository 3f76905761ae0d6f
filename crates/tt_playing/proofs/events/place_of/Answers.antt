use Rattle.std.proofs.Common.{arith}
use Rattle.tt_hub.specs.Hub.{origin}
use Rattle.tt_playing.proofs.Histories.{live-opened}
use Rattle.tt_playing.proofs.events.place_of.Goals as goal

pub overflow_sub-result : goal.overflow_sub-result
overflow_sub-result c = (live-opened (origin c.args.hub.now) c.args.hub.now.events c.args.conn c.requires.live).some

pub returns-clause-place : goal.returns-clause-place
returns-clause-place c =
    let there = live-opened (origin c.args.hub.now) c.args.hub.now.events c.args.conn c.requires.live in omega (arith, there.some)

pub returns-clause-within : goal.returns-clause-within
returns-clause-within c =
    let there = live-opened (origin c.args.hub.now) c.args.hub.now.events c.args.conn c.requires.live in
    omega (arith, there.some, there.within)
