use Rattle.tt_log.specs.Events.{takes}
use Rattle.tt_log.proofs.Clock.{tick-runs, no-tick}
use Rattle.tt_log.proofs.Counting.{is-counted, is-low}
use Rattle.tt_log.proofs.laws.a_tick_is_a_frame.Goals as goal

pub returns-clause-runs : goal.returns-clause-runs
returns-clause-runs c o t going = tick-runs o t going

pub returns-clause-frame : goal.returns-clause-frame
returns-clause-frame c o t e other = (no-tick (takes t e) o e t other).frame

pub returns-clause-top : goal.returns-clause-top
returns-clause-top c o t e other = (no-tick (takes t e) o e t other).top

pub returns-clause-journal : goal.returns-clause-journal
returns-clause-journal c o t e other = (no-tick (takes t e) o e t other).journal

pub returns-clause-ticks : goal.returns-clause-ticks
returns-clause-ticks c o es is = (is-counted o es is).ticks

pub returns-clause-cost : goal.returns-clause-cost
returns-clause-cost c o es is = (is-counted o es is).cost

pub returns-clause-last : goal.returns-clause-last
returns-clause-last c o es = is-low o es
