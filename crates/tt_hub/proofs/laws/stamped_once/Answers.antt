use Rattle.tt_log.proofs.Ordering.{all-served}
use Rattle.tt_log.proofs.Stamping.{live-stamped}
use Rattle.tt_hub.specs.Hub.{origin}
use Rattle.tt_hub.proofs.laws.stamped_once.Goals as goal

pub returns-clause-clients : goal.returns-clause-clients
returns-clause-clients c h conn m is = live-stamped (origin h) h.events conn m is

pub returns-clause-servers : goal.returns-clause-servers
returns-clause-servers c h = all-served (origin h) h.events
