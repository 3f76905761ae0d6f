use Rattle.tt_log.proofs.Stamping.{live-stamped, are-kept}
use Rattle.tt_log.proofs.Ordering.{all-served}
use Rattle.tt_log.proofs.Prefixes.{stamped-front}
use Rattle.tt_in_step.proofs.stamped_once.Goals as goal

pub returns-clause-players : goal.returns-clause-players
returns-clause-players c o es conn m is = live-stamped o es conn m is

pub returns-clause-fronts : goal.returns-clause-fronts
returns-clause-fronts c o es fs conn m is = stamped-front o es fs conn m is

pub returns-clause-servers : goal.returns-clause-servers
returns-clause-servers c o es = all-served o es

pub returns-clause-senders : goal.returns-clause-senders
returns-clause-senders c o es = (are-kept 0 o es).senders
