use Rattle.tt_lockstep.proofs.Servers.{kept_from_start, journal_grows}
use Rattle.tt_lockstep.proofs.laws.server_facts.Goals as goal

pub returns-clause-ahead : goal.returns-clause-ahead
returns-clause-ahead g c = λ game steps. (kept_from_start game steps).ahead

pub returns-clause-near : goal.returns-clause-near
returns-clause-near g c = λ game steps. (kept_from_start game steps).near

pub returns-clause-rising : goal.returns-clause-rising
returns-clause-rising g c = λ game steps. (kept_from_start game steps).rising

pub returns-clause-stamped : goal.returns-clause-stamped
returns-clause-stamped g c = λ game steps. (kept_from_start game steps).stamped

pub returns-clause-fits : goal.returns-clause-fits
returns-clause-fits g c = λ game steps. (kept_from_start game steps).fits

pub returns-clause-grows : goal.returns-clause-grows
returns-clause-grows g c = λ game server steps. journal_grows game server steps
