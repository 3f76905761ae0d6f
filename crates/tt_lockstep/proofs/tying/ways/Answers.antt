use Rattle.tt_lockstep.proofs.Leading.{leads_nowhere, leads_by, leads_on, leads_by_stamps, leads_by_run, leads_by_frame, led_in_step}
use Rattle.tt_lockstep.proofs.tying.ways.Goals as goal

pub returns-clause-none : goal.returns-clause-none
returns-clause-none g c = λ game server. leads_nowhere game server

pub returns-clause-step : goal.returns-clause-step
returns-clause-step g c = λ game server step. leads_by game server step

pub returns-clause-on : goal.returns-clause-on
returns-clause-on g c = λ game x y z xs ys p q. leads_on game x y z xs ys p q

pub returns-clause-stamps : goal.returns-clause-stamps
returns-clause-stamps g c = λ game server es a. leads_by_stamps game server es a

pub returns-clause-run : goal.returns-clause-run
returns-clause-run g c = λ game server l. leads_by_run game server l

pub returns-clause-frame : goal.returns-clause-frame
returns-clause-frame g c = λ game server l. leads_by_frame game server l

pub returns-clause-in_step : goal.returns-clause-in_step
returns-clause-in_step g c = λ game server ts calls later p e. led_in_step game server ts calls later p e
