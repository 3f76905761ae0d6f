use Rattle.std.proofs.Common.{◌≡◌, true, sym, ap, ◌∙◌, rules}
use Rattle.tt_lockstep.specs.Runner.{Runner, RunnerJoining}
use Rattle.tt_world.specs.declared.command.Entry.{Entry}
use Rattle.tt_world.specs.World.{WorldState}
use Rattle.tt_log.specs.Shown.{goes_on}
use Rattle.tt_client.specs.Player.{Player, advanced}
use Rattle.tt_client.specs.Runs.{running}
use Rattle.tt_client.specs.Held.{phase_of, place_of, runner_in}
use Rattle.tt_client.proofs.Resting.{joining_rests, unmapped_on, stands_on}
use Rattle.tt_client.proofs.seat.Seat.advance.Goals as goal

pub returns-in_default : goal.returns-in_default
returns-in_default c =
    let i = c.self.inside in
    let on : goes_on (phase_of i.phase) ≡ true = search rules in
    let runs : runner_in i.phase i.off i.runs ≡ RunnerJoining = ap (λ r. runner_in i.phase i.off r) c.in_default.is ∙ unmapped_on i.phase
    on in
    let p : Player (Runner WorldState Entry) = record {
      place = place_of i.stage i.come.items;
      phase = phase_of i.phase;
      number = i.number;
      company = i.company;
      runs = runner_in i.phase i.off i.runs;
      saying = i.waiting;
      acked = i.acked;
    } in
    record {
      advanced = λ login. sym (joining_rests login c.args.n p runs) ∙ ap (λ p. advanced running login c.args.n p) c.self.view_is;
      count = search rules;
    }

pub invariant_of-self-2 : goal.invariant_of-self-2
invariant_of-self-2 c =
    let i = c.self.inside in
    let on : goes_on (phase_of i.phase) ≡ true = search rules in (
      stands_on i.stage i.phase i.off c.advance-off.result i.runs c.in-Some.runs c.advance-off.new.self c.in-Some.is on c.self.invariant.0,
      c.self.invariant.1,
    )
