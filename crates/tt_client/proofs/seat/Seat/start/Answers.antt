use Rattle.std.proofs.Common.{◌∙◌, ap, ap₂}
use Rattle.tt_log.specs.Shown.{Place, goes_on}
use Rattle.tt_client.specs.Held.{off_or, phase_of}
use Rattle.tt_client.specs.Hearing.{with_news}
use Rattle.tt_client.specs.Player.{heard_all}
use Rattle.tt_client.specs.Planned.{in_play, place_on}
use Rattle.tt_client.specs.Runs.{running}
use Rattle.tt_client.specs.Saying.{Saying, with_bytes, with_token}
use Rattle.tt_client.proofs.Seated.{P, K, stands_played}
use Rattle.tt_client.proofs.seat.Seat.start.Goals as goal

pub invariant_of-self-2 : goal.invariant_of-self-2
invariant_of-self-2 c = (
  stands_played c.stage_on-self-inside.result c.hear_all.new.self.phase c.hear_all.new.self.off c.take_in.new.self
      c.in_ok-hear_all.ensures.stands
      c.stage_on-self-inside.ensures.loaded,
  c.stage_on-self-inside.ensures.clear c.new.result.items,
)

pub returns-clause-heard : goal.returns-clause-heard
returns-clause-heard c = λ login.
    let i = c.self.inside in
    let play = c.hear_all.new.self in
    let k = c.args.runs in
    let answers = c.args.answers.now in
    let items = c.args.items.now in
    let with : Place → K → Saying → P = λ place l s. record {
      place = place;
      phase = phase_of play.phase;
      number = play.number;
      company = play.company;
      runs = off_or play.off play.phase l;
      saying = s;
      acked = i.acked;
    } in
    ap₂ (λ (place : Place) (l : K). with place l c.token.new.self) (c.stage_on-self-inside.ensures.stage c.new.result.items)
    c.in_ok-take_in.ensures.taken
    ∙ ap (λ (s : Saying). with (place_on (goes_on (phase_of play.phase))) (with_news k play.news) s)
    (c.token.ensures.owed ∙ ap (λ (s : Saying). with_token play.token s) c.in_ok-say.ensures.said)
    ∙ c.in_ok-hear_all.ensures.heard login (with_bytes answers i.waiting) i.acked
    ∙ ap (λ (p : P). heard_all running login items p) (c.begin-play.ensures.none (with_bytes answers i.waiting) i.acked
    ∙ ap (λ (p : P). in_play k c.args.number c.args.company (with_bytes answers p.saying) p.acked) c.self.view_is)
