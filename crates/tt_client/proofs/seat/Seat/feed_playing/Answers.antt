use Rattle.std.proofs.Common.{◌∙◌, sym, ap, ap₂}
use Rattle.tt_log.specs.Shown.{Place, goes_on}
use Rattle.tt_client.specs.Cutting.{cut_at}
use Rattle.tt_client.specs.Held.{off_or, phase_of}
use Rattle.tt_client.specs.Hearing.{with_news}
use Rattle.tt_client.specs.Player.{heard_all}
use Rattle.tt_client.specs.Planned.{place_on}
use Rattle.tt_client.specs.Runs.{is_playing, running}
use Rattle.tt_client.specs.Saying.{Saying}
use Rattle.tt_client.proofs.Seated.{P, K, playing_is, stands_played}
use Rattle.tt_client.proofs.seat.Seat.feed_playing.Goals as goal

pub invariant_of-self-2 : goal.invariant_of-self-2
invariant_of-self-2 c = (
  stands_played c.stage_on-self-inside.result c.hear_bytes.new.self.phase c.hear_bytes.new.self.off c.take_in.new.self
      c.in_ok-read.ensures.stands
      c.stage_on-self-inside.ensures.loaded,
  c.stage_on-self-inside.ensures.clear c.self.inside.come.items,
)

pub returns-clause-heard : goal.returns-clause-heard
returns-clause-heard c = λ login.
    let i = c.self.inside in
    let play = c.hear_bytes.new.self in
    let k = c.in-Some.runs in
    let items = (cut_at c.args.at c.args.bytes.now).items in
    let with : Place → K → Saying → P = λ place l s. record {
      place = place;
      phase = phase_of play.phase;
      number = play.number;
      company = play.company;
      runs = off_or play.off play.phase l;
      saying = s;
      acked = i.acked;
    } in
    let is = playing_is i.stage i.come.items i.phase i.off i.number i.company i.runs k i.waiting i.acked c.self.invariant.0 c.in-Some.is
    (ap (λ (p : P). is_playing p) c.self.view_is ∙ c.requires.playing) in
    ap₂ (λ (place : Place) (l : K). with place l c.token.new.self) (c.stage_on-self-inside.ensures.stage i.come.items)
    c.in_ok-take_in.ensures.taken
    ∙ ap (λ (s : Saying). with (place_on (goes_on (phase_of play.phase))) (with_news k play.news) s) c.token.ensures.owed
    ∙ c.in_ok-read.ensures.heard login i.waiting i.acked
    ∙ ap (λ (p : P). heard_all running login items p) (c.begin-play.ensures.none i.waiting i.acked ∙ sym is ∙ c.self.view_is)
