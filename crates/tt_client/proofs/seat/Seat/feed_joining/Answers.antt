use Rattle.std.proofs.Common.{◌≡◌, ℕ, List, Option, ◌++◌, ◌-◌, drop, take, length, ◌∙◌, sym, ap, ap₂, subst, rules}
use Rattle.std.proofs.lemmas.List.{take_rest}
use Rattle.std.proofs.lemmas.Result.{on_ok_weaker}
use Rattle.tt_log.specs.Shown as book
use Rattle.tt_log.specs.Shown.{Item}
use Rattle.tt_client.specs.declared.running.Mismatch.{Mismatch}
use Rattle.tt_client.specs.Held.{phase_of, place_of}
use Rattle.tt_client.specs.Player.{heard_all}
use Rattle.tt_client.specs.Planned.{IsClear, at_door, in_play, joined_by, runs_in}
use Rattle.tt_client.specs.Runs.{running}
use Rattle.tt_client.specs.Saying.{Saying, with_bytes}
use Rattle.tt_client.proofs.Seated.{K, P, door_is, joins_by, loaded_is, seat, settled, stands_joined}
use Rattle.tt_client.proofs.seat.Seat.feed_joining.Goals as goal

pub returns-in-Some-clause-heard : goal.returns-in-Some-clause-heard
returns-in-Some-clause-heard c =
    let i = c.self.inside in
    let join = c.hear_all.new.self in
    let login = c.args.login.now in
    let items = c.args.items.now in
    let come = c.as_slice.result.now in
    let heard = c.in_ok-heard.heard in
    let joining : phase_of i.phase ≡ book.Joining = ap (λ (p : P). p.phase) c.self.view_is ∙ c.requires.joining in
    let j = joins_by i.stage i.phase i.off i.runs c.self.invariant.0 joining in
    let begins : joined_by come c.begin-join.result i.waiting i.acked ≡ c.args.self.now =
    c.begin-join.ensures.same come i.waiting i.acked
    ∙ ap (λ (xs : List ℕ). at_door (place_of i.stage xs) i.number i.company i.waiting i.acked) c.as_slice.ensures.value
    ∙ sym (door_is i.stage i.come.items i.phase i.off i.number i.company i.runs i.waiting i.acked j.0 j.2 j.3) ∙ c.self.view_is in
    let whole : heard_all running login (drop heard items) (joined_by come join i.waiting i.acked) ≡ heard_all running login items
    c.args.self.now =
    c.in_ok-heard.ensures.heard i.waiting i.acked ∙ ap (λ (p : P). heard_all running login items p) begins in
    let k = c.in-Some.runs in
    let own = c.args.self.now in
    let behind : List Item → List ℕ → P → P = λ left answers p. heard_all running login left (in_play k join.number join.company
    (with_bytes answers p.saying) p.acked) in
    on_ok_weaker c.start.result
    (λ said.
    let first : c.start.new.self ≡ behind (take (length items - heard) (drop heard items)) c.as_slice-in-Some.result.now own = said login in
    first ∙ ap₂ (λ (left : List Item) (answers : List ℕ). behind left answers own) (take_rest items heard) c.as_slice-in-Some.ensures.value
    ∙ ap (λ (p : P). behind (drop heard items) join.answers.items p) (sym c.self.view_is)
    ∙ ap (λ (p : P). heard_all running login (drop heard items) p) (sym (loaded_is come join k i.waiting i.acked
    c.in_ok-heard.ensures.stands c.in-Some.is))
    ∙ whole) c.start.ensures.heard

pub invariant_of-self-in-None : goal.invariant_of-self-in-None
invariant_of-self-in-None c =
    let i = c.self.inside in
    let join = c.hear_all.new.self in
    let login = c.args.login.now in
    let items = c.args.items.now in
    let come = c.as_slice.result.now in
    let heard = c.in_ok-heard.heard in
    let joining : phase_of i.phase ≡ book.Joining = ap (λ (p : P). p.phase) c.self.view_is ∙ c.requires.joining in
    let j = joins_by i.stage i.phase i.off i.runs c.self.invariant.0 joining in
    let put : c.extend_from_slice.new.self.items ≡ i.come.items ++ join.more.items = search rules in
    let all : c.extend_from_slice.new.self.items ≡ come ++ join.more.items = put ∙ ap (λ (xs : List ℕ). xs ++ join.more.items) (sym
    c.as_slice.ensures.value) in
    let both = stands_joined join.phase join come i.off i.runs j.2 j.3 c.in_ok-heard.ensures.stands c.in-None.is in
    (both.0, subst (λ (xs : List ℕ). IsClear join.stage xs) (sym all) both.1)

pub returns-clause-heard : goal.returns-clause-heard
returns-clause-heard c =
    let i = c.self.inside in
    let join = c.hear_all.new.self in
    let login = c.args.login.now in
    let items = c.args.items.now in
    let come = c.as_slice.result.now in
    let heard = c.in_ok-heard.heard in
    let joining : phase_of i.phase ≡ book.Joining = ap (λ (p : P). p.phase) c.self.view_is ∙ c.requires.joining in
    let j = joins_by i.stage i.phase i.off i.runs c.self.invariant.0 joining in
    let begins : joined_by come c.begin-join.result i.waiting i.acked ≡ c.args.self.now =
    c.begin-join.ensures.same come i.waiting i.acked
    ∙ ap (λ (xs : List ℕ). at_door (place_of i.stage xs) i.number i.company i.waiting i.acked) c.as_slice.ensures.value
    ∙ sym (door_is i.stage i.come.items i.phase i.off i.number i.company i.runs i.waiting i.acked j.0 j.2 j.3) ∙ c.self.view_is in
    let whole : heard_all running login (drop heard items) (joined_by come join i.waiting i.acked) ≡ heard_all running login items
    c.args.self.now =
    c.in_ok-heard.ensures.heard i.waiting i.acked ∙ ap (λ (p : P). heard_all running login items p) begins in
    let put : c.extend_from_slice.new.self.items ≡ i.come.items ++ join.more.items = search rules in
    let all : c.extend_from_slice.new.self.items ≡ come ++ join.more.items = put ∙ ap (λ (xs : List ℕ). xs ++ join.more.items) (sym
    c.as_slice.ensures.value) in
    let said : c.say.new.self ≡ with_bytes join.answers.items i.waiting =
    c.in_ok-say-in-None.ensures.said ∙ ap (λ (xs : List ℕ). with_bytes xs i.waiting) c.as_slice-in-None.ensures.value in
    ap₂ (λ (xs : List ℕ) (s : Saying). seat join.stage xs join.phase i.off join.number join.company i.runs s i.acked) all said
    ∙ ap₂ (λ (off : Option Mismatch) (runs : Option K). seat join.stage (come ++ join.more.items) join.phase off join.number join.company
    runs
    (with_bytes join.answers.items i.waiting) i.acked) j.2 j.3
    ∙ ap (λ (runs : Option K). let p : P = record {
      place = place_of join.stage (come ++ join.more.items);
      phase = phase_of join.phase;
      number = join.number;
      company = join.company;
      runs = runs_in join.phase runs;
      saying = with_bytes join.answers.items i.waiting;
      acked = i.acked;
    } in p) (sym c.in-None.is)
    ∙ sym (settled login items heard join come i.waiting i.acked c.in_ok-heard.ensures.stands c.in-None.is c.in_ok-heard.ensures.all) ∙
    whole
