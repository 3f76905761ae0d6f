-- What holds of a run whose link gave what a server sent, and of a call that played nothing.
use Rattle.std.proofs.Common.{◌≡◌, ◌≢◌, ℕ, ◌⊎◌, List, [], ◌++◌, Option, Some, None, refl, sym, ap, subst, ◌∙◌, inl, inr, arith}
use Rattle.std.specs.Io.KnownBytes.{Appends}
use Rattle.std.proofs.lemmas.List.{append-nil, append_cancel_left}
use Rattle.tt_edge.specs.declared.event.Event.{Event}
use Rattle.tt_edge.specs.Sink.{AppendsPart}
use Rattle.tt_rounds.specs.Links.{LinkNow}
use Rattle.tt_client.specs.Held.{Held, held_first}
use Rattle.tt_client.specs.InStep.{IsSent}
use Rattle.tt_log.specs.Origin.{Origin}
use Rattle.tt_client.specs.declared.login.Login.{Login}
use Rattle.tt_play_file.specs.declared.line.TimedLine.{TimedLine}
use Rattle.tt_session.specs.declared.end.PlayEnd.{PlayEnd}
use Rattle.tt_session.specs.declared.end.PlayEnd.TheVariants as end
use Rattle.tt_session.specs.Ending.{status_of}
use Rattle.tt_session.specs.Acting.{pieces}
use Rattle.tt_session.specs.InStep.{RunsInStep}
use Rattle.tt_session.specs.Session.{IsPrinted, Session, SinkNow, TickerNow}
use Rattle.tt_play.specs.Commands.{HasNoLines, SourceNow}
use Rattle.tt_words.specs.declared.play.PlayWords.{PlayWords}
use Rattle.tt_play.specs.InStep.{Gives, PlaysInStep, PrintsInStep}
use Rattle.tt_play.specs.Played.{login_of, Plays}

-- ---- nothing was printed

appends_none : (a : Option (List ℕ)) → Appends a a []
appends_none None = tt
appends_none (Some xs) = sym (append-nil xs)

pub none_printed : (o : Origin) (events : List Event) (k k' : SinkNow) (status : ℕ) → k' ≡ k → status ≢ 10 → status ≢ 11
    → PrintsInStep o events k k' status
none_printed o events k k' status same in_step right = record {
  text = [];
  of_journal = ([], refl);
  written = inl (subst (λ (t : SinkNow). Appends k.held t.held []) (sym same) (appends_none k.held));
  in_step = in_step;
  right = right;
}

pub no_lines : {K : Type 0} (now : K → SinkNow) (f f' : SourceNow) (k k' : K) (status : ℕ) → HasNoLines now f f' k k' status → status ≢ 3
    → (o : Origin) (events : List Event) → PrintsInStep o events (now k) (now k') status
no_lines now f f' k k' status (inl bad) told o events = absurd (told bad.0)
no_lines now f f' k k' status (inr (inl fault)) told o events = none_printed o events (now k) (now k') status (ap now fault.2)
    (λ e. omega (arith, e, fault.0)) (λ e. omega (arith, e, fault.0))
no_lines now f f' k k' status (inr (inr (inl long))) told o events = none_printed o events (now k) (now k') status (ap now long.3)
    (λ e. omega (arith, e, long.0)) (λ e. omega (arith, e, long.0))
no_lines now f f' k k' status (inr (inr (inr memory))) told o events = none_printed o events (now k) (now k') status (ap now memory.1)
    (λ e. omega (arith, e, memory.0)) (λ e. omega (arith, e, memory.0))

-- ---- it was played

-- bytes that were read are those that the link gave
same_bytes : (a b : Option (List ℕ)) (xs ys : List ℕ) → Appends a b xs → Gives a b ys → ys ≡ xs
same_bytes None b xs ys read gives = absurd gives
same_bytes (Some before) None xs ys read gives = absurd read
same_bytes (Some before) (Some after) xs ys read gives =
    let both : before ++ ys ≡ before ++ xs = (let told : after ≡ before ++ ys = cc in sym told ∙ read) in
    append_cancel_left before ys xs both

written_by : (e : PlayEnd) (k k' : SinkNow) (text : List ℕ) (status : ℕ) → status ≡ status_of e → IsPrinted e k k' text
    → Appends k.held k'.held text ⊎ ((status ≡ 5) × AppendsPart k.held k'.held text)
written_by end.Quit k k' text status is printed = inl printed.0
written_by end.Shutdown k k' text status is printed = inl printed.0
written_by end.Stopped k k' text status is printed = inl printed.0
written_by end.SinkFault k k' text status is printed = inr (is, printed.0)
written_by end.Memory k k' text status is printed = inl printed.0
written_by end.TickerFault k k' text status is printed = inl printed.0
written_by end.Desync k k' text status is printed = inl printed.0
written_by end.Wrong k k' text status is printed = inl printed.0
written_by end.Ended k k' text status is printed = inl printed.0
written_by end.LinkEnd k k' text status is printed = inl printed.0
written_by end.LinkFault k k' text status is printed = inl printed.0

not_desync : (e : PlayEnd) → e ≢ end.Desync → status_of e ≢ 10
not_desync end.Quit not is = absurd cc
not_desync end.Shutdown not is = absurd cc
not_desync end.Stopped not is = absurd cc
not_desync end.SinkFault not is = absurd cc
not_desync end.Memory not is = absurd cc
not_desync end.TickerFault not is = absurd cc
not_desync end.Desync not is = not refl
not_desync end.Wrong not is = absurd cc
not_desync end.Ended not is = absurd cc
not_desync end.LinkEnd not is = absurd cc
not_desync end.LinkFault not is = absurd cc

not_wrong : (e : PlayEnd) → e ≢ end.Wrong → status_of e ≢ 11
not_wrong end.Quit not is = absurd cc
not_wrong end.Shutdown not is = absurd cc
not_wrong end.Stopped not is = absurd cc
not_wrong end.SinkFault not is = absurd cc
not_wrong end.Memory not is = absurd cc
not_wrong end.TickerFault not is = absurd cc
not_wrong end.Desync not is = absurd cc
not_wrong end.Wrong not is = not refl
not_wrong end.Ended not is = absurd cc
not_wrong end.LinkEnd not is = absurd cc
not_wrong end.LinkFault not is = absurd cc

run_prints : (o : Origin) (events : List Event) (conn : ℕ) (bytes : List ℕ) (login : Login) (lines : List TimedLine) (l l' : LinkNow)
    (t t' : TickerNow) (k k' : SinkNow) (e : PlayEnd) (status : ℕ) (run : Session (held_first login) lines l l' t t' k k' e)
    → RunsInStep o events conn run.actions run.lost run.last e → status ≡ status_of e → Gives l.read l'.read bytes
    → IsSent o events conn bytes → PrintsInStep o events k k' status
run_prints o events conn bytes login lines l l' t t' k k' e status run law is gives sent =
    let same : bytes ≡ pieces run.actions ++ run.lost = same_bytes l.read l'.read (pieces run.actions ++ run.lost) bytes run.read gives in
    let right = law (subst (λ (bs : List ℕ). IsSent o events conn bs) same sent) in
    record {
      text = run.last.printed;
      of_journal = right.0;
      written = written_by e k k' run.last.printed status is run.printed;
      in_step = λ ten. not_desync e right.1 (sym is ∙ ten);
      right = λ eleven. not_wrong e right.2 (sym is ∙ eleven);
    }

-- a run of the client that joined with the login of the words
pub run_plays : (words : PlayWords) (login : Login) (h : Held) (lines : List TimedLine) (l l' : LinkNow) (t t' : TickerNow)
    (k k' : SinkNow) (e : PlayEnd) (status : ℕ) → login ≡ login_of words → h ≡ held_first login → Session h lines l l' t t' k k' e
    → status ≡ status_of e → Plays words lines l l' t t' k k' status
run_plays words login h lines l l' t t' k k' e status same first run is = record {
  end = e;
  session = subst (λ (x : Held). Session x lines l l' t t' k k' e) (first ∙ ap (λ (x : Login). held_first x) same) run;
  status_is = is;
}

-- by the law of runs
pub run_in_step : ((o : Origin) (events : List Event) (conn : ℕ) (login : Login) (lines : List TimedLine) (l l2 : LinkNow)
    (t t2 : TickerNow) (k k2 : SinkNow) (e : PlayEnd) (run : Session (held_first login) lines l l2 t t2 k k2 e)
    → RunsInStep o events conn run.actions run.lost run.last e)
    → (login : Login) (h : Held) (lines : List TimedLine) (l l' : LinkNow) (t t' : TickerNow) (k k' : SinkNow) (e : PlayEnd) (status : ℕ)
    → h ≡ held_first login → Session h lines l l' t t' k k' e → status ≡ status_of e → PlaysInStep l.read l'.read k k' status
run_in_step law login h lines l l' t t' k k' e status first run is = λ o events conn bytes gives sent.
    let moved : Session (held_first login) lines l l' t t' k k' e =
    subst (λ (x : Held). Session x lines l l' t t' k k' e) first run in
    run_prints o events conn bytes login lines l l' t t' k k' e status moved (law o events conn login lines l l' t t' k k' e moved) is
    gives sent
