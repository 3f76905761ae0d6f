-- What a player prints whose link gave what a server sent.
use Rattle.std.proofs.Common.{◌≡◌, ℕ, List, [], ◌∷◌, ◌++◌, length, Option, Some, None, refl, sym, ap, ◌∙◌, subst, append_assoc}
use Rattle.std.specs.List.{flat_map}
use Rattle.std.proofs.lemmas.Grind.{flat_map-append}
use Rattle.std.proofs.lemmas.List.{append-nil}
use Rattle.tt_lockstep.specs.Runner.{Kept}
use Rattle.tt_edge.specs.declared.event.Event.{Event}
use Rattle.tt_world.specs.declared.command.Entry.{Entry}
use Rattle.tt_world.specs.World.{WorldState}
use Rattle.tt_log.specs.Origin.{Origin, world_at}
use Rattle.tt_log.specs.History.{journal_of}
use Rattle.tt_log.specs.Shown.{Item, items_in}
use Rattle.tt_rounds.specs.Chain.{Each}
use Rattle.tt_rounds.specs.Links.{LinkNow}
use Rattle.tt_client.specs.declared.login.Login.{Login}
use Rattle.tt_client.specs.Calls.{Call, Feed, Advance, Submit, Take, fed}
use Rattle.tt_client.specs.Held.{Held, held, held_first, held_after, with_call, frame_of, world_of, frame_by, world_by, kept_in}
use Rattle.tt_client.specs.InStep.{IsInStep, IsRight, IsSent}
use Rattle.tt_client.specs.State.{state_of}
use Rattle.tt_client.specs.declared.state.State.{State}
use Rattle.tt_client.specs.declared.state.State.TheVariants as state
use Rattle.tt_client.proofs.InSteps.{bytes_front}
use Rattle.tt_report.specs.Clients.{client_lines, lines_of_client, running_lines}
use Rattle.tt_play_file.specs.declared.line.Act.{Act}
use Rattle.tt_play_file.specs.declared.line.Act.TheVariants.{Print, Quit, Do}
use Rattle.tt_play_file.specs.declared.line.TimedLine.{TimedLine}
use Rattle.tt_session.specs.Acting.{begun, Action, Feeds, Runs, Does, Takes, Standing, Acts, pieces, client_by, text_by, IsRunningAt}
use Rattle.tt_session.specs.InStep.{IsOfJournal, RunsInStep, journal_lines}
use Rattle.tt_session.specs.Session.{Session, SinkNow, TickerNow, IsDesync, IsWrong, EndsSo}
use Rattle.tt_session.specs.declared.end.PlayEnd.{PlayEnd}

-- ---- calls

after_append : (h : Held) (xs ys : List Call) → held_after h (xs ++ ys) ≡ held_after (held_after h xs) ys
after_append h [] ys = refl
after_append h (c ∷ xs) ys = after_append (with_call h c) xs ys

fed_append : (xs ys : List Call) → fed (xs ++ ys) ≡ fed xs ++ fed ys
fed_append [] ys = refl
fed_append (Feed piece ∷ xs) ys = ap (λ (t : List ℕ). piece ++ t) (fed_append xs ys) ∙ sym (append_assoc piece (fed xs) (fed ys))
fed_append (Advance n ∷ xs) ys = fed_append xs ys
fed_append (Submit company command ∷ xs) ys = fed_append xs ys
fed_append (Take room ∷ xs) ys = fed_append xs ys

held_more : (login : Login) (before : List Call) (c : Call) (h : Held) → h ≡ held login before
    → with_call h c ≡ held login (before ++ c ∷ [])
held_more login before c h is = ap (λ (v : Held). with_call v c) is ∙ sym (after_append (held_first login) before (c ∷ []))

-- ---- the bytes that were sent

sent_front : (o : Origin) (events : List Event) (conn : ℕ) (a b : List ℕ) → IsSent o events conn (a ++ b) → IsSent o events conn a
sent_front o events conn a b is = record {
  origin = is.origin;
  are_events = is.are_events;
  player = is.player;
  are_bytes = bytes_front a b is.are_bytes;
  later = b ++ is.later;
  front = is.front ∙ append_assoc a b is.later;
}

-- ---- what is printed

kept_some : (x : Option (Kept WorldState Entry)) (f : ℕ) → frame_by x ≡ Some f → (w : WorldState) × (world_by x ≡ Some w)
kept_some None f is = absurd cc
kept_some (Some k) f is = (k.world, refl)

line_of_journal : (o : Origin) (events : List Event) (conn : ℕ) (login : Login) (before : List Call) (h : Held) (at : ℕ)
    → ((bytes : List Call) → IsSent o events conn (fed bytes) → IsInStep o events (items_in (fed bytes)) (held login bytes).player)
    → h ≡ held login before → IsSent o events conn (fed before) → (due : IsRunningAt at h)
    → lines_of_client 1 h ≡ journal_lines o events due.frame
line_of_journal o events conn login before h at law is sent due =
    let kept = kept_some (kept_in h.player.runs) due.frame due.is in
    let right = subst (λ (v : Held). IsInStep o events (items_in (fed before)) v.player) (sym is) (law before sent) in
    let world_is : kept.0 ≡ world_at o (journal_of o events) due.frame = right.world kept.0 due.frame kept.1 due.is in
    ap (λ (s : State). client_lines 1 s (frame_of h.player) (world_of h.player)) due.running
    ∙ ap (λ (f : Option ℕ). client_lines 1 state.Running f (world_of h.player)) due.is
    ∙ ap (λ (w : Option WorldState). client_lines 1 state.Running (Some due.frame) w) kept.1
    ∙ ap (λ (w : WorldState). running_lines 1 due.frame w) world_is

of_more : (o : Origin) (events : List Event) (text more : List ℕ) (frame : ℕ) → IsOfJournal o events text
    → more ≡ journal_lines o events frame → IsOfJournal o events (text ++ more)
of_more o events text more frame is same = (
  is.0 ++ frame ∷ [],
  ap (λ (t : List ℕ). t ++ more) is.1 ∙ ap (λ (t : List ℕ). flat_map (journal_lines o events) is.0 ++ t) (same
      ∙ sym (append-nil (journal_lines o events frame))) ∙ sym (flat_map-append (journal_lines o events) is.0 (frame ∷ [])),
)

act_of_journal : (o : Origin) (events : List Event) (conn : ℕ) (login : Login) (before : List Call) (h : Held) (at : ℕ) (act : Act)
    (text : List ℕ)
    → ((bytes : List Call) → IsSent o events conn (fed bytes) → IsInStep o events (items_in (fed bytes)) (held login bytes).player)
    → h ≡ held login before → IsSent o events conn (fed before) → IsRunningAt at h → IsOfJournal o events text
    → IsOfJournal o events (text ++ text_by act h)
act_of_journal o events conn login before h at Print text law is sent due so =
    of_more o events text (lines_of_client 1 h) due.frame so (line_of_journal o events conn login before h at law is sent due)
act_of_journal o events conn login before h at Quit text law is sent due so = subst (IsOfJournal o events) (sym (append-nil text)) so
act_of_journal o events conn login before h at (Do command) text law is sent due so = subst (IsOfJournal o events) (sym
    (append-nil text)) so

act_calls : (login : Login) (before : List Call) (act : Act) (h : Held) → h ≡ held login before
    → (after : List Call) × (client_by act h ≡ held login after) × (fed after ≡ fed before)
act_calls login before Print h is = (before, is, refl)
act_calls login before Quit h is = (before, is, refl)
act_calls login before (Do command) h is =
    let c = Submit h.player.company command in
    (before ++ c ∷ [], held_more login before c h is, fed_append before (c ∷ []) ∙ append-nil (fed before))

-- a run whose pieces are a front of what a server sent: the client is what its calls make of it, and each printed line is of the
-- journal
pub record RunsSo (o : Origin) (events : List Event) (login : Login) (t : Standing) (bytes : List ℕ) : Type 0 where
  pub calls : List Call
  pub client_is : t.client ≡ held login calls
  pub fed_is : fed calls ≡ bytes
  pub printed : IsOfJournal o events t.printed

pub prints : (o : Origin) (events : List Event) (conn : ℕ) (login : Login)
    → ((bytes : List Call) → IsSent o events conn (fed bytes) → IsInStep o events (items_in (fed bytes)) (held login bytes).player)
    → (before : List Call) (s t : Standing) (actions : List Action) → s.client ≡ held login before → Each Acts s actions t
    → IsSent o events conn (fed before ++ pieces actions) → IsOfJournal o events s.printed
    → RunsSo o events login t (fed before ++ pieces actions)
prints o events conn login law before s t [] is same sent so = record {
  calls = before;
  client_is = ap (λ (v : Standing). v.client) same ∙ is;
  fed_is = sym (append-nil (fed before));
  printed = subst (λ (v : Standing). IsOfJournal o events v.printed) (sym same) so;
}
prints o events conn login law before s t (Feeds piece ∷ actions) is chain sent so =
    let c = Feed piece in
    let m = chain.0 in
    let bytes_is : fed (before ++ c ∷ []) ++ pieces actions ≡ fed before ++ (piece ++ pieces actions) =
    ap (λ (t : List ℕ). t ++ pieces actions) (fed_append before (c ∷ []) ∙ ap (λ (t : List ℕ). fed before ++ t) (append-nil piece))
    ∙ append_assoc (fed before) piece (pieces actions) in
    subst (RunsSo o events login t) bytes_is
    (prints o events conn login law (before ++ c ∷ []) m t actions
    (ap (λ (v : Standing). v.client) chain.1 ∙ held_more login before c s.client is) chain.2
    (subst (IsSent o events conn) (sym bytes_is) sent) (subst (λ (v : Standing). IsOfJournal o events v.printed) (sym chain.1) so))
prints o events conn login law before s t (Runs frames ∷ actions) is chain sent so =
    let c = Advance frames in
    let m = chain.0 in
    let bytes_is : fed (before ++ c ∷ []) ++ pieces actions ≡ fed before ++ pieces actions =
    ap (λ (t : List ℕ). t ++ pieces actions) (fed_append before (c ∷ []) ∙ append-nil (fed before)) in
    subst (RunsSo o events login t) bytes_is
    (prints o events conn login law (before ++ c ∷ []) m t actions
    (ap (λ (v : Standing). v.client) chain.1.0 ∙ held_more login before c s.client is) chain.2
    (subst (IsSent o events conn) (sym bytes_is) sent) (subst (λ (v : Standing). IsOfJournal o events v.printed) (sym chain.1.0) so))
prints o events conn login law before s t (Takes bytes ∷ actions) is chain sent so =
    let c = Take (length bytes) in
    let m = chain.0 in
    let bytes_is : fed (before ++ c ∷ []) ++ pieces actions ≡ fed before ++ pieces actions =
    ap (λ (t : List ℕ). t ++ pieces actions) (fed_append before (c ∷ []) ∙ append-nil (fed before)) in
    subst (RunsSo o events login t) bytes_is
    (prints o events conn login law (before ++ c ∷ []) m t actions
    (ap (λ (v : Standing). v.client) chain.1.1 ∙ held_more login before c s.client is) chain.2
    (subst (IsSent o events conn) (sym bytes_is) sent) (subst (λ (v : Standing). IsOfJournal o events v.printed) (sym chain.1.1) so))
prints o events conn login law before s t (Does line ∷ actions) is chain sent so =
    let m = chain.0 in
    let after = act_calls login before line.act s.client is in
    let bytes_is : fed after.0 ++ pieces actions ≡ fed before ++ pieces actions = ap (λ (t : List ℕ). t ++ pieces actions) after.2 in
    let text = act_of_journal o events conn login before s.client line.at line.act s.printed law is
    (sent_front o events conn (fed before) (pieces actions) sent) chain.1.0 so in
    subst (RunsSo o events login t) bytes_is
    (prints o events conn login law after.0 m t actions (ap (λ (v : Standing). v.client) chain.1.2 ∙ after.1) chain.2
    (subst (IsSent o events conn) (sym bytes_is) sent) (subst (λ (v : Standing). IsOfJournal o events v.printed) (sym chain.1.2) text))

-- ---- a whole run

not_desync : (s : State) (items : List Item) → IsRight s items → IsDesync s → ⊥
not_desync state.Joining items right is = is
not_desync state.Running items right is = is
not_desync (state.Ended code) items right is = is
not_desync state.Shutdown items right is = is
not_desync (state.Desync frame mine theirs) items right is = right
not_desync (state.Wrong at) items right is = is

not_wrong : (s : State) (items : List Item) → IsRight s items → IsWrong s → ⊥
not_wrong state.Joining items right is = is
not_wrong state.Running items right is = is
not_wrong (state.Ended code) items right is = is
not_wrong state.Shutdown items right is = is
not_wrong (state.Desync frame mine theirs) items right is = is
not_wrong (state.Wrong at) items right is = right

pub run_in_step : (o : Origin) (events : List Event) (conn : ℕ) (login : Login) (lines : List TimedLine) (l l2 : LinkNow) (t t2 : TickerNow)
    (k k2 : SinkNow) (e : PlayEnd)
    → ((bytes : List Call) → IsSent o events conn (fed bytes) → IsInStep o events (items_in (fed bytes)) (held login bytes).player)
    → (run : Session (held_first login) lines l l2 t t2 k k2 e) → RunsInStep o events conn run.actions run.lost run.last e
run_in_step o events conn login lines l l2 t t2 k k2 e law run = λ sent.
    let front = sent_front o events conn (pieces run.actions) run.lost sent in
    let so = prints o events conn login law [] (begun (held_first login) lines) run.last run.actions refl run.acts front ([], refl) in
    let right = subst (λ (h : Held). IsRight (state_of h.player) (items_in (fed so.calls))) (sym so.client_is)
    (law so.calls (subst (IsSent o events conn) (sym so.fed_is) front)).right in (
      so.printed,
      (λ is. not_desync (state_of run.last.client.player) (items_in (fed so.calls)) right (subst (λ (x : PlayEnd). EndsSo l.counts l2.counts
          t.counts t2.counts run.actions run.waits run.last x) is run.ended)),
      (λ is. not_wrong (state_of run.last.client.player) (items_in (fed so.calls)) right (subst (λ (x : PlayEnd). EndsSo l.counts l2.counts
          t.counts t2.counts run.actions run.waits run.last x) is run.ended)),
    )
