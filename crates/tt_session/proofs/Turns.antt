-- The ends of a run, each by what the last round came to.
use Rattle.std.proofs.Common.{◌≡◌, ℕ, ◌+◌, ◌≤◌, inl, inr, List, [], ◌∷◌, ◌++◌, length, Some, refl, sym, ap, ◌∙◌, subst, append_assoc}
use Rattle.std.proofs.Common.{length-append, arith}
use Rattle.std.specs.Prelude.{replicate, IfSome}
use Rattle.std.specs.List.{AllByRecursion}
use Rattle.std.proofs.lemmas.List.{append-nil}
use Rattle.std.specs.Io.KnownBytes.{Appends}
use Rattle.tt_lockstep.specs.Runner.{Runner}
use Rattle.tt_world.specs.declared.command.Entry.{Entry}
use Rattle.tt_world.specs.World.{WorldState}
use Rattle.tt_log.specs.Shown.{Phase}
use Rattle.tt_edge.specs.declared.ticker.Beat.TheVariants as beat
use Rattle.tt_edge.specs.Count.{Rose}
use Rattle.tt_edge.specs.Link.{LinkCounts, Rises}
use Rattle.tt_edge.specs.Listener.{TickCounts, WaitCounts}
use Rattle.tt_edge.specs.Sink.{AppendsPart}
use Rattle.tt_edge.specs.Told.{Adds}
use Rattle.tt_rounds.specs.Chain.{Each, joined}
use Rattle.tt_rounds.specs.Links.{LinkNow, Later}
use Rattle.tt_rounds.specs.Hearing.{HearsRound}
use Rattle.tt_rounds.specs.Saying.{SaysRound, SaidCounts}
use Rattle.tt_rounds.specs.Pacing.{IsPaced}
use Rattle.tt_rounds.specs.declared.hearing.Heard.{Heard}
use Rattle.tt_rounds.specs.declared.hearing.Heard.TheVariants as heard
use Rattle.tt_rounds.specs.declared.outbox.Said.{Said}
use Rattle.tt_rounds.specs.declared.outbox.Said.TheVariants as said
use Rattle.tt_rounds.proofs.Counting.{later_heard, later_said, later_then, rises_within}
use Rattle.tt_client.specs.Held.{Held, frame_by, permitted_by, kept_in}
use Rattle.tt_client.specs.Runs.{runner_mark}
use Rattle.tt_client.specs.State.{state_of, state_by}
use Rattle.tt_client.specs.declared.state.State.TheVariants as state
use Rattle.tt_play_file.specs.declared.line.TimedLine.{TimedLine}
use Rattle.tt_session.specs.declared.acting.Acted.TheVariants as acted
use Rattle.tt_session.specs.declared.end.PlayEnd.{PlayEnd}
use Rattle.tt_session.specs.declared.end.PlayEnd.TheVariants as end
use Rattle.tt_session.specs.Acting.{Action, Does, Standing, Acts, begun, pieces, EndsNone, IsIdle, IsLater}
use Rattle.tt_rounds.proofs.Chains.{each_append}
use Rattle.tt_session.specs.Doing.{ActsRound}
use Rattle.tt_session.specs.Session.{Session, TickerNow, SinkNow, GoesOn, IsQuit, IsEndOf, AllSaid}
use Rattle.tt_session.proofs.Doings.{none_append, part_more}
use Rattle.tt_session.proofs.Sessions.{Core, hears, due, says, core_heard, core_said}
use Rattle.tt_session.proofs.Sessions.{fed_by, taken_by, with_client, with_said, pieces_same, none_fed}
use Rattle.tt_session.proofs.Sessions.{heard_length, feeding_ends, taking_ends}
use Rattle.tt_session.proofs.Ends.{Clock, Beaten, Turned, turn_ends, turn_on, session_of, lost_none, beaten, adds_then}
use Rattle.tt_session.proofs.Ends.{clock_told, paced_up, ticker_same, same_heard, same_then}

-- ---- ends within a turn

goes_running : (h : Held) → state_of h.player ≡ state.Running → GoesOn (state_of h.player)
goes_running h is = subst GoesOn (sym is) tt

quit_more : (before done actions : List Action) → actions ≡ before ++ done → AllByRecursion EndsNone before → IsQuit done
    → IsQuit actions
quit_more before done actions is none quit = (
  before ++ quit.0,
  quit.1,
  is ∙ ap (λ (t : List Action). before ++ t) quit.2 ∙ sym (append_assoc before quit.0 (Does quit.1 ∷ [])),
  quit.3,
  none_append before quit.0 none quit.4,
)

pub quit_session : (client : Held) (lines left : List TimedLine) (l l1 l2 : LinkNow) (t t' : TickerNow) (k k' : SinkNow) (now : Held)
    (waits : List ℕ) (r : Heard) → Turned client lines l l1 l2 t t' k k' now waits r acted.Quit left
    → Session client lines l l2 t t' k k' end.Quit
quit_session client lines left l l1 l2 t t' k k' now waits r turn =
    let quit = quit_more turn.before turn.done turn.actions turn.actions_is turn.none_ends turn.stands.0 in
    turn_ends client lines left l l1 l2 t t' k k' now waits r acted.Quit end.Quit turn quit refl (λ p. p) refl (λ is. is)
    (quit, goes_running turn.last.client turn.stands.1)

pub memory_session : (client : Held) (lines left : List TimedLine) (l l1 l2 : LinkNow) (t t' : TickerNow) (k k' : SinkNow) (now : Held)
    (waits : List ℕ) (r : Heard) → Turned client lines l l1 l2 t t' k k' now waits r acted.Memory left
    → Session client lines l l2 t t' k k' end.Memory
memory_session client lines left l l1 l2 t t' k k' now waits r turn =
    turn_ends client lines left l l1 l2 t t' k k' now waits r acted.Memory end.Memory turn
    (turn_on client lines left l l1 l2 t t' k k' now waits r acted.Memory turn turn.stands) tt (λ p. p) refl (λ is. is) tt

going_on : (client : Held) (lines left : List TimedLine) (l l1 l2 : LinkNow) (t t' : TickerNow) (k k' : SinkNow) (now : Held)
    (waits : List ℕ) (r : Heard) (turn : Turned client lines l l1 l2 t t' k k' now waits r acted.Going left)
    → AllByRecursion EndsNone turn.actions
going_on client lines left l l1 l2 t t' k k' now waits r turn =
    turn_on client lines left l l1 l2 t t' k k' now waits r acted.Going turn turn.stands.2

-- the client came to its own end
end_by : (client : Held) (lines left : List TimedLine) (l l1 l2 : LinkNow) (t t' : TickerNow) (k k' : SinkNow) (now : Held)
    (waits : List ℕ) (r : Heard) (e : PlayEnd) → (turn : Turned client lines l l1 l2 t t' k k' now waits r acted.Going left)
    → IsEndOf (state_of turn.last.client.player) (Some e) → Session client lines l l2 t t' k k' e
end_by client lines left l l1 l2 t t' k k' now waits r end.Shutdown turn is = turn_ends client lines left l l1 l2 t t' k k' now
    waits r acted.Going end.Shutdown turn (going_on client lines left l l1 l2 t t' k k' now waits r turn) refl (λ p. p) refl (λ x. x) is
end_by client lines left l l1 l2 t t' k k' now waits r end.Desync turn is = turn_ends client lines left l l1 l2 t t' k k' now
    waits r acted.Going end.Desync turn (going_on client lines left l l1 l2 t t' k k' now waits r turn) refl (λ p. p) refl (λ x. x) is
end_by client lines left l l1 l2 t t' k k' now waits r end.Wrong turn is = turn_ends client lines left l l1 l2 t t' k k' now
    waits r acted.Going end.Wrong turn (going_on client lines left l l1 l2 t t' k k' now waits r turn) refl (λ p. p) refl (λ x. x) is
end_by client lines left l l1 l2 t t' k k' now waits r end.Ended turn is = turn_ends client lines left l l1 l2 t t' k k' now
    waits r acted.Going end.Ended turn (going_on client lines left l l1 l2 t t' k k' now waits r turn) refl (λ p. p) refl (λ x. x) is
end_by client lines left l l1 l2 t t' k k' now waits r end.Quit turn is = absurd is
end_by client lines left l l1 l2 t t' k k' now waits r end.Stopped turn is = absurd is
end_by client lines left l l1 l2 t t' k k' now waits r end.SinkFault turn is = absurd is
end_by client lines left l l1 l2 t t' k k' now waits r end.Memory turn is = absurd is
end_by client lines left l l1 l2 t t' k k' now waits r end.TickerFault turn is = absurd is
end_by client lines left l l1 l2 t t' k k' now waits r end.LinkEnd turn is = absurd is
end_by client lines left l l1 l2 t t' k k' now waits r end.LinkFault turn is = absurd is

pub end_session : (client : Held) (lines left : List TimedLine) (l l1 l2 : LinkNow) (t t' : TickerNow) (k k' : SinkNow) (now : Held)
    (waits : List ℕ) (r : Heard) (e : PlayEnd) → Turned client lines l l1 l2 t t' k k' now waits r acted.Going left
    → IsEndOf (state_of now.player) (Some e) → Session client lines l l2 t t' k k' e
end_session client lines left l l1 l2 t t' k k' now waits r e turn is =
    end_by client lines left l l1 l2 t t' k k' now waits r e turn (subst (λ (h : Held). IsEndOf (state_of h.player) (Some e)) (sym
    turn.core.client_is) is)

-- the link told its end, or failed at a read
pub link_end : (client : Held) (lines left : List TimedLine) (l l1 l2 : LinkNow) (t t' : TickerNow) (k k' : SinkNow) (now : Held)
    (waits : List ℕ) → Turned client lines l l1 l2 t t' k k' now waits heard.End acted.Going left → GoesOn (state_of now.player)
    → Session client lines l l2 t t' k k' end.LinkEnd
link_end client lines left l l1 l2 t t' k k' now waits turn goes =
    turn_ends client lines left l l1 l2 t t' k k' now waits heard.End acted.Going end.LinkEnd turn
    (going_on client lines left l l1 l2 t t' k k' now waits heard.End turn) refl (λ p. p) refl (λ is. is) (
      subst (λ (n : ℕ). Rises n l2.counts.ends) turn.clock.same.ends turn.heard.0,
      subst (λ (h : Held). GoesOn (state_of h.player)) (sym turn.core.client_is) goes,
      turn.stands.1,
    )

pub link_fails : (client : Held) (lines left : List TimedLine) (l l1 l2 : LinkNow) (t t' : TickerNow) (k k' : SinkNow) (now : Held)
    (waits : List ℕ) → Turned client lines l l1 l2 t t' k k' now waits heard.Failed acted.Going left → GoesOn (state_of now.player)
    → Session client lines l l2 t t' k k' end.LinkFault
link_fails client lines left l l1 l2 t t' k k' now waits turn goes =
    turn_ends client lines left l l1 l2 t t' k k' now waits heard.Failed acted.Going end.LinkFault turn
    (going_on client lines left l l1 l2 t t' k k' now waits heard.Failed turn) refl (λ p. p) refl (λ is. is) (
      subst (λ (n : ℕ). Rises n l2.counts.faults) turn.clock.same.faults turn.heard.0,
      subst (λ (h : Held). GoesOn (state_of h.player)) (sym turn.core.client_is) goes,
      turn.stands.1,
    )

-- the sink failed
pub fault_session : (client : Held) (lines left left' : List TimedLine) (l l1 l2 : LinkNow) (t t' : TickerNow) (k k' k'' : SinkNow)
    (now now' now'' : Held) (waits : List ℕ) (r : Heard) (actions : List Action) (last : Standing)
    → Core client lines l l1 k k' now waits [] actions last → AllByRecursion EndsNone actions → last.left ≡ left
    → Clock t t' l.counts l1.counts (length (pieces actions)) → HearsRound hears now now' l1 l2 r → (r ≡ heard.Memory → ⊥)
    → ((s : Standing) → s.left ≡ left → s.client ≡ now' → ActsRound s left' now'' k' k'' acted.SinkFault)
    → Session client lines l l2 t t' k k'' end.SinkFault
fault_session client lines left left' l l1 l2 t t' k k' k'' now now' now'' waits r actions last c none_ends left_is clock round some acts =
    let heard_core = core_heard client lines l l1 l2 k k' now now' waits r actions last c round in
    let none : round.lost ≡ [] = lost_none r round.lost some round.none_lost in
    let fed = actions ++ fed_by round.pieces in
    let start = with_client last now' in
    let core1 : Core client lines l l2 k k' now' waits [] fed start = subst (λ (xs : List ℕ). Core client lines l l2 k k' now' waits xs fed
    start) none heard_core in
    let a = acts start left_is refl in
    let all = fed ++ a.actions in
    let bytes_is : pieces all ≡ pieces fed = pieces_same fed a.actions a.fed in
    let part : AppendsPart k.held k''.held a.last.printed = subst (λ (xs : List ℕ). AppendsPart k.held k''.held xs) (sym a.printed)
    (part_more k.held k'.held k''.held start.printed a.text core1.printed a.written.0) in
    let more : length (pieces actions) ≤ length (pieces all ++ []) =
    omega (arith, ap length bytes_is, heard_length actions round.pieces, length-append (pieces all) []) in
    record {
      actions = all;
      last = a.last;
      acts = each_append Acts (begun client lines) start a.last fed a.actions core1.acts a.acts;
      quits = none_append fed a.actions (none_append actions (fed_by round.pieces) none_ends (feeding_ends round.pieces)) a.stands.1;
      lost = [];
      none_lost = refl;
      read = subst (λ (xs : List ℕ). Appends l.read l2.read (xs ++ [])) (sym bytes_is) core1.read;
      out = core1.out;
      waits = waits;
      front = a.said ∙ core1.front;
      written = core1.written;
      printed = (part, subst (λ (n : ℕ). Rose n k''.faults) core1.faults a.written.1);
      ticks = clock.ticks;
      told = clock_told t t' l.counts l1.counts (length (pieces actions)) clock;
      ticker = ticker_same t t' clock.counts;
      paced = paced_up clock.ticks (length (pieces actions)) (length (pieces all ++ [])) l.counts l1.counts l2.counts
          (later_heard l1.counts l2.counts (length (joined round.pieces)) r round.counts).idle_reads more clock.paced;
      ended = goes_running a.last.client a.stands.0;
    }

-- ---- what is said

abbrev R : Type 0
R = Runner WorldState Entry

-- saying changes nothing of how the client stands
says_same : (h h' : Held) (ps : List (List ℕ)) → Each says h ps h' → (h'.player.phase ≡ h.player.phase) × (h'.player.runs ≡ h.player.runs)
says_same h h' [] same = (ap (λ (v : Held). v.player.phase) same, ap (λ (v : Held). v.player.runs) same)
says_same h h' (p ∷ ps) chain =
    let rest = says_same chain.0 h' ps chain.2 in (
      rest.0 ∙ ap (λ (v : Held). v.player.phase) chain.1.1,
      rest.1 ∙ ap (λ (v : Held). v.player.runs) chain.1.1,
    )

abbrev GoesBy : Phase → R → Type 0
GoesBy phase r = GoesOn (state_by (runner_mark r) phase)

abbrev IdleBy : List TimedLine → Phase → R → Type 0
IdleBy left phase r = state_by (runner_mark r) phase ≡ state.Running
    → IfSome (frame_by (kept_in r)) (λ frame. IsLater frame left × IfSome (permitted_by (kept_in r)) (λ permitted. permitted ≤ frame))

by_same : (P : Phase → R → Type 0) (a b : Phase) (r s : R) → b ≡ a → s ≡ r → P a r → P b s
by_same P a b r s x y is = subst (λ (v : Phase). P v s) (sym x) (subst (λ (v : R). P a v) (sym y) is)

-- behind what was said, at a beat
pub record Spoken (client : Held) (lines : List TimedLine) (l l3 : LinkNow) (t t' : TickerNow) (k k' : SinkNow) (now : Held)
    (waits : List ℕ) (left : List TimedLine) : Type 0 where
  pub actions : List Action
  pub last : Standing
  pub core : Core client lines l l3 k k' now waits [] actions last
  pub none_ends : AllByRecursion EndsNone actions
  pub left_is : last.left ≡ left
  pub idle : IsIdle last.left last.client
  pub goes : GoesOn (state_of last.client.player)
  pub beaten : Beaten t t' l.counts l3.counts (length (pieces actions))
  pub all_said : AllSaid l.counts l3.counts waits last.client

all_by : (c a d : LinkCounts) (waits : List ℕ) (h : Held) (r : Said) → Later c a → SaidCounts a d r → (r ≡ said.Failed → ⊥)
    → (r ≡ said.All → (waits ≡ []) × (due h ≡ [])) → AllSaid c d waits h
all_by c a d waits h said.All later counts ok all = inl (all refl)
all_by c a d waits h said.Held later counts ok all = inr (
  rises_within c.idle_writes a.idle_writes d.idle_writes d.idle_writes later.idle_writes counts.0 (omega arith),
  counts.1,
)
all_by c a d waits h said.Failed later counts ok all = absurd (ok refl)

pub spoken : (client : Held) (lines left : List TimedLine) (l l1 l2 l3 : LinkNow) (t t' : TickerNow) (k k' : SinkNow) (now now' : Held)
    (waits waits' : List ℕ) (r : Said) → Turned client lines l l1 l2 t t' k k' now waits heard.Going acted.Going left
    → GoesOn (state_of now.player) → SaysRound due says now now' waits waits' l2 l3 r → (r ≡ said.Failed → ⊥)
    → Spoken client lines l l3 t t' k k' now' waits' left
spoken client lines left l l1 l2 l3 t t' k k' now now' waits waits' r turn goes round ok =
    let m = round.moves in
    let last = with_said turn.last now' (turn.last.said ++ joined m.given) in
    let actions = turn.actions ++ taken_by m.given in
    let same = says_same now now' m.given m.said in
    let idle : IsIdle turn.last.left now = subst (λ (h : Held). IsIdle turn.last.left h) turn.core.client_is turn.stands.1 in
    let bytes_is : length (pieces actions) ≡ turn.bytes + turn.more =
    ap (λ (xs : List ℕ). length xs) (pieces_same turn.actions (taken_by m.given) (none_fed m.given)) ∙ turn.length_is in
    record {
      actions = actions;
      last = last;
      core = core_said client lines l l2 l3 k k' now now' waits waits' r turn.actions turn.last turn.core round;
      none_ends = none_append turn.actions (taken_by m.given)
          (going_on client lines left l l1 l2 t t' k k' now waits heard.Going turn) (taking_ends m.given);
      left_is = turn.stands.0;
      idle = by_same (IdleBy turn.last.left) now.player.phase now'.player.phase now.player.runs now'.player.runs same.0 same.1 idle;
      goes = by_same GoesBy now.player.phase now'.player.phase now.player.runs now'.player.runs same.0 same.1 goes;
      beaten = beaten t t' l.counts l1.counts l2.counts l3.counts turn.bytes turn.more (length (pieces actions)) r turn.clock turn.heard
          round.counts ok bytes_is;
      all_said = all_by l.counts l2.counts l3.counts waits' now' r (later_then l.counts l1.counts l2.counts turn.clock.later
          (later_heard l1.counts l2.counts turn.more heard.Going turn.heard)) round.counts ok round.all;
    }

-- the link failed at a write
pub write_fails : (client : Held) (lines left : List TimedLine) (l l1 l2 l3 : LinkNow) (t t' : TickerNow) (k k' : SinkNow) (now now' : Held)
    (waits waits' : List ℕ) → Turned client lines l l1 l2 t t' k k' now waits heard.Going acted.Going left
    → GoesOn (state_of now.player) → SaysRound due says now now' waits waits' l2 l3 said.Failed
    → Session client lines l l3 t t' k k' end.LinkFault
write_fails client lines left l l1 l2 l3 t t' k k' now now' waits waits' turn goes round =
    let m = round.moves in
    let last = with_said turn.last now' (turn.last.said ++ joined m.given) in
    let actions = turn.actions ++ taken_by m.given in
    let same = says_same now now' m.given m.said in
    let idle : IsIdle turn.last.left now = subst (λ (h : Held). IsIdle turn.last.left h) turn.core.client_is turn.stands.1 in
    let bytes_is : length (pieces actions) ≡ turn.bytes + turn.more =
    ap (λ (xs : List ℕ). length xs) (pieces_same turn.actions (taken_by m.given) (none_fed m.given)) ∙ turn.length_is in
    let core = core_said client lines l l2 l3 k k' now now' waits waits' said.Failed turn.actions turn.last turn.core round in
    let faults : l2.counts.faults ≡ l.counts.faults = (same_then l.counts l1.counts l2.counts turn.clock.same
    (same_heard l1.counts l2.counts
    turn.more turn.heard)).faults in
    let later = later_then l1.counts l2.counts l3.counts (later_heard l1.counts l2.counts turn.more heard.Going turn.heard)
    (later_said l2.counts l3.counts said.Failed round.counts) in
    let more : turn.bytes ≤ length (pieces actions ++ []) = omega (arith, bytes_is, length-append (pieces actions) []) in
    let none_ends = none_append turn.actions (taken_by m.given) (going_on client lines left l l1 l2 t t' k k' now waits heard.Going turn)
    (taking_ends m.given) in
    session_of client lines l l3 t t' k k' now' waits' [] end.LinkFault actions last core none_ends refl (core.printed, core.faults)
    turn.clock.ticks (clock_told t t' l.counts l1.counts turn.bytes turn.clock) (ticker_same t t' turn.clock.counts)
    (paced_up turn.clock.ticks turn.bytes (length (pieces actions ++ [])) l.counts l1.counts l3.counts later.idle_reads more
    turn.clock.paced) (
      subst (λ (n : ℕ). Rises n l3.counts.faults) faults round.counts.0,
      by_same GoesBy now.player.phase now'.player.phase now.player.runs now'.player.runs same.0 same.1 goes,
      by_same (IdleBy turn.last.left) now.player.phase now'.player.phase now.player.runs now'.player.runs same.0 same.1 idle,
    )

-- ---- the beat

nil_length : (n : ℕ) (xs : List ℕ) → length xs ≡ n → length (xs ++ []) ≡ n
nil_length n xs is = ap (λ (ys : List ℕ). length ys) (append-nil xs) ∙ is

pub stop_session : (client : Held) (lines left : List TimedLine) (l l3 : LinkNow) (t t' t'' : TickerNow) (k k' : SinkNow) (now : Held)
    (waits : List ℕ) → Spoken client lines l l3 t t' k k' now waits left → WaitCounts t'.counts t''.counts beat.Stop
    → Adds t'.beats t''.beats (beat.Stop ∷ []) → Session client lines l l3 t t'' k k' end.Stopped
stop_session client lines left l l3 t t' t'' k k' now waits s counts told =
    let b = s.beaten in
    let faults : t''.counts.faults ≡ t.counts.faults = ap (λ (c : TickCounts). c.faults) counts.1 ∙ ticker_same t t' b.counts in
    session_of client lines l l3 t t'' k k' now waits [] end.Stopped s.actions s.last s.core s.none_ends refl
    (s.core.printed, s.core.faults) b.ticks
    (adds_then t.beats t'.beats t''.beats (replicate b.ticks beat.Tick) (beat.Stop ∷ []) b.told told) faults
    (subst (λ (n : ℕ). IsPaced (b.ticks + 1) n l.counts l3.counts) (sym (nil_length (length (pieces s.actions)) (pieces s.actions) refl))
    b.paced) (
      subst (λ (n : ℕ). Rises n t''.counts.stops) (ap (λ (c : TickCounts). c.stops) b.counts) counts.0,
      faults,
      b.same.faults,
      b.same.ends,
      s.all_said,
      s.goes,
      s.idle,
    )

fewer_paced : (ticks bytes n : ℕ) (c d : LinkCounts) → n ≡ bytes → IsPaced (ticks + 1) bytes c d → IsPaced (ticks + 0) n c d
fewer_paced ticks bytes n c d is (inl last) = inl last
fewer_paced ticks bytes n c d is (inr so) = inr (omega (arith, so, is))

pub ticker_fails : (client : Held) (lines left : List TimedLine) (l l3 : LinkNow) (t t' t'' : TickerNow) (k k' : SinkNow) (now : Held)
    (waits : List ℕ) → Spoken client lines l l3 t t' k k' now waits left → WaitCounts t'.counts t''.counts beat.Failed
    → Adds t'.beats t''.beats [] → Session client lines l l3 t t'' k k' end.TickerFault
ticker_fails client lines left l l3 t t' t'' k k' now waits s counts told =
    let b = s.beaten in
    let rises : Rises t.counts.faults t''.counts.faults = subst (λ (n : ℕ). Rises n t''.counts.faults) (ap (λ (c : TickCounts). c.faults)
    b.counts) counts.0 in
    session_of client lines l l3 t t'' k k' now waits [] end.TickerFault s.actions s.last s.core s.none_ends refl
    (s.core.printed, s.core.faults) b.ticks
    (adds_then t.beats t'.beats t''.beats (replicate b.ticks beat.Tick) [] b.told told) rises
    (fewer_paced b.ticks (length (pieces s.actions)) (length (pieces s.actions ++ [])) l.counts l3.counts
    (nil_length (length (pieces s.actions)) (pieces s.actions) refl) b.paced) (rises, s.all_said, s.goes, s.idle)
