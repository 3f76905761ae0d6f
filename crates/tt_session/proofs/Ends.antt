-- How a run ends.
use Rattle.std.proofs.Common.{◌≡◌, ℕ, zero, suc, ◌+◌, ◌≤◌, inl, inr, List, [], ◌∷◌}
use Rattle.std.proofs.Common.{◌++◌, length, Option, Some, None, refl, sym, ap, ◌∙◌, subst, append_assoc}
use Rattle.std.proofs.Common.{length-append, arith}
use Rattle.std.specs.Prelude.{replicate}
use Rattle.std.specs.List.{AllByRecursion}
use Rattle.std.proofs.lemmas.List.{append-nil}
use Rattle.std.specs.Io.KnownBytes.{Appends}
use Rattle.tt_edge.specs.declared.ticker.Beat.{Beat}
use Rattle.tt_edge.specs.declared.ticker.Beat.TheVariants as beat
use Rattle.tt_edge.specs.Link.{LinkCounts}
use Rattle.tt_edge.specs.Listener.{TickCounts}
use Rattle.tt_edge.specs.Told.{Adds}
use Rattle.tt_rounds.specs.Links.{LinkNow, Later}
use Rattle.tt_rounds.specs.Chain.{joined}
use Rattle.tt_rounds.specs.Hearing.{HearsRound, HeardCounts}
use Rattle.tt_rounds.specs.Hearing as lost_of
use Rattle.tt_rounds.specs.Saying.{SaidCounts}
use Rattle.tt_rounds.specs.Pacing.{IsPaced}
use Rattle.tt_rounds.specs.declared.hearing.Heard.{Heard}
use Rattle.tt_rounds.specs.declared.hearing.Heard.TheVariants as heard
use Rattle.tt_rounds.specs.declared.outbox.Said.{Said}
use Rattle.tt_rounds.specs.declared.outbox.Said.TheVariants as said
use Rattle.tt_rounds.proofs.Counting.{later_same, later_then, later_heard, later_said, reads_said}
use Rattle.tt_rounds.proofs.Pacings.{paced_none, paced_beat}
use Rattle.tt_client.specs.Held.{Held}
use Rattle.tt_play_file.specs.declared.line.TimedLine.{TimedLine}
use Rattle.tt_session.specs.declared.acting.Acted.{Acted}
use Rattle.tt_session.specs.declared.acting.Acted.TheVariants as acted
use Rattle.tt_session.specs.declared.end.PlayEnd.{PlayEnd}
use Rattle.tt_session.specs.declared.end.PlayEnd.TheVariants as end
use Rattle.tt_session.specs.Acting.{Action, Standing, pieces, EndsNone}
use Rattle.tt_session.specs.Doing.{ActsRound, IsWritten, StandsSo}
use Rattle.tt_session.specs.Session.{Session, TickerNow, SinkNow, IsLost, IsPrinted, IsTold, EndsSo, QuitsSo, last_beat}
use Rattle.tt_session.proofs.Doings.{none_append}
use Rattle.tt_session.proofs.Sessions.{Core, hears, core_heard, core_acted, fed_by, feeding_ends, with_client, heard_length, pieces_same}

-- a link's faults and ends are as before
pub record Sameness (c c' : LinkCounts) : Type 0 where
  pub faults : c'.faults ≡ c.faults
  pub ends : c'.ends ≡ c.ends

-- the beats so far: each was a Tick, and they are no more than was read for
pub record Clock (t t' : TickerNow) (c c' : LinkCounts) (bytes : ℕ) : Type 0 where
  pub ticks : ℕ
  pub told : Adds t.beats t'.beats (replicate ticks beat.Tick)
  pub counts : t'.counts ≡ t.counts
  pub paced : IsPaced ticks bytes c c'
  pub later : Later c c'
  pub same : Sameness c c'

adds_none : {A : Type 0} (a : Option (List A)) → Adds a a []
adds_none None = tt
adds_none (Some xs) = sym (append-nil xs)

pub adds_then : {A : Type 0} (a b c : Option (List A)) (xs ys : List A) → Adds a b xs → Adds b c ys → Adds a c (xs ++ ys)
adds_then None b c xs ys first second = tt
adds_then (Some as') None c xs ys first second = absurd first
adds_then (Some as') (Some bs) None xs ys first second = absurd second
adds_then (Some as') (Some bs) (Some cs) xs ys first second = second ∙ ap (λ zs. zs ++ ys) first ∙ append_assoc as' xs ys

one_suc : (n : ℕ) → replicate n beat.Tick ++ beat.Tick ∷ [] ≡ replicate (suc n) beat.Tick
one_suc zero = refl
one_suc (suc n) = ap (λ (xs : List Beat). beat.Tick ∷ xs) (one_suc n)

one_more : (n : ℕ) → replicate n beat.Tick ++ beat.Tick ∷ [] ≡ replicate (n + 1) beat.Tick
one_more n = let next : n + 1 ≡ suc n = omega arith in one_suc n ∙ ap (λ m. replicate m beat.Tick) (sym next)

pub clock_first : (t : TickerNow) (c : LinkCounts) → Clock t t c c 0
clock_first t c = record {
  ticks = 0;
  told = adds_none t.beats;
  counts = refl;
  paced = paced_none c;
  later = later_same c;
  same = record { faults = refl; ends = refl };
}

pub same_heard : (a b : LinkCounts) (n : ℕ) → HeardCounts a b n heard.Going → Sameness a b
same_heard a b n (inl full) = record { faults = ap (λ (k : LinkCounts). k.faults) full.1; ends = ap (λ (k : LinkCounts). k.ends) full.1 }
same_heard a b n (inr idle) = record { faults = ap (λ (k : LinkCounts). k.faults) idle.1; ends = ap (λ (k : LinkCounts). k.ends) idle.1 }

pub same_said : (a b : LinkCounts) (r : Said) → SaidCounts a b r → (r ≡ said.Failed → ⊥) → Sameness a b
same_said a b said.All k ok = record { faults = ap (λ (k : LinkCounts). k.faults) k; ends = ap (λ (k : LinkCounts). k.ends) k }
same_said a b said.Held k ok = record { faults = ap (λ (k : LinkCounts). k.faults) k.2; ends = ap (λ (k : LinkCounts). k.ends) k.2 }
same_said a b said.Failed k ok = absurd (ok refl)

pub same_then : (a b c : LinkCounts) → Sameness a b → Sameness b c → Sameness a c
same_then a b c x y = record { faults = y.faults ∙ x.faults; ends = y.ends ∙ x.ends }

-- A round that came to its beat: what was read, and what was written. The beat counts already.
pub record Beaten (t t' : TickerNow) (c c' : LinkCounts) (bytes : ℕ) : Type 0 where
  pub ticks : ℕ
  pub told : Adds t.beats t'.beats (replicate ticks beat.Tick)
  pub counts : t'.counts ≡ t.counts
  pub paced : IsPaced (ticks + 1) bytes c c'
  pub later : Later c c'
  pub same : Sameness c c'

idle_same : (beats bytes : ℕ) (c b d : LinkCounts) → d.idle_reads ≡ b.idle_reads → IsPaced beats bytes c b → IsPaced beats bytes c d
idle_same beats bytes c b d same (inl last) = inl (omega (arith, last, same))
idle_same beats bytes c b d same (inr so) = inr (omega (arith, so, same))

pub beaten : (t t' : TickerNow) (c a b d : LinkCounts) (bytes more n : ℕ)
    (r : Said) → Clock t t' c a bytes → HeardCounts a b more heard.Going
    → SaidCounts b d r → (r ≡ said.Failed → ⊥) → n ≡ bytes + more → Beaten t t' c d n
beaten t t' c a b d bytes more n r clock hear say ok is = record {
  ticks = clock.ticks;
  told = clock.told;
  counts = clock.counts;
  paced = subst (λ (m : ℕ). IsPaced (clock.ticks + 1) m c d) (sym is) (idle_same (clock.ticks + 1) (bytes + more) c b d
      (reads_said b d r say)
      (paced_beat clock.ticks bytes more c a b clock.later.idle_reads hear clock.paced));
  later = later_then c b d (later_then c a b clock.later (later_heard a b more heard.Going hear)) (later_said b d r say);
  same = same_then c b d (same_then c a b clock.same (same_heard a b more hear)) (same_said b d r say ok);
}

pub clock_next : (t t' t'' : TickerNow) (c c' : LinkCounts) (bytes : ℕ) → Beaten t t' c c' bytes → Adds t'.beats t''.beats (beat.Tick ∷ [])
    → t''.counts ≡ t'.counts → Clock t t'' c c' bytes
clock_next t t' t'' c c' bytes b told counts = record {
  ticks = b.ticks + 1;
  told = subst (λ (xs : List Beat). Adds t.beats t''.beats xs) (one_more b.ticks)
      (adds_then t.beats t'.beats t''.beats (replicate b.ticks beat.Tick) (beat.Tick ∷ []) b.told told);
  counts = counts ∙ b.counts;
  paced = b.paced;
  later = b.later;
  same = b.same;
}

-- ---- the session

-- what isn't a fault of the sink
abbrev NotFault : Acted → Type 0
NotFault acted.SinkFault = ⊥
NotFault other = Unit {0}

pub going_whole : acted.Going ≡ acted.SinkFault → ⊥
going_whole is = subst NotFault is tt

pub quit_whole : acted.Quit ≡ acted.SinkFault → ⊥
quit_whole is = subst NotFault is tt

pub memory_whole : acted.Memory ≡ acted.SinkFault → ⊥
memory_whole is = subst NotFault is tt

-- what was written where the sink did not fail
written_whole : (a : Acted) (k k' : SinkNow) (text : List ℕ) → (a ≡ acted.SinkFault → ⊥) → IsWritten k k' text a
    → Appends k.held k'.held text × (k'.faults ≡ k.faults)
written_whole acted.Going k k' text whole is = is
written_whole acted.Quit k k' text whole is = is
written_whole acted.SinkFault k k' text whole is = absurd (whole refl)
written_whole acted.Memory k k' text whole is = is

pub session_of : (client : Held) (lines : List TimedLine) (l l' : LinkNow) (t t' : TickerNow) (k k' : SinkNow) (now : Held)
    (waits lost : List ℕ) (e : PlayEnd) (actions : List Action) (last : Standing)
    → Core client lines l l' k k' now waits lost actions last → QuitsSo e actions → IsLost e lost
    → IsPrinted e k k' last.printed → (ticks : ℕ) → Adds t.beats t'.beats (replicate ticks beat.Tick ++ last_beat e)
    → IsTold e t.counts t'.counts → IsPaced (ticks + length (last_beat e)) (length (pieces actions ++ lost)) l.counts l'.counts
    → EndsSo l.counts l'.counts t.counts t'.counts actions waits last e → Session client lines l l' t t' k k' e
session_of client lines l l' t t' k k' now waits lost e actions last c quits none printed ticks told ticker paced ended = record {
  actions = actions;
  last = last;
  acts = c.acts;
  quits = quits;
  lost = lost;
  none_lost = none;
  read = c.read;
  out = c.out;
  waits = waits;
  front = c.front;
  written = c.written;
  printed = printed;
  ticks = ticks;
  told = told;
  ticker = ticker;
  paced = paced;
  ended = ended;
}

-- no beat was told in the last round
pub clock_told : (t t' : TickerNow) (c c' : LinkCounts) (bytes : ℕ) (clock : Clock t t' c c' bytes)
    → Adds t.beats t'.beats (replicate clock.ticks beat.Tick ++ [])
clock_told t t' c c' bytes clock = subst (λ (xs : List Beat). Adds t.beats t'.beats xs) (sym (append-nil (replicate clock.ticks beat.Tick)))
    clock.told

pub paced_up : (ticks bytes n : ℕ) (c a d : LinkCounts) → a.idle_reads ≤ d.idle_reads → bytes ≤ n → IsPaced ticks bytes c a
    → IsPaced (ticks + 0) n c d
paced_up ticks bytes n c a d up more (inl last) = inl (omega (arith, last, up))
paced_up ticks bytes n c a d up more (inr so) = inr (omega (arith, so, up, more))

pub ticker_same : (t t' : TickerNow) → t'.counts ≡ t.counts → t'.counts.faults ≡ t.counts.faults
ticker_same t t' is = ap (λ (k : TickCounts). k.faults) is

pub lost_none : (r : Heard) (lost : List ℕ) → (r ≡ heard.Memory → ⊥) → lost_of.IsLost r lost → lost ≡ []
lost_none heard.Going lost other is = is
lost_none heard.End lost other is = is
lost_none heard.Failed lost other is = is
lost_none heard.Memory lost other is = absurd (other refl)

-- memory ran out as a piece was heard
pub lost_session : (client : Held) (lines : List TimedLine) (l l1 l2 : LinkNow) (t t' : TickerNow) (k k' : SinkNow) (now now' : Held)
    (waits : List ℕ) (actions : List Action) (last : Standing) → Core client lines l l1 k k' now waits [] actions last
    → AllByRecursion EndsNone actions → Clock t t' l.counts l1.counts (length (pieces actions))
    → HearsRound hears now now' l1 l2 heard.Memory → Session client lines l l2 t t' k k' end.Memory
lost_session client lines l l1 l2 t t' k k' now now' waits actions last c none_ends clock round =
    let core = core_heard client lines l l1 l2 k k' now now' waits heard.Memory actions last c round in
    let more : length (pieces actions) ≤ length (pieces (actions ++ fed_by round.pieces) ++ round.lost) =
    omega (arith, heard_length actions round.pieces, length-append (pieces (actions ++ fed_by round.pieces)) round.lost) in
    session_of client lines l l2 t t' k k' now' waits round.lost end.Memory (actions ++ fed_by round.pieces) (with_client last now') core
    (none_append actions (fed_by round.pieces) none_ends (feeding_ends round.pieces)) tt
    (core.printed, core.faults) clock.ticks (clock_told t t' l.counts l1.counts (length (pieces actions)) clock)
    (ticker_same t t' clock.counts)
    (paced_up clock.ticks (length (pieces actions)) (length (pieces (actions ++ fed_by round.pieces) ++ round.lost)) l.counts l1.counts
    l2.counts (later_heard l1.counts l2.counts (length (joined round.pieces)) heard.Memory round.counts).idle_reads more clock.paced) tt

-- ---- a turn: what came was heard, and what is due was done

-- behind a turn
pub record Turned (client : Held) (lines : List TimedLine) (l l1 l2 : LinkNow) (t t' : TickerNow) (k k' : SinkNow) (now : Held)
    (waits : List ℕ) (r : Heard) (a : Acted) (left : List TimedLine) : Type 0 where
  pub before : List Action
  pub actions : List Action
  pub done : List Action
  pub last : Standing
  pub actions_is : actions ≡ before ++ done
  pub none_ends : AllByRecursion EndsNone before
  pub core : Core client lines l l2 k k' now waits [] actions last
  pub stands : StandsSo done last left a
  -- the clock before it, and what was read since
  pub bytes : ℕ
  pub more : ℕ
  pub clock : Clock t t' l.counts l1.counts bytes
  pub heard : HeardCounts l1.counts l2.counts more r
  pub length_is : length (pieces actions) ≡ bytes + more

pub turned : (client : Held) (lines left left' : List TimedLine) (l l1 l2 : LinkNow) (t t' : TickerNow) (k k' k'' : SinkNow)
    (now now' now'' : Held) (waits : List ℕ) (r : Heard) (a : Acted) (actions : List Action) (last : Standing)
    → Core client lines l l1 k k' now waits [] actions last → AllByRecursion EndsNone actions → last.left ≡ left
    → Clock t t' l.counts l1.counts (length (pieces actions)) → HearsRound hears now now' l1 l2 r → (r ≡ heard.Memory → ⊥)
    → ((s : Standing) → s.left ≡ left → s.client ≡ now' → ActsRound s left' now'' k' k'' a) → (a ≡ acted.SinkFault → ⊥)
    → Turned client lines l l1 l2 t t' k k'' now'' waits r a left'
turned client lines left left' l l1 l2 t t' k k' k'' now now' now'' waits r a actions last c none_ends left_is clock round some acts whole =
    let heard_core = core_heard client lines l l1 l2 k k' now now' waits r actions last c round in
    let none : round.lost ≡ [] = lost_none r round.lost some round.none_lost in
    let fed = actions ++ fed_by round.pieces in
    let start = with_client last now' in
    let core1 : Core client lines l l2 k k' now' waits [] fed start = subst (λ (xs : List ℕ). Core client lines l l2 k k' now' waits xs fed
    start) none heard_core in
    let acted_round = acts start left_is refl in
    let w = written_whole a k' k'' acted_round.text whole acted_round.written in
    record {
      before = fed;
      actions = fed ++ acted_round.actions;
      done = acted_round.actions;
      last = acted_round.last;
      actions_is = refl;
      none_ends = none_append actions (fed_by round.pieces) none_ends (feeding_ends round.pieces);
      core = core_acted client lines left' l l2 k k' k'' now' now'' waits a fed start core1 acted_round w.0 w.1;
      stands = acted_round.stands;
      bytes = length (pieces actions);
      more = length (joined round.pieces);
      clock = clock;
      heard = round.counts;
      length_is = ap (λ (xs : List ℕ). length xs) (pieces_same fed acted_round.actions acted_round.fed)
          ∙ heard_length actions round.pieces;
    }

-- an end behind a turn, before anything is said
pub turn_ends : (client : Held) (lines left : List TimedLine) (l l1 l2 : LinkNow) (t t' : TickerNow) (k k' : SinkNow) (now : Held)
    (waits : List ℕ) (r : Heard) (a : Acted) (e : PlayEnd) → (turn : Turned client lines l l1 l2 t t' k k' now waits r a left)
    → QuitsSo e turn.actions → IsLost e []
    → (Appends k.held k'.held turn.last.printed × (k'.faults ≡ k.faults) → IsPrinted e k k' turn.last.printed)
    → last_beat e ≡ [] → (t'.counts.faults ≡ t.counts.faults → IsTold e t.counts t'.counts)
    → EndsSo l.counts l2.counts t.counts t'.counts turn.actions waits turn.last e → Session client lines l l2 t t' k k' e
turn_ends client lines left l l1 l2 t t' k k' now waits r a e turn quits none printed no_beat told ended =
    let n = length (pieces turn.actions ++ []) in
    let more : turn.bytes ≤ n = omega (arith, turn.length_is, length-append (pieces turn.actions) []) in
    let paced = paced_up turn.clock.ticks turn.bytes n l.counts l1.counts l2.counts (later_heard l1.counts l2.counts turn.more r
    turn.heard).idle_reads more turn.clock.paced in
    session_of client lines l l2 t t' k k' now waits [] e turn.actions turn.last turn.core quits none
    (printed (turn.core.printed, turn.core.faults)) turn.clock.ticks
    (subst (λ (xs : List Beat). Adds t.beats t'.beats (replicate turn.clock.ticks beat.Tick ++ xs)) (sym no_beat)
    (clock_told t t' l.counts l1.counts turn.bytes turn.clock)) (told (ticker_same t t' turn.clock.counts))
    (subst (λ (xs : List Beat). IsPaced (turn.clock.ticks + length xs) n l.counts l2.counts) (sym no_beat) paced) ended

-- no action of a turn ends the run, where none of those done in it does
pub turn_on : (client : Held) (lines left : List TimedLine) (l l1 l2 : LinkNow) (t t' : TickerNow) (k k' : SinkNow) (now : Held)
    (waits : List ℕ) (r : Heard) (a : Acted) (turn : Turned client lines l l1 l2 t t' k k' now waits r a left)
    → AllByRecursion EndsNone turn.done → AllByRecursion EndsNone turn.actions
turn_on client lines left l l1 l2 t t' k k' now waits r a turn none =
    subst (λ (xs : List Action). AllByRecursion EndsNone xs) (sym turn.actions_is) (none_append turn.before turn.done turn.none_ends none)
