-- Where nothing fails, what is asked for is done.
use Rattle.std.proofs.Common.{◌≡◌, ℕ, zero, suc, ◌≤◌, ◌<◌, inl, inr, List, [], ◌∷◌, length, take, map, Option, Some, refl, sym, ap, subst}
use Rattle.std.proofs.Common.{◌∙◌, arith, lit≤}
use Rattle.std.specs.Prelude.{IfSome}
use Rattle.std.specs.List.{AllByRecursion}
use Rattle.tt_lines.specs.Lines.{lines_of, IsFirstBad}
use Rattle.tt_edge.specs.Count.{Rose}
use Rattle.tt_edge.specs.Link.{LinkCounts, Rises}
use Rattle.tt_edge.specs.Listener.{TickCounts}
use Rattle.tt_rounds.specs.Commands.{commands_limit}
use Rattle.tt_rounds.specs.Links.{LinkNow}
use Rattle.tt_words.specs.declared.play.PlayWords.{PlayWords}
use Rattle.tt_play_file.specs.declared.line.TimedLine.{TimedLine}
use Rattle.tt_play_file.specs.File.{IsLine, line_text, Rise, IsFileText}
use Rattle.tt_session.specs.declared.end.PlayEnd.{PlayEnd}
use Rattle.tt_session.specs.declared.end.PlayEnd.TheVariants as end
use Rattle.tt_session.specs.Acting.{Action, Standing}
use Rattle.tt_session.specs.Ending.{status_of}
use Rattle.tt_session.specs.Session.{EndsSo, IsPrinted, SinkNow, TickerNow}
use Rattle.tt_play.specs.Commands.{HasNoLines, SourceNow, TellsBadLine}
use Rattle.tt_play.specs.Played.{GoesWell, IsDone, Plays}

-- ---- it was played

late : (status : ℕ) → 10 ≤ status → status ≤ 13 → IsDone status
late status low high = inr (inr (low, high))

run_done : (e : PlayEnd) (c c' : LinkCounts) (t t' : TickCounts) (actions : List Action) (waits : List ℕ) (s : Standing) (k k' : SinkNow)
    (text : List ℕ) → EndsSo c c' t t' actions waits s e → IsPrinted e k k' text → (Rises c.faults c'.faults → ⊥)
    → (Rises t.faults t'.faults → ⊥) → (Rose k.faults k'.faults → ⊥) → IsDone (status_of e)
run_done end.Quit c c' t t' actions waits s k k' text so printed link ticker sink = inl refl
run_done end.Shutdown c c' t t' actions waits s k k' text so printed link ticker sink = inl refl
run_done end.Stopped c c' t t' actions waits s k k' text so printed link ticker sink = inl refl
run_done end.SinkFault c c' t t' actions waits s k k' text so printed link ticker sink = absurd (sink printed.1)
run_done end.Memory c c' t t' actions waits s k k' text so printed link ticker sink = inr (inl refl)
run_done end.TickerFault c c' t t' actions waits s k k' text so printed link ticker sink = absurd (ticker so.0)
run_done end.Desync c c' t t' actions waits s k k' text so printed link ticker sink = late 10 (lit≤ tt) (lit≤ tt)
run_done end.Wrong c c' t t' actions waits s k k' text so printed link ticker sink = late 11 (lit≤ tt) (lit≤ tt)
run_done end.Ended c c' t t' actions waits s k k' text so printed link ticker sink = late 12 (lit≤ tt) (lit≤ tt)
run_done end.LinkEnd c c' t t' actions waits s k k' text so printed link ticker sink = late 13 (lit≤ tt) (lit≤ tt)
run_done end.LinkFault c c' t t' actions waits s k k' text so printed link ticker sink = absurd (link so.0)

pub plays_done : (args : List (List ℕ)) (f f' : SourceNow) (words : PlayWords) (lines : List TimedLine) (l l' : LinkNow) (t t' : TickerNow)
    (first k k' : SinkNow) (status : ℕ) → k ≡ first → Plays words lines l l' t t' k k' status → GoesWell args f f' l l' t t' first k'
    → IsDone status
plays_done args f f' words lines l l' t t' first k k' status same p well =
    subst IsDone (sym p.status_is) (run_done p.end l.counts l'.counts t.counts t'.counts p.session.actions p.session.waits p.session.last
    k k' p.session.last.printed p.session.ended p.session.printed well.link well.ticker (λ rose.
    well.sink (subst (λ (now : SinkNow). Rose now.faults k'.faults) same rose)))

-- ---- the file

-- the first lines of a file are one
record Front (frame n : ℕ) (lines : List TimedLine) : Type 0 where
  few : List TimedLine
  each : AllByRecursion IsLine few
  rise : Rise frame few
  text : take n (map line_text lines) ≡ map line_text few

front_of : (frame n : ℕ) (lines : List TimedLine) → AllByRecursion IsLine lines → Rise frame lines → Front frame n lines
front_of frame zero [] each rise = record { few = []; each = tt; rise = tt; text = refl }
front_of frame zero (line ∷ lines) each rise = record { few = []; each = tt; rise = tt; text = refl }
front_of frame (suc n) [] each rise = record { few = []; each = tt; rise = tt; text = refl }
front_of frame (suc n) (line ∷ lines) each rise =
    let rest = front_of line.at n lines each.1 rise.1 in
    record {
      few = line ∷ rest.few;
      each = (each.0, rest.each);
      rise = (rise.0, rest.rise);
      text = ap (λ (t : List (List ℕ)). line_text line ∷ t) rest.text;
    }

none_bad : (texts : List (List ℕ)) (line : ℕ) → IsFileText texts → IsFirstBad IsFileText texts line → ⊥
none_bad texts line file bad =
    let front = front_of 0 line file.0 file.1.0 file.1.1 in
    bad.bad (front.few, (front.each, front.rise), ap (take line) file.2 ∙ front.text)

-- what is left is known
known : (P : List ℕ → Type 0) (left : Option (List ℕ)) (input : List ℕ) → left ≡ Some input → IfSome left P → P input
known P left input is holds = let Q : Option (List ℕ) → Type 0 = λ o. IfSome o P in subst Q is holds

not_bad : (f f' : SourceNow) (k k' : SinkNow) (input : List ℕ) → f.left ≡ Some input → IsFileText (lines_of input)
    → TellsBadLine f f' k k' → ⊥
not_bad f f' k k' input is file b =
    let same : b.bytes ≡ input = known (λ left. b.bytes ≡ left) f.left input is b.read.all in
    none_bad (lines_of b.bytes) b.line (subst (λ (bytes : List ℕ). IsFileText (lines_of bytes)) (sym same) file) b.bad

pub refused_done : {K : Type 0} (now : K → SinkNow) (args : List (List ℕ)) (f f' : SourceNow) (l l' : LinkNow) (t t' : TickerNow)
    (k k' : K) (status : ℕ) → HasNoLines now f f' k k' status → GoesWell args f f' l l' t t' (now k) (now k') → IsDone status
refused_done now args f f' l l' t t' k k' status (inl bad) well =
    absurd (not_bad f f' (now k) (now k') well.input well.known well.file bad.1)
refused_done now args f f' l l' t t' k k' status (inr (inl fault)) well = absurd (well.source fault.1)
refused_done now args f f' l l' t t' k k' status (inr (inr (inl long))) well =
    let more = known (λ left. commands_limit < length left) f.left well.input well.known long.2 in
    absurd (omega (arith, more, well.within))
refused_done now args f f' l l' t t' k k' status (inr (inr (inr memory))) well = inr (inl memory.0)
