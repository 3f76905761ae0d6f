-- What a status tells, by what was done.
use Rattle.std.proofs.Common.{◌≡◌, ℕ, ◌≤◌, ◌<◌, ◌⊎◌, inl, inr, List, length, Option, Some, None, arith, refl, sym, ap, subst, ◌∙◌}
use Rattle.std.specs.Prelude.{IfSome}
use Rattle.tt_lines.specs.Lines.{lines_of, IsFirstBad}
use Rattle.tt_edge.specs.Link.{LinkCounts, Rises}
use Rattle.tt_edge.specs.Listener.{TickCounts}
use Rattle.tt_rounds.specs.Links.{LinkNow}
use Rattle.tt_rounds.specs.Commands.{commands_limit}
use Rattle.tt_admin.specs.declared.message.AdminMsg.{AdminMsg}
use Rattle.tt_admin_file.specs.declared.command.Command.{Command}
use Rattle.tt_admin_file.specs.Commands.{IsFile}
use Rattle.tt_admin_file.proofs.FileLaws.{none_bad}
use Rattle.tt_admin_run.specs.declared.ended.Ended.{Ended}
use Rattle.tt_admin_run.specs.declared.ended.Ended.TheVariants as ended
use Rattle.tt_admin_run.specs.declared.sending.Agenda.{Agenda}
use Rattle.tt_admin_run.specs.Agendas.{IsAgenda}
use Rattle.tt_admin_run.specs.Rounds.{SinkNow, TickerNow}
use Rattle.tt_admin_run.specs.Session.{DeskSession, status_of, SinkEnds, TickerEnds, LinkEnds}
use Rattle.tt_admin_cli.specs.Runs.{SourceNow, IsInput, IsMadeOf, join_of, HasRun, IsFormed, IsBadFile, IsLong, TellsBadLine}
use Rattle.tt_admin_cli.specs.Runs.{Refuses, GoesWell, IsDone}

-- what the status tells
pub record Causes (args : List (List ℕ)) (s s' : SourceNow) (l l' : LinkNow) (t t' : TickerNow) (k k' : SinkNow) (status : ℕ)
    : Type 0 where
  pub source : status ≡ 4 → Rises s.faults s'.faults
  pub sink : status ≡ 5 → Rises k.faults k'.faults
  pub ticker : status ≡ 9 → Rises t.counts.faults t'.counts.faults
  pub end : status ≡ 13 → Rises l.counts.ends l'.counts.ends
  pub link : status ≡ 14 → Rises l.counts.faults l'.counts.faults
  pub done : status ≡ 0 → (k'.faults ≡ k.faults) × (t'.counts.faults ≡ t.counts.faults)
  pub complete : GoesWell args s s' l l' t t' k k' → IsDone status

-- ---- of a run

source_by : (e : Ended) (s s' : ℕ) → status_of e ≡ 4 → Rises s s'
source_by ended.Quit s s' is = absurd (omega (arith, is))
source_by e s s' is = absurd (omega (arith, is))

sink_by : (e : Ended) (k k' : ℕ) → SinkEnds e k k' → status_of e ≡ 5 → Rises k k'
sink_by ended.SinkFault k k' so is = so
sink_by e k k' so is = absurd (omega (arith, is))

ticker_by : (e : Ended) (t t' : TickCounts) → TickerEnds e t t' → status_of e ≡ 9 → Rises t.faults t'.faults
ticker_by ended.TickFault t t' so is = so
ticker_by e t t' so is = absurd (omega (arith, is))

end_by : (e : Ended) (l l' : LinkCounts) → LinkEnds e l l' → status_of e ≡ 13 → Rises l.ends l'.ends
end_by ended.LinkEnd l l' so is = so
end_by e l l' so is = absurd (omega (arith, is))

link_by : (e : Ended) (l l' : LinkCounts) → LinkEnds e l l' → status_of e ≡ 14 → Rises l.faults l'.faults
link_by ended.LinkFault l l' so is = so
link_by e l l' so is = absurd (omega (arith, is))

done_by : (e : Ended) (k k' : ℕ) (t t' : TickCounts) → SinkEnds e k k' → TickerEnds e t t' → status_of e ≡ 0
    → (k' ≡ k) × (t'.faults ≡ t.faults)
done_by ended.Quit k k' t t' sink ticker is = (sink, ap (λ (c : TickCounts). c.faults) ticker)
done_by ended.Shutdown k k' t t' sink ticker is = (sink, ap (λ (c : TickCounts). c.faults) ticker)
done_by ended.Stopped k k' t t' sink ticker is = (sink, ticker.1)
done_by e k k' t t' sink ticker is = absurd (omega (arith, is))

complete_by : (e : Ended) (l l' : LinkCounts) (t t' : TickCounts) (k k' : ℕ) → LinkEnds e l l' → TickerEnds e t t' → SinkEnds e k k'
    → (Rises l.faults l'.faults → ⊥) → (Rises t.faults t'.faults → ⊥) → (Rises k k' → ⊥) → IsDone (status_of e)
complete_by ended.Quit l l' t t' k k' link ticker sink a b c = inl refl
complete_by ended.Shutdown l l' t t' k k' link ticker sink a b c = inl refl
complete_by ended.Stopped l l' t t' k k' link ticker sink a b c = inl refl
complete_by ended.Refused l l' t t' k k' link ticker sink a b c = inr (inl refl)
complete_by ended.LinkEnd l l' t t' k k' link ticker sink a b c = inr (inr (inl refl))
complete_by ended.Memory l l' t t' k k' link ticker sink a b c = inr (inr (inr refl))
complete_by ended.LinkFault l l' t t' k k' link ticker sink a b c = absurd (a link)
complete_by ended.TickFault l l' t t' k k' link ticker sink a b c = absurd (b ticker)
complete_by ended.SinkFault l l' t t' k k' link ticker sink a b c = absurd (c sink)

pub of_run : (args : List (List ℕ)) (s s' : SourceNow) (l l' : LinkNow) (t t' : TickerNow) (k k' : SinkNow) (status : ℕ)
    → HasRun args s s' l l' t t' k k' status → Causes args s s' l l' t t' k k' status
of_run args s s' l l' t t' k k' status r = record {
  source = λ is. source_by r.ended s.faults s'.faults (sym r.gives ∙ is);
  sink = λ is. sink_by r.ended k.faults k'.faults r.session.sink (sym r.gives ∙ is);
  ticker = λ is. ticker_by r.ended t.counts t'.counts r.session.ticker (sym r.gives ∙ is);
  end = λ is. end_by r.ended l.counts l'.counts r.session.link (sym r.gives ∙ is);
  link = λ is. link_by r.ended l.counts l'.counts r.session.link (sym r.gives ∙ is);
  done = λ is. done_by r.ended k.faults k'.faults t.counts t'.counts r.session.sink r.session.ticker (sym r.gives ∙ is);
  complete = λ w. subst IsDone (sym r.gives) (complete_by r.ended l.counts l'.counts t.counts t'.counts k.faults k'.faults r.session.link
      r.session.ticker r.session.sink w.link w.ticker w.sink);
}

-- ---- of a refusal

-- it is told by 2, 3, 4, 6 or 7
not_run : {S K : Type 0} (args : List (List ℕ)) (source : S → SourceNow) (sink_of : K → SinkNow) (commands commands' : S) (sink sink' : K)
    (status : ℕ) → Refuses args source sink_of commands commands' sink sink' status → (2 ≤ status) × (status ≤ 7) × (status ≡ 5 → ⊥)
not_run args source sink_of commands commands' sink sink' status (inl r) =
    (omega (arith, r.0), omega (arith, r.0), λ is. omega (arith, r.0, is))
not_run args source sink_of commands commands' sink sink' status (inr (inl r)) =
    (omega (arith, r.0), omega (arith, r.0), λ is. omega (arith, r.0, is))
not_run args source sink_of commands commands' sink sink' status (inr (inr (inl r))) =
    (omega (arith, r.0), omega (arith, r.0), λ is. omega (arith, r.0, is))
not_run args source sink_of commands commands' sink sink' status (inr (inr (inr (inl r)))) =
    (omega (arith, r.0), omega (arith, r.0), λ is. omega (arith, r.0, is))
not_run args source sink_of commands commands' sink sink' status (inr (inr (inr (inr r)))) =
    (omega (arith, r.0), omega (arith, r.0), λ is. omega (arith, r.0, is))

source_fails : {S K : Type 0} (args : List (List ℕ)) (source : S → SourceNow) (sink_of : K → SinkNow) (commands commands' : S)
    (sink sink' : K) (status : ℕ) → Refuses args source sink_of commands commands' sink sink' status → status ≡ 4
    → Rises (source commands).faults (source commands').faults
source_fails args source sink_of commands commands' sink sink' status (inl r) is = absurd (omega (arith, r.0, is))
source_fails args source sink_of commands commands' sink sink' status (inr (inl r)) is = absurd (omega (arith, r.0, is))
source_fails args source sink_of commands commands' sink sink' status (inr (inr (inl r))) is = r.2
source_fails args source sink_of commands commands' sink sink' status (inr (inr (inr (inl r)))) is = absurd (omega (arith, r.0, is))
source_fails args source sink_of commands commands' sink sink' status (inr (inr (inr (inr r)))) is = absurd (omega (arith, r.0, is))

-- what is left is known
known : (P : List ℕ → Type 0) (left : Option (List ℕ)) (input : List ℕ) → left ≡ Some input → IfSome left P → P input
known P left input is holds = let Q : Option (List ℕ) → Type 0 = λ o. IfSome o P in subst Q is holds

not_bad : (s s' : SourceNow) (k k' : SinkNow) (input : List ℕ) → s.left ≡ Some input → IsFile (lines_of input) → IsBadFile s s' k k' → ⊥
not_bad s s' k k' input is file b =
    let same : b.input ≡ input = known (λ bytes. b.input ≡ bytes) s.left input is b.is_input.whole in
    none_bad (lines_of b.input) b.line (subst (λ (bytes : List ℕ). IsFile (lines_of bytes)) (sym same) file) b.bad

refused_done : {S K : Type 0} (args : List (List ℕ)) (source : S → SourceNow) (sink_of : K → SinkNow) (commands commands' : S)
    (sink sink' : K) (l l' : LinkNow) (t t' : TickerNow) (k k' : SinkNow) (status : ℕ)
    → Refuses args source sink_of commands commands' sink sink' status
    → GoesWell args (source commands) (source commands') l l' t t' k k' → IsDone status
refused_done args source sink_of commands commands' sink sink' l l' t t' k k' status (inl r) w = absurd (r.1 w.form)
refused_done args source sink_of commands commands' sink sink' l l' t t' k k' status (inr (inl r)) w =
    absurd (not_bad (source commands) (source commands') (sink_of sink) (sink_of sink') w.input w.known w.lines r.2)
refused_done args source sink_of commands commands' sink sink' l l' t t' k k' status (inr (inr (inl r))) w = absurd (w.source r.2)
refused_done args source sink_of commands commands' sink sink' l l' t t' k k' status (inr (inr (inr (inl r)))) w =
    let long = known (λ bytes. commands_limit < length bytes) (source commands).left w.input w.known r.2.long in
    absurd (omega (arith, long, w.within))
refused_done args source sink_of commands commands' sink sink' l l' t t' k k' status (inr (inr (inr (inr r)))) w = inr (inr (inr r.0))

pub of_refused : {S K : Type 0} (args : List (List ℕ)) (source : S → SourceNow) (sink_of : K → SinkNow) (commands commands' : S)
    (sink sink' : K) (l l' : LinkNow) (t t' : TickerNow) (k k' : SinkNow) (status : ℕ)
    → Refuses args source sink_of commands commands' sink sink' status
    → Causes args (source commands) (source commands') l l' t t' k k' status
of_refused args source sink_of commands commands' sink sink' l l' t t' k k' status r =
    let not = not_run args source sink_of commands commands' sink sink' status r in
    record {
      source = λ is. source_fails args source sink_of commands commands' sink sink' status r is;
      sink = λ is. absurd (not.2 is);
      ticker = λ is. absurd (omega (arith, not.1, is));
      end = λ is. absurd (omega (arith, not.1, is));
      link = λ is. absurd (omega (arith, not.1, is));
      done = λ is. absurd (omega (arith, not.0, is));
      complete = λ w. refused_done args source sink_of commands commands' sink sink' l l' t t' k k' status r w;
    }

-- ---- what was asked for

pub ran : (args : List (List ℕ)) (s s' : SourceNow) (l l' : LinkNow) (t t' : TickerNow) (k k' : SinkNow) (e : Ended) (status : ℕ)
    (agenda : Agenda) → IsMadeOf args s s' agenda
    → ((join : AdminMsg) (lines : List Command) → IsAgenda join lines agenda → DeskSession join lines l l' t t' k k' e)
    → status ≡ status_of e → HasRun args s s' l l' t t' k k' status
ran args s s' l l' t t' k k' e status agenda made session is = record {
  words = made.words;
  lines = made.lines;
  asked = made.asked;
  ended = e;
  gives = is;
  session = session (join_of made.words) made.lines made.agenda;
}

-- the file could not be had
pub reading_refused : {S K : Type 0} (args : List (List ℕ)) (source : S → SourceNow) (sink_of : K → SinkNow) (commands commands' : S)
    (sink : K) (status : ℕ) → IsFormed args → (status ≡ 4) ⊎ ((status ≡ 6) ⊎ (status ≡ 7))
    → (status ≡ 4 → Rises (source commands).faults (source commands').faults)
    → (status ≡ 6 → (source commands').faults ≡ (source commands).faults)
    → (status ≡ 7 → IsLong (source commands) (source commands'))
    → Refuses args source sink_of commands commands' sink sink status
reading_refused args source sink_of commands commands' sink status formed (inl is) fault memory long =
    inr (inr (inl (is, formed, fault is, refl)))
reading_refused args source sink_of commands commands' sink status formed (inr (inl is)) fault memory long =
    inr (inr (inr (inr (is, memory is, refl))))
reading_refused args source sink_of commands commands' sink status formed (inr (inr is)) fault memory long =
    inr (inr (inr (inl (is, formed, long is, refl))))

-- the file is none of commands
pub file_refused : {S K : Type 0} (args : List (List ℕ)) (source : S → SourceNow) (sink_of : K → SinkNow) (commands commands' : S)
    (sink sink' : K) (status line : ℕ) (input : List ℕ) → IsFormed args → IsInput (source commands) (source commands') input
    → IsFirstBad IsFile (lines_of input) line → (status ≡ 3) ⊎ (status ≡ 6)
    → (status ≡ 3 → TellsBadLine line (sink_of sink) (sink_of sink')) → (status ≡ 6 → sink' ≡ sink)
    → Refuses args source sink_of commands commands' sink sink' status
file_refused args source sink_of commands commands' sink sink' status line input formed is_input bad (inl is) told kept =
    inr (inl (is, formed, record { input = input; is_input = is_input; line = line; bad = bad; told = told is }))
file_refused args source sink_of commands commands' sink sink' status line input formed is_input bad (inr is) told kept =
    inr (inr (inr (inr (is, is_input.quiet, kept is))))

-- memory ran out
pub memory_refused : {S K : Type 0} (args : List (List ℕ)) (source : S → SourceNow) (sink_of : K → SinkNow) (commands commands' : S)
    (sink : K) → (source commands').faults ≡ (source commands).faults → Refuses args source sink_of commands commands' sink sink 6
memory_refused args source sink_of commands commands' sink same = inr (inr (inr (inr (refl, same, refl))))
