-- Lines that are done and frames that are run, one after another.
use Rattle.std.proofs.Common.{◌≡◌, ℕ, ◌≤◌, List, [], ◌∷◌, ◌++◌, Option, Some, None, refl, sym, ap, ◌∙◌, subst, append_assoc, arith}
use Rattle.std.specs.Prelude.{IfSome, min}
use Rattle.std.specs.List.{AllByRecursion}
use Rattle.std.proofs.lemmas.List.{append-nil}
use Rattle.std.specs.Io.KnownBytes.{Appends}
use Rattle.std.proofs.KnownBytes.{Appends-nil, Appends-trans}
use Rattle.tt_edge.specs.Count.{Rose}
use Rattle.tt_edge.specs.Sink.{AppendsPart}
use Rattle.tt_rounds.specs.Chain.{Each}
use Rattle.tt_rounds.proofs.Chains.{each_more}
use Rattle.tt_client.specs.Calls.{Advance}
use Rattle.tt_client.specs.Held.{Held, with_call, frame_of, permitted_of}
use Rattle.tt_client.specs.State.{state_of}
use Rattle.tt_client.specs.declared.state.State.TheVariants as state
use Rattle.tt_play_file.specs.declared.line.Act.{Act}
use Rattle.tt_play_file.specs.declared.line.TimedLine.{TimedLine}
use Rattle.tt_session.specs.declared.acting.Acted.TheVariants as acted
use Rattle.tt_session.specs.Acting.{Action, Feeds, Runs, Does, Takes, Standing, Acts}
use Rattle.tt_session.specs.Acting.{pieces, client_by, text_by, IsIdle, IsLater, IsNotPast}
use Rattle.tt_session.specs.Acting.{EndsNone, IsRunningAt}
use Rattle.tt_session.specs.Doing.{ActsRound, DoesLine, IsDue, IsFirstDue, goal_at}
use Rattle.tt_session.specs.Running.{RunsAt}
use Rattle.tt_session.specs.Session.{SinkNow}

-- lines were done and frames were run, and no answer ended it
pub record SoFar (s : Standing) (left : List TimedLine) (client : Held) (k k' : SinkNow) : Type 0 where
  pub actions : List Action
  pub last : Standing
  pub acts : Each Acts s actions last
  pub none_ends : AllByRecursion EndsNone actions
  pub fed : pieces actions ≡ []
  pub said : last.said ≡ s.said
  pub client_is : last.client ≡ client
  pub left_is : last.left ≡ left
  pub text : List ℕ
  pub printed : last.printed ≡ s.printed ++ text
  pub written : Appends k.held k'.held text
  pub faults : k'.faults ≡ k.faults

-- actions that end no run, one behind the other
pub none_append : (xs ys : List Action) → AllByRecursion EndsNone xs → AllByRecursion EndsNone ys → AllByRecursion EndsNone (xs ++ ys)
none_append [] ys none more = more
none_append (x ∷ xs) ys none more = (none.0, none_append xs ys none.1 more)

pub pieces_append : (xs ys : List Action) → pieces (xs ++ ys) ≡ pieces xs ++ pieces ys
pieces_append [] ys = refl
pieces_append (Feeds piece ∷ xs) ys = ap (λ (t : List ℕ). piece ++ t) (pieces_append xs ys) ∙ sym (append_assoc piece (pieces xs)
    (pieces ys))
pieces_append (Runs frames ∷ xs) ys = pieces_append xs ys
pieces_append (Does line ∷ xs) ys = pieces_append xs ys
pieces_append (Takes bytes ∷ xs) ys = pieces_append xs ys

pub so_first : (s : Standing) (left : List TimedLine) (client : Held) (k : SinkNow) → s.left ≡ left → s.client ≡ client
    → SoFar s left client k k
so_first s left client k left_is client_is = record {
  actions = [];
  last = s;
  acts = refl;
  none_ends = tt;
  fed = refl;
  said = refl;
  client_is = client_is;
  left_is = left_is;
  text = [];
  printed = sym (append-nil s.printed);
  written = Appends-nil k.held;
  faults = refl;
}

-- the standing behind a line
abbrev behind_line : Standing → List TimedLine → Act → Standing
behind_line s left act = record {
  left = left;
  client = client_by act s.client;
  printed = s.printed ++ text_by act s.client;
  said = s.said;
}

fed_more : (xs : List Action) (line : TimedLine) → pieces xs ≡ [] → pieces (xs ++ Does line ∷ []) ≡ []
fed_more xs line none = pieces_append xs (Does line ∷ []) ∙ append-nil (pieces xs) ∙ none

-- a line was done
pub line_acts : (s : Standing) (left left' : List TimedLine) (client : Held) (k k' : SinkNow) (line : TimedLine)
    → (so : SoFar s left client k k') → left ≡ line ∷ left' → IsRunningAt line.at client
    → Each Acts s (so.actions ++ Does line ∷ []) (behind_line so.last left' line.act)
line_acts s left left' client k k' line so is due =
    each_more Acts s so.last (behind_line so.last left' line.act) so.actions (Does line) so.acts
    (subst (IsRunningAt line.at) (sym so.client_is) due, so.left_is ∙ is, refl)

text_same : (so_printed s_printed text : List ℕ) (act : Act) (a b : Held) → so_printed ≡ s_printed ++ text → a ≡ b
    → so_printed ++ text_by act a ≡ s_printed ++ (text ++ text_by act b)
text_same so_printed s_printed text act a b is same = ap (λ (t : List ℕ). t ++ text_by act a) is ∙ append_assoc s_printed text
    (text_by act a)
    ∙ ap (λ (h : Held). s_printed ++ (text ++ text_by act h)) same

pub so_line : (s : Standing) (left left' : List TimedLine) (client client' : Held) (k k' k'' : SinkNow) (line : TimedLine)
    → SoFar s left client k k' → left ≡ line ∷ left' → IsRunningAt line.at client → DoesLine line.act client client' k' k'' acted.Going
    → SoFar s left' client' k k''
so_line s left left' client client' k k' k'' line so is due does = record {
  actions = so.actions ++ Does line ∷ [];
  last = behind_line so.last left' line.act;
  acts = line_acts s left left' client k k' line so is due;
  none_ends = none_append so.actions (Does line ∷ []) so.none_ends (does.3, tt);
  fed = fed_more so.actions line so.fed;
  said = so.said;
  client_is = ap (client_by line.act) so.client_is ∙ sym does.0;
  left_is = refl;
  text = so.text ++ text_by line.act client;
  printed = text_same so.last.printed s.printed so.text line.act so.last.client client so.printed so.client_is;
  written = Appends-trans k.held k'.held k''.held so.text (text_by line.act client) so.written does.1;
  faults = does.2 ∙ so.faults;
}

-- a line that ends the run
pub line_quits : (s : Standing) (left left' : List TimedLine) (client client' : Held) (k k' k'' : SinkNow) (line : TimedLine)
    → SoFar s left client k k' → left ≡ line ∷ left' → IsRunningAt line.at client → DoesLine line.act client client' k' k'' acted.Quit
    → ActsRound s left' client' k k'' acted.Quit
line_quits s left left' client client' k k' k'' line so is due does =
    let same : client_by line.act so.last.client ≡ client = ap (λ (a : Act). client_by a so.last.client) does.0 ∙ so.client_is in
    let none : text_by line.act so.last.client ≡ [] = ap (λ (a : Act). text_by a so.last.client) does.0 in
    record {
      actions = so.actions ++ Does line ∷ [];
      last = behind_line so.last left' line.act;
      acts = line_acts s left left' client k k' line so is due;
      fed = fed_more so.actions line so.fed;
      said = so.said;
      client_is = same ∙ sym does.1;
      text = so.text;
      printed = ap (λ (t : List ℕ). so.last.printed ++ t) none ∙ append-nil so.last.printed ∙ so.printed;
      written = (
        subst (λ (v : SinkNow). Appends k.held v.held so.text) (sym does.2) so.written,
        ap (λ (v : SinkNow). v.faults) does.2 ∙ so.faults,
      );
      stands = (
        (so.actions, line, refl, does.0, so.none_ends),
        subst (λ (h : Held). state_of h.player ≡ state.Running) (sym same) due.running,
      );
    }

pub part_more : (a b c : Option (List ℕ)) (xs ys : List ℕ) → Appends a b xs → AppendsPart b c ys → AppendsPart a c (xs ++ ys)
part_more a b c xs ys first part = (
  part.0,
  part.1,
  (
    xs ++ part.2.0,
    append_assoc xs part.2.0 part.0 ∙ ap (λ (t : List ℕ). xs ++ t) part.2.1,
    Appends-trans a b c xs part.2.0 first part.2.2,
  ),
)

-- a line at whose text the sink failed
pub line_fails : (s : Standing) (left left' : List TimedLine) (client client' : Held) (k k' k'' : SinkNow) (line : TimedLine)
    → SoFar s left client k k' → left ≡ line ∷ left' → IsRunningAt line.at client → DoesLine line.act client client' k' k'' acted.SinkFault
    → state_of client'.player ≡ state.Running → ActsRound s left' client' k k'' acted.SinkFault
line_fails s left left' client client' k k' k'' line so is due does running = record {
  actions = so.actions ++ Does line ∷ [];
  last = behind_line so.last left' line.act;
  acts = line_acts s left left' client k k' line so is due;
  fed = fed_more so.actions line so.fed;
  said = so.said;
  client_is = ap (client_by line.act) so.client_is ∙ sym does.0;
  text = so.text ++ text_by line.act client;
  printed = text_same so.last.printed s.printed so.text line.act so.last.client client so.printed so.client_is;
  written = (
    part_more k.held k'.held k''.held so.text (text_by line.act client) so.written does.1,
    subst (λ (n : ℕ). Rose n k''.faults) so.faults does.2,
  );
  stands = (
    subst (λ (h : Held). state_of h.player ≡ state.Running) (does.0 ∙ sym (ap (client_by line.act) so.client_is)) running,
    none_append so.actions (Does line ∷ []) so.none_ends (does.3, tt),
  );
}

-- a line for which memory ran out
pub line_lost : (s : Standing) (left left' : List TimedLine) (client client' : Held) (k k' k'' : SinkNow) (line : TimedLine)
    → SoFar s left client k k' → DoesLine line.act client client' k' k'' acted.Memory → ActsRound s left' client' k k'' acted.Memory
line_lost s left left' client client' k k' k'' line so does = record {
  actions = so.actions;
  last = so.last;
  acts = so.acts;
  fed = so.fed;
  said = so.said;
  client_is = so.client_is ∙ sym does.0;
  text = so.text;
  printed = so.printed;
  written = (
    subst (λ (v : SinkNow). Appends k.held v.held so.text) (sym does.1) so.written,
    ap (λ (v : SinkNow). v.faults) does.1 ∙ so.faults,
  );
  stands = so.none_ends;
}

-- frames were run
pub so_runs : (s : Standing) (left : List TimedLine) (client client' : Held) (k k' : SinkNow) (frames : ℕ) → SoFar s left client k k'
    → client' ≡ with_call client (Advance frames) → IsNotPast left client' → SoFar s left client' k k'
so_runs s left client client' k k' frames so is past =
    let same : with_call so.last.client (Advance frames) ≡ client' = ap (λ (h : Held). with_call h
    (Advance frames)) so.client_is ∙ sym is in
    let next : Standing = record (so.last) { client = with_call so.last.client (Advance frames) } in
    record {
      actions = so.actions ++ Runs frames ∷ [];
      last = next;
      acts = each_more Acts s so.last next so.actions (Runs frames) so.acts (
        refl,
        subst (λ (h : Held). IsNotPast so.last.left h) (sym same) (subst (λ (ls : List TimedLine). IsNotPast ls client')
            (sym so.left_is) past),
      );
      none_ends = none_append so.actions (Runs frames ∷ []) so.none_ends (tt, tt);
      fed = pieces_append so.actions (Runs frames ∷ []) ∙ append-nil (pieces so.actions) ∙ so.fed;
      said = so.said;
      client_is = same;
      left_is = so.left_is;
      text = so.text;
      printed = so.printed;
      written = so.written;
      faults = so.faults;
    }

-- nothing is left to be done
pub so_idle : (s : Standing) (left : List TimedLine) (client : Held) (k k' : SinkNow) → SoFar s left client k k' → IsIdle left client
    → ActsRound s left client k k' acted.Going
so_idle s left client k k' so idle = record {
  actions = so.actions;
  last = so.last;
  acts = so.acts;
  fed = so.fed;
  said = so.said;
  client_is = so.client_is;
  text = so.text;
  printed = so.printed;
  written = (so.written, so.faults);
  stands = (
    so.left_is,
    subst (λ (h : Held). IsIdle so.last.left h) (sym so.client_is) (subst (λ (ls : List TimedLine). IsIdle ls client)
        (sym so.left_is) idle),
    so.none_ends,
  );
}

-- ---- what is due

-- the first line is due for a client that runs at this frame
pub first_due : (left : List TimedLine) (h : Held) (frame permitted : ℕ) → RunsAt h frame permitted → IsDue frame left → IsFirstDue left h
first_due [] h frame permitted at due = due
first_due (line ∷ lines) h frame permitted at due = record { running = at.running; frame = frame; is = at.frame_is; reached = due }

pub next_due : (left left' : List TimedLine) (line : TimedLine) (h : Held) → left ≡ line ∷ left' → IsFirstDue left h → IsRunningAt line.at h
next_due left left' line h is due = subst (λ (ls : List TimedLine). IsFirstDue ls h) is due

-- a goal is not past the first line, and not past the permitted frame
pub goal_low : (left : List TimedLine) (permitted : ℕ) → goal_at permitted left ≤ permitted
goal_low [] permitted = omega arith
goal_low (line ∷ lines) permitted = omega arith

first_by : (at permitted goal : ℕ) (o : Option ℕ) → goal ≡ min at permitted → IfSome o (λ g. g ≤ goal) → IfSome o (λ g. g ≤ at)
first_by at permitted goal None is past = tt
first_by at permitted goal (Some g) is past = omega (arith, past, is)

pub goal_first : (left : List TimedLine) (h : Held) (permitted goal : ℕ) → goal ≡ goal_at permitted left
    → IfSome (frame_of h.player) (λ g. g ≤ goal) → IsNotPast left h
goal_first [] h permitted goal is past = tt
goal_first (line ∷ lines) h permitted goal is past = first_by line.at permitted goal (frame_of h.player) is past

-- where the goal is reached, nothing is left
idle_by : (left : List TimedLine) (permitted frame : ℕ) → IsLater frame left → goal_at permitted left ≤ frame → permitted ≤ frame
idle_by [] permitted frame later low = low
idle_by (line ∷ lines) permitted frame later low = omega (arith, later, low)

pub idle_at : (left : List TimedLine) (h : Held) (frame permitted : ℕ) → RunsAt h frame permitted → IsLater frame left
    → goal_at permitted left ≤ frame → IsIdle left h
idle_at left h frame permitted at later low = λ running.
    subst (λ (o : Option ℕ). IfSome o (λ frame. IsLater frame left × IfSome (permitted_of h.player) (λ permitted. permitted ≤ frame)))
    (sym at.frame_is) (
      later,
      subst (λ (o : Option ℕ). IfSome o (λ permitted. permitted ≤ frame)) (sym at.permitted_is)
          (idle_by left permitted frame later low),
    )
