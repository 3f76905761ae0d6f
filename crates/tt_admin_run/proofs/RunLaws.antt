-- A run, round by round.
use Rattle.std.proofs.Common.{◌≡◌, ℕ, ◌+◌, ◌≤◌, ◌<◌, inl, inr, Bool, true, false, List, [], ◌∷◌, ◌++◌, length, take}
use Rattle.std.proofs.Common.{drop, refl, sym, ap}
use Rattle.std.proofs.Common.{ap₂, subst, ◌∙◌, append_assoc, arith, length-append, Option, Some, None, zero, suc}
use Rattle.std.specs.Prelude.{replicate}
use Rattle.std.specs.Io.KnownBytes.{Appends}
use Rattle.std.proofs.KnownBytes.{Appends-nil, Appends-trans, Appends-kept}
use Rattle.std.proofs.lemmas.List.{append-nil, length-take, take_all, take-take, take-append-drop}
use mathlib.Core.List.{IsPrefix}
use Rattle.tt_edge.specs.Link.{LinkCounts, Rises}
use Rattle.tt_edge.specs.Listener.{TickCounts}
use Rattle.tt_edge.specs.Told.{Adds}
use Rattle.tt_edge.specs.declared.ticker.Beat.{Beat}
use Rattle.tt_edge.specs.declared.ticker.Beat.TheVariants.{Tick}
use Rattle.tt_admin.specs.declared.message.AdminMsg.{AdminMsg}
use Rattle.tt_rounds.specs.Links.{LinkNow, Later}
use Rattle.tt_rounds.specs.Pacing.{IsPaced}
use Rattle.tt_rounds.specs.Hearing.{HeardCounts}
use Rattle.tt_rounds.specs.Saying.{SaidCounts}
use Rattle.tt_rounds.specs.declared.hearing.Heard.TheVariants as heard
use Rattle.tt_rounds.specs.declared.outbox.Said.{Said}
use Rattle.tt_rounds.specs.declared.outbox.Said.TheVariants as said
use Rattle.tt_rounds.proofs.Counting.{rises_within, later_same, later_then, later_heard, later_said, reads_said}
use Rattle.tt_rounds.proofs.Pacings.{paced_none, paced_beat, paced_more}
use Rattle.tt_admin_file.specs.declared.command.Command.{Command}
use Rattle.tt_admin_run.specs.declared.hearing.Notes.{Notes}
use Rattle.tt_admin_run.specs.declared.ended.Ended.{Ended}
use Rattle.tt_admin_run.specs.declared.ended.Ended.TheVariants as ended
use Rattle.tt_admin_run.specs.Sending.{due_bytes, all_bytes, quits}
use Rattle.tt_admin_run.specs.Telling.{told, comes, is_welcome, is_refusal, is_shutdown}
use Rattle.tt_admin_run.specs.Hearing.{Heard, told_behind}
use Rattle.tt_admin_run.specs.Rounds.{GoesOn, ListenCounts, Listens, HearsAll}
use Rattle.tt_admin_run.specs.Rounds.{Speaks, Beats, SinkNow}
use Rattle.tt_admin_run.specs.Rounds.{TickerNow}
use Rattle.tt_admin_run.specs.Session.{last_beat, IsAtBeat, Came, LinkEnds, TickerEnds, SinkEnds, IsWhole, AllHeard, Leaves, StopsAtBeat}
use Rattle.tt_admin_run.specs.Session.{DeskSession}
use Rattle.tt_admin_run.proofs.HearingLaws.{heard_first, heard_more, heard_told, heard_welcome, heard_refused, heard_shutdown}
use Rattle.tt_admin_run.proofs.HearingLaws.{welcome_stays, told_stays}
use Rattle.tt_admin_run.proofs.SendingLaws.{due_more}

-- ---- lists that are told

pub adds_none : {A : Type 0} (a : Option (List A)) → Adds a a []
adds_none None = tt
adds_none (Some xs) = sym (append-nil xs)

pub adds_then : {A : Type 0} (a b c : Option (List A)) (xs ys : List A) → Adds a b xs → Adds b c ys → Adds a c (xs ++ ys)
adds_then None b c xs ys first second = tt
adds_then (Some as') None c xs ys first second = absurd first
adds_then (Some as') (Some bs) None xs ys first second = absurd second
adds_then (Some as') (Some bs) (Some cs) xs ys first second = second ∙ ap (λ zs. zs ++ ys) first ∙ append_assoc as' xs ys

one_more : {A : Type 0} (n : ℕ) (x : A) → replicate n x ++ x ∷ [] ≡ replicate (n + 1) x
one_more zero x = refl
one_more (suc n) x = ap (λ xs. x ∷ xs) (one_more n x) ∙ (let is : suc (n + 1) ≡ suc n + 1 = omega arith in ap (λ (k : ℕ). replicate k x) is)

prefix_trans : {A : Type 0} (xs ys zs : List A) → IsPrefix xs ys → IsPrefix ys zs → IsPrefix xs zs
prefix_trans xs ys zs a b = (a.0 ++ b.0, sym (append_assoc xs a.0 b.0) ∙ ap (λ us. us ++ b.0) a.1 ∙ b.1)

-- ---- the run so far

-- Before a round, or within one: what was read, told, written and counted. `beats` is how many beats what was read allows.
pub record Going (join : AdminMsg) (lines : List Command) (l l' : LinkNow) (t t' : TickerNow) (k k' : SinkNow) (rest : List ℕ) (n : Notes)
    (w : List ℕ) (given ticks beats : ℕ) : Type 0 where
  pub read : List ℕ
  pub took : Appends l.read l'.read read
  pub text : List ℕ
  pub wrote : Appends k.held k'.held text
  pub heard : Heard read text n rest
  pub goes_on : GoesOn n
  pub written : List ℕ
  pub put : Appends l.held l'.held written
  pub balance : written ++ w ≡ take given (all_bytes join lines)
  pub within : given ≤ length (all_bytes join lines)
  pub due : IsPrefix (take given (all_bytes join lines)) (due_bytes join lines n.welcome ticks)
  pub told : Adds t.beats t'.beats (replicate ticks Tick)
  pub paced : IsPaced beats (length read) l.counts l'.counts
  pub faults : l'.counts.faults ≡ l.counts.faults
  pub ends : l'.counts.ends ≡ l.counts.ends
  pub later : Later l.counts l'.counts
  pub ticker : t'.counts ≡ t.counts
  pub sink : k'.faults ≡ k.faults

pub going_first : (join : AdminMsg) (lines : List Command) (l : LinkNow) (t : TickerNow) (k : SinkNow) (rest w : List ℕ) (n : Notes)
    → rest ≡ [] → w ≡ [] → n ≡ record { place = 0; broken = false; welcome = false; refused = false; shutdown = false }
    → Going join lines l l t t k k rest n w 0 0 0
going_first join lines l t k rest w n none waits is =
    record {
      read = [];
      took = Appends-nil l.read;
      text = [];
      wrote = Appends-nil k.held;
      heard = subst (λ (bs : List ℕ). Heard [] [] n bs) (sym none) (heard_first n is);
      goes_on = (ap (λ (m : Notes). m.refused) is, ap (λ (m : Notes). m.shutdown) is);
      written = [];
      put = Appends-nil l.held;
      balance = waits;
      within = omega arith;
      due = (due_bytes join lines n.welcome 0, refl);
      told = adds_none t.beats;
      paced = paced_none l.counts;
      faults = refl;
      ends = refl;
      later = later_same l.counts;
      ticker = refl;
      sink = refl;
    }

-- what was written is due
written_due : (join : AdminMsg) (lines : List Command) (l l' : LinkNow) (t t' : TickerNow) (k k' : SinkNow) (rest : List ℕ) (n : Notes)
    (w : List ℕ) (given ticks beats : ℕ) (g : Going join lines l l' t t' k k' rest n w given ticks beats)
    → IsPrefix g.written (due_bytes join lines n.welcome ticks)
written_due join lines l l' t t' k k' rest n w given ticks beats g =
    prefix_trans g.written (take given (all_bytes join lines)) (due_bytes join lines n.welcome ticks) (w, g.balance) g.due

-- ---- listening

listened_same : (a b : LinkCounts) (x : ℕ) → HeardCounts a b x heard.Going → (b.faults ≡ a.faults) × (b.ends ≡ a.ends)
listened_same a b x (inl full) = (ap (λ (c : LinkCounts). c.faults) full.1, ap (λ (c : LinkCounts). c.ends) full.1)
listened_same a b x (inr idle) = (ap (λ (c : LinkCounts). c.faults) idle.1, ap (λ (c : LinkCounts). c.ends) idle.1)

later_listened : (r : Option Ended) (c c' : LinkCounts) (x : ℕ) → ListenCounts r c c' x → Later c c'
later_listened None c c' x k = later_heard c c' x heard.Going k
later_listened (Some ended.LinkEnd) c c' x k = later_heard c c' x heard.End k
later_listened (Some ended.LinkFault) c c' x k = later_heard c c' x heard.Failed k
later_listened r c c' x k = later_heard c c' x k.0 k.1

-- a round that hears and goes on
pub going_listened : (join : AdminMsg) (lines : List Command) (l m m' : LinkNow) (t t' : TickerNow) (k j j' : SinkNow) (rest rest' : List ℕ)
    (n n' : Notes) (w : List ℕ) (given ticks : ℕ) → Going join lines l m t t' k j rest n w given ticks ticks
    → Listens rest rest' n n' m m' j j' None → Going join lines l m' t t' k j' rest' n' w given ticks (ticks + 1)
going_listened join lines l m m' t t' k j j' rest rest' n n' w given ticks g h =
    let all = heard_more g.read g.text n n' rest h.bytes rest' h.text h.each g.heard h.heard.0.0 h.heard.0.1 in
    let up : n.welcome ≡ true → n'.welcome ≡ true = λ holds. sym (heard_welcome (g.read ++ h.bytes) (g.text ++ h.text) n' rest' all)
    ∙ welcome_stays g.read g.text n rest h.bytes g.heard h.each holds in
    let same = listened_same m.counts m'.counts (length h.bytes) h.link in
    record {
      read = g.read ++ h.bytes;
      took = Appends-trans l.read m.read m'.read g.read h.bytes g.took (subst (λ (bs : List ℕ). Appends m.read m'.read bs)
          (ap (λ (x : List ℕ). h.bytes ++ x) h.none_lost ∙ append-nil h.bytes) h.read);
      text = g.text ++ h.text;
      wrote = Appends-trans k.held j.held j'.held g.text h.text g.wrote h.told;
      heard = all;
      goes_on = h.heard.1;
      written = g.written;
      put = Appends-kept l.held m.held m'.held g.written g.put h.kept;
      balance = g.balance;
      within = g.within;
      due = prefix_trans (take given (all_bytes join lines)) (due_bytes join lines n.welcome ticks) (due_bytes join lines n'.welcome ticks)
          g.due (due_more join lines n.welcome n'.welcome ticks ticks up (omega arith));
      told = g.told;
      paced = subst (λ (x : ℕ). IsPaced (ticks + 1) x l.counts m'.counts) (sym (length-append g.read h.bytes))
          (paced_beat ticks (length g.read) (length h.bytes) l.counts m.counts m'.counts g.later.idle_reads h.link g.paced);
      faults = same.0 ∙ g.faults;
      ends = same.1 ∙ g.ends;
      later = later_then l.counts m.counts m'.counts g.later (later_heard m.counts m'.counts (length h.bytes) heard.Going h.link);
      ticker = g.ticker;
      sink = h.sink ∙ g.sink;
    }

-- ---- ends

-- what is known at each end, whatever it is
pub record Base (join : AdminMsg) (lines : List Command) (l l' : LinkNow) (t t' : TickerNow) (k k' : SinkNow) (e : Ended)
    (read lost text written : List ℕ) (ticks : ℕ) : Type 0 where
  pub took : Appends l.read l'.read (read ++ lost)
  pub put : Appends l.held l'.held written
  pub beats : Adds t.beats t'.beats (replicate ticks Tick ++ last_beat e)
  pub due : IsPrefix written (due_bytes join lines (comes is_welcome read) ticks)
  pub paced : IsPaced (ticks + length (last_beat e)) (length read) l.counts l'.counts
  pub wrote : Appends k.held k'.held text

finish : (join : AdminMsg) (lines : List Command) (l l' : LinkNow) (t t' : TickerNow) (k k' : SinkNow) (e : Ended)
    (read lost text written : List ℕ) (ticks : ℕ) → Base join lines l l' t t' k k' e read lost text written ticks → AllHeard e lost
    → (IsAtBeat e → StopsAtBeat join lines (comes is_welcome read) ticks written l.counts l'.counts) → Leaves e join lines written
    → IsPrefix text (told read) → IsWhole e text (told read) → Came e read → LinkEnds e l.counts l'.counts
    → TickerEnds e t.counts t'.counts → SinkEnds e k.faults k'.faults → DeskSession join lines l l' t t' k k' e
finish join lines l l' t t' k k' e read lost text written ticks b all at leaves front whole came link ticker sink = record {
  read = read;
  lost = lost;
  took = b.took;
  all_heard = all;
  written = written;
  put = b.put;
  ticks = ticks;
  beats = b.beats;
  due = b.due;
  at_beat = at;
  leaves = leaves;
  paced = b.paced;
  text = text;
  wrote = b.wrote;
  front = front;
  whole = whole;
  came = came;
  link = link;
  ticker = ticker;
  sink = sink;
}

-- the run ends with what was heard
base_listened : (join : AdminMsg) (lines : List Command) (l m m' : LinkNow) (t t' : TickerNow) (k j j' : SinkNow) (rest rest' : List ℕ)
    (n n' : Notes) (w : List ℕ) (given ticks : ℕ) (e : Ended) (g : Going join lines l m t t' k j rest n w given ticks ticks)
    (h : Listens rest rest' n n' m m' j j' (Some e)) → last_beat e ≡ []
    → Base join lines l m' t t' k j' e (g.read ++ h.bytes) h.lost (g.text ++ h.text) g.written ticks
base_listened join lines l m m' t t' k j j' rest rest' n n' w given ticks e g h none =
    let up : n.welcome ≡ true → comes is_welcome (g.read ++ h.bytes) ≡ true = λ holds. welcome_stays g.read g.text n rest h.bytes g.heard
    h.each holds in
    let later = later_listened (Some e) m.counts m'.counts (length h.bytes) h.link in
    record {
      took = subst (λ (bs : List ℕ). Appends l.read m'.read bs) (sym (append_assoc g.read h.bytes h.lost))
          (Appends-trans l.read m.read m'.read g.read (h.bytes ++ h.lost) g.took h.read);
      put = Appends-kept l.held m.held m'.held g.written g.put h.kept;
      beats = subst (λ (bs : List Beat). Adds t.beats t'.beats (replicate ticks Tick ++ bs)) (sym none)
          (subst (λ (bs : List Beat). Adds t.beats t'.beats bs) (sym (append-nil (replicate ticks Tick))) g.told);
      due = prefix_trans g.written (due_bytes join lines n.welcome ticks)
          (due_bytes join lines (comes is_welcome (g.read ++ h.bytes)) ticks)
          (written_due join lines l m t t' k j rest n w given ticks ticks g)
          (due_more join lines n.welcome (comes is_welcome (g.read ++ h.bytes)) ticks ticks up (omega arith));
      paced = subst (λ (x : ℕ). IsPaced x (length (g.read ++ h.bytes)) l.counts m'.counts)
          (omega (arith, ap length none))
          (subst (λ (x : ℕ). IsPaced ticks x l.counts m'.counts) (sym (length-append g.read h.bytes))
          (paced_more ticks (length g.read) (length h.bytes) l.counts m.counts m'.counts later.idle_reads g.paced));
      wrote = Appends-trans k.held j.held j'.held g.text h.text g.wrote h.told;
    }

same_front : (text whole : List ℕ) → whole ≡ text → IsPrefix text whole
same_front text whole is = ([], append-nil text ∙ sym is)

-- all that came was told and noted
all_listened : (join : AdminMsg) (lines : List Command) (l m m' : LinkNow) (t t' : TickerNow) (k j j' : SinkNow) (rest rest' : List ℕ)
    (n n' : Notes) (w : List ℕ) (given ticks : ℕ) (e : Ended) (g : Going join lines l m t t' k j rest n w given ticks ticks)
    (h : Listens rest rest' n n' m m' j j' (Some e)) → HearsAll n n' (rest ++ h.bytes) rest' h.text
    → (told (g.read ++ h.bytes) ≡ g.text ++ h.text) × (comes is_refusal (g.read ++ h.bytes) ≡ n'.refused)
    × (comes is_shutdown (g.read ++ h.bytes) ≡ n'.shutdown)
all_listened join lines l m m' t t' k j j' rest rest' n n' w given ticks e g h hears =
    let all = heard_more g.read g.text n n' rest h.bytes rest' h.text h.each g.heard hears.0 hears.1 in (
      heard_told (g.read ++ h.bytes) (g.text ++ h.text) n' rest' all,
      heard_refused (g.read ++ h.bytes) (g.text ++ h.text) n' rest' all,
      heard_shutdown (g.read ++ h.bytes) (g.text ++ h.text) n' rest' all,
    )

pub ended_listened : (join : AdminMsg) (lines : List Command) (l m m' : LinkNow) (t t' : TickerNow) (k j j' : SinkNow) (rest rest' : List ℕ)
    (n n' : Notes) (w : List ℕ) (given ticks : ℕ) (e : Ended) → Going join lines l m t t' k j rest n w given ticks ticks
    → Listens rest rest' n n' m m' j j' (Some e) → DeskSession join lines l m' t t' k j' e
ended_listened join lines l m m' t t' k j j' rest rest' n n' w given ticks ended.Refused g h =
    let all = all_listened join lines l m m' t t' k j j' rest rest' n n' w given ticks ended.Refused g h h.heard.0 in
    finish join lines l m' t t' k j' ended.Refused (g.read ++ h.bytes) h.lost (g.text ++ h.text) g.written ticks
    (base_listened join lines l m m' t t' k j j' rest rest' n n' w given ticks ended.Refused g h refl) h.none_lost (λ x. absurd x) tt
    (same_front (g.text ++ h.text) (told (g.read ++ h.bytes)) all.0) (sym all.0) (all.1 ∙ h.heard.1) tt g.ticker (h.sink ∙ g.sink)
ended_listened join lines l m m' t t' k j j' rest rest' n n' w given ticks ended.Shutdown g h =
    let all = all_listened join lines l m m' t t' k j j' rest rest' n n' w given ticks ended.Shutdown g h h.heard.0 in
    finish join lines l m' t t' k j' ended.Shutdown (g.read ++ h.bytes) h.lost (g.text ++ h.text) g.written ticks
    (base_listened join lines l m m' t t' k j j' rest rest' n n' w given ticks ended.Shutdown g h refl) h.none_lost (λ x. absurd x) tt
    (same_front (g.text ++ h.text) (told (g.read ++ h.bytes)) all.0) (sym all.0) (all.1 ∙ h.heard.1, all.2 ∙ h.heard.2) tt g.ticker
    (h.sink ∙ g.sink)
ended_listened join lines l m m' t t' k j j' rest rest' n n' w given ticks ended.LinkEnd g h =
    let all = all_listened join lines l m m' t t' k j j' rest rest' n n' w given ticks ended.LinkEnd g h h.heard.0 in
    finish join lines l m' t t' k j' ended.LinkEnd (g.read ++ h.bytes) h.lost (g.text ++ h.text) g.written ticks
    (base_listened join lines l m m' t t' k j j' rest rest' n n' w given ticks ended.LinkEnd g h refl) h.none_lost (λ x. absurd x) tt
    (same_front (g.text ++ h.text) (told (g.read ++ h.bytes)) all.0) (sym all.0) (all.1 ∙ h.heard.1.0, all.2 ∙ h.heard.1.1)
    (subst (λ (x : ℕ). Rises x m'.counts.ends) g.ends h.link.0) g.ticker (h.sink ∙ g.sink)
ended_listened join lines l m m' t t' k j j' rest rest' n n' w given ticks ended.LinkFault g h =
    let all = all_listened join lines l m m' t t' k j j' rest rest' n n' w given ticks ended.LinkFault g h h.heard.0 in
    finish join lines l m' t t' k j' ended.LinkFault (g.read ++ h.bytes) h.lost (g.text ++ h.text) g.written ticks
    (base_listened join lines l m m' t t' k j j' rest rest' n n' w given ticks ended.LinkFault g h refl) h.none_lost (λ x. absurd x) tt
    (same_front (g.text ++ h.text) (told (g.read ++ h.bytes)) all.0) (sym all.0) (all.1 ∙ h.heard.1.0, all.2 ∙ h.heard.1.1)
    (subst (λ (x : ℕ). Rises x m'.counts.faults) g.faults h.link.0) g.ticker (h.sink ∙ g.sink)
ended_listened join lines l m m' t t' k j j' rest rest' n n' w given ticks ended.SinkFault g h =
    let whole = h.heard.0 in
    let all = heard_more g.read g.text n n' rest h.bytes rest' whole h.each g.heard h.heard.1.0 h.heard.1.1 in
    let is = heard_told (g.read ++ h.bytes) (g.text ++ whole) n' rest' all in
    finish join lines l m' t t' k j' ended.SinkFault (g.read ++ h.bytes) h.lost (g.text ++ h.text) g.written ticks
    (base_listened join lines l m m' t t' k j j' rest rest' n n' w given ticks ended.SinkFault g h refl) h.none_lost (λ x. absurd x) tt
    (h.heard.2.0, append_assoc g.text h.text h.heard.2.0 ∙ ap (λ (x : List ℕ). g.text ++ x) h.heard.2.1 ∙ sym is) tt tt tt g.ticker
    (subst (λ (x : ℕ). Rises x j'.faults) g.sink h.sink)
ended_listened join lines l m m' t t' k j j' rest rest' n n' w given ticks ended.Memory g h =
    let later = told_behind n (rest ++ h.bytes) in
    let same : (g.text ++ h.text) ++ later ≡ told (g.read ++ h.bytes) =
    ap (λ (x : List ℕ). (g.text ++ x) ++ later) h.heard ∙ ap (λ (x : List ℕ). x ++ later) (append-nil g.text)
    ∙ told_stays g.read g.text n rest h.bytes g.heard h.each in
    finish join lines l m' t t' k j' ended.Memory (g.read ++ h.bytes) h.lost (g.text ++ h.text) g.written ticks
    (base_listened join lines l m m' t t' k j j' rest rest' n n' w given ticks ended.Memory g h refl) tt (λ x. absurd x) tt (later, same) tt
    tt tt g.ticker (h.sink ∙ g.sink)
ended_listened join lines l m m' t t' k j j' rest rest' n n' w given ticks ended.Quit g h = absurd h.heard
ended_listened join lines l m m' t t' k j j' rest rest' n n' w given ticks ended.TickFault g h = absurd h.heard
ended_listened join lines l m m' t t' k j j' rest rest' n n' w given ticks ended.Stopped g h = absurd h.heard

-- ---- speaking

prefix_take : (xs : List ℕ) (a b : ℕ) → a ≤ b → IsPrefix (take a xs) (take b xs)
prefix_take xs a b le = (
  drop a (take b xs),
  ap (λ (ys : List ℕ). ys ++ drop a (take b xs)) (sym (take-take a b xs le)) ∙ take-append-drop a (take b xs),
)

spoken_same : (a b : LinkCounts) (r : Said) → SaidCounts a b r → (r ≡ said.Failed → ⊥) → (b.faults ≡ a.faults) × (b.ends ≡ a.ends)
spoken_same a b said.All k fails = (ap (λ (c : LinkCounts). c.faults) k, ap (λ (c : LinkCounts). c.ends) k)
spoken_same a b said.Held k fails = (ap (λ (c : LinkCounts). c.faults) k.2, ap (λ (c : LinkCounts). c.ends) k.2)
spoken_same a b said.Failed k fails = absurd (fails refl)

-- what failed is nothing else
abbrev IsFault : Said → Type 0
IsFault said.Failed = Unit {0}
IsFault other = ⊥

all_no_fault : said.All ≡ said.Failed → ⊥
all_no_fault is = subst IsFault (sym is) tt

held_no_fault : said.Held ≡ said.Failed → ⊥
held_no_fault is = subst IsFault (sym is) tt

-- what was given is due
pub given_due : (join : AdminMsg) (lines : List Command) (l l' : LinkNow) (t t' : TickerNow) (k k' : SinkNow) (rest : List ℕ) (n : Notes)
    (w : List ℕ) (given ticks beats most : ℕ) (all : List ℕ) → Going join lines l l' t t' k k' rest n w given ticks beats
    → most ≤ length all → take most all ≡ due_bytes join lines n.welcome ticks → given ≤ most
given_due join lines l l' t t' k k' rest n w given ticks beats most all g fits due =
    let front = take given (all_bytes join lines) in omega (
      arith,
      ap length g.due.1,
      length-append front g.due.0,
      length-take given (all_bytes join lines),
      g.within,
      ap length due,
      length-take most all,
      fits,
    )

-- what was said, however it ended
going_said : (join : AdminMsg) (lines : List Command) (l m m' : LinkNow) (t t' : TickerNow) (k j : SinkNow) (rest : List ℕ) (n : Notes)
    (w w' : List ℕ) (given given' ticks beats most : ℕ) (q : Bool) (all : List ℕ) (e : Option Ended) (r : Said)
    → Going join lines l m t t' k j rest n w given ticks beats → all ≡ all_bytes join lines → most ≤ length all
    → take most all ≡ due_bytes join lines n.welcome ticks → Speaks all q most given given' w w' m m' e → SaidCounts m.counts m'.counts r
    → (r ≡ said.Failed → ⊥) → Going join lines l m' t t' k j rest n w' given' ticks beats
going_said join lines l m m' t t' k j rest n w w' given given' ticks beats most q all e r g is fits due s counts fails =
    let same = spoken_same m.counts m'.counts r counts fails in
    let before : g.written ++ w ≡ take given all = g.balance ∙ ap (take given) (sym is) in
    let idle = reads_said m.counts m'.counts r counts in
    record {
      read = g.read;
      took = Appends-kept l.read m.read m'.read g.read g.took s.kept;
      text = g.text;
      wrote = g.wrote;
      heard = g.heard;
      goes_on = g.goes_on;
      written = g.written ++ s.out;
      put = Appends-trans l.held m.held m'.held g.written s.out g.put s.written;
      balance = s.balance g.written before ∙ ap (take given') is;
      within = omega (arith, s.within, fits, ap length is);
      due = subst (λ (bs : List ℕ). IsPrefix (take given' bs) (due_bytes join lines n.welcome ticks)) is
          (subst (λ (bs : List ℕ). IsPrefix (take given' all) bs) due (prefix_take all given' most s.within));
      told = g.told;
      paced = subst (λ (x : ℕ). IsPaced beats x l.counts m'.counts) (omega arith)
          (paced_more beats (length g.read) 0 l.counts m.counts m'.counts (omega (arith, idle)) g.paced);
      faults = same.0 ∙ g.faults;
      ends = same.1 ∙ g.ends;
      later = later_then l.counts m.counts m'.counts g.later (later_said m.counts m'.counts r counts);
      ticker = g.ticker;
      sink = g.sink;
    }

-- what is known where the run may end at the beat that comes
pub record Spoke (join : AdminMsg) (lines : List Command) (l l' : LinkNow) (t t' : TickerNow) (k k' : SinkNow) (rest : List ℕ) (n : Notes)
    (w : List ℕ) (given ticks beats : ℕ) : Type 0 where
  pub going : Going join lines l l' t t' k k' rest n w given ticks beats
  pub stops : StopsAtBeat join lines n.welcome ticks going.written l.counts l'.counts

-- all that was due is written
spoke_all : (join : AdminMsg) (lines : List Command) (l m m' : LinkNow) (t t' : TickerNow) (k j : SinkNow) (rest : List ℕ) (n : Notes)
    (w w' : List ℕ) (given given' ticks beats most : ℕ) (q : Bool) (all : List ℕ)
    → Going join lines l m t t' k j rest n w given ticks beats → all ≡ all_bytes join lines → q ≡ quits lines → most ≤ length all
    → take most all ≡ due_bytes join lines n.welcome ticks → Speaks all q most given given' w w' m m' None
    → SaidCounts m.counts m'.counts said.All × (w' ≡ []) × (given' ≡ most) × (q ≡ true → most < length all)
    → Spoke join lines l m' t t' k j rest n w' given' ticks beats
spoke_all join lines l m m' t t' k j rest n w w' given given' ticks beats most q all g is quit fits due s done =
    let next = going_said join lines l m m' t t' k j rest n w w' given given' ticks beats most q all None said.All g is fits due s
    done.0 all_no_fault in
    let written : next.written ≡ due_bytes join lines n.welcome ticks =
    sym (append-nil next.written) ∙ ap (λ (x : List ℕ). next.written ++ x) (sym done.1) ∙ next.balance
    ∙ ap₂ (λ (i : ℕ) (xs : List ℕ). take i xs) done.2 (sym is) ∙ due in
    record {
      going = next;
      stops = record {
        all_due = inl written;
        no_quit = λ holds. let less = done.3 (quit ∙ holds) in omega (
          arith,
          less,
          ap length written,
          ap length due,
          length-take most all,
          ap length is,
        );
      };
    }

-- the link took no more
spoke_held : (join : AdminMsg) (lines : List Command) (l m m' : LinkNow) (t t' : TickerNow) (k j : SinkNow) (rest : List ℕ) (n : Notes)
    (w w' : List ℕ) (given given' ticks beats most : ℕ) (q : Bool) (all : List ℕ)
    → Going join lines l m t t' k j rest n w given ticks beats → all ≡ all_bytes join lines → most ≤ length all
    → take most all ≡ due_bytes join lines n.welcome ticks → Speaks all q most given given' w w' m m' None
    → SaidCounts m.counts m'.counts said.Held × (0 < length w') → Spoke join lines l m' t t' k j rest n w' given' ticks beats
spoke_held join lines l m m' t t' k j rest n w w' given given' ticks beats most q all g is fits due s held =
    let next = going_said join lines l m m' t t' k j rest n w w' given given' ticks beats most q all None said.Held g is fits due s
    held.0 held_no_fault in
    record {
      going = next;
      stops = record {
        all_due = inr (
          rises_within l.counts.idle_writes m.counts.idle_writes m'.counts.idle_writes m'.counts.idle_writes g.later.idle_writes
              held.0.0 (omega arith),
          held.0.1,
        );
        no_quit = λ holds. omega (
          arith,
          held.1,
          ap length next.balance,
          length-append next.written w',
          length-take given' (all_bytes join lines),
          next.within,
        );
      };
    }

pub spoke : (join : AdminMsg) (lines : List Command) (l m m' : LinkNow) (t t' : TickerNow) (k j : SinkNow) (rest : List ℕ) (n : Notes)
    (w w' : List ℕ) (given given' ticks beats most : ℕ) (q : Bool) (all : List ℕ)
    → Going join lines l m t t' k j rest n w given ticks beats → all ≡ all_bytes join lines → q ≡ quits lines → most ≤ length all
    → take most all ≡ due_bytes join lines n.welcome ticks → Speaks all q most given given' w w' m m' None
    → Spoke join lines l m' t t' k j rest n w' given' ticks beats
spoke join lines l m m' t t' k j rest n w w' given given' ticks beats most q all g is quit fits due s = elim s.ends [
  | inl done ↦ spoke_all join lines l m m' t t' k j rest n w w' given given' ticks beats most q all g is quit fits due s done
  | inr held ↦ spoke_held join lines l m m' t t' k j rest n w w' given given' ticks beats most q all g is fits due s held
]

-- fewer beats are paced too
fewer_beats : (a b x : ℕ) (c c' : LinkCounts) → b ≤ a → IsPaced a x c c' → IsPaced b x c c'
fewer_beats a b x c c' le (inl last) = inl last
fewer_beats a b x c c' le (inr so) = inr (omega (arith, so, le))

-- what is known of a run that was going
base_going : (join : AdminMsg) (lines : List Command) (l m : LinkNow) (t t' t'' : TickerNow) (k j : SinkNow) (rest : List ℕ) (n : Notes)
    (w : List ℕ) (given ticks beats : ℕ) (e : Ended) (g : Going join lines l m t t' k j rest n w given ticks beats)
    → Adds t'.beats t''.beats (last_beat e) → ticks + length (last_beat e) ≤ beats
    → Base join lines l m t t'' k j e g.read [] g.text g.written ticks
base_going join lines l m t t' t'' k j rest n w given ticks beats e g last few =
    record {
      took = subst (λ (bs : List ℕ). Appends l.read m.read bs) (sym (append-nil g.read)) g.took;
      put = g.put;
      beats = adds_then t.beats t'.beats t''.beats (replicate ticks Tick) (last_beat e) g.told last;
      due = subst (λ (b : Bool). IsPrefix g.written (due_bytes join lines b ticks)) (sym (heard_welcome g.read g.text n rest g.heard))
          (written_due join lines l m t t' k j rest n w given ticks beats g);
      paced = fewer_beats beats (ticks + length (last_beat e)) (length g.read) l.counts m.counts few g.paced;
      wrote = g.wrote;
    }

-- nothing came that ends a run
none_came : (join : AdminMsg) (lines : List Command) (l m : LinkNow) (t t' : TickerNow) (k j : SinkNow) (rest : List ℕ) (n : Notes)
    (w : List ℕ) (given ticks beats : ℕ) (g : Going join lines l m t t' k j rest n w given ticks beats)
    → (comes is_refusal g.read ≡ false) × (comes is_shutdown g.read ≡ false)
none_came join lines l m t t' k j rest n w given ticks beats g =
    (heard_refused g.read g.text n rest g.heard ∙ g.goes_on.0, heard_shutdown g.read g.text n rest g.heard ∙ g.goes_on.1)

whole_going : (join : AdminMsg) (lines : List Command) (l m : LinkNow) (t t' : TickerNow) (k j : SinkNow) (rest : List ℕ) (n : Notes)
    (w : List ℕ) (given ticks beats : ℕ) (g : Going join lines l m t t' k j rest n w given ticks beats) → told g.read ≡ g.text
whole_going join lines l m t t' k j rest n w given ticks beats g = heard_told g.read g.text n rest g.heard

-- the link failed while it was written
fault_spoken : (join : AdminMsg) (lines : List Command) (l m m' : LinkNow) (t t' : TickerNow) (k j : SinkNow) (rest : List ℕ) (n : Notes)
    (w w' : List ℕ) (given given' ticks beats most : ℕ) (q : Bool) (all : List ℕ)
    → Going join lines l m t t' k j rest n w given ticks beats → all ≡ all_bytes join lines
    → take most all ≡ due_bytes join lines n.welcome ticks → ticks ≤ beats
    → Speaks all q most given given' w w' m m' (Some ended.LinkFault) → DeskSession join lines l m' t t' k j ended.LinkFault
fault_spoken join lines l m m' t t' k j rest n w w' given given' ticks beats most q all g is due few s =
    let before : g.written ++ w ≡ take given all = g.balance ∙ ap (take given) (sym is) in
    let idle = reads_said m.counts m'.counts said.Failed s.ends in
    let front : IsPrefix (g.written ++ s.out) (due_bytes join lines n.welcome ticks) =
    prefix_trans (g.written ++ s.out) (take given' all) (due_bytes join lines n.welcome ticks) (w', s.balance g.written before)
    (subst (λ (bs : List ℕ). IsPrefix (take given' all) bs) due (prefix_take all given' most s.within)) in
    let whole = whole_going join lines l m t t' k j rest n w given ticks beats g in
    finish join lines l m' t t' k j ended.LinkFault g.read [] g.text (g.written ++ s.out) ticks
    (record {
      took = subst (λ (bs : List ℕ). Appends l.read m'.read bs) (sym (append-nil g.read))
          (Appends-kept l.read m.read m'.read g.read g.took s.kept);
      put = Appends-trans l.held m.held m'.held g.written s.out g.put s.written;
      beats = subst (λ (bs : List Beat). Adds t.beats t'.beats bs) (sym (append-nil (replicate ticks Tick))) g.told;
      due = subst (λ (b : Bool). IsPrefix (g.written ++ s.out) (due_bytes join lines b ticks))
          (sym (heard_welcome g.read g.text n rest g.heard)) front;
      paced = fewer_beats beats (ticks + 0) (length g.read) l.counts m'.counts (omega (arith, few))
          (subst (λ (x : ℕ). IsPaced beats x l.counts m'.counts) (omega arith)
          (paced_more beats (length g.read) 0 l.counts m.counts m'.counts (omega (arith, idle)) g.paced));
      wrote = g.wrote;
    }) refl (λ x. absurd x) tt (same_front g.text (told g.read) whole) (sym whole)
    (none_came join lines l m t t' k j rest n w given ticks beats g)
    (subst (λ (x : ℕ). Rises x m'.counts.faults) g.faults s.ends.0) g.ticker g.sink

-- QUIT was written
quit_spoken : (join : AdminMsg) (lines : List Command) (l m m' : LinkNow) (t t' : TickerNow) (k j : SinkNow) (rest : List ℕ) (n : Notes)
    (w w' : List ℕ) (given given' ticks beats most : ℕ) (q : Bool) (all : List ℕ)
    → Going join lines l m t t' k j rest n w given ticks beats → all ≡ all_bytes join lines → q ≡ quits lines → most ≤ length all
    → take most all ≡ due_bytes join lines n.welcome ticks → ticks ≤ beats
    → Speaks all q most given given' w w' m m' (Some ended.Quit) → DeskSession join lines l m' t t' k j ended.Quit
quit_spoken join lines l m m' t t' k j rest n w w' given given' ticks beats most q all g is quit fits due few s =
    let next = going_said join lines l m m' t t' k j rest n w w' given given' ticks beats most q all (Some ended.Quit) said.All g is fits
    due s s.ends.0 all_no_fault in
    let end : length (all_bytes join lines) ≤ given' = omega (arith, s.ends.2, ap length is) in
    let written : next.written ≡ all_bytes join lines =
    sym (append-nil next.written) ∙ ap (λ (x : List ℕ). next.written ++ x) (sym s.ends.1) ∙ next.balance
    ∙ take_all given' (all_bytes join lines) end in
    let whole = whole_going join lines l m' t t' k j rest n w' given' ticks beats next in
    finish join lines l m' t t' k j ended.Quit next.read [] next.text next.written ticks
    (base_going join lines l m' t t' t' k j rest n w' given' ticks beats ended.Quit next (adds_none t'.beats) (omega (arith, few))) refl
    (λ x. absurd x) (sym quit ∙ s.ends.3, written) (same_front next.text (told next.read) whole) (sym whole)
    (none_came join lines l m' t t' k j rest n w' given' ticks beats next) (next.faults, next.ends) next.ticker next.sink

pub ended_spoken : (join : AdminMsg) (lines : List Command) (l m m' : LinkNow) (t t' : TickerNow) (k j : SinkNow) (rest : List ℕ)
    (n : Notes) (w w' : List ℕ) (given given' ticks beats most : ℕ) (q : Bool) (all : List ℕ) (e : Ended)
    → Going join lines l m t t' k j rest n w given ticks beats → all ≡ all_bytes join lines → q ≡ quits lines → most ≤ length all
    → take most all ≡ due_bytes join lines n.welcome ticks → ticks ≤ beats
    → Speaks all q most given given' w w' m m' (Some e) → DeskSession join lines l m' t t' k j e
ended_spoken join lines l m m' t t' k j rest n w w' given given' ticks beats most q all ended.LinkFault g is quit fits due few s =
    fault_spoken join lines l m m' t t' k j rest n w w' given given' ticks beats most q all g is due few s
ended_spoken join lines l m m' t t' k j rest n w w' given given' ticks beats most q all ended.Quit g is quit fits due few s =
    quit_spoken join lines l m m' t t' k j rest n w w' given given' ticks beats most q all g is quit fits due few s
ended_spoken join lines l m m' t t' k j rest n w w' given given' ticks beats most q all e g is quit fits due few s = absurd s.ends

-- ---- beats

-- one tick more
going_beat : (join : AdminMsg) (lines : List Command) (l m : LinkNow) (t t' t'' : TickerNow) (k j : SinkNow) (rest : List ℕ) (n : Notes)
    (w : List ℕ) (given ticks : ℕ) → Going join lines l m t t' k j rest n w given ticks (ticks + 1) → Adds t'.beats t''.beats (Tick ∷ [])
    → t''.counts ≡ t'.counts → Going join lines l m t t'' k j rest n w given (ticks + 1) (ticks + 1)
going_beat join lines l m t t' t'' k j rest n w given ticks g tick same =
    record {
      read = g.read;
      took = g.took;
      text = g.text;
      wrote = g.wrote;
      heard = g.heard;
      goes_on = g.goes_on;
      written = g.written;
      put = g.put;
      balance = g.balance;
      within = g.within;
      due = prefix_trans (take given (all_bytes join lines)) (due_bytes join lines n.welcome ticks)
          (due_bytes join lines n.welcome (ticks + 1)) g.due (due_more join lines n.welcome n.welcome ticks (ticks + 1) (λ holds. holds)
          (omega arith));
      told = subst (λ (bs : List Beat). Adds t.beats t''.beats bs) (one_more ticks Tick)
          (adds_then t.beats t'.beats t''.beats (replicate ticks Tick) (Tick ∷ []) g.told tick);
      paced = g.paced;
      faults = g.faults;
      ends = g.ends;
      later = g.later;
      ticker = same ∙ g.ticker;
      sink = g.sink;
    }

-- a round is done
pub going_on : (join : AdminMsg) (lines : List Command) (l m : LinkNow) (t t' t'' : TickerNow) (k j : SinkNow) (rest : List ℕ) (n : Notes)
    (w : List ℕ) (given ticks next : ℕ) → Spoke join lines l m t t' k j rest n w given ticks (ticks + 1) → Beats None ticks next t' t''
    → Going join lines l m t t'' k j rest n w given next next
going_on join lines l m t t' t'' k j rest n w given ticks next s b =
    subst (λ (x : ℕ). Going join lines l m t t'' k j rest n w given x x) (sym b.0)
    (going_beat join lines l m t t' t'' k j rest n w given ticks s.going b.1 b.2)

-- what was noted is what was read
stops_read : (join : AdminMsg) (lines : List Command) (l m : LinkNow) (t t' : TickerNow) (k j : SinkNow) (rest : List ℕ) (n : Notes)
    (w : List ℕ) (given ticks beats : ℕ) (s : Spoke join lines l m t t' k j rest n w given ticks beats)
    → StopsAtBeat join lines (comes is_welcome s.going.read) ticks s.going.written l.counts m.counts
stops_read join lines l m t t' k j rest n w given ticks beats s =
    subst (λ (c : Bool). StopsAtBeat join lines c ticks s.going.written l.counts m.counts)
    (sym (heard_welcome s.going.read s.going.text n rest s.going.heard)) s.stops

pub ended_beat : (join : AdminMsg) (lines : List Command) (l m : LinkNow) (t t' t'' : TickerNow) (k j : SinkNow) (rest : List ℕ) (n : Notes)
    (w : List ℕ) (given ticks next : ℕ) (e : Ended) → Spoke join lines l m t t' k j rest n w given ticks (ticks + 1)
    → Beats (Some e) ticks next t' t'' → DeskSession join lines l m t t'' k j e
ended_beat join lines l m t t' t'' k j rest n w given ticks next ended.Stopped s b =
    let g = s.going in
    let whole = whole_going join lines l m t t' k j rest n w given ticks (ticks + 1) g in
    finish join lines l m t t'' k j ended.Stopped g.read [] g.text g.written ticks
    (base_going join lines l m t t' t'' k j rest n w given ticks (ticks + 1) ended.Stopped g b.0 (omega arith)) refl
    (λ x. stops_read join lines l m t t' k j rest n w given ticks (ticks + 1) s) tt (same_front g.text (told g.read) whole) (sym whole)
    (none_came join lines l m t t' k j rest n w given ticks (ticks + 1) g)
    (g.faults, g.ends) (
      subst (λ (c : TickCounts). Rises c.stops t''.counts.stops) g.ticker b.1,
      b.2 ∙ ap (λ (c : TickCounts). c.faults) g.ticker,
    ) g.sink
ended_beat join lines l m t t' t'' k j rest n w given ticks next ended.TickFault s b =
    let g = s.going in
    let whole = whole_going join lines l m t t' k j rest n w given ticks (ticks + 1) g in
    finish join lines l m t t'' k j ended.TickFault g.read [] g.text g.written ticks
    (base_going join lines l m t t' t'' k j rest n w given ticks (ticks + 1) ended.TickFault g b.0 (omega arith)) refl
    (λ x. stops_read join lines l m t t' k j rest n w given ticks (ticks + 1) s) tt (same_front g.text (told g.read) whole) (sym whole)
    (none_came join lines l m t t' k j rest n w given ticks (ticks + 1) g)
    (g.faults, g.ends) (subst (λ (c : TickCounts). Rises c.faults t''.counts.faults) g.ticker b.1) g.sink
ended_beat join lines l m t t' t'' k j rest n w given ticks next ended.Memory s b =
    let g = going_beat join lines l m t t' t'' k j rest n w given ticks s.going b.0 b.1 in
    let whole = whole_going join lines l m t t'' k j rest n w given (ticks + 1) (ticks + 1) g in
    finish join lines l m t t'' k j ended.Memory g.read [] g.text g.written (ticks + 1)
    (base_going join lines l m t t'' t'' k j rest n w given (ticks + 1) (ticks + 1) ended.Memory g (adds_none t''.beats) (omega arith)) tt
    (λ x. absurd x) tt (same_front g.text (told g.read) whole) tt tt tt g.ticker g.sink
ended_beat join lines l m t t' t'' k j rest n w given ticks next e s b = absurd b
