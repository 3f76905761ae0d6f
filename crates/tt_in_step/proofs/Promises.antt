-- The promises: of every origin, every list of events and every connection.
use Rattle.std.proofs.Common.{◌≡◌, ◌⊎◌, ℕ, ◌<◌, ◌≤◌, Bool, true, false, List, [], ◌∷◌, ◌++◌, length, Option, Some, refl, ap, sym, ◌∙◌}
use Rattle.std.proofs.Common.{subst, arith, append-nil, append_assoc}
use Rattle.std.specs.Prelude.{◌^◌, nat_le, nat_lt, Ok, if◌then◌else◌}
use Rattle.tt_edge.specs.declared.event.Event.{Event}
use Rattle.tt_world.specs.declared.command.Entry.{Entry}
use Rattle.tt_world.specs.World.{WorldState}
use Rattle.tt_map.specs.Reading.{map_in}
use Rattle.tt_map.specs.Layout.{map_of}
use Rattle.tt_lockstep.specs.Told as told
use Rattle.tt_lockstep.specs.Told.{Told, Sync}
use Rattle.tt_lockstep.specs.Server.{Server, Playing, initial, stream}
use Rattle.tt_lockstep.specs.Shown as lockstep
use Rattle.tt_lockstep.specs.Shown.{Joining, Running, View, SyncPoint, shown, seen}
use Rattle.tt_lockstep.specs.Client.{Call, Following, fed, is_recent, run, unfed}
use Rattle.tt_lockstep.specs.InStep.{IsInStep}
use Rattle.tt_lockstep.specs.Runner.{IsRunnerInStep, RunnerJoining, runner_run}
use Rattle.tt_frame.specs.Text.{IsName}
use Rattle.tt_world.specs.declared.setup.Setup.{Setup}
use Rattle.tt_world.specs.Setup.{Fits}
use Rattle.tt_log.specs.Saved.{IsSaved}
use Rattle.tt_lockstep.specs.Facts as facts
use Rattle.tt_lockstep.specs.Facts.{Agrees, ViewAgrees, IsInPlay, SyncAgrees}
use Rattle.tt_lockstep.specs.Leads.{Leads}
use Rattle.tt_lockstep.proofs.Leading.{led_in_step}
use Rattle.tt_lockstep.proofs.Servers.{kept_from_start}
use Rattle.tt_lockstep.proofs.Streams.{fronts, compared_holds}
use Rattle.tt_lockstep.proofs.Followers.{Has-run}
use Rattle.tt_lockstep.proofs.Runners.{runner_is, runner_carries}
use Rattle.tt_log.specs.Origin.{Origin, IsOrigin, game_of, world_at, above, at_frame}
use Rattle.tt_log.specs.Judged.{is_empty}
use Rattle.tt_log.specs.Member.{Member, is_playing}
use Rattle.tt_log.specs.Table.{member_of}
use Rattle.tt_log.specs.History.{table_of, journal_of, AreEvents}
use Rattle.tt_log.proofs.Counting.{is-low}
use Rattle.tt_in_step.specs.Watched.{Seat, AtDoor, Welcome, InQueue, Loads, HasMap}
use Rattle.tt_in_step.specs.Watched.{Plays, seat_of, stage_at, stage_of, watched, things_told}
use Rattle.tt_in_step.specs.Watched.{entries_in}
use Rattle.tt_in_step.specs.Watched.{game_messages}
use Rattle.tt_frame.specs.Packet.{IsBytes}
use Rattle.tt_lockstep.specs.Wire.{PieceCall, fed_bytes}
use Rattle.tt_log.specs.Told.{heard, sent}
use Rattle.tt_log.specs.Shown.{things_in}
use Rattle.tt_log.specs.Shown as book
use Rattle.tt_log.proofs.ShownLaws.{is-seen}
use Rattle.tt_in_step.specs.Fed.{IsPlayer, AreSpelled, calls_of}
use Rattle.tt_log.proofs.Spelling.{all-spelled}
use Rattle.tt_log.proofs.Families.{not-of-admins}
use Rattle.tt_in_step.specs.Ends.{IsRightPhase, IsAt, IsRunnerAt}
use Rattle.tt_in_step.proofs.Bytes.{sent-is, games-spelled, stream_for, front-things, fed-pieces}
use Rattle.tt_in_step.proofs.Phases.{kind_at, kind_seen, same-kind, agrees-not-wrong, client-at, runner-at}
use Rattle.tt_in_step.proofs.Bans.{messages-none, front-none}
use Rattle.tt_in_step.proofs.Endings.{ends-stand, right-phase}
use Rattle.tt_in_step.proofs.Seats.{found-seat, plays_at, plays-member, high-seat}
use Rattle.tt_in_step.proofs.Worlds.{MapsAreMaps, maps_are_read}
use Rattle.tt_in_step.proofs.Histories.{Leading, led, leads-there}

not-empty : (bytes : List ℕ) → 1 ≤ length bytes → is_empty bytes ≡ false
not-empty [] l = absurd (omega (arith, l))
not-empty (b ∷ bs) l = refl

-- ---- the entries that were told

abbrev entries_of : lockstep.Shown WorldState Entry → List Entry
entries_of (lockstep.Running v) = v.entries
entries_of other = []

abbrev goes_on : lockstep.Shown WorldState Entry → Bool
goes_on lockstep.Joining = true
goes_on (lockstep.Running v) = true
goes_on other = false

entries-one : (t : Told WorldState Entry) (ts : List (Told WorldState Entry)) → entries_in (t ∷ ts) ≡ entries_in (t ∷ []) ++ entries_in ts
entries-one (told.Map s w) ts = refl
entries-one (told.Command e) ts = refl
entries-one (told.Frame f max) ts = refl
entries-one (told.Sync f w) ts = refl
entries-one told.Other ts = refl
entries-one told.Stray ts = refl
entries-one told.End ts = refl

entry-seen : (b d : Bool) (v w : View WorldState Entry) (e : Entry) → w.entries ≡ v.entries ++ e ∷ []
    → goes_on (if b then (if d then Running w else lockstep.Wrong v) else lockstep.Wrong v) ≡ true
    → entries_of (if b then (if d then Running w else lockstep.Wrong v) else lockstep.Wrong v) ≡ v.entries ++ e ∷ []
entry-seen true true v w e is going = is
entry-seen true false v w e is going = absurd cc
entry-seen false d v w e is going = absurd cc

frame-seen : (b d : Bool) (v w : View WorldState Entry) → w.entries ≡ v.entries
    → goes_on (if b then (if d then Running w else lockstep.Wrong v) else lockstep.Wrong v) ≡ true
    → entries_of (if b then (if d then Running w else lockstep.Wrong v) else lockstep.Wrong v) ≡ v.entries ++ []
frame-seen true true v w is going = is ∙ sym (append-nil v.entries)
frame-seen true false v w is going = absurd cc
frame-seen false d v w is going = absurd cc

module _ (o : Origin) where
  entries-seen : (h : lockstep.Shown WorldState Entry) (t : Told WorldState Entry) → goes_on (seen (game_of o) h t) ≡ true
      → entries_of (seen (game_of o) h t) ≡ entries_of h ++ entries_in (t ∷ [])
  entries-seen lockstep.Joining (told.Map s w) going = refl
  entries-seen lockstep.Joining told.Other going = refl
  entries-seen lockstep.Joining _ going = absurd cc
  entries-seen (lockstep.Running v) (told.Command e) going =
      entry-seen (nat_lt v.permitted e.frame) (nat_le v.last_entry e.frame) v _ e refl going
  entries-seen (lockstep.Running v) (told.Frame f max) going = frame-seen (nat_le f max) (nat_le v.permitted max) v _ refl going
  entries-seen (lockstep.Running v) (told.Sync f w) going = sym (append-nil v.entries)
  entries-seen (lockstep.Running v) told.Other going = sym (append-nil v.entries)
  entries-seen (lockstep.Running v) _ going = absurd cc
  entries-seen other t going = absurd cc

  ended-stays : (ts : List (Told WorldState Entry)) (h : lockstep.Shown WorldState Entry) → goes_on h ≡ false
      → goes_on (shown (game_of o) h ts) ≡ false
  ended-stays [] h is = is
  ended-stays (t ∷ ts) lockstep.Joining is = absurd cc
  ended-stays (t ∷ ts) (lockstep.Running v) is = absurd cc
  ended-stays (t ∷ ts) lockstep.EndedJoining is = ended-stays ts lockstep.EndedJoining refl
  ended-stays (t ∷ ts) (lockstep.Ended v) is = ended-stays ts (lockstep.Ended v) refl
  ended-stays (t ∷ ts) lockstep.WrongJoining is = ended-stays ts lockstep.WrongJoining refl
  ended-stays (t ∷ ts) (lockstep.Wrong v) is = ended-stays ts (lockstep.Wrong v) refl

  -- what is shown has the entries that were told
  shown-entries : (ts : List (Told WorldState Entry)) (h : lockstep.Shown WorldState Entry) → goes_on (shown (game_of o) h ts) ≡ true
      → entries_of (shown (game_of o) h ts) ≡ entries_of h ++ entries_in ts
  shown-entries [] h going = sym (append-nil (entries_of h))
  shown-entries (t ∷ ts) h going = by (goes_on (seen (game_of o) h t)) refl (shown-entries ts (seen (game_of o) h t) going)
    where
      by : (b : Bool) → goes_on (seen (game_of o) h t) ≡ b
          → entries_of (shown (game_of o) (seen (game_of o) h t) ts) ≡ entries_of (seen (game_of o) h t) ++ entries_in ts
          → entries_of (shown (game_of o) (seen (game_of o) h t) ts) ≡ entries_of h ++ entries_in (t ∷ ts)
      by true is rest = rest ∙ ap (λ (xs : List Entry). xs ++ entries_in ts) (entries-seen h t is)
          ∙ append_assoc (entries_of h) (entries_in (t ∷ [])) (entries_in ts) ∙ ap (λ (xs : List Entry). entries_of h ++ xs)
          (sym (entries-one t ts))
      by false is rest = absurd (cc (ended-stays ts (seen (game_of o) h t) is, going))

  pub all-entries : (ts : List (Told WorldState Entry)) (h : lockstep.Shown WorldState Entry) → shown (game_of o) Joining ts ≡ h
      → goes_on h ≡ true → entries_in ts ≡ entries_of h
  all-entries ts h is going = sym (shown-entries ts Joining (ap goes_on is ∙ going)) ∙ ap entries_of is

shown-append : (o : Origin) (xs ys : List (Told WorldState Entry)) (h : lockstep.Shown WorldState Entry)
    → shown (game_of o) h (xs ++ ys) ≡ shown (game_of o) (shown (game_of o) h xs) ys
shown-append o [] ys h = refl
shown-append o (x ∷ xs) ys h = shown-append o xs ys (seen (game_of o) h x)

-- a saved game begins with its map's world
pub saved-game : (setup : Setup) (bytes : List ℕ) (saved : IsSaved bytes) → Fits setup → setup.seed < 2 ^ 32 → IsName setup.name
    → IsName setup.revision → IsName setup.id → IsOrigin (record { setup = setup; start = saved.world })
saved-game setup bytes saved fits seed name revision id = record {
  setup = fits;
  seed = seed;
  name = name;
  revision = revision;
  id = id;
  start = saved.is.is.told;
  early = saved.day;
}

module _ (maps : MapsAreMaps) (o : Origin) (h : IsOrigin o) (es : List Event) (are : AreEvents es) (c : ℕ) where
  leading : Leading o (maps_are_read maps o h) (not-empty o.setup.id h.id.some) c es
  leading = led o (maps_are_read maps o h) (not-empty o.setup.id h.id.some) c es are

  pub leads : Leads (game_of o) initial (things_told o es c) (watched c (table_of o es))
  leads = leads-there o (maps_are_read maps o h) (not-empty o.setup.id h.id.some) c es are

  pub in_step : (calls : List (Call WorldState Entry)) (later : List (Told WorldState Entry)) → things_told o es c ≡ fed calls ++ later
      → IsInStep (game_of o) (journal_of o es) (run (game_of o) unfed calls)
  in_step calls later e = led_in_step (game_of o) (watched c (table_of o es)) (things_told o es c) calls later leads e

  pub runs_in_step : (calls : List (Call WorldState Entry)) (later : List (Told WorldState Entry)) → things_told o es c ≡ fed calls ++ later
      → IsRunnerInStep (game_of o) (journal_of o es) (runner_run (game_of o) RunnerJoining calls)
  runs_in_step calls later e = runner_carries (game_of o) (journal_of o es) calls (in_step calls later e)

  pub fits : facts.Fits (game_of o) (journal_of o es) (table_of o es).frame (table_of o es).top (watched c (table_of o es)).stage
      (shown (game_of o) Joining (things_told o es c))
  fits =
      let p = leads in
      subst (λ ts. facts.Fits (game_of o) (journal_of o es) (table_of o es).frame (table_of o es).top (watched c (table_of o es)).stage
      (shown (game_of o) Joining ts)) p.stream_is (subst (λ (s : Server Entry). facts.Fits (game_of o) s.journal s.frame s.permitted s.stage
      (shown (game_of o) Joining (stream (game_of o) initial p.steps))) p.after_is (kept_from_start (game_of o) p.steps).fits)

  pub agrees : (front later : List (Told WorldState Entry)) → things_told o es c ≡ front ++ later
      → Agrees (game_of o) (journal_of o es) (table_of o es).top (shown (game_of o) Joining front)
  agrees front later e =
      let p = leads in
      subst (λ (s : Server Entry). Agrees (game_of o) s.journal s.permitted (shown (game_of o) Joining front)) p.after_is
      (fronts (game_of o) p.steps front later (p.stream_is ∙ e))

  few : o.setup.frame_freq ≤ 64
  few = h.setup.frame_freq.1

  pub compared : (calls : List (Call WorldState Entry)) (later : List (Told WorldState Entry)) (v : View WorldState Entry) (f g w : ℕ)
      → things_told o es c ≡ fed calls ++ Sync g w ∷ later → run (game_of o) unfed calls ≡ Following (Running v) f
      → (f < g) ⊎ ((g ≤ v.map_frame) ⊎ (is_recent (game_of o) v f g ≡ true))
  compared calls later v f g w e is =
      let p = leads in
      let less : o.setup.frame_freq < 128 = omega (arith, few) in
      compared_holds (game_of o) p.steps calls later v f g w less (p.stream_is ∙ e) is

  -- the map of a frame of the game is read back
  pub map-read : (s : ℕ) → s ≤ (table_of o es).frame → map_in (map_of (world_at o (journal_of o es) s)) ≡ Ok (world_at o
      (journal_of o es) s)
  map-read s l =
      let low = is-low o es in
      (maps_are_read maps o h (journal_of o es) s leading.short.entries (omega (arith, l, low))).is_read

  -- what was shown agrees, where it has its map
  pub view-agrees : (front later : List (Told WorldState Entry)) (v : View WorldState Entry) → things_told o es c ≡ front ++ later
      → shown (game_of o) Joining front ≡ Running v → ViewAgrees (game_of o) (journal_of o es) (table_of o es).top v
  view-agrees front later v e is =
      subst (λ k. Agrees (game_of o) (journal_of o es) (table_of o es).top k) is (agrees front later e)

  -- ---- entries

  seated : (m : Member) → member_of (table_of o es) c ≡ Some m → (watched c (table_of o es)).stage ≡ stage_at (seat_of m)
  seated m is = ap (λ (x : Option Seat). stage_of (nat_le c (table_of o es).openings) x) (found-seat c (table_of o es).members m is)

  fits-stage : (m : Member) → member_of (table_of o es) c ≡ Some m → facts.Fits (game_of o) (journal_of o es) (table_of o es).frame
      (table_of o es).top (stage_at (seat_of m)) (shown (game_of o) Joining (things_told o es c))
  fits-stage m is = subst (λ s. facts.Fits (game_of o) (journal_of o es) (table_of o es).frame (table_of o es).top s (shown
      (game_of o) Joining
      (things_told o es c))) (seated m is) fits

  none-by : (x : Seat) → plays_at x ≡ false → facts.Fits (game_of o) (journal_of o es) (table_of o es).frame (table_of o es).top
      (stage_at x)
      (shown (game_of o) Joining (things_told o es c)) → entries_in (things_told o es c) ≡ []
  none-by AtDoor idle f = all-entries o (things_told o es c) Joining f refl
  none-by Welcome idle f = all-entries o (things_told o es c) Joining f refl
  none-by InQueue idle f = all-entries o (things_told o es c) Joining f refl
  none-by (Loads s k) idle f = all-entries o (things_told o es c) Joining f.1 refl
  none-by (HasMap s) idle f = all-entries o (things_told o es c) _ f.1 refl
  none-by (Plays s) idle f = absurd cc

  -- one that does not play yet was told none
  pub told-none : (m : Member) → member_of (table_of o es) c ≡ Some m → is_playing m ≡ false → entries_in (things_told o es c) ≡ []
  told-none m is idle = none-by (seat_of m) (sym (plays-member m) ∙ idle) (fits-stage m is)

  -- one that plays was told exactly those above its map frame
  pub told-all : (m : Member) → member_of (table_of o es) c ≡ Some m → is_playing m ≡ true
      → entries_in (things_told o es c) ≡ above o m.map_frame (journal_of o es)
  told-all m is plays =
      let f : facts.Fits (game_of o) (journal_of o es) (table_of o es).frame (table_of o es).top (Playing m.map_frame) (shown
      (game_of o) Joining
      (things_told o es c)) = subst (λ x. facts.Fits (game_of o) (journal_of o es) (table_of o es).frame (table_of o es).top (stage_at x)
      (shown (game_of o) Joining (things_told o es c))) (high-seat m plays) (fits-stage m is) in
      all-entries o (things_told o es c) (Running f.0) f.1 refl ∙ f.2.entries_are

  -- behind FRAME stand all entries up to its maximum
  pub frame-has : (front later : List (Told WorldState Entry)) (v : View WorldState Entry) (f max g : ℕ)
      → things_told o es c ≡ front ++ told.Frame f max ∷ later → shown (game_of o) Joining front ≡ Running v → v.map_frame < g → g ≤ max
      → at_frame o g (entries_in front) ≡ at_frame o g (journal_of o es)
  frame-has front later v f max g e is l m =
      let whole : things_told o es c ≡ (front ++ told.Frame f max ∷ []) ++ later = e ∙ sym (append_assoc front
      (told.Frame f max ∷ []) later) in
      let a = agrees (front ++ told.Frame f max ∷ []) later whole in
      let now : shown (game_of o) Joining (front ++ told.Frame f max ∷ []) ≡ seen (game_of o) (Running v) (told.Frame f max) =
      shown-append o front (told.Frame f max ∷ []) Joining ∙ ap (λ k. seen (game_of o) k (told.Frame f max)) is in
      ap (λ (xs : List Entry). at_frame o g xs) (all-entries o front (Running v) is refl) ∙ by (nat_le f max) (nat_le v.permitted max)
      (subst (λ k. Agrees (game_of o) (journal_of o es) (table_of o es).top k) now a)
    where
      by : (b d : Bool) → Agrees (game_of o) (journal_of o es) (table_of o es).top
          (if b then (if d then Running (record v { permitted = max }) else lockstep.Wrong v) else lockstep.Wrong v)
          → at_frame o g v.entries ≡ at_frame o g (journal_of o es)
      by true true a = a.has g l m
      by true false a = absurd a
      by false d a = absurd a

  -- ---- over bytes

  module _ (player : IsPlayer es c) where
    spelled : AreSpelled (game_messages (heard o es c))
    spelled = games-spelled (heard o es c) (all-spelled o es c h are)

    sent_is : sent o es c ≡ stream_for (game_messages (heard o es c))
    sent_is = sent-is (heard o es c) (not-of-admins o es c player)

    pub tells : (bytes later : List ℕ) → IsBytes bytes → sent o es c ≡ bytes ++ later
        → (more : List (Told WorldState Entry)) × (things_told o es c ≡ things_in bytes ++ more)
    tells bytes later fits e = front-things (game_messages (heard o es c)) bytes later fits spelled (sym sent_is ∙ e)

    pub cut_fed : (calls : List PieceCall) (later : List ℕ) → IsBytes (fed_bytes calls) → sent o es c ≡ fed_bytes calls ++ later
        → fed (calls_of calls) ≡ things_in (fed_bytes calls)
    cut_fed calls later fits e = fed-pieces (game_messages (heard o es c)) later calls fits spelled (sym sent_is ∙ e)

    pub cut_in_step : (calls : List PieceCall) (later : List ℕ) → IsBytes (fed_bytes calls) → sent o es c ≡ fed_bytes calls ++ later
        → IsInStep (game_of o) (journal_of o es) (run (game_of o) unfed (calls_of calls))
    cut_in_step calls later fits e =
        let g = tells (fed_bytes calls) later fits e in
        in_step (calls_of calls) g.0 (g.1 ∙ ap (λ (ts : List (Told WorldState Entry)). ts ++ g.0) (sym (cut_fed calls later fits e)))

    pub cut_runs_in_step : (calls : List PieceCall) (later : List ℕ) → IsBytes (fed_bytes calls) → sent o es c ≡ fed_bytes calls ++ later
        → IsRunnerInStep (game_of o) (journal_of o es) (runner_run (game_of o) RunnerJoining (calls_of calls))
    cut_runs_in_step calls later fits e = runner_carries (game_of o) (journal_of o es) (calls_of calls) (cut_in_step calls later fits e)

    pub shows : (bytes later : List ℕ) → IsBytes bytes → sent o es c ≡ bytes ++ later
        → Agrees (game_of o) (journal_of o es) (table_of o es).top (book.shown o bytes).seen
    shows bytes later fits e =
        let g = tells bytes later fits e in
        subst (λ k. Agrees (game_of o) (journal_of o es) (table_of o es).top k) (sym (is-seen o bytes)) (agrees (things_in bytes) g.0 g.1)

    pub never_wrong : (bytes later : List ℕ) (at : ℕ) → IsBytes bytes → sent o es c ≡ bytes ++ later
        → (book.shown o bytes).phase ≡ book.WrongAt at → ⊥
    never_wrong bytes later at fits e wrong = agrees-not-wrong (game_of o) (journal_of o es) (table_of o es).top (book.shown o bytes).seen
        (shows bytes later fits e) (sym (same-kind o bytes) ∙ ap kind_at wrong)

    -- the phase behind a front of the bytes
    pub phase-right : (bytes later : List ℕ) → IsBytes bytes → sent o es c ≡ bytes ++ later
        → IsRightPhase (book.shown o bytes).phase (book.items_in bytes)
    phase-right bytes later fits e = right-phase (book.shown o bytes).phase (book.items_in bytes)
        (front-none (game_messages (heard o es c)) bytes later fits spelled (messages-none o es c) (sym sent_is ∙ e)) (ends-stand o bytes)
        (λ at wrong. never_wrong bytes later at fits e wrong)

    -- and that of a client that was fed it
    pub cut_phase : (calls : List PieceCall) (later : List ℕ) → IsBytes (fed_bytes calls) → sent o es c ≡ fed_bytes calls ++ later
        → IsAt (run (game_of o) unfed (calls_of calls)) (book.shown o (fed_bytes calls)).phase (book.items_in (fed_bytes calls))
    cut_phase calls later fits e =
        let bytes : List ℕ = fed_bytes calls in
        let same : (book.shown o bytes).seen ≡ shown (game_of o) Joining (fed (calls_of calls)) =
        is-seen o bytes ∙ ap (λ (ts : List (Told WorldState Entry)). shown (game_of o) Joining ts) (sym (cut_fed calls later fits e)) in
        client-at (game_of o) (journal_of o es) (book.shown o bytes).phase (book.items_in bytes) (phase-right bytes later fits e)
        (shown (game_of o) Joining (fed (calls_of calls))) (run (game_of o) unfed (calls_of calls))
        (Has-run (game_of o) Joining unfed (calls_of calls) (refl, tt)) (cut_in_step calls later fits e)
        (same-kind o bytes ∙ ap (λ (h : lockstep.Shown WorldState Entry). kind_seen h) same)

    pub cut_runs_phase : (calls : List PieceCall) (later : List ℕ) → IsBytes (fed_bytes calls) → sent o es c ≡ fed_bytes calls ++ later
        → IsRunnerAt (runner_run (game_of o) RunnerJoining (calls_of calls)) (book.shown o (fed_bytes calls)).phase
        (book.items_in (fed_bytes calls))
    cut_runs_phase calls later fits e =
        subst (λ r. IsRunnerAt r (book.shown o (fed_bytes calls)).phase (book.items_in (fed_bytes calls)))
        (runner_is (game_of o) (calls_of calls)) (runner-at (game_of o) (run (game_of o) unfed (calls_of calls))
        (book.shown o (fed_bytes calls)).phase (book.items_in (fed_bytes calls)) (cut_phase calls later fits e))
