-- What a token's attempt is told is what tt_attempts says of all that it hears.
use Rattle.std.proofs.Common.{◌≡◌, ℕ, ◌+◌, ◌<◌, ◌≤◌, ◌^◌, Bool, true, false, ◌||◌, cond, List, [], ◌∷◌, ◌++◌, drop, length, Option, Some}
use Rattle.std.proofs.Common.{None, refl, sym, ap, ap₂, subst, ◌∙◌, append_assoc, arith, inl, inr}
use Rattle.std.specs.Prelude.{◌⊎◌, fold, eqb, find, is_some, nat_le, option_map}
use Rattle.std.specs.Str.{bytes_eq}
use Rattle.std.specs.Fmt.{decimal}
use Rattle.std.proofs.lemmas.Fmt.{decimal_injective}
use Rattle.std.proofs.lemmas.Slice.Eq.{bytes_eq-Decides}
use Rattle.std.proofs.lemmas.Bool.{true≢false}
use Rattle.std.proofs.lemmas.List.{append-nil}
use Rattle.tt_edge.specs.declared.event.Peer.{Peer}
use Rattle.tt_edge.specs.declared.event.Event.{Event}
use Rattle.tt_edge.specs.declared.event.Event.TheVariants.{Open, Packet, Broken, Shut, Tick, Stop}
use Rattle.tt_edge.specs.declared.event.Door.{Door}
use Rattle.tt_edge.specs.declared.event.Door.TheVariants.{Main, Side}
use Rattle.tt_coord.specs.declared.coord.CoordMsg.{CoordMsg}
use Rattle.tt_coord.specs.declared.coord.CoordMsg.TheVariants.{GcError, ServerRegister, GcRegisterAck, ServerUpdate, ClientListing}
use Rattle.tt_coord.specs.declared.coord.CoordMsg.TheVariants.{GcListing, ClientConnect, GcConnecting, SercliConnectFailed, GcConnectFailed}
use Rattle.tt_coord.specs.declared.coord.CoordMsg.TheVariants.{ClientConnected, GcDirectConnect, GcStunRequest, SercliStunResult}
use Rattle.tt_coord.specs.declared.coord.CoordMsg.TheVariants.{GcStunConnect, GcNewgrfLookup, GcTurnConnect}
use Rattle.tt_attempts.specs.declared.attempt.Ways.{Ways}
use Rattle.tt_attempts.specs.declared.attempt.Stage.{Stage}
use Rattle.tt_attempts.specs.declared.attempt.Heard.{Heard}
use Rattle.tt_attempts.specs.declared.attempt.Told as word
use Rattle.tt_attempts.specs.declared.attempt.Told.TheVariants.{Nothing, Direct, AskStun, Stun, Turn, AllFailed}
use Rattle.tt_attempts.specs.Attempts as attempts
use Rattle.tt_attempts.specs.Attempts.{AttemptState, from_direct, stepped as attempt_stepped}
use Rattle.tt_attempts.specs.Runs.{told_in, answers}
use Rattle.tt_attempts.specs.declared.attempt.Heard.TheVariants.{Failed, StunResult, Connected}
use Rattle.tt_attempts.proofs.RunLaws.{stage_in, told_append, stage_append}
use Rattle.tt_gc_table.specs.declared.setup.GcSetup.{GcSetup}
use Rattle.tt_gc_table.specs.Table.{Table, Connection, Server, Meeting, first, server_by, is_for, meeting_of, without_meeting, with_meeting}
use Rattle.tt_gc_table.specs.Table.{connection_of, live_sides}
use Rattle.tt_gc_table.specs.Deed.{What, Step, Deed, begins, hears, ◌▹◌, where_, either, given, becomes, tells, notes}
use Rattle.tt_gc_table.specs.Codes.{new_token, behind_token}
use Rattle.tt_gc_table.specs.Meetings.{tells_word, is_over, reaches, hears_it, is_heard, new_meeting, stands, begins_it}
use Rattle.tt_gc_table.specs.Ending.{goes, leaves, ends}
use Rattle.tt_gc_table.specs.PacketRules.{read_msg, heard, most_attempts, by_code, on_register, on_update, on_listing, may_fail, on_failed}
use Rattle.tt_gc_table.specs.PacketRules.{is_side, on_result, on_connected, on_message}
use Rattle.tt_gc_table.specs.Desk.{most_sides, is_at_stun, with_note, shows, read_stun, at_desk}
use Rattle.tt_gc_table.specs.Events.{arrives, opened, on_packet, on_broken, on_shut, by_event, charged, is_stop, last_tick, shut_down}
use Rattle.tt_gc_table.specs.Events.{closed}
use Rattle.tt_gc_table.specs.Events.{counted, deed, stepped, table_of}
use Rattle.tt_gc_table.specs.Events as events
use Rattle.tt_gc_table.specs.Ways.{word_in, word_of, hears_of, of_steps, steps_from, words_for, hearings, numbered, numbers}
use Rattle.tt_gc_table.specs.Walk.{IsKept, kept_given, kept_where, kept_either, kept_leaves, kept_ends, kept_register, kept_update}
use Rattle.tt_gc_table.specs.Walk.{kept_listing}
use Rattle.tt_gc_table.specs.Walk.{kept_said, kept_heard, kept_desk}
use Rattle.tt_gc_table.proofs.Finding.{unwrapped, found, find_filter_other, find_filter_same, find_map, find_changed, find_behind, find_new}

-- ---- steps

of_append : {A : Type 0} (f : What → List A) (xs ys : List Step) → of_steps f (xs ++ ys) ≡ of_steps f xs ++ of_steps f ys
of_append f [] ys = refl
of_append {A = A} f (x ∷ xs) ys =
    ap (λ (l : List A). f x.what ++ l) (of_append f xs ys) ∙ sym (append_assoc (f x.what) (of_steps f xs) (of_steps f ys))

nothing_either : {A : Type 0} (b : Bool) → [] ≡ cond {A = List A} b [] []
nothing_either true = refl
nothing_either false = refl

word_ways : (s : GcSetup) (token : List ℕ) (w : word.Told) (m : Meeting) (t : Table) → of_steps (word_of token) (tells_word s w m t).told ≡
    cond (bytes_eq token m.token) (numbered w) []
word_ways s token Nothing m t = nothing_either (bytes_eq token m.token)
word_ways s token Direct m t = append-nil (cond (bytes_eq token m.token) (1 ∷ []) [])
word_ways s token AskStun m t = append-nil (cond (bytes_eq token m.token) (2 ∷ []) [])
word_ways s token Stun m t = nothing_either (bytes_eq token m.token)
word_ways s token Turn m t = append-nil (cond (bytes_eq token m.token) (3 ∷ []) [])
word_ways s token AllFailed m t = append-nil (cond (bytes_eq token m.token) (4 ∷ []) [])

word_hears : (s : GcSetup) (token : List ℕ) (w : word.Told) (m : Meeting) (t : Table) → of_steps (hears_of token) (tells_word s w m t).told
    ≡ []
word_hears s token Nothing m t = refl
word_hears s token Direct m t = refl
word_hears s token AskStun m t = refl
word_hears s token Stun m t = refl
word_hears s token Turn m t = refl
word_hears s token AllFailed m t = refl

pub word_table : (s : GcSetup) (w : word.Told) (m : Meeting) (t : Table) → (tells_word s w m t).table ≡ t
word_table s Nothing m t = refl
word_table s Direct m t = refl
word_table s AskStun m t = refl
word_table s Stun m t = refl
word_table s Turn m t = refl
word_table s AllFailed m t = refl

either_told : (b : Bool) (f g : Table → Table) (t : Table) → (either b (λ t. becomes (f t)) (λ t. becomes (g t)) t).told ≡ []
either_told true f g t = refl
either_told false f g t = refl

-- ---- how a token stands

-- the state of the open attempt with this token
abbrev pub state_in : Table → List ℕ → Option AttemptState
state_in t token = option_map (λ (m : Meeting). m.state) (meeting_of t token)

-- an attempt that is over is open no longer
abbrev pub as_open : Ways → Stage → Option AttemptState
as_open ways stage = cond (is_over stage) None (Some (record { ways = ways; stage = stage }))

-- its number was given
abbrev pub IsOld : List ℕ → ℕ → Type 0
IsOld token k = (n : ℕ) × (n ≤ k) × (drop 8 token ≡ decimal n)

pub record IsFresh (o : Option AttemptState) (w : List ℕ) (h : List Heard) : Type 0 where
  pub none : o ≡ None
  pub ways : w ≡ []
  pub heard : h ≡ []

pub record HasBegun (s : GcSetup) (token : List ℕ) (o : Option AttemptState) (k : ℕ) (w : List ℕ) (h : List Heard) : Type 0 where
  pub old : IsOld token k
  pub state : o ≡ as_open s.ways (stage_in s.ways h)
  pub ways : w ≡ numbers (told_in s.ways h)

abbrev pub Stands : GcSetup → List ℕ → Option AttemptState → ℕ → List ℕ → List Heard → Type 0
Stands s token o k w h = IsFresh o w h ⊎ HasBegun s token o k w h

record Follows (s : GcSetup) (token : List ℕ) (t : Table) (d : Deed) : Type 0 where
  pub rises : t.attempts ≤ d.table.attempts
  pub keeps : d.table.attempts < 2 ^ 64 → (w : List ℕ) (h : List Heard) → Stands s token (state_in t token) t.attempts w h
      → Stands s token (state_in d.table token) d.table.attempts (w ++ of_steps (word_of token) d.told) (h
      ++ of_steps (hears_of token) d.told)

pub nothing_more : {A : Type 0} (xs ys : List A) → ys ≡ [] → xs ++ ys ≡ xs
nothing_more {A = A} xs ys none = ap (λ (l : List A). xs ++ l) none ∙ append-nil xs

still : (s : GcSetup) (token : List ℕ) (o p : Option AttemptState) (k j : ℕ) (w : List ℕ) (h : List Heard) → p ≡ o → k ≤ j
    → Stands s token o k w h → Stands s token p j w h
still s token o p k j w h same up (inl f) = inl (record { none = same ∙ f.none; ways = f.ways; heard = f.heard })
still s token o p k j w h same up (inr b) =
    inr (record { old = (b.old.0, omega (arith, b.old.1, up), b.old.2); state = same ∙ b.state; ways = b.ways })

moved : (s : GcSetup) (token : List ℕ) (o : Option AttemptState) (k : ℕ) (w v : List ℕ) (h g : List Heard) → w ≡ v → h ≡ g
    → Stands s token o k w h → Stands s token o k v g
moved s token o k w v h g ws hs st =
    subst (λ (x : List Heard). Stands s token o k v x) hs (subst (λ (x : List ℕ). Stands s token o k x h) ws st)

unmoved : (s : GcSetup) (token : List ℕ) (t : Table) (d : Deed) → state_in d.table token ≡ state_in t token → t.attempts ≤ d.table.attempts
    → of_steps (word_of token) d.told ≡ [] → of_steps (hears_of token) d.told ≡ [] → Follows s token t d
unmoved s token t d same up no_ways no_hears = record {
  rises = up;
  keeps = λ few w h st. moved s token (state_in d.table token) d.table.attempts w (w ++ of_steps (word_of token) d.told) h (h
      ++ of_steps (hears_of token) d.told) (sym (nothing_more w (of_steps (word_of token) d.told) no_ways))
      (sym (nothing_more h (of_steps (hears_of token) d.told) no_hears))
      (still s token (state_in t token) (state_in d.table token) t.attempts d.table.attempts w h same up st);
}

follows_joins : (s : GcSetup) (token : List ℕ) (t : Table) (d : Deed) (rule : Table → Deed) → Follows s token t d
    → Follows s token d.table (rule d.table) → Follows s token t (d ▹ rule)
follows_joins s token t d rule one two =
    let next : Deed = rule d.table in
    record {
      rises = omega (arith, one.rises, two.rises);
      keeps = λ few w h st. moved s token (state_in next.table token) next.table.attempts
          ((w ++ of_steps (word_of token) d.told) ++ of_steps (word_of token) next.told) (w ++ of_steps (word_of token) (d.told
          ++ next.told))
          ((h ++ of_steps (hears_of token) d.told) ++ of_steps (hears_of token) next.told) (h ++ of_steps (hears_of token) (d.told
          ++ next.told))
          (append_assoc w (of_steps (word_of token) d.told) (of_steps (word_of token) next.told) ∙ ap (λ (l : List ℕ). w
          ++ l) (sym (of_append (word_of token) d.told next.told)))
          (append_assoc h (of_steps (hears_of token) d.told) (of_steps (hears_of token) next.told) ∙ ap (λ (l : List Heard). h
          ++ l) (sym (of_append (hears_of token) d.told next.told)))
          (two.keeps few (w ++ of_steps (word_of token) d.told) (h ++ of_steps (hears_of token) d.told)
          (one.keeps (omega (arith, two.rises, few)) w h st));
    }

-- ---- what an attempt hears

abbrev staged : Stage → Meeting → Meeting
staged stage m = record m { state = record m.state { stage = stage } }

-- another token's attempt
for_other : (token named : List ℕ) → bytes_eq token named ≡ false → (x : Meeting) → is_for named x ≡ true → is_for token x ≡ false
for_other token named apart x at = by (is_for token x) refl
  where
    by : (b : Bool) → is_for token x ≡ b → b ≡ false
    by false is = refl
    by true is = absurd (true≢false (sym ((bytes_eq-Decides token named).1 ((bytes_eq-Decides token x.token).0 is
        ∙ sym ((bytes_eq-Decides named x.token).0 at))) ∙ apart))

for_same : (token named : List ℕ) → token ≡ named → (x : Meeting) → is_for token x ≡ true → is_for named x ≡ true
for_same token named same x at = ap (λ (n : List ℕ). is_for n x) (sym same) ∙ at

pub it_table : (s : GcSetup) (h : Heard) (m : Meeting) (t : Table)
    → (hears_it s h m t).table ≡ (reaches (attempt_stepped m.state.ways m.state.stage h).stage m.token t).table
it_table s h m t = let step = attempt_stepped m.state.ways m.state.stage h in word_table s step.told m (reaches step.stage m.token t).table

reaches_told : (stage : Stage) (token : List ℕ) (t : Table) → (reaches stage token t).told ≡ []
reaches_told stage token t = either_told (is_over stage) (without_meeting token) (with_meeting token (staged stage)) t

it_steps : {A : Type 0} (f : What → List A) (s : GcSetup) (h : Heard) (m : Meeting) (t : Table)
    → of_steps f (hears_it s h m t).told ≡ f (hears m.token h)
    ++ of_steps f (tells_word s (attempt_stepped m.state.ways m.state.stage h).told m
    (reaches (attempt_stepped m.state.ways m.state.stage h).stage m.token t).table).told
it_steps {A = A} f s h m t =
    let step = attempt_stepped m.state.ways m.state.stage h in
    let r : Deed = reaches step.stage m.token t in
    ap (λ (l : List Step). of_steps f ((notes (hears m.token h) t).told ++ l ++ (tells_word s step.told m r.table).told))
    (reaches_told step.stage m.token t)

it_ways : (s : GcSetup) (token : List ℕ) (h : Heard) (m : Meeting) (t : Table) → of_steps (word_of token) (hears_it s h m t).told ≡ cond
    (bytes_eq token m.token) (numbered (attempt_stepped m.state.ways m.state.stage h).told) []
it_ways s token h m t =
    let step = attempt_stepped m.state.ways m.state.stage h in
    it_steps (word_of token) s h m t ∙ word_ways s token step.told m (reaches step.stage m.token t).table

it_hears : (s : GcSetup) (token : List ℕ) (h : Heard) (m : Meeting) (t : Table) → of_steps (hears_of token) (hears_it s h m t).told ≡ cond
    (bytes_eq token m.token) (h ∷ []) []
it_hears s token h m t =
    let step = attempt_stepped m.state.ways m.state.stage h in
    it_steps (hears_of token) s h m t ∙ nothing_more (cond (bytes_eq token m.token) (h ∷ []) []) (of_steps (hears_of token)
    (tells_word s step.told m (reaches step.stage m.token t).table).told) (word_hears s token step.told m (reaches step.stage m.token
    t).table)

attempts_reached : (stage : Stage) (token : List ℕ) (t : Table) → (reaches stage token t).table.attempts ≡ t.attempts
attempts_reached stage token t = by (is_over stage)
  where
    by : (b : Bool) → (either b (λ t. becomes (without_meeting token t)) (λ t. becomes (with_meeting token (staged stage) t))
        t).table.attempts ≡ t.attempts
    by true = refl
    by false = refl

-- what another attempt hears leaves this one
reached_other : (token named : List ℕ) (stage : Stage) (t : Table) → bytes_eq token named ≡ false
    → state_in (reaches stage named t).table token ≡ state_in t token
reached_other token named stage t apart = by (is_over stage)
  where
    by : (b : Bool) → state_in (either b (λ t. becomes (without_meeting named t)) (λ t. becomes (with_meeting named (staged stage) t))
        t).table token ≡ state_in t token
    by true = ap (option_map (λ (m : Meeting). m.state)) (find_filter_other (is_for token) (is_for named) (for_other token named apart)
        t.meetings)
    by false = find_map (is_for token) (is_for named) (staged stage) (λ (m : Meeting). m.state) (λ x. refl)
        (λ x at is. absurd (true≢false (sym is ∙ for_other token named apart x at))) t.meetings

-- and its own leaves it so far
reached_own : (token : List ℕ) (stage : Stage) (t : Table) (m : Meeting) → meeting_of t token ≡ Some m
    → state_in (reaches stage m.token t).table token ≡ as_open m.state.ways stage
reached_own token stage t m is = by (is_over stage)
  where
    own : token ≡ m.token
    own = (bytes_eq-Decides token m.token).0 (found (is_for token) t.meetings m is)

    by : (b : Bool) → state_in (either b (λ t. becomes (without_meeting m.token t)) (λ t. becomes (with_meeting m.token (staged stage) t))
        t).table token ≡ cond b None (Some (record { ways = m.state.ways; stage = stage }))
    by true = ap (option_map (λ (m : Meeting). m.state)) (find_filter_same (is_for token) (is_for m.token) (for_same token m.token own)
        t.meetings)
    by false = ap (option_map (λ (m : Meeting). m.state)) (find_changed (is_for token) (is_for m.token) (staged stage) (λ x. refl)
        (for_same token m.token own) t.meetings m is)

-- an open attempt's state is the one that it says
open_is : (ways : Ways) (stage : Stage) (a : AttemptState) → Some a ≡ as_open ways stage → a ≡ record { ways = ways; stage = stage }
open_is ways stage a is = by (is_over stage) is
  where
    by : (b : Bool) → Some a ≡ cond b None (Some (record { ways = ways; stage = stage })) → a ≡ record { ways = ways; stage = stage }
    by true e = absurd (true≢false (ap is_some e))
    by false e = ap (unwrapped {A = AttemptState} a) e

pub numbers_append : (xs ys : List word.Told) → numbers (xs ++ ys) ≡ numbers xs ++ numbers ys
numbers_append [] ys = refl
numbers_append (x ∷ xs) ys =
    ap (λ (l : List ℕ). numbered x ++ l) (numbers_append xs ys) ∙ sym (append_assoc (numbered x) (numbers xs) (numbers ys))

-- one thing more that is heard
heard_one : (ways : Ways) (h : List Heard) (x : Heard) → numbers (told_in ways (h ++ x ∷ [])) ≡ numbers (told_in ways h)
    ++ numbered (attempt_stepped ways (stage_in ways h) x).told
heard_one ways h x =
    ap numbers (told_append ways h (x ∷ []))
    ∙ numbers_append (told_in ways h) (answers ways (stage_in ways h) (x ∷ []))
    ∙ ap (λ (l : List ℕ). numbers (told_in ways h) ++ l) (append-nil (numbered (attempt_stepped ways (stage_in ways h) x).told))

stage_one : (ways : Ways) (h : List Heard) (x : Heard) → stage_in ways (h ++ x ∷ []) ≡ (attempt_stepped ways (stage_in ways h) x).stage
stage_one ways h x = stage_append ways (from_direct ways).stage h (x ∷ [])

own_hearing : (s : GcSetup) (token : List ℕ) (h : Heard) (m : Meeting) (t : Table) → meeting_of t token ≡ Some m
    → bytes_eq token m.token ≡ true
    → (w : List ℕ) (g : List Heard) → Stands s token (state_in t token) t.attempts w g
    → Stands s token (state_in (hears_it s h m t).table token) (hears_it s h m t).table.attempts (w
    ++ of_steps (word_of token) (hears_it s h m t).told) (g ++ of_steps (hears_of token) (hears_it s h m t).told)
own_hearing s token h m t is own w g (inl f) =
    absurd (true≢false (ap is_some (sym (ap (option_map (λ (m : Meeting). m.state)) is) ∙ f.none)))
own_hearing s token h m t is own w g (inr b) =
    let d : Deed = hears_it s h m t in
    let step = attempt_stepped m.state.ways m.state.stage h in
    let at : m.state ≡ record { ways = s.ways; stage = stage_in s.ways g } =
    open_is s.ways (stage_in s.ways g) m.state (sym (ap (option_map (λ (m : Meeting). m.state)) is) ∙ b.state) in
    let ways_are : m.state.ways ≡ s.ways = ap (λ (a : AttemptState). a.ways) at in
    let same : attempt_stepped m.state.ways m.state.stage h ≡ attempt_stepped s.ways (stage_in s.ways g) h =
    ap (λ (a : AttemptState). attempt_stepped a.ways a.stage h) at in
    let more : of_steps (word_of token) d.told ≡ numbered step.told =
    it_ways s token h m t ∙ ap (λ (c : Bool). cond {A = List ℕ} c (numbered step.told) []) own in
    let said : of_steps (hears_of token) d.told ≡ h ∷ [] =
    it_hears s token h m t ∙ ap (λ (c : Bool). cond {A = List Heard} c (h ∷ []) []) own in
    let count : d.table.attempts ≡ t.attempts = ap (λ (t : Table). t.attempts) (it_table s h m t) ∙ attempts_reached step.stage m.token t in
    inr (record {
      old = (b.old.0, omega (arith, b.old.1, count), b.old.2);
      state = ap (λ (t : Table). state_in t token) (it_table s h m t) ∙ reached_own token step.stage t m is
          ∙ ap₂ (λ (v : Ways) (x : Stage). as_open v x) ways_are (ap (λ (r : attempts.Step). r.stage) same ∙ sym (stage_one s.ways g h))
          ∙ ap (λ (l : List Heard). as_open s.ways (stage_in s.ways (g ++ l))) (sym said);
      ways = ap₂ (λ (x y : List ℕ). x ++ y) b.ways (more ∙ ap (λ (r : attempts.Step). numbered r.told) same) ∙ sym (heard_one s.ways g h)
          ∙ ap (λ (l : List Heard). numbers (told_in s.ways (g ++ l))) (sym said);
    })

other_hearing : (s : GcSetup) (token : List ℕ) (h : Heard) (m : Meeting) (t : Table) → bytes_eq token m.token ≡ false
    → Follows s token t (hears_it s h m t)
other_hearing s token h m t apart =
    let step = attempt_stepped m.state.ways m.state.stage h in
    unmoved s token t (hears_it s h m t)
    (ap (λ (t : Table). state_in t token) (it_table s h m t) ∙ reached_other token m.token step.stage t apart)
    (omega (arith, ap (λ (t : Table). t.attempts) (it_table s h m t), attempts_reached step.stage m.token t))
    (it_ways s token h m t ∙ ap (λ (c : Bool). cond {A = List ℕ} c (numbered step.told) []) apart)
    (it_hears s token h m t ∙ ap (λ (c : Bool). cond {A = List Heard} c (h ∷ []) []) apart)

follows_nothing : (s : GcSetup) (token : List ℕ) (t : Table) → Follows s token t (becomes t)
follows_nothing s token t = unmoved s token t (becomes t) refl (omega arith) refl refl

follows_hears : (s : GcSetup) (token : List ℕ) (t : Table) (h : Heard) (named : List ℕ) → Follows s token t (is_heard s h named t)
follows_hears s token t h named = by (meeting_of t named) refl
  where
    one : (m : Meeting) → meeting_of t named ≡ Some m → (b : Bool) → bytes_eq token m.token ≡ b → Follows s token t (hears_it s h m t)
    one m is false at = other_hearing s token h m t at
    one m is true at =
        let same : token ≡ named =
        (bytes_eq-Decides token m.token).0 at ∙ sym ((bytes_eq-Decides named m.token).0 (found (is_for named) t.meetings m is)) in
        let mine : meeting_of t token ≡ Some m = ap (meeting_of t) same ∙ is in
        let step = attempt_stepped m.state.ways m.state.stage h in
        record {
          rises = omega (arith, ap (λ (t : Table). t.attempts) (it_table s h m t), attempts_reached step.stage m.token t);
          keeps = λ few w g st. own_hearing s token h m t mine at w g st;
        }

    by : (o : Option Meeting) → meeting_of t named ≡ o → Follows s token t (given o (hears_it s h) t)
    by None is = follows_nothing s token t
    by (Some m) is = one m is (bytes_eq token m.token) refl

-- ---- what the desk notes

note_for : (token : List ℕ) (side : ℕ) (peer : Peer) (x : Meeting) → is_for token (with_note side peer x) ≡ is_for token x
note_for token side peer x = by (eqb side 0)
  where
    by : (b : Bool) → is_for token (cond b (record x { server = record x.server { noted = Some peer } })
        (record x { client = record x.client { noted = Some peer } })) ≡ is_for token x
    by true = refl
    by false = refl

note_state : (side : ℕ) (peer : Peer) (x : Meeting) → (with_note side peer x).state ≡ x.state
note_state side peer x = by (eqb side 0)
  where
    by : (b : Bool) → (cond b (record x { server = record x.server { noted = Some peer } }) (record x {
      client = record x.client {
        noted =
            Some peer;
      };
    })).state ≡ x.state
    by true = refl
    by false = refl

follows_shows : (s : GcSetup) (token : List ℕ) (t : Table) (peer : Peer) (named : List ℕ) (side : ℕ)
    → Follows s token t (shows peer named side t)
follows_shows s token t peer named side = by (meeting_of t named)
  where
    one : (b : Bool) → Follows s token t (where_ b (λ t. becomes (with_meeting named (with_note side peer) t)) t)
    one true = unmoved s token t (becomes (with_meeting named (with_note side peer) t))
        (find_map (is_for token) (is_for named) (with_note side peer) (λ (m : Meeting). m.state) (note_for token side peer)
        (λ x at is. note_state side peer x) t.meetings) (omega arith) refl refl
    one false = follows_nothing s token t

    by : (o : Option Meeting)
        → Follows s token t (given o (λ (m : Meeting). where_ (is_at_stun m.state.stage)
        (λ t. becomes (with_meeting named (with_note side peer) t))) t)
    by None = follows_nothing s token t
    by (Some m) = one (is_at_stun m.state.stage)

-- ---- a begin

stands_told : (stage : Stage) (m : Meeting) (t : Table) → (stands stage m t).told ≡ []
stands_told stage m t = either_told (is_over stage) (λ t. t) (λ t. record t { meetings = t.meetings ++ m ∷ [] }) t

stands_attempts : (stage : Stage) (m : Meeting) (t : Table) → (stands stage m t).table.attempts ≡ t.attempts
stands_attempts stage m t = by (is_over stage)
  where
    by : (b : Bool) → (either b becomes (λ t. becomes (record t { meetings = t.meetings ++ m ∷ [] })) t).table.attempts ≡ t.attempts
    by true = refl
    by false = refl

stands_other : (token : List ℕ) (stage : Stage) (m : Meeting) (t : Table) → is_for token m ≡ false
    → state_in (stands stage m t).table token ≡ state_in t token
stands_other token stage m t apart = by (is_over stage)
  where
    by : (b : Bool) → state_in (either b becomes (λ t. becomes (record t { meetings = t.meetings ++ m ∷ [] })) t).table token ≡ state_in t
        token
    by true = refl
    by false = ap (option_map (λ (m : Meeting). m.state)) (find_behind (is_for token) m apart t.meetings)

no_meeting : (o : Option Meeting) → option_map (λ (m : Meeting). m.state) o ≡ None → o ≡ None
no_meeting None is = refl
no_meeting (Some m) is = absurd (true≢false (ap is_some is))

stands_own : (token : List ℕ) (stage : Stage) (m : Meeting) (t : Table) → is_for token m ≡ true → state_in t token ≡ None
    → state_in (stands stage m t).table token ≡ cond (is_over stage) None (Some m.state)
stands_own token stage m t own none = by (is_over stage)
  where
    by : (b : Bool) → state_in (either b becomes (λ t. becomes (record t { meetings = t.meetings ++ m ∷ [] })) t).table token ≡ cond b None
        (Some m.state)
    by true = none
    by false = ap (option_map (λ (m : Meeting). m.state)) (find_new (is_for token) m own t.meetings (no_meeting (meeting_of t token) none))

begin_table : (s : GcSetup) (code : List ℕ) (m : Meeting) (t : Table)
    → (begins_it s code m t).table ≡ (stands m.state.stage m (behind_token t)).table
begin_table s code m t = word_table s (from_direct s.ways).told m (stands m.state.stage m (behind_token t)).table

begin_steps : {A : Type 0} (f : What → List A) (s : GcSetup) (code : List ℕ) (m : Meeting) (t : Table)
    → of_steps f (begins_it s code m t).told ≡ f (begins m.token) ++ (f (What.msg (GcConnecting m.token code))
    ++ of_steps f (tells_word s (from_direct s.ways).told m (stands m.state.stage m (behind_token t)).table).told)
begin_steps {A = A} f s code m t =
    let u : Table = behind_token t in
    let r : Deed = stands m.state.stage m u in
    ap (λ (l : List Step). of_steps f ((((notes (begins m.token) u).told ++ l)
    ++ (tells (m.client.conn ∷ []) (GcConnecting m.token code) r.table).told)
    ++ (tells_word s (from_direct s.ways).told m r.table).told)) (stands_told m.state.stage m u)

begin_count : (s : GcSetup) (code : List ℕ) (m : Meeting) (t : Table) → (begins_it s code m t).table.attempts ≡ t.attempts + 1
begin_count s code m t = ap (λ (t : Table). t.attempts) (begin_table s code m t) ∙ stands_attempts m.state.stage m (behind_token t)

new_number : (t : Table) → drop 8 (new_token t) ≡ decimal (t.attempts + 1)
new_number t = refl

follows_begins : (s : GcSetup) (token : List ℕ) (t : Table) (code : List ℕ) (server : Connection) (v : Server) (client : Connection)
    → Follows s token t (begins_it s code (new_meeting s (new_token t) server v client) t)
follows_begins s token t code server v client = by (bytes_eq token (new_token t)) refl
  where
    m : Meeting
    m = new_meeting s (new_token t) server v client

    d : Deed
    d = begins_it s code m t

    told_ways : of_steps (word_of token) d.told ≡ cond (bytes_eq token (new_token t)) (numbered (from_direct s.ways).told) []
    told_ways = begin_steps (word_of token) s code m t ∙ word_ways s token (from_direct s.ways).told m (stands m.state.stage m
        (behind_token t)).table

    told_hears : of_steps (hears_of token) d.told ≡ []
    told_hears = begin_steps (hears_of token) s code m t ∙ word_hears s token (from_direct s.ways).told m (stands m.state.stage m
        (behind_token t)).table

    begun : bytes_eq token (new_token t) ≡ true → d.table.attempts < 2 ^ 64 → (w : List ℕ) (h : List Heard)
        → Stands s token (state_in t token) t.attempts w h
        → Stands s token (state_in d.table token) d.table.attempts (w ++ of_steps (word_of token) d.told) (h
        ++ of_steps (hears_of token) d.told)
    begun own few w h (inr b) =
        let is : token ≡ new_token t = (bytes_eq-Decides token (new_token t)).0 own in
        let count : d.table.attempts ≡ t.attempts + 1 = begin_count s code m t in
        let number : decimal b.old.0 ≡ decimal (t.attempts + 1) = sym b.old.2 ∙ ap (λ (l : List ℕ). drop 8 l) is ∙ new_number t in
        let same : b.old.0 ≡ t.attempts + 1 =
        decimal_injective b.old.0 (t.attempts + 1) (omega (arith, b.old.1, few, count)) (omega (arith, few, count)) number in
        absurd (omega (arith, same, b.old.1))
    begun own few w h (inl f) =
        let is : token ≡ new_token t = (bytes_eq-Decides token (new_token t)).0 own in
        let count : d.table.attempts ≡ t.attempts + 1 = begin_count s code m t in
        let silent : h ++ of_steps (hears_of token) d.told ≡ [] = ap₂ (λ (x y : List Heard). x ++ y) f.heard told_hears in
        let first_word : of_steps (word_of token) d.told ≡ numbered (from_direct s.ways).told =
        told_ways ∙ ap (λ (c : Bool). cond {A = List ℕ} c (numbered (from_direct s.ways).told) []) own in
        inr (record {
          old = (t.attempts + 1, omega (arith, count), ap (λ (l : List ℕ). drop 8 l) is ∙ new_number t);
          state = ap (λ (t : Table). state_in t token) (begin_table s code m t) ∙ stands_own token m.state.stage m (behind_token t) own
              f.none ∙ ap (λ (l : List Heard). as_open s.ways (stage_in s.ways l)) (sym silent);
          ways = ap₂ (λ (x y : List ℕ). x ++ y) f.ways first_word ∙ sym (append-nil (numbered (from_direct s.ways).told))
              ∙ ap (λ (l : List Heard). numbers (told_in s.ways l)) (sym silent);
        })

    by : (b : Bool) → bytes_eq token (new_token t) ≡ b → Follows s token t d
    by false apart = unmoved s token t d
        (ap (λ (t : Table). state_in t token) (begin_table s code m t) ∙ stands_other token m.state.stage m (behind_token t) apart)
        (omega (arith, begin_count s code m t))
        (told_ways ∙ ap (λ (c : Bool). cond {A = List ℕ} c (numbered (from_direct s.ways).told) []) apart)
        told_hears
    by true own = record { rises = omega (arith, begin_count s code m t); keeps = begun own }

-- ---- packets and events

follows : (s : GcSetup) (token : List ℕ) → IsKept s (Follows s token)
follows s token = record {
  plain = λ t u like. unmoved s token t (becomes u) (ap (λ (ms : List Meeting). option_map (λ (m : Meeting). m.state)
      (find (is_for token) ms)) like.2) (omega (arith, like.3)) refl refl;
  tells = λ t to m none. unmoved s token t (tells to m t) refl (omega arith) (append-nil (word_in token m) ∙ none token) refl;
  goes = λ t conn. unmoved s token t (goes conn t) refl (omega arith) refl refl;
  hears = λ t h named. follows_hears s token t h named;
  shows = λ t peer named side. follows_shows s token t peer named side;
  joins = λ t d rule one two. follows_joins s token t d rule one two;
}

follows_goes : (s : GcSetup) (token : List ℕ) (t : Table) (conn : ℕ) → Follows s token t (goes conn t)
follows_goes s token t conn = unmoved s token t (goes conn t) refl (omega arith) refl refl

follows_opened : (s : GcSetup) (token : List ℕ) (door : Door) (peer : Peer) (t : Table) → Follows s token t (opened door peer t)
follows_opened s token Main peer t = unmoved s token t (arrives false peer t) refl (omega arith) refl refl
follows_opened s token Side peer t =
    kept_either (Follows s token) t (nat_le most_sides (live_sides t)) (goes t.openings) (arrives true peer) (follows_goes s token t
    t.openings) (unmoved s token t (arrives true peer t) refl (omega arith) refl refl)

follows_rule : (s : GcSetup) (token : List ℕ) (e : Event) (t : Table) → Follows s token t (by_event s e t)
follows_rule s token (Open door peer) t = follows_opened s token door peer t
follows_rule s token (Packet conn kind body) t =
    kept_given s (Follows s token) (follows s token) t (connection_of t conn) (on_packet s kind body)
    (λ x. kept_either (Follows s token) t x.side (at_desk x (read_stun kind body)) (heard s x (read_msg kind body))
    (kept_desk s (Follows s token) (follows s token) t x (read_stun kind body)) (kept_heard s (Follows s token) (follows s token)
    (follows_begins s token) t x (read_msg kind body)))
follows_rule s token (Broken conn) t = kept_given s (Follows s token) (follows s token) t (connection_of t conn) (on_broken s)
    (λ x. kept_either (Follows s token) t x.side (goes x.conn) (ends s x.conn 0 []) (follows_goes s token t x.conn)
    (kept_ends s (Follows s token) (follows s token) t x.conn 0 []))
follows_rule s token (Shut conn) t = kept_given s (Follows s token) (follows s token) t (connection_of t conn) (on_shut s)
    (λ x. kept_either (Follows s token) t x.side (goes x.conn) (leaves s x.conn) (follows_goes s token t x.conn)
    (kept_leaves s (Follows s token) (follows s token) t x.conn))
follows_rule s token Tick t = unmoved s token t (becomes (record t { ticks = t.ticks + 1 })) refl (omega arith) refl refl
follows_rule s token Stop t = follows_nothing s token t

follows_taken : (s : GcSetup) (token : List ℕ) (e : Event) (t : Table) → Follows s token t (by_event s e t ▹ charged e ▹ closed s e)
follows_taken s token e t =
    let d1 : Deed = by_event s e t in
    let d2 : Deed = d1 ▹ charged e in
    let last : Bool = is_stop e || nat_le s.cost d2.table.cost || eqb d2.table.ticks last_tick in
    follows_joins s token t d2 (closed s e) (follows_joins s token t d1 (charged e) (follows_rule s token e t) (unmoved s token d1.table
    (charged e d1.table) refl (omega arith) refl refl))
    (kept_where s (Follows s token) (follows s token) d2.table last shut_down (unmoved s token d2.table (shut_down d2.table) refl
    (omega arith) refl refl))

follows_counted : (s : GcSetup) (token : List ℕ) (e : Event) (t : Table) → Follows s token t (becomes (counted e t))
follows_counted s token (Open door peer) t =
    unmoved s token t (becomes (record t { openings = t.openings + 1 })) refl (omega arith) refl refl
follows_counted s token (Packet conn kind body) t = follows_nothing s token t
follows_counted s token (Broken conn) t = follows_nothing s token t
follows_counted s token (Shut conn) t = follows_nothing s token t
follows_counted s token Tick t = follows_nothing s token t
follows_counted s token Stop t = follows_nothing s token t

follows_deed : (s : GcSetup) (token : List ℕ) (e : Event) (t : Table) → Follows s token t (deed s e t)
follows_deed s token e t =
    let rule : Table → Deed = where_ (events.takes t e) (λ t. by_event s e t ▹ charged e ▹ closed s e) in
    follows_joins s token t (becomes (counted e t)) rule (follows_counted s token e t) (kept_where s (Follows s token) (follows s token)
    (counted e t) (events.takes t e) (λ t. by_event s e t ▹ charged e ▹ closed s e) (follows_taken s token e (counted e t)))

rises_all : (s : GcSetup) (t : Table) (es : List Event) → t.attempts ≤ (fold (stepped s) t es).attempts
rises_all s t [] = omega arith
rises_all s t (e ∷ es) = omega (arith, (follows_deed s [] e t).rises, rises_all s (stepped s t e) es)

stands_behind : (s : GcSetup) (token : List ℕ) (t : Table) (es : List Event) (w : List ℕ) (h : List Heard)
    → (fold (stepped s) t es).attempts < 2 ^ 64 → Stands s token (state_in t token) t.attempts w h
    → Stands s token (state_in (fold (stepped s) t es) token) (fold (stepped s) t es).attempts (w
    ++ of_steps (word_of token) (steps_from s t es)) (h ++ of_steps (hears_of token) (steps_from s t es))
stands_behind s token t [] w h few st =
    moved s token (state_in t token) t.attempts w (w ++ []) h (h ++ []) (sym (append-nil w)) (sym (append-nil h)) st
stands_behind s token t (e ∷ es) w h few st =
    let d : Deed = deed s e t in
    let u : Table = fold (stepped s) (stepped s t e) es in
    let one = (follows_deed s token e t).keeps (omega (arith, few, rises_all s (stepped s t e) es)) w h st in
    moved s token (state_in u token) u.attempts
    ((w ++ of_steps (word_of token) d.told) ++ of_steps (word_of token) (steps_from s (stepped s t e) es)) (w
    ++ of_steps (word_of token) (steps_from s t (e ∷ es)))
    ((h ++ of_steps (hears_of token) d.told) ++ of_steps (hears_of token) (steps_from s (stepped s t e) es)) (h
    ++ of_steps (hears_of token) (steps_from s t (e ∷ es)))
    (append_assoc w (of_steps (word_of token) d.told) (of_steps (word_of token) (steps_from s (stepped s t e) es)) ∙ ap (λ (l : List ℕ). w
    ++ l) (sym (of_append (word_of token) d.told (steps_from s (stepped s t e) es))))
    (append_assoc h (of_steps (hears_of token) d.told) (of_steps (hears_of token) (steps_from s (stepped s t e) es))
    ∙ ap (λ (l : List Heard). h ++ l) (sym (of_append (hears_of token) d.told (steps_from s (stepped s t e) es))))
    (stands_behind s token (stepped s t e) es (w ++ of_steps (word_of token) d.told) (h ++ of_steps (hears_of token) d.told) few one)

pub stands_of : (s : GcSetup) (es : List Event) (token : List ℕ) → (table_of s es).attempts < 2 ^ 64
    → Stands s token (state_in (table_of s es) token) (table_of s es).attempts (words_for s es token) (hearings s es token)
stands_of s es token few = stands_behind s token (first s) es [] [] few (inl (record { none = refl; ways = refl; heard = refl }))

-- ---- an event begins at most one attempt

abbrev Same : Table → Deed → Type 0
Same t d = d.table.attempts ≡ t.attempts

abbrev Slow : Table → Deed → Type 0
Slow t d = d.table.attempts ≤ t.attempts + 1

same_hears : (s : GcSetup) (t : Table) (h : Heard) (o : Option Meeting) → Same t (given o (hears_it s h) t)
same_hears s t h None = refl
same_hears s t h (Some m) =
    ap (λ (t : Table). t.attempts) (it_table s h m t) ∙ attempts_reached (attempt_stepped m.state.ways m.state.stage h).stage m.token t

same_shows : (t : Table) (peer : Peer) (named : List ℕ) (side : ℕ) (o : Option Meeting)
    → Same t (given o (λ (m : Meeting). where_ (is_at_stun m.state.stage) (λ t. becomes (with_meeting named (with_note side peer) t))) t)
same_shows t peer named side None = refl
same_shows t peer named side (Some m) = one (is_at_stun m.state.stage)
  where
    one : (b : Bool) → Same t (where_ b (λ t. becomes (with_meeting named (with_note side peer) t)) t)
    one true = refl
    one false = refl

same : (s : GcSetup) → IsKept s Same
same s = record {
  plain = λ t u like. like.3;
  tells = λ t to m none. refl;
  goes = λ t conn. refl;
  hears = λ t h named. same_hears s t h (meeting_of t named);
  shows = λ t peer named side. same_shows t peer named side (meeting_of t named);
  joins = λ t d rule one two. two ∙ one;
}

slow : (t : Table) (d : Deed) → Same t d → Slow t d
slow t d is = omega (arith, is)

slow_code : (s : GcSetup) (t : Table) (c : Connection) (code : List ℕ) (o : Option Server) → Slow t (by_code s c code o t)
slow_code s t c code None = slow t (ends s c.conn 2 code t) (kept_ends s Same (same s) t c.conn 2 code)
slow_code s t c code (Some v) = by (connection_of t v.conn)
  where
    by : (o : Option Connection) → Slow t (given o (λ (server : Connection). begins_it s code (new_meeting s (new_token t) server v c)) t)
    by None = omega arith
    by (Some server) = omega (arith, begin_count s code (new_meeting s (new_token t) server v c) t)

slow_ends : (s : GcSetup) (t : Table) (conn : ℕ) → Slow t (ends s conn 0 [] t)
slow_ends s t conn = slow t (ends s conn 0 [] t) (kept_ends s Same (same s) t conn 0 [])

slow_message : (s : GcSetup) (t : Table) (c : Connection) (m : CoordMsg) → Slow t (on_message s c m t)
slow_message s t c (ServerRegister kind port code secret) =
    slow t (on_register s c.conn kind port code secret t) (kept_register s Same (same s) t c.conn kind port code secret)
slow_message s t c (ServerUpdate info) = slow t (on_update s c.conn info t) (kept_update s Same (same s) t c.conn info)
slow_message s t c (ClientListing revision) = slow t (on_listing c.conn revision t) (kept_listing s Same (same s) t c.conn revision)
slow_message s t c (ClientConnect code) = kept_either Slow t (nat_le most_attempts (length t.meetings)) (ends s c.conn 0 [])
    (by_code s c code (server_by t code)) (slow_ends s t c.conn) (slow_code s t c code (server_by t code))
slow_message s t c (SercliConnectFailed token tracking) =
    slow t (on_failed s c.conn token tracking t) (kept_said s Same (same s) t token (Failed tracking) (may_fail c.conn tracking))
slow_message s t c (ClientConnected token) =
    slow t (on_connected s c.conn token t) (kept_said s Same (same s) t token Connected (λ (m : Meeting). eqb m.client.conn c.conn))
slow_message s t c (SercliStunResult token side ok) =
    slow t (on_result s c.conn token side ok t) (kept_said s Same (same s) t token (StunResult side ok) (is_side c.conn side))
slow_message s t c (GcError code detail) = slow_ends s t c.conn
slow_message s t c (GcRegisterAck code secret way) = slow_ends s t c.conn
slow_message s t c (GcListing items) = slow_ends s t c.conn
slow_message s t c (GcConnecting token code) = slow_ends s t c.conn
slow_message s t c (GcConnectFailed token) = slow_ends s t c.conn
slow_message s t c (GcDirectConnect token tracking host port) = slow_ends s t c.conn
slow_message s t c (GcStunRequest token) = slow_ends s t c.conn
slow_message s t c (GcStunConnect token tracking side host port) = slow_ends s t c.conn
slow_message s t c (GcNewgrfLookup items) = slow_ends s t c.conn
slow_message s t c (GcTurnConnect token tracking ticket host) = slow_ends s t c.conn

slow_heard : (s : GcSetup) (t : Table) (c : Connection) (m : Option CoordMsg) → Slow t (heard s c m t)
slow_heard s t c None = slow_ends s t c.conn
slow_heard s t c (Some m) = slow_message s t c m

slow_given : (t : Table) (o : Option Connection) (rule : Connection → Table → Deed) → ((x : Connection) → Slow t (rule x t))
    → Slow t (given o rule t)
slow_given t None rule f = omega arith
slow_given t (Some x) rule f = f x

slow_goes : (t : Table) (conn : ℕ) → Slow t (goes conn t)
slow_goes t conn = omega arith

slow_rule : (s : GcSetup) (e : Event) (t : Table) → Slow t (by_event s e t)
slow_rule s (Open Main peer) t = omega arith
slow_rule s (Open Side peer) t =
    kept_either Slow t (nat_le most_sides (live_sides t)) (goes t.openings) (arrives true peer) (omega arith) (omega arith)
slow_rule s (Packet conn kind body) t = slow_given t (connection_of t conn) (on_packet s kind body)
    (λ x. kept_either Slow t x.side (at_desk x (read_stun kind body)) (heard s x (read_msg kind body))
    (slow t (at_desk x (read_stun kind body) t) (kept_desk s Same (same s) t x (read_stun kind body)))
    (slow_heard s t x (read_msg kind body)))
slow_rule s (Broken conn) t = slow_given t (connection_of t conn) (on_broken s) (λ x. kept_either Slow t x.side (goes x.conn)
    (ends s x.conn 0 []) (slow_goes t x.conn) (slow_ends s t x.conn))
slow_rule s (Shut conn) t = slow_given t (connection_of t conn) (on_shut s) (λ x. kept_either Slow t x.side (goes x.conn) (leaves s x.conn)
    (slow_goes t x.conn) (slow t (leaves s x.conn t) (kept_leaves s Same (same s) t x.conn)))
slow_rule s Tick t = omega arith
slow_rule s Stop t = omega arith

same_closed : (s : GcSetup) (e : Event) (t : Table) → Same t (closed s e t)
same_closed s e t = kept_where s Same (same s) t (is_stop e || nat_le s.cost t.cost || eqb t.ticks last_tick) shut_down refl

counted_same : (e : Event) (t : Table) → (counted e t).attempts ≡ t.attempts
counted_same (Open door peer) t = refl
counted_same (Packet conn kind body) t = refl
counted_same (Broken conn) t = refl
counted_same (Shut conn) t = refl
counted_same Tick t = refl
counted_same Stop t = refl

slow_deed : (s : GcSetup) (t : Table) (e : Event) → (stepped s t e).attempts ≤ t.attempts + 1
slow_deed s t e = by (events.takes t e)
  where
    u : Table
    u = counted e t

    by : (b : Bool) → (where_ b (λ t. by_event s e t ▹ charged e ▹ closed s e) u).table.attempts ≤ t.attempts + 1
    by true = omega (arith, counted_same e t, slow_rule s e u, same_closed s e (charged e (by_event s e u).table).table)
    by false = omega (arith, counted_same e t)

slow_all : (s : GcSetup) (t : Table) (es : List Event) → (fold (stepped s) t es).attempts ≤ t.attempts + length es
slow_all s t [] = omega arith
slow_all s t (e ∷ es) = omega (arith, slow_deed s t e, slow_all s (stepped s t e) es)

pub few_attempts : (s : GcSetup) (es : List Event) → length es < 2 ^ 64 → (table_of s es).attempts < 2 ^ 64
few_attempts s es few = omega (arith, few, slow_all s (first s) es)
