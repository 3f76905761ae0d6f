-- What an open attempt hears, by its parts: how far it is then, and what its word tells.
use Rattle.std.proofs.Common.{◌≡◌, ℕ, Bool, true, false, not, cond, List, [], ◌∷◌, ◌++◌, map, Option, Some, None, refl, sym, ap, ◌∙◌}
use Rattle.std.specs.Prelude.{filter, find, is_some}
use Rattle.std.proofs.lemmas.Bool.{true≢false}
use Rattle.std.proofs.lemmas.Slice.Eq.{bytes_eq-Decides}
use Rattle.tt_attempts.specs.Attempts.{stepped}
use Rattle.tt_attempts.specs.declared.attempt.Stage.{Stage}
use Rattle.tt_attempts.specs.declared.attempt.Heard.{Heard}
use Rattle.tt_attempts.specs.declared.attempt.Told as word
use Rattle.tt_attempts.specs.declared.attempt.Told.TheVariants.{Nothing, Direct, AskStun, Stun, Turn, AllFailed}
use Rattle.tt_gc_table.specs.declared.setup.GcSetup.{GcSetup}
use Rattle.tt_gc_table.specs.Table.{Table, Meeting, is_for, meeting_of, without_meeting, with_meeting}
use Rattle.tt_gc_table.specs.Deed.{Deed, either, becomes}
use Rattle.tt_gc_table.specs.Meetings.{tells_word, is_over, reaches, hears_it}
use Rattle.tt_gc_table.specs.Told.{bytes_to}
use Rattle.tt_gc_table.specs.Parts.{at_stage}

-- a word changes nothing
word_table : (s : GcSetup) (w : word.Told) (m : Meeting) (t : Table) → (tells_word s w m t).table ≡ t
word_table s Nothing m t = refl
word_table s Direct m t = refl
word_table s AskStun m t = refl
word_table s Stun m t = refl
word_table s Turn m t = refl
word_table s AllFailed m t = refl

-- and tells the same whatever other attempts there are
pub word_told : (c : ℕ) (s : GcSetup) (w : word.Told) (m : Meeting) (t : Table) (ms : List Meeting)
    → bytes_to c (tells_word s w m (record t { meetings = ms })).told ≡ bytes_to c (tells_word s w m t).told
word_told c s Nothing m t ms = refl
word_told c s Direct m t ms = refl
word_told c s AskStun m t ms = refl
word_told c s Stun m t ms = refl
word_told c s Turn m t ms = refl
word_told c s AllFailed m t ms = refl

pub heard_told : (c : ℕ) (s : GcSetup) (h : Heard) (m : Meeting) (t : Table)
    → bytes_to c (hears_it s h m t).told ≡ bytes_to c (tells_word s (stepped m.state.ways m.state.stage h).told m t).told
heard_told c s h m t = by (is_over (stepped m.state.ways m.state.stage h).stage)
  where
    stage : Stage
    stage = (stepped m.state.ways m.state.stage h).stage

    w : word.Told
    w = (stepped m.state.ways m.state.stage h).told

    reached : Bool → Deed
    reached b =
        either b (λ t. becomes (without_meeting m.token t)) (λ t. becomes (with_meeting m.token
        (λ x. record x { state = record x.state { stage = stage } }) t)) t

    by : (b : Bool) → bytes_to c ((reached b).told ++ (tells_word s w m (reached b).table).told) ≡ bytes_to c (tells_word s w m t).told
    by true = word_told c s w m t (filter (λ x. not (is_for m.token x)) t.meetings)
    by false = word_told c s w m t (map (λ x. cond (is_for m.token x) (record x { state = record x.state { stage = stage } }) x) t.meetings)

-- ---- how far it is

passes_of : (p : Meeting → Bool) (ms : List Meeting) (m : Meeting) → find p ms ≡ Some m → p m ≡ true
passes_of p [] m is = absurd (true≢false (ap is_some (sym is)))
passes_of p (x ∷ xs) m is = by (p x) refl is (passes_of p xs m)
  where
    unwrap : Option Meeting → Meeting
    unwrap None = m
    unwrap (Some y) = y

    by : (b : Bool) → p x ≡ b → cond b (Some x) (find p xs) ≡ Some m → (find p xs ≡ Some m → p m ≡ true) → p m ≡ true
    by true passes is rest =
        let own : x ≡ m = ap unwrap is in
        ap p (sym own) ∙ passes
    by false fails is rest = rest is

own_token : (t : Table) (token : List ℕ) (m : Meeting) → meeting_of t token ≡ Some m → token ≡ m.token
own_token t token m is = (bytes_eq-Decides token m.token).0 (passes_of (is_for token) t.meetings m is)

heard_table : (s : GcSetup) (h : Heard) (m : Meeting) (t : Table)
    → (hears_it s h m t).table ≡ (reaches (stepped m.state.ways m.state.stage h).stage m.token t).table
heard_table s h m t = word_table s (stepped m.state.ways m.state.stage h).told m
    (reaches (stepped m.state.ways m.state.stage h).stage m.token t).table

pub over_table : (s : GcSetup) (h : Heard) (m : Meeting) (t : Table) (token : List ℕ) (stage : Stage) → meeting_of t token ≡ Some m
    → stage ≡ (stepped m.state.ways m.state.stage h).stage → is_over stage ≡ true → without_meeting token t ≡ (hears_it s h m t).table
over_table s h m t token stage is at over =
    ap (λ (k : List ℕ). without_meeting k t) (own_token t token m is)
    ∙ ap (λ (b : Bool). (either b (λ t. becomes (without_meeting m.token t)) (λ t. becomes (at_stage stage m.token t)) t).table) (sym over)
    ∙ ap (λ (g : Stage). (reaches g m.token t).table) at ∙ sym (heard_table s h m t)

pub stage_table : (s : GcSetup) (h : Heard) (m : Meeting) (t : Table) (token : List ℕ) (stage : Stage) → meeting_of t token ≡ Some m
    → stage ≡ (stepped m.state.ways m.state.stage h).stage → is_over stage ≡ false
    → at_stage (stepped m.state.ways m.state.stage h).stage token t ≡ (hears_it s h m t).table
stage_table s h m t token stage is at going =
    ap (λ (k : List ℕ). at_stage (stepped m.state.ways m.state.stage h).stage k t) (own_token t token m is)
    ∙ ap (λ (g : Stage). at_stage g m.token t) (sym at)
    ∙ ap (λ (b : Bool). (either b (λ t. becomes (without_meeting m.token t)) (λ t. becomes (at_stage stage m.token t)) t).table) (sym going)
    ∙ ap (λ (g : Stage). (reaches g m.token t).table) at ∙ sym (heard_table s h m t)
