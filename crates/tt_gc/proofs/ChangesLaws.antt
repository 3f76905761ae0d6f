-- What is planned, by the rules.
use Rattle.std.proofs.Common.{◌≡◌, ℕ, ◌-◌, ◌<◌, ◌^◌, Bool, true, false, cond, List, [], ◌∷◌, ◌++◌, Option, Some, None, refl, sym, ap, ap₂}
use Rattle.std.proofs.Common.{◌∙◌, append_assoc, IfSome, subst, not, ◌&&◌, ◌||◌, ◌≤◌, arith}
use Rattle.std.specs.Prelude.{eqb, is_some, nat_le}
use Rattle.std.proofs.lemmas.Bool.{eqb-true, true≢false}
use Rattle.std.proofs.lemmas.List.{append-nil}
use Rattle.tt_coord.specs.declared.coord.CoordMsg.TheVariants.{GcConnecting, GcRegisterAck}
use Rattle.tt_attempts.specs.Attempts.{from_direct}
use Rattle.tt_attempts.specs.Codes.{words_behind}
use Rattle.tt_attempts.specs.declared.attempt.Told as word
use Rattle.tt_attempts.specs.declared.attempt.Told.TheVariants.{Nothing, Direct, AskStun, Stun, Turn, AllFailed}
use Rattle.tt_gc_table.specs.declared.setup.GcSetup.{GcSetup}
use Rattle.tt_gc_table.specs.declared.heard.Hearing.{Hearing}
use Rattle.tt_edge.specs.declared.event.Peer.{Peer}
use Rattle.tt_gc_table.specs.Table.{Table, Connection, Meeting, is_on, connection_of, meeting_of, server_on, server_by, drawn_by}
use Rattle.tt_gc_table.specs.Table.{with_meeting}
use Rattle.tt_gc_table.specs.PacketRules.{registers, registers_new, is_empty, may_return, may_register}
use Rattle.tt_gc_table.specs.Ending.{goes, ends}
use Rattle.tt_gc_table.specs.Desk.{is_at_stun, with_note, shows}
use Rattle.tt_gc_table.specs.Parts.{drawn}
use Rattle.tt_gc_table.specs.Deed.{Deed, ◌▹◌, where_, either, given, becomes, tells}
use Rattle.tt_gc_table.specs.Codes.{new_token, behind_token, new_code, new_secret, behind_code}
use Rattle.tt_gc_table.specs.Meetings.{is_over, hears_it, begins_it, tells_word}
use Rattle.tt_gc_table.specs.Told.{bytes_to, copies}
use Rattle.tt_gc_table.specs.Tells.{Tell, told_to}
use Rattle.tt_gc_table.specs.Hearing.{Reaches}
use Rattle.tt_gc_table.proofs.TellsLaws.{bytes_joined}
use Rattle.tt_gc_table.proofs.Finding.{found}
use Rattle.tt_gc.specs.declared.change.Change.{Change}
use Rattle.tt_gc.specs.declared.change.Change.TheVariants.{Note, Draw, Pass, Begin}
use Rattle.tt_gc.specs.Changes.{applied, Fits, heard_change, first_change, IsPlanned, IsDone}

-- ---- what tells nobody anything

pub planned_done : (s : GcSetup) (d : Deed) (t : Table) (out : List Tell) (change : Change) → IsDone d t change
    → IsPlanned s d t out out change
planned_done s d t out change is = record {
  told = λ c. sym (ap (λ (xs : List ℕ). told_to c out ++ xs) (is.told c) ∙ append-nil (told_to c out));
  done = is.done s;
  fits = is.fits;
}

-- ---- what an open attempt hears

pub heard_done : (s : GcSetup) (token : List ℕ) (h : Option Hearing) (t after : Table) → Reaches s token h t after
    → applied s (heard_change token h) t ≡ after
heard_done s token None t after is = sym is
heard_done s token (Some h) t after is =
    ap (λ (o : Option Meeting). (given o (hears_it s h.heard) t).table) is.found ∙ sym is.after_is

pub heard_fits : (s : GcSetup) (token : List ℕ) (h : Option Hearing) (t after : Table) → Reaches s token h t after
    → Fits (heard_change token h) t
heard_fits s token None t after is = tt
heard_fits s token (Some h) t after is = record { meeting = is.meeting; found = is.found; stage = is.stage }

-- ---- who is there

pub there_of : (t : Table) (conn : ℕ) (o : Option Connection) → o ≡ connection_of t conn
    → IfSome o (λ c. is_some (connection_of t c.conn) ≡ true)
there_of t conn None is = tt
there_of t conn (Some c) is =
    let own : c.conn ≡ conn = eqb-true c.conn conn (found (is_on conn) t.connections c (sym is)) in
    ap (λ (n : ℕ). is_some (connection_of t n)) own ∙ ap is_some (sym is)

-- ---- the begin of an attempt

word_begun : (x : ℕ) (s : GcSetup) (w : word.Told) (m : Meeting) (t : Table) (ms : List Meeting)
    → bytes_to x (tells_word s w m (record (behind_token t) { meetings = ms })).told ≡ bytes_to x (tells_word s w m t).told
word_begun x s Nothing m t ms = refl
word_begun x s Direct m t ms = refl
word_begun x s AskStun m t ms = refl
word_begun x s Stun m t ms = refl
word_begun x s Turn m t ms = refl
word_begun x s AllFailed m t ms = refl

word_table : (s : GcSetup) (w : word.Told) (m : Meeting) (t : Table) → (tells_word s w m t).table ≡ t
word_table s Nothing m t = refl
word_table s Direct m t = refl
word_table s AskStun m t = refl
word_table s Stun m t = refl
word_table s Turn m t = refl
word_table s AllFailed m t = refl

pub begun_told : (x : ℕ) (s : GcSetup) (code : List ℕ) (m : Meeting) (t : Table)
    → bytes_to x (begins_it s code m t).told
    ≡ bytes_to x (tells (m.client.conn ∷ []) (GcConnecting m.token code) t).told
    ++ bytes_to x (tells_word s (from_direct s.ways).told m t).told
begun_told x s code m t = by (is_over m.state.stage)
  where
    w : word.Told
    w = (from_direct s.ways).told

    said : Table → Deed
    said u = tells (m.client.conn ∷ []) (GcConnecting m.token code) u

    stood : Bool → Deed
    stood b = either b becomes (λ t. becomes (record t { meetings = t.meetings ++ m ∷ [] })) (behind_token t)

    by : (b : Bool) → bytes_to x (((([] ++ (stood b).told) ++ (said (stood b).table).told)) ++ (tells_word s w m (stood b).table).told)
        ≡ bytes_to x (said t).told ++ bytes_to x (tells_word s w m t).told
    by true = bytes_joined x (said t).told (tells_word s w m (behind_token t)).told
        ∙ ap (λ (xs : List ℕ). bytes_to x (said t).told ++ xs) (word_begun x s w m t t.meetings)
    by false = bytes_joined x (said t).told (tells_word s w m (record (behind_token t) { meetings = t.meetings ++ m ∷ [] })).told
        ∙ ap (λ (xs : List ℕ). bytes_to x (said t).told ++ xs) (word_begun x s w m t (t.meetings ++ m ∷ []))

pub begun_done : (s : GcSetup) (code : List ℕ) (words : ℕ × ℕ) (m : Meeting) (t : Table)
    → applied s (first_change words m.state.stage m) t ≡ (begins_it s code m t).table
begun_done s code words m t = by (is_over m.state.stage)
  where
    w : word.Told
    w = (from_direct s.ways).told

    stood : Bool → Deed
    stood b = either b becomes (λ t. becomes (record t { meetings = t.meetings ++ m ∷ [] })) (behind_token t)

    by : (b : Bool) → applied s (cond b (Pass words) (Begin words m)) t ≡ (tells_word s w m (stood b).table).table
    by true = sym (word_table s w m (behind_token t))
    by false = sym (word_table s w m (record (behind_token t) { meetings = t.meetings ++ m ∷ [] }))

pub begun_fits : (words : ℕ × ℕ) (m : Meeting) (t : Table) → t.attempts < 2 ^ 32 - 1 → words ≡ words_behind 8 t.words
    → m.token ≡ new_token t
    → Fits (first_change words m.state.stage m) t
begun_fits words m t few are token = by (is_over m.state.stage)
  where
    by : (b : Bool) → Fits (cond b (Pass words) (Begin words m)) t
    by true = record { few = few; words_are = are }
    by false = record { few = few; words_are = are; token_is = token }

-- an attempt begins, told in two parts
pub begun_planned : (s : GcSetup) (code token said : List ℕ) (conn : ℕ) (m m0 : Meeting) (w : word.Told) (t : Table)
    (old mid new : List Tell) (words : ℕ × ℕ) → m ≡ m0 → w ≡ (from_direct s.ways).told → token ≡ m0.token → said ≡ code
    → conn ≡ m0.client.conn → t.attempts < 2 ^ 32 - 1 → words ≡ words_behind 8 t.words
    → ((x : ℕ) → told_to x mid ≡ told_to x old ++ bytes_to x (tells (conn ∷ []) (GcConnecting token said) t).told)
    → ((x : ℕ) → told_to x new ≡ told_to x mid ++ bytes_to x (tells_word s w m t).told)
    → (change : Change) → change ≡ first_change words m.state.stage m → m0.token ≡ new_token t
    → IsPlanned s (begins_it s code m0 t) t old new change
begun_planned s code token said conn m m0 w t old mid new words m_is w_is token_is said_is conn_is few are one two change change_is own =
    let planned : change ≡ first_change words m0.state.stage m0 =
    change_is ∙ ap (λ (k : Meeting). first_change words k.state.stage k) m_is in
    record {
      told = λ x.
          let a : List ℕ = bytes_to x (tells (m0.client.conn ∷ []) (GcConnecting m0.token code) t).told in
          let b : List ℕ = bytes_to x (tells_word s (from_direct s.ways).told m0 t).told in
          two x
          ∙ ap₂ (λ (v : word.Told) (k : Meeting). told_to x mid ++ bytes_to x (tells_word s v k t).told) w_is m_is
          ∙ ap (λ (xs : List ℕ). xs ++ b) (one x
          ∙ ap₂ (λ (k p : List ℕ). told_to x old ++ bytes_to x (tells (conn ∷ []) (GcConnecting k p) t).told) token_is said_is
          ∙ ap (λ (n : ℕ). told_to x old ++ bytes_to x (tells (n ∷ []) (GcConnecting m0.token code) t).told) conn_is)
          ∙ append_assoc (told_to x old) a b ∙ ap (λ (xs : List ℕ). told_to x old ++ xs) (sym (begun_told x s code m0 t));
      done = ap (λ (k : Change). applied s k t) planned ∙ begun_done s code words m0 t;
      fits = subst (λ (k : Change). Fits k t) (sym planned) (begun_fits words m0 t few are own);
    }

-- ---- a registration by a new code

pub neither : (a b : Bool) → a || b ≡ false → (a ≡ false) × (b ≡ false)
neither true b is = absurd (true≢false is)
neither false b is = (refl, is)

small_kind : (kind : ℕ) → kind ≤ 2 → nat_le kind 2 ≡ true
small_kind kind low = grind (arith, low)

pub asked_new : (s : GcSetup) (t : Table) (conn kind port : ℕ) (code secret : List ℕ) → is_some (server_on t conn) ≡ false → kind ≤ 2
    → is_empty code ≡ true
    → registers_new conn kind port t
    ≡ either (may_register t conn kind code secret) (either (is_empty code) (registers_new conn kind port) (registers conn kind port
    (record { code = code; secret = secret }))) (ends s conn 1 []) t
asked_new s t conn kind port code secret none low empty =
    let known : Table → Deed = registers conn kind port (record { code = code; secret = secret }) in
    let rest : Bool = may_return t code secret in
    sym (ap (λ (b : Bool). either (not b && nat_le kind 2 && (is_empty code || rest)) (either (is_empty code)
    (registers_new conn kind port) known) (ends s conn 1 []) t) none
    ∙ ap (λ (b : Bool). either (not false && b && (is_empty code || rest)) (either (is_empty code)
    (registers_new conn kind port) known) (ends s conn 1 []) t) (small_kind kind low)
    ∙ ap (λ (b : Bool). either (not false && true && (b || rest)) (either b (registers_new conn kind port) known) (ends s conn 1 []) t)
    empty)

pub new_planned : (s : GcSetup) (conn kind port : ℕ) (t : Table) (old new : List Tell) (code secret : List ℕ) (words : ℕ × ℕ)
    → code ≡ new_code t → secret ≡ new_secret t → words ≡ (behind_code t).words
    → is_some (connection_of t conn) ≡ true → is_some (server_on t conn) ≡ false → is_some (drawn_by t code) ≡ false
    → is_some (server_by t code) ≡ false
    → ((x : ℕ) → told_to x new ≡ told_to x old ++ bytes_to x (tells (conn ∷ []) (GcRegisterAck code secret 0) t).told)
    → IsPlanned s (registers_new conn kind port t) t old new (Draw conn kind port code secret words)
new_planned s conn kind port t old new code secret words code_is secret_is words_are there none fresh free told =
    record {
      told = λ x. told x
          ∙ ap₂ (λ (k p : List ℕ). told_to x old ++ bytes_to x (tells (conn ∷ []) (GcRegisterAck k p 0) t).told) code_is secret_is;
      done = ap₂ (λ (k p : List ℕ). drawn conn (record { code = k; secret = p }) kind port words t) code_is secret_is
          ∙ ap (λ (w : ℕ × ℕ). drawn conn (record { code = new_code t; secret = new_secret t }) kind port w t) words_are;
      fits = record { there = there; unregistered = none; new = fresh; free = free };
    }

-- ---- the desk

pub no_copies : (c conn : ℕ) → copies c (conn ∷ []) [] ++ [] ≡ []
no_copies c conn = by (eqb conn c)
  where
    by : (b : Bool) → cond {A = List ℕ} b ([] ++ []) [] ++ [] ≡ []
    by true = refl
    by false = refl

pub note_done : (t : Table) (conn : ℕ) (peer : Peer) (token : List ℕ) (side : ℕ) (m : Meeting) → meeting_of t token ≡ Some m
    → is_at_stun m.state.stage ≡ true → is_some (connection_of t conn) ≡ true → is_some (server_on t conn) ≡ false
    → IsDone (shows peer token side t ▹ goes conn) t (Note conn token side peer)
note_done t conn peer token side m here at there none =
    let noted : Table → Deed = λ t. becomes (with_meeting token (with_note side peer) t) in
    let is : shows peer token side t ≡ noted t =
    ap (λ (o : Option Meeting). given o (λ (m : Meeting). where_ (is_at_stun m.state.stage) noted) t) here
    ∙ ap (λ (b : Bool). where_ b noted t) at in
    subst (λ (d : Deed). IsDone (d ▹ goes conn) t (Note conn token side peer)) (sym is) (record {
      told = λ c. no_copies c conn;
      done = λ s. refl;
      fits = record { there = there; unregistered = none; meeting = m; found = here };
    })
