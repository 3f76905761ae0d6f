-- What a client has to say, taken in parts.
use Rattle.std.proofs.Common.{◌≡◌, ℕ, zero, suc, ◌+◌, Bool, true, false, List, [], ◌∷◌}
use Rattle.std.proofs.Common.{◌++◌, drop, refl, sym, ap, ◌∙◌, arith, Option, Some, None}
use Rattle.std.specs.Prelude.{◌==◌, ◌&&◌, not, nat_lt, if◌then◌else◌}
use Rattle.std.proofs.lemmas.List.{drop-drop}
use Rattle.tt_lockstep.specs.Runner.{Runner}
use Rattle.tt_world.specs.declared.command.Command.{Command}
use Rattle.tt_world.specs.declared.command.Entry.{Entry}
use Rattle.tt_world.specs.World.{WorldState}
use Rattle.tt_log.specs.Shown.{Item, goes_on, item_told}
use Rattle.tt_client.specs.declared.login.Login.{Login}
use Rattle.tt_client.specs.declared.waiting.Ack.{Ack}
use Rattle.tt_client.specs.Answers.{answer, command_bytes}
use Rattle.tt_client.specs.Calls.{Call, Feed, Advance, Submit, Take, Step, Hear, Run, Say, Give}
use Rattle.tt_client.specs.Cutting.{cut_at}
use Rattle.tt_client.specs.Held.{Held, held, held_after, held_first, held_on, fed_on, with_call}
use Rattle.tt_client.specs.Player.{Player, Mark, acks, advanced, heard, heard_all, heard_as, is_due, is_off, is_on, phase_by, plays, run_as}
use Rattle.tt_client.specs.Player.{said_behind, stepped, token_in}
use Rattle.tt_client.specs.Runs.{running}
use Rattle.tt_client.specs.Saying.{Saying, IsSaying, bytes_of, less_begun, less_one}
use Rattle.tt_client.specs.Saying.{made_before, taken, with_ack, with_bytes, with_bytes_at}
use Rattle.tt_client.specs.Saying.{with_token}
use Rattle.tt_client.proofs.Less.{less_one_is}
use Rattle.tt_playing.specs.Attached.{Attached, AreSayings, client_in, client_of}

-- ---- nothing stands behind, where no acknowledgement waits whole

abbrev P : Type 0
P = Player (Runner WorldState Entry)

some_none : (a : Ack) → ◌≡◌ {A = Option Ack} (Some a) None → ⊥
some_none a e = cc

bytes_at_fit : (ack : Option Ack) (bytes : List ℕ) (s : Saying) → s.ack ≡ ack → IsSaying s → IsSaying (with_bytes_at ack bytes s)
bytes_at_fit None bytes s is fits = fits
bytes_at_fit (Some a) bytes s is fits = λ none. absurd (some_none a (sym is ∙ none))

bytes_fit : (bytes : List ℕ) (s : Saying) → IsSaying s → IsSaying (with_bytes bytes s)
bytes_fit bytes s fits = bytes_at_fit s.ack bytes s refl fits

ack_fits : (frame : ℕ) (s : Saying) → IsSaying (with_ack frame s)
ack_fits frame s none = absurd (some_none (record { frame = frame; token = s.owed; is_newest = true }) none)

before_none : (ack : Option Ack) → made_before ack ≡ None → ack ≡ None
before_none None is = refl
before_none (Some a) is = absurd (some_none (record a { is_newest = false }) is)

token_fits : (token : ℕ) (s : Saying) → IsSaying s → IsSaying (with_token token s)
token_fits token s fits =
    elim (token == 0) as (λ (b : Bool). IsSaying (if b then s else record s { owed = token; ack = made_before s.ack })) [
      | true ↦ fits
      | false ↦ (λ none. fits (before_none s.ack none))
    ]

less_fits : (begun before : List ℕ) (ack : Option Ack) (behind : List ℕ) (owed : ℕ) → (ack ≡ None → behind ≡ [])
    → IsSaying (less_begun begun before ack behind owed)
less_fits (b ∷ begun) before ack behind owed fits = fits
less_fits [] (b ∷ before) ack behind owed fits = fits
less_fits [] [] None behind owed fits = λ none. fits refl
less_fits [] [] (Some a) behind owed fits = λ none. refl

pub taken_fits : (n : ℕ) (s : Saying) → IsSaying s → IsSaying (taken n s)
taken_fits zero s fits = fits
taken_fits (suc n) s fits = taken_fits n (less_one s) (less_fits s.begun s.before s.ack s.behind s.owed fits)

-- ---- of each client

heard_as_fits : (login : Login) (i : Item) (mark : Mark) (runs : Runner WorldState Entry) (p : P) → IsSaying p.saying
    → IsSaying (heard_as login i mark runs p).saying
heard_as_fits login i mark runs p fits =
    elim (goes_on (phase_by mark i) && not (is_off mark)) as (λ (b : Bool). IsSaying (if b then said_behind login p.place i.msg
    p.saying else p.saying)) [
      | true ↦ token_fits (token_in i.msg) (with_bytes (answer login p.place i.msg) p.saying) (bytes_fit (answer login p.place i.msg)
          p.saying fits)
      | false ↦ fits
    ]

by_choice : (b : Bool) (p q : P) → IsSaying p.saying → IsSaying q.saying → IsSaying (if b then p else q).saying
by_choice true p q one other = one
by_choice false p q one other = other

heard_fits : (login : Login) (i : Item) (p : P) → IsSaying p.saying → IsSaying (heard running login i p).saying
heard_fits login i p fits =
    let runs = running.hears p.runs (item_told p.place i.msg) in
    by_choice (is_on running login p) (heard_as login i (running.mark runs) runs p) p (heard_as_fits login i
    (running.mark runs) runs p fits) fits

all_heard_fit : (login : Login) (items : List Item) (p : P) → IsSaying p.saying → IsSaying (heard_all running login items p).saying
all_heard_fit login [] p fits = fits
all_heard_fit login (i ∷ items) p fits = all_heard_fit login items (heard running login i p) (heard_fits login i p fits)

acks_fit : (b : Bool) (frame : ℕ) (p : P) → IsSaying p.saying → IsSaying (acks b frame p).saying
acks_fit true frame p fits = ack_fits frame p.saying
acks_fit false frame p fits = fits

advanced_fits : (login : Login) (n : ℕ) (p : P) → IsSaying p.saying → IsSaying (advanced running login n p).saying
advanced_fits login n p fits =
    let runs = running.advanced n p.runs in
    let old = running.frame p.runs in
    let frame = running.frame runs in
    let permitted = running.permitted runs in
    by_choice (is_on running login p) (run_as old frame permitted runs p) p
    (acks_fit (nat_lt old frame && is_due p.acked permitted frame) frame (record p { runs = runs }) fits) fits

stepped_fits : (login : Login) (s : Step) (p : P) → IsSaying p.saying → IsSaying (stepped running login p s).saying
stepped_fits login (Hear i) p fits = heard_fits login i p fits
stepped_fits login (Run n) p fits = advanced_fits login n p fits
stepped_fits login (Say company command) p fits =
    by_choice (is_on running login p && plays (running.mark p.runs)) (record p {
      saying = with_bytes
          (command_bytes company command) p.saying;
    })
    p (bytes_fit (command_bytes company command) p.saying fits) fits
stepped_fits login (Give room) p fits = taken_fits room p.saying fits

by_choice_held : (b : Bool) (g h : Held) → IsSaying g.player.saying → IsSaying h.player.saying → IsSaying (if b then g else h).player.saying
by_choice_held true g h one other = one
by_choice_held false g h one other = other

call_fits : (h : Held) (c : Call) → IsSaying h.player.saying → IsSaying (with_call h c).player.saying
call_fits h (Feed piece) fits =
    let cut = cut_at h.at (h.rest ++ piece) in
    by_choice_held (is_on running h.login h.player)
    (record h { player = heard_all running h.login cut.items h.player; rest = cut.rest; at = cut.at }) h
    (all_heard_fit h.login cut.items h.player fits) fits
call_fits h (Advance n) fits = stepped_fits h.login (Run n) h.player fits
call_fits h (Submit company command) fits = stepped_fits h.login (Say company command) h.player fits
call_fits h (Take room) fits = stepped_fits h.login (Give room) h.player fits

after_fits : (h : Held) (calls : List Call) → IsSaying h.player.saying → IsSaying (held_after h calls).player.saying
after_fits h [] fits = fits
after_fits h (c ∷ calls) fits = after_fits (with_call h c) calls (call_fits h c fits)

first_fits : (login : Login) → IsSaying (held_first login).player.saying
first_fits login none = refl

pub saying_fits : (login : Login) (calls : List Call) → IsSaying (held login calls).player.saying
saying_fits login calls = after_fits (held_first login) calls (first_fits login)

pub sayings_fit : (x : Option Attached) → AreSayings (client_in x)
sayings_fit None = tt
sayings_fit (Some a) = saying_fits a.login a.calls

-- ---- what is taken

pub bytes_taken : (n : ℕ) (s : Saying) → IsSaying s → bytes_of (taken n s) ≡ drop n (bytes_of s)
bytes_taken zero s fits = refl
bytes_taken (suc n) s fits =
    let one : 1 + n ≡ suc n = omega arith in
    bytes_taken n (less_one s) (less_fits s.begun s.before s.ack s.behind s.owed fits) ∙ ap (drop n) (less_one_is s fits)
    ∙ drop-drop n 1 (bytes_of s) ∙ ap (λ (m : ℕ). drop m (bytes_of s)) one

pub taken_twice : (j k : ℕ) (s : Saying) → taken k (taken j s) ≡ taken (j + k) s
taken_twice zero k s = let same : k ≡ 0 + k = omega arith in ap (λ (m : ℕ). taken m s) same
taken_twice (suc j) k s =
    let one : suc (j + k) ≡ suc j + k = omega arith in taken_twice j k (less_one s) ∙ ap (λ (m : ℕ). taken m s) one

pub take_twice : (j k : ℕ) (h : Held) → with_call (with_call h (Take j)) (Take k) ≡ with_call h (Take (j + k))
take_twice j k h = ap (λ (s : Saying). record h { player = record (h.player) { saying = s } }) (taken_twice j k h.player.saying)
