-- A client, call by call, is what it is over all calls.
use Rattle.std.proofs.Common.{◌≡◌, ℕ, zero, suc, ◌+◌, Bool, true, false, cond, List, [], ◌∷◌, ◌++◌, map, Option, None, refl, sym}
use Rattle.std.proofs.Common.{ap, ap₂, ◌∙◌, subst, append_assoc, arith, lit<}
use Rattle.std.specs.Prelude.{◌&&◌, not}
use Rattle.std.specs.List.{flat_map}
use Rattle.std.proofs.lemmas.Bool.{false≢true}
use Rattle.tt_frame.specs.Packet.{IsBytes, Packet, packet_bytes, size_of}
use Rattle.tt_frame.specs.Stream.{End, rest_of, bad_size, Reads}
use Rattle.tt_frame.specs.StreamReading.{reading, reading_within}
use Rattle.tt_frame.proofs.StreamLaws.{reading_reads, same_reading}
use Rattle.tt_lockstep.specs.Told as told
use Rattle.tt_lockstep.specs.Runner.{Runner, RunnerJoining, RunnerRunning, RunnerEndedJoining, RunnerEnded, RunnerWrongJoining, RunnerWrong}
use Rattle.tt_lockstep.specs.Runner.{RunnerDesync}
use Rattle.tt_lockstep.specs.Runner.{runner_advanced, runner_hears}
use Rattle.tt_world.specs.declared.command.Command.{Command}
use Rattle.tt_world.specs.declared.command.Entry.{Entry}
use Rattle.tt_world.specs.World.{WorldState}
use Rattle.tt_log.specs.Events.{read_msg}
use Rattle.tt_game.specs.declared.message.GameMsg.{GameMsg}
use Rattle.tt_log.specs.Shown.{Item, Phase, WrongAt, goes_on, item_told, items_from, place_then, Parted}
use Rattle.tt_client.specs.declared.login.Login.{Login}
use Rattle.tt_client.specs.Calls.{Call, Step, Feed, Advance, Submit, Take, Hear, Run, Say, Give, fed, new_items, steps_behind}
use Rattle.tt_client.specs.Cutting.{behind, cut_at, cut_off, told_behind, told_items, unread}
use Rattle.tt_client.specs.Held.{Held, fed_on, held, held_after, held_first, held_on}
use Rattle.tt_client.specs.Known.{known}
use Rattle.tt_client.specs.Player.{Mark, Joins, Plays, Ends, Strays, Off, after, heard, heard_all, heard_as, is_off, is_on, joined}
use Rattle.tt_client.specs.Player.{learnt, phase_by, plays, run_as, said_behind, stepped, told_place}
use Rattle.tt_client.specs.Runs.{client_run, runner_frame, runner_mark, runner_permitted, running}
use Rattle.tt_client.specs.Saying.{Saying, with_bytes}
use Rattle.tt_client.specs.Answers.{command_bytes}
use Rattle.tt_client.proofs.Cuts.{cut_on, reads_behind}
use Rattle.tt_client.proofs.Seated.{P, over_hears}

-- ---- bytes

pub bytes_front : (xs ys : List ℕ) → IsBytes (xs ++ ys) → IsBytes xs
bytes_front [] ys fits i = omega arith
bytes_front (x ∷ xs) ys fits zero = fits zero
bytes_front (x ∷ xs) ys fits (suc i) = bytes_front xs ys (λ j. fits (suc j)) i

pub bytes_back : (xs ys : List ℕ) → IsBytes (xs ++ ys) → IsBytes ys
bytes_back [] ys fits i = fits i
bytes_back (x ∷ xs) ys fits i = bytes_back xs ys (λ j. fits (suc j)) i

pub bytes_join : (xs ys : List ℕ) → IsBytes xs → IsBytes ys → IsBytes (xs ++ ys)
bytes_join [] ys a b i = b i
bytes_join (x ∷ xs) ys a b zero = a zero
bytes_join (x ∷ xs) ys a b (suc i) = bytes_join xs ys (λ j. a (suc j)) b i

-- ---- places count only as far as they are told

phase_at : (mark : Mark) (msg : Option GameMsg) (at t : ℕ) → told_place at ≡ told_place t
    → phase_by mark (record { at = at; msg = msg }) ≡ phase_by mark (record { at = t; msg = msg })
phase_at Joins msg at t is = refl
phase_at Plays msg at t is = refl
phase_at Ends msg at t is = refl
phase_at Strays msg at t is = ap WrongAt is
phase_at (Off frame mine theirs) msg at t is = refl

heard_at : (login : Login) (msg : Option GameMsg) (at t : ℕ) (p : P) → told_place at ≡ told_place t
    → heard running login (record { at = at; msg = msg }) p ≡ heard running login (record { at = t; msg = msg }) p
heard_at login msg at t p is =
    let r = runner_hears known p.runs (item_told p.place msg) in
    let mark = runner_mark r in
    let by : Phase → P = λ phase. record {
      place = cond (goes_on phase) (place_then p.place msg) Parted;
      phase = phase;
      number = cond (goes_on phase && not (is_off mark)) (learnt msg p.number p.company).client p.number;
      company = cond (goes_on phase && not (is_off mark)) (learnt msg p.number p.company).company p.company;
      runs = r;
      saying = cond (goes_on phase && not (is_off mark)) (said_behind login p.place msg p.saying) p.saying;
      acked = p.acked;
    } in
    ap (λ (phase : Phase). cond (is_on running login p) (by phase) p) (phase_at mark msg at t is)

told_on : (at size : ℕ) → told_place (told_place at + size) ≡ told_place (at + size)
told_on at size = omega arith

-- what is heard of packets hangs on their places as they are told
told_hears : (login : Login) (ps : List Packet) (e : End) (at : ℕ) (p : P)
    → heard_all running login (told_items (told_place at) ps e) p ≡ heard_all running login (items_from at ps e) p
told_hears login [] (rest_of rest) at p = refl
told_hears login [] (bad_size n) at p = heard_at login None (told_place at) at p (omega arith)
told_hears login (x ∷ ps) e at p =
    let msg = read_msg x.kind x.body in
    let first = heard_at login msg (told_place at) at p (omega arith) in
    ap₂ (λ (q : P) (t : ℕ). heard_all running login (told_items t ps e) q) first (told_on at (size_of x))
    ∙ told_hears login ps e (at + size_of x) (heard running login (record { at = at; msg = msg }) p)

told_end : (at : ℕ) (ps : List Packet) → told_behind (told_place at) ps ≡ told_place (behind at ps)
told_end at [] = refl
told_end at (x ∷ ps) = ap (λ (t : ℕ). told_behind t ps) (told_on at (size_of x)) ∙ told_end (at + size_of x) ps

behind_both : (at : ℕ) (ps qs : List Packet) → behind at (ps ++ qs) ≡ behind (behind at ps) qs
behind_both at [] qs = refl
behind_both at (x ∷ ps) qs = behind_both (at + size_of x) ps qs

-- ---- a bad size ends it

stray_ends : (r : Runner WorldState Entry) (at : ℕ)
    → (let q = runner_hears known r told.Stray in goes_on (phase_by (runner_mark q) (record { at = at; msg = None })) && not (is_off
    (runner_mark q))) ≡ false
stray_ends RunnerJoining at = refl
stray_ends (RunnerRunning k) at = refl
stray_ends RunnerEndedJoining at = refl
stray_ends (RunnerEnded k) at = refl
stray_ends RunnerWrongJoining at = refl
stray_ends (RunnerWrong k) at = refl
stray_ends (RunnerDesync k f mine theirs) at = refl

bad_by : (b : Bool) (login : Login) (at : ℕ) (p : P) → is_on running login p ≡ b
    → is_on running login (cond b (let q = runner_hears known p.runs told.Stray in heard_as login (record { at = at; msg = None })
    (runner_mark q) q p) p) ≡ false
bad_by true login at p is = stray_ends p.runs at
bad_by false login at p is = is

bad_ends : (login : Login) (ps : List Packet) (n at : ℕ) (p : P) → is_on running login (heard_all running login (items_from at ps (bad_size
    n)) p) ≡ false
bad_ends login [] n at p = bad_by (is_on running login p) login at p refl
bad_ends login (x ∷ ps) n at p = bad_ends login ps n (at + size_of x) (heard running login (record {
  at = at;
  msg = read_msg x.kind x.body;
}) p)

-- ---- pieces

pub hears_behind : (login : Login) (items : List Item) (steps : List Step) (p : P)
    → after running login p (map (λ i. Hear i) items ++ steps) ≡ after running login (heard_all running login items p) steps
hears_behind login [] steps p = refl
hears_behind login (i ∷ items) steps p = hears_behind login items steps (heard running login i p)

-- a client that was fed so much, as it is held, and as it is over all its calls
record Alike (before : List ℕ) (h : Held) (p : P) : Type 0 where
  same : h.player ≡ p
  rest : is_on running h.login p ≡ true → (reading 32767 before).1 ≡ rest_of h.rest
  at : is_on running h.login p ≡ true → h.at ≡ told_place (cut_off before)

abbrev cut_held : Held → List ℕ → Held
cut_held h piece =
    let cut = cut_at h.at (h.rest ++ piece) in record h {
      player = heard_all running h.login cut.items h.player;
      rest = cut.rest;
      at =
          cut.at;
    }

-- what is behind the piece, where it goes on
record Behind (before piece : List ℕ) (h : Held) (p : P) : Type 0 where
  heard : (cut_held h piece).player ≡ heard_all running h.login (new_items before piece) p
  rest : is_on running h.login (heard_all running h.login (new_items before piece) p) ≡ true → (reading 32767 (before ++ piece)).1 ≡
      rest_of (cut_held h piece).rest
  at : (cut_held h piece).at ≡ told_place (cut_off (before ++ piece))

rest_by : (before piece : List ℕ) (login : Login) (from : ℕ) (ps : List Packet) (e : End) (p : P) → (reading 32767 (before ++ piece)).1 ≡ e
    → is_on running login (heard_all running login (items_from from ps e) p) ≡ true → (reading 32767 (before ++ piece)).1 ≡ rest_of (unread
    e)
rest_by before piece login from ps (rest_of r) p is on = is
rest_by before piece login from ps (bad_size n) p is on = absurd (false≢true (sym (bad_ends login ps n from p) ∙ on))

piece_behind : (before piece : List ℕ) (h : Held) (p : P) → IsBytes (before ++ piece) → is_on running h.login p ≡ true → Alike before h p →
    Behind before piece h p
piece_behind before piece h p fits on alike =
    let front = bytes_front before piece fits in
    let end = alike.rest on in
    let ps = (reading 32767 before).0 in
    let old : Reads 32767 before ps (rest_of h.rest) = subst (λ (e : End). Reads 32767 before ps e) end (reading_reads 32767 before (omega
    arith) front) in
    let more : IsBytes (h.rest ++ piece) =
    bytes_join h.rest piece (bytes_back (flat_map packet_bytes ps) h.rest (subst (λ (xs : List ℕ). IsBytes xs) old.splits.whole front))
    (bytes_back before piece fits) in
    let later = reading 32767 (h.rest ++ piece) in
    let joined = reads_behind 32767 before piece ps later.0 h.rest later.1 old.splits (reading_reads 32767 (h.rest ++ piece) (omega arith)
    more) in
    let same = same_reading 32767 (before ++ piece) (reading 32767 (before ++ piece)).0 (ps ++ later.0) (reading 32767 (before ++ piece)).1
    later.1 (lit< tt)
    (reading_reads 32767 (before ++ piece) (omega arith) fits) joined in
    let from = cut_off before in
    let new : new_items before piece ≡ items_from from later.0 later.1 = cut_on before piece h.rest front fits more end in
    record {
      heard = ap₂ (λ (t : ℕ) (q : P). heard_all running h.login (told_items t later.0 later.1) q) (alike.at on) alike.same
          ∙ told_hears h.login later.0 later.1 from p ∙ ap (λ (items : List Item). heard_all running h.login items p) (sym new);
      rest = λ still. rest_by before piece h.login from later.0 later.1 p same.1
          (ap (λ (items : List Item). is_on running h.login (heard_all running h.login items p)) (sym new) ∙ still);
      at = ap (λ (t : ℕ). told_behind t later.0) (alike.at on) ∙ told_end from later.0
          ∙ ap told_place (sym (behind_both 0 ps later.0) ∙ sym (ap (λ (qs : List Packet). behind 0 qs) same.0));
    }

fed_by : (b : Bool) (before piece : List ℕ) (h : Held) (p : P) → IsBytes (before ++ piece) → is_on running h.login p ≡ b → Alike before h p
    → Alike (before ++ piece) (cond b (cut_held h piece) h) (heard_all running h.login (new_items before piece) p)
fed_by true before piece h p fits is alike =
    let on = piece_behind before piece h p fits is alike in record { same = on.heard; rest = on.rest; at = λ still. on.at }
fed_by false before piece h p fits is alike =
    let stays = over_hears h.login (new_items before piece) p is in
    let off : is_on running h.login (heard_all running h.login (new_items before piece) p) ≡ false = ap (λ (q : P). is_on running h.login
    q) stays ∙ is in
    record {
      same = alike.same ∙ sym stays;
      rest = λ on. absurd (false≢true (sym off ∙ on));
      at = λ on. absurd (false≢true (sym off ∙ on));
    }

fed_alike : (before piece : List ℕ) (h : Held) (p : P) → IsBytes (before ++ piece) → Alike before h p
    → Alike (before ++ piece) (fed_on piece h) (heard_all running h.login (new_items before piece) p)
fed_alike before piece h p fits alike =
    subst (λ (b : Bool). Alike (before ++ piece) (cond b (cut_held h piece) h) (heard_all running h.login (new_items before piece) p))
    (ap (λ (q : P). is_on running h.login q) (sym alike.same)) (fed_by (is_on running h.login p) before piece h p fits refl alike)

-- ---- calls

fed_login_by : (b : Bool) (h : Held) (piece : List ℕ) → (cond b (cut_held h piece) h).login ≡ h.login
fed_login_by true h piece = refl
fed_login_by false h piece = refl

run_back : (b : Bool) (login : Login) (x p : P) → is_on running login p ≡ b → is_on running login (cond b x p) ≡ true → is_on running login
    p ≡ true
run_back true login x p is on = is
run_back false login x p is on = on

say_back : (b : Bool) (login : Login) (saying : Saying) (p : P) → is_on running login (cond b (record p { saying = saying }) p) ≡ true →
    is_on running login p ≡ true
say_back true login saying p on = on
say_back false login saying p on = on

-- a call that feeds nothing
call_alike : (login : Login) (before : List ℕ) (step : Step) (h : Held) (p : P) → h.login ≡ login
    → (is_on running login (stepped running login p step) ≡ true → is_on running login p ≡ true)
    → Alike before h p → Alike before (held_on step h) (stepped running login p step)
call_alike login before step h p is back alike = record {
  same = ap₂ (λ (l : Login) (q : P). stepped running l q step) is alike.same;
  rest = λ on. alike.rest (back on);
  at = λ on. alike.at (back on);
}

run_call : (login : Login) (n : ℕ) (p : P) → is_on running login (stepped running login p (Run n)) ≡ true → is_on running login p ≡ true
run_call login n p on =
    let r = runner_advanced known n p.runs in
    run_back (is_on running login p) login (run_as (runner_frame p.runs) (runner_frame r) (runner_permitted r) r p) p refl on

say_call : (login : Login) (company : ℕ) (command : Command) (p : P) → is_on running login (stepped running login p (Say company command))
    ≡ true
    → is_on running login p ≡ true
say_call login company command p on =
    say_back (is_on running login p && plays (runner_mark p.runs)) login (with_bytes (command_bytes company command) p.saying) p on

calls_alike : (login : Login) (before : List ℕ) (calls : List Call) (h : Held) (p : P) → h.login ≡ login → IsBytes (before ++ fed calls)
    → Alike before h p → (held_after h calls).player ≡ after running login p (steps_behind before calls)
calls_alike login before [] h p is fits alike = alike.same
calls_alike login before (Feed piece ∷ calls) h p is fits alike =
    let whole : IsBytes ((before ++ piece) ++ fed calls) = subst (λ (xs : List ℕ). IsBytes xs) (sym (append_assoc before piece (fed
    calls))) fits in
    let new = new_items before piece in
    let next : Alike (before ++ piece) (fed_on piece h) (heard_all running login new p) =
    subst (λ (l : Login). Alike (before ++ piece) (fed_on piece h) (heard_all running l new p)) is
    (fed_alike before piece h p (bytes_front (before ++ piece) (fed calls) whole) alike) in
    calls_alike login (before ++ piece) calls (fed_on piece h) (heard_all running login new p)
    (fed_login_by (is_on running h.login h.player) h piece ∙ is) whole next
    ∙ sym (hears_behind login new (steps_behind (before ++ piece) calls) p)
calls_alike login before (Advance n ∷ calls) h p is fits alike =
    calls_alike login before calls (held_on (Run n) h) (stepped running login p (Run n)) is fits
    (call_alike login before (Run n) h p is (run_call login n p) alike)
calls_alike login before (Submit company command ∷ calls) h p is fits alike =
    calls_alike login before calls (held_on (Say company command) h) (stepped running login p (Say company command)) is fits
    (call_alike login before (Say company command) h p is (say_call login company command p) alike)
calls_alike login before (Take room ∷ calls) h p is fits alike =
    calls_alike login before calls (held_on (Give room) h) (stepped running login p (Give room)) is fits
    (call_alike login before (Give room) h p is (λ on. on) alike)

nothing_read : (reading 32767 []).1 ≡ rest_of []
unfolding reading_within
nothing_read = refl

nothing_cut : 0 ≡ told_place (cut_off [])
unfolding reading_within
nothing_cut = refl

pub in_steps : (login : Login) (calls : List Call) → IsBytes (fed calls) → (held login calls).player ≡ client_run login calls
in_steps login calls fits =
    calls_alike login [] calls (held_first login) (joined running login) refl fits
    (record { same = refl; rest = λ on. nothing_read; at = λ on. nothing_cut })
