-- Unless it is out of step, a client has just what its stream shows.
use Rattle.std.proofs.Common.{◌≡◌, ◌⊎◌, inl, inr, ℕ, zero, suc, Bool, true, false, cond, List, [], ◌∷◌, ◌++◌, Option, Some, refl, sym}
use Rattle.std.proofs.Common.{ap, ap₂, ◌∙◌, subst}
use Rattle.std.specs.Prelude.{◌&&◌, not, nat_lt, ◌==◌, fold}
use Rattle.tt_lockstep.specs.Told as told
use Rattle.tt_lockstep.specs.Told.{Told}
use Rattle.tt_lockstep.specs.Shown as lockstep
use Rattle.tt_lockstep.specs.Client as abstracted
use Rattle.tt_lockstep.specs.Client.{Client, Following, Desync, hears, hearing, one_frame, run_to, is_recent}
use Rattle.tt_game.specs.declared.message.GameMsg.{GameMsg}
use Rattle.tt_game.specs.declared.message.GameMsg.TheVariants.{ServerFull, ServerBanned, ServerError, ServerWelcome, ServerClientInfo}
use Rattle.tt_game.specs.declared.message.GameMsg.TheVariants.{ServerMove}
use Rattle.tt_world.specs.declared.command.Entry.{Entry}
use Rattle.tt_world.specs.World.{WorldState}
use Rattle.tt_log.specs.Shown.{Item, Place, Phase, Joining, Loaded, EndedWith, ShutDown, WrongAt, Shown, item_told, place_then}
use Rattle.tt_log.specs.Shown.{behind, end_by, goes_on, learns, unless_over, with_item}
use Rattle.tt_log.specs.Shown as book
use Rattle.tt_client.specs.declared.login.Login.{Login}
use Rattle.tt_client.specs.Known.{anywhere, known}
use Rattle.std.proofs.Common.{append_assoc, append-nil, map}
use Rattle.std.proofs.lemmas.Bool.{false≢true}
use Rattle.tt_frame.specs.Packet.{IsBytes}
use Rattle.tt_frame.specs.StreamReading.{reading_within}
use Rattle.tt_world.specs.declared.command.Command.{Command}
use Rattle.tt_log.specs.Shown.{Parted, items_in, nothing_shown, shown}
use Rattle.tt_client.specs.Answers.{command_bytes}
use Rattle.tt_client.specs.Saying.{Saying, taken, with_ack, with_bytes}
use Rattle.tt_client.proofs.Growing.{items_grow}
use Rattle.tt_client.proofs.InSteps.{bytes_front}
use Rattle.tt_client.specs.Calls.{Call, Feed, Advance, Submit, Take, fed, new_items, steps_behind}
use Rattle.tt_client.specs.Calls.{Step, Hear, Run, Say, Give}
use Rattle.tt_client.specs.Player.{Player, acks, after, heard, heard_all, heard_as, is_due, is_off, is_on, joined, learnt, phase_by, plays}
use Rattle.tt_client.specs.Player.{run_as, stepped}
use Rattle.tt_client.specs.Runs.{client, client_frame, client_mark, client_permitted, scratch}
use Rattle.tt_client.specs.Showing.{IsShown, told_phase}

abbrev C : Type 0
C = Client WorldState Entry

abbrev P : Type 0
P = Player C

abbrev T : Type 0
T = Told WorldState Entry

-- out of step, or as its stream shows
abbrev pub Shows : P → Shown → Type 0
Shows p s = IsShown p s ⊎ (is_off (client_mark p.runs) ≡ true)

-- what a client hears keeps it beside what it was shown, or it is out of step
abbrev Follows : C → lockstep.Shown WorldState Entry → Type 0
Follows c seen = ((f : ℕ) × (c ≡ Following seen f)) ⊎ (is_off (client_mark c) ≡ true)

follows_by : (b : Bool) (v : lockstep.View WorldState Entry) (h : lockstep.Shown WorldState Entry) (f g mine w : ℕ)
    → Follows (cond b (Desync v f g mine w) (Following h f)) h
follows_by true v h f g mine w = inr refl
follows_by false v h f g mine w = inl (f, refl)

follows : (h : lockstep.Shown WorldState Entry) (f : ℕ) (t : T) → Follows (hearing known h f t) (lockstep.seen known h t)
follows lockstep.Joining f (told.Map s w) = inl (s, refl)
follows lockstep.Joining f (told.Command e) = inl (f, refl)
follows lockstep.Joining f (told.Frame g max) = inl (f, refl)
follows lockstep.Joining f (told.Sync g w) = inl (f, refl)
follows lockstep.Joining f told.Other = inl (f, refl)
follows lockstep.Joining f told.Stray = inl (f, refl)
follows lockstep.Joining f told.End = inl (f, refl)
follows (lockstep.Running v) f (told.Sync g w) =
    follows_by (is_recent known v f g && not (known.word (lockstep.world_of known v g) == w)) v (lockstep.with_sync known v g w) f g
    (known.word (lockstep.world_of known v g)) w
follows (lockstep.Running v) f (told.Map s w) = inl (f, refl)
follows (lockstep.Running v) f (told.Command e) = inl (f, refl)
follows (lockstep.Running v) f (told.Frame g max) = inl (f, refl)
follows (lockstep.Running v) f told.Other = inl (f, refl)
follows (lockstep.Running v) f told.Stray = inl (f, refl)
follows (lockstep.Running v) f told.End = inl (f, refl)
follows lockstep.EndedJoining f t = inl (f, refl)
follows (lockstep.Ended v) f t = inl (f, refl)
follows lockstep.WrongJoining f t = inl (f, refl)
follows (lockstep.Wrong v) f t = inl (f, refl)

not_off : (h : lockstep.Shown WorldState Entry) (f : ℕ) → is_off (client_mark (Following h f)) ≡ false
not_off lockstep.Joining f = refl
not_off (lockstep.Running v) f = refl
not_off lockstep.EndedJoining f = refl
not_off (lockstep.Ended v) f = refl
not_off lockstep.WrongJoining f = refl
not_off (lockstep.Wrong v) f = refl

told_end : (m : Option GameMsg) → end_by m ≡ told_phase (end_by m)
told_end (Some ServerFull) = refl
told_end (Some ServerBanned) = refl
told_end (Some (ServerError code)) = refl
told_end other = refl

phase_is : (h : lockstep.Shown WorldState Entry) (f : ℕ) (i : Item) → phase_by (client_mark (Following h f)) i ≡ told_phase (book.phase_by
    h i)
phase_is lockstep.Joining f i = refl
phase_is (lockstep.Running v) f i = refl
phase_is lockstep.EndedJoining f i = told_end i.msg
phase_is (lockstep.Ended v) f i = told_end i.msg
phase_is lockstep.WrongJoining f i = refl
phase_is (lockstep.Wrong v) f i = refl

told_on : (phase : Phase) → goes_on (told_phase phase) ≡ goes_on phase
told_on Joining = refl
told_on Loaded = refl
told_on (EndedWith code) = refl
told_on ShutDown = refl
told_on (WrongAt at) = refl

-- what is learnt hangs on the number and the company alone, and changes nothing else
record Learns (m : Option GameMsg) (s : Shown) : Type 0 where
  client : (learns m s).client ≡ (learnt m s.client s.company).client
  company : (learns m s).company ≡ (learnt m s.client s.company).company
  phase : (learns m s).phase ≡ s.phase
  place : (learns m s).place ≡ s.place
  seen : (learns m s).seen ≡ s.seen

learning : (m : Option GameMsg) (s : Shown) → Learns m s
learning (Some (ServerWelcome client seed id)) s = record { client = refl; company = refl; phase = refl; place = refl; seen = refl }
learning (Some (ServerClientInfo client company name)) s = record { client = refl; company = refl; phase = refl; place = refl; seen = refl }
learning (Some (ServerMove client company)) s = record { client = refl; company = refl; phase = refl; place = refl; seen = refl }
learning other s = record { client = refl; company = refl; phase = refl; place = refl; seen = refl }

both_true : (b : Bool) → (b && true) ≡ b
both_true true = refl
both_true false = refl

both_false : (b : Bool) → (b && false) ≡ false
both_false true = refl
both_false false = refl

-- ---- an item more

-- what is shown behind an item by which a client goes on or ends, in parts
record Next (i : Item) (s n : Shown) : Type 0 where
  phase : n.phase ≡ book.phase_by n.seen i
  seen : n.seen ≡ lockstep.seen known s.seen (item_told s.place i.msg)
  place : n.place ≡ place_then s.place i.msg
  client : n.client ≡ cond (goes_on n.phase) (learnt i.msg s.client s.company).client s.client
  company : n.company ≡ cond (goes_on n.phase) (learnt i.msg s.client s.company).company s.company

next_by : (b : Bool) (i : Item) (s w : Shown) → w.phase ≡ book.phase_by w.seen i → w.seen ≡ lockstep.seen known s.seen (item_told s.place
    i.msg)
    → w.place ≡ place_then s.place i.msg → w.client ≡ s.client → w.company ≡ s.company → goes_on w.phase ≡ b
    → Next i s (cond b (learns i.msg w) w)
next_by true i s w phase seen place client company is =
    let l = learning i.msg w in
    let on : goes_on (learns i.msg w).phase ≡ true = ap goes_on l.phase ∙ is in
    record {
      phase = l.phase ∙ phase ∙ ap (λ (h : lockstep.Shown WorldState Entry). book.phase_by h i) (sym l.seen);
      seen = l.seen ∙ seen;
      place = l.place ∙ place;
      client = l.client ∙ ap₂ (λ (n c : ℕ). (learnt i.msg n c).client) client company
          ∙ sym (ap (λ (b : Bool). cond b (learnt i.msg s.client s.company).client s.client) on);
      company = l.company ∙ ap₂ (λ (n c : ℕ). (learnt i.msg n c).company) client company
          ∙ sym (ap (λ (b : Bool). cond b (learnt i.msg s.client s.company).company s.company) on);
    }
next_by false i s w phase seen place client company is = record {
  phase = phase;
  seen = seen;
  place = place;
  client = client ∙ sym (ap (λ (b : Bool). cond b (learnt i.msg s.client s.company).client s.client) is);
  company = company ∙ sym (ap (λ (b : Bool). cond b (learnt i.msg s.client s.company).company s.company) is);
}

next_is : (s : Shown) (i : Item) → Next i s (behind anywhere s i)
next_is s i = let w = with_item anywhere s i in next_by (goes_on w.phase) i s w refl refl refl refl refl refl

on_is : (login : Login) (p : P) (s : Shown) → IsShown p s → is_on scratch login p ≡ goes_on s.phase
on_is login p s is =
    let steady : is_off (client_mark p.runs) ≡ false = ap (λ (c : C). is_off (client_mark c)) is.runs ∙ not_off s.seen is.frame in
    ap₂ (λ (f : Phase) (b : Bool). goes_on f && not b) is.phase steady ∙ both_true (goes_on (told_phase s.phase)) ∙ told_on s.phase

-- a client that follows is what its stream shows
heard_shown : (login : Login) (i : Item) (p : P) (s n : Shown) (f : ℕ) → IsShown p s → goes_on s.phase ≡ true → Next i s n
    → hears known p.runs (item_told p.place i.msg) ≡ Following n.seen f
    → IsShown (heard_as login i (client_mark (hears known p.runs (item_told p.place i.msg))) (hears known p.runs (item_told p.place i.msg))
    p) n
heard_shown login i p s n f is on next runs =
    let r = hears known p.runs (item_told p.place i.msg) in
    let phase : phase_by (client_mark r) i ≡ told_phase n.phase =
    ap (λ (c : C). phase_by (client_mark c) i) runs ∙ phase_is n.seen f i ∙ ap told_phase (sym next.phase) in
    let steady : is_off (client_mark r) ≡ false = ap (λ (c : C). is_off (client_mark c)) runs ∙ not_off n.seen f in
    let goes : goes_on (phase_by (client_mark r) i) ≡ goes_on n.phase = ap goes_on phase ∙ told_on n.phase in
    let stays : (goes_on (phase_by (client_mark r) i) && not (is_off (client_mark r))) ≡ goes_on n.phase =
    ap₂ (λ (a b : Bool). a && not b) goes steady ∙ both_true (goes_on n.phase) in
    record {
      frame = f;
      runs = runs;
      phase = phase;
      place = λ still. ap (λ (b : Bool). cond b (place_then p.place i.msg) Parted) (goes ∙ still)
          ∙ ap (λ (place : Place). place_then place i.msg) (is.place on) ∙ sym next.place;
      number = ap₂ (λ (b : Bool) (k : ℕ). cond b (learnt i.msg k p.company).client k) stays is.number
          ∙ ap (λ (c : ℕ). cond (goes_on n.phase) (learnt i.msg s.client c).client s.client) is.company ∙ sym next.client;
      company = ap₂ (λ (b : Bool) (k : ℕ). cond b (learnt i.msg p.number k).company k) stays is.company
          ∙ ap (λ (k : ℕ). cond (goes_on n.phase) (learnt i.msg k s.company).company s.company) is.number ∙ sym next.company;
    }

shows_by : (login : Login) (i : Item) (p : P) (s : Shown) → IsShown p s → goes_on s.phase ≡ true
    → Shows (heard_as login i (client_mark (hears known p.runs (item_told p.place i.msg))) (hears known p.runs (item_told p.place i.msg))
    p) (behind anywhere s i)
shows_by login i p s is on =
    let next = next_is s i in
    let t = item_told s.place i.msg in
    let told_as : hears known p.runs (item_told p.place i.msg) ≡ hearing known s.seen is.frame t =
    ap₂ (λ (c : C) (place : Place). hears known c (item_told place i.msg)) is.runs (is.place on) in
    elim (follows s.seen is.frame t) [
      | inl x ↦ inl (heard_shown login i p s (behind anywhere s i) x.0 is on next
          (told_as ∙ x.1 ∙ ap (λ (h : lockstep.Shown WorldState Entry). Following h x.0) (sym next.seen)))
      | inr off ↦ inr (ap (λ (c : C). is_off (client_mark c)) told_as ∙ off)
    ]

hear_by : (login : Login) (i : Item) (p : P) (s : Shown) (b : Bool) → IsShown p s → goes_on s.phase ≡ b
    → Shows (cond b (heard_as login i (client_mark (hears known p.runs (item_told p.place i.msg))) (hears known p.runs (item_told p.place
    i.msg)) p) p)
    (cond b (behind anywhere s i) s)
hear_by login i p s true is on = shows_by login i p s is on
hear_by login i p s false is on = inl is

hear_shows : (login : Login) (i : Item) (p : P) (s : Shown) → Shows p s → Shows (heard scratch login i p) (unless_over anywhere s i)
hear_shows login i p s (inl is) =
    let r = hears known p.runs (item_told p.place i.msg) in
    subst (λ (b : Bool). Shows (cond b (heard_as login i (client_mark r) r p) p) (cond (goes_on s.phase) (behind anywhere s i) s)) (sym
    (on_is login p s is))
    (hear_by login i p s (goes_on s.phase) is refl)
hear_shows login i p s (inr off) =
    let r = hears known p.runs (item_told p.place i.msg) in
    let stays : heard scratch login i p ≡ p =
    ap (λ (b : Bool). cond b (heard_as login i (client_mark r) r p) p) (ap (λ (b : Bool). goes_on p.phase && not b) off ∙ both_false
    (goes_on p.phase)) in
    inr (ap (λ (q : P). is_off (client_mark q.runs)) stays ∙ off)

-- ---- frames

run_follows : (v : lockstep.View WorldState Entry) (f : ℕ) (ss : List lockstep.SyncPoint) → Follows (run_to known v f ss) (lockstep.Running
    v)
run_follows v f [] = inl (f, refl)
run_follows v f (s ∷ ss) =
    elim (s.frame == f && not (known.word (lockstep.world_of known v f) == s.word)) as (λ b. Follows (cond b (Desync v f f
    (known.word (lockstep.world_of known v f)) s.word) (run_to known v f ss)) (lockstep.Running v)) [
      | true ↦ inr refl
      | false ↦ run_follows v f ss
    ]

frame_follows : (h : lockstep.Shown WorldState Entry) (f : ℕ) → Follows (one_frame known (Following h f)) h
frame_follows lockstep.Joining f = inl (f, refl)
frame_follows (lockstep.Running v) f =
    elim (nat_lt f v.permitted) as (λ b. Follows (cond b (run_to known v (suc f) v.syncs) (Following (lockstep.Running v) f))
    (lockstep.Running v)) [
      | true ↦ run_follows v (suc f) v.syncs
      | false ↦ inl (f, refl)
    ]
frame_follows lockstep.EndedJoining f = inl (f, refl)
frame_follows (lockstep.Ended v) f = inl (f, refl)
frame_follows lockstep.WrongJoining f = inl (f, refl)
frame_follows (lockstep.Wrong v) f = inl (f, refl)

off_frame : (c : C) → is_off (client_mark c) ≡ true → one_frame known c ≡ c
off_frame (Following h f) off = absurd (false≢true (sym (not_off h f) ∙ off))
off_frame (Desync v f g mine theirs) off = refl

off_advanced : (n : ℕ) (c : C) → is_off (client_mark c) ≡ true → abstracted.advanced known n c ≡ c
off_advanced zero c off = refl
off_advanced (suc n) c off = ap (λ (c : C). abstracted.advanced known n c) (off_frame c off) ∙ off_advanced n c off

advanced_by : (n : ℕ) (h : lockstep.Shown WorldState Entry) (c : C) → Follows c h → Follows (abstracted.advanced known n c) h
advanced_by zero h c is = is
advanced_by (suc n) h c (inl x) =
    advanced_by n h (one_frame known c) (subst (λ (c : C). Follows (one_frame known c) h) (sym x.1) (frame_follows h x.0))
advanced_by (suc n) h c (inr off) = inr (ap (λ (c : C). is_off (client_mark c)) (off_advanced (suc n) c off) ∙ off)

-- ---- steps

shows_cond : (b : Bool) (x p : P) (s : Shown) → Shows x s → Shows p s → Shows (cond b x p) s
shows_cond true x p s one two = one
shows_cond false x p s one two = two

-- what it says, and acknowledges, is not shown
shows_saying : (p : P) (saying : Saying) (acked : Option ℕ) (s : Shown) → Shows p s → Shows (record p { saying = saying; acked = acked }) s
shows_saying p saying acked s (inl is) = inl (record {
  frame = is.frame;
  runs = is.runs;
  phase = is.phase;
  place = is.place;
  number = is.number;
  company = is.company;
})
shows_saying p saying acked s (inr off) = inr off

shows_acks : (b : Bool) (f : ℕ) (p : P) (s : Shown) → Shows p s → Shows (acks b f p) s
shows_acks true f p s is = shows_saying p (with_ack f p.saying) (Some f) s is
shows_acks false f p s is = is

shows_runs : (p : P) (c : C) (s : Shown) → IsShown p s → Follows c s.seen → Shows (record p { runs = c }) s
shows_runs p c s is (inl x) = inl (record {
  frame = x.0;
  runs = x.1;
  phase = is.phase;
  place = is.place;
  number = is.number;
  company = is.company;
})
shows_runs p c s is (inr off) = inr off

shows_frames : (n : ℕ) (p : P) (s : Shown) → Shows p s → Shows (record p { runs = abstracted.advanced known n p.runs }) s
shows_frames n p s (inl is) = shows_runs p (abstracted.advanced known n p.runs) s is (advanced_by n s.seen p.runs (inl (is.frame, is.runs)))
shows_frames n p s (inr off) = inr (ap (λ (c : C). is_off (client_mark c)) (off_advanced n p.runs off) ∙ off)

run_shows : (login : Login) (n : ℕ) (p : P) (s : Shown) → Shows p s → Shows (stepped scratch login p (Run n)) s
run_shows login n p s is =
    let c = abstracted.advanced known n p.runs in
    let q : P = record p { runs = c } in
    let due = nat_lt (client_frame p.runs) (client_frame c) && is_due p.acked (client_permitted c) (client_frame c) in
    shows_cond (is_on scratch login p) (run_as (client_frame p.runs) (client_frame c) (client_permitted c) c p) p s
    (shows_acks due (client_frame c) q s (shows_frames n p s is)) is

say_shows : (login : Login) (company : ℕ) (command : Command) (p : P) (s : Shown) → Shows p s → Shows (stepped scratch login p (Say company
    command)) s
say_shows login company command p s is =
    let said = with_bytes (command_bytes company command) p.saying in
    shows_cond (is_on scratch login p && plays (client_mark p.runs)) (record p { saying = said }) p s (shows_saying p said p.acked s is) is

-- ---- calls

hears_all : (login : Login) (items : List Item) (steps : List Step) (p : P)
    → after scratch login p (map (λ i. Hear i) items ++ steps) ≡ after scratch login (heard_all scratch login items p) steps
hears_all login [] steps p = refl
hears_all login (i ∷ items) steps p = hears_all login items steps (heard scratch login i p)

abbrev sees : Shown → List Item → Shown
sees s items = fold (unless_over anywhere) s items

all_shows : (login : Login) (items : List Item) (p : P) (s : Shown) → Shows p s → Shows (heard_all scratch login items p) (sees s items)
all_shows login [] p s is = is
all_shows login (i ∷ items) p s is = all_shows login items (heard scratch login i p) (unless_over anywhere s i) (hear_shows login i p s is)

sees_both : (s : Shown) (xs ys : List Item) → sees s (xs ++ ys) ≡ sees (sees s xs) ys
sees_both s [] ys = refl
sees_both s (x ∷ xs) ys = sees_both (unless_over anywhere s x) xs ys

calls_show : (login : Login) (before : List ℕ) (calls : List Call) (p : P) → IsBytes (before ++ fed calls) → Shows p (shown anywhere before)
    → Shows (after scratch login p (steps_behind before calls)) (shown anywhere (before ++ fed calls))
calls_show login before [] p fits is = subst (λ (xs : List ℕ). Shows p (shown anywhere xs)) (sym (append-nil before)) is
calls_show login before (Feed piece ∷ calls) p fits is =
    let same = append_assoc before piece (fed calls) in
    let whole : IsBytes ((before ++ piece) ++ fed calls) = subst (λ (xs : List ℕ). IsBytes xs) (sym same) fits in
    let front = bytes_front (before ++ piece) (fed calls) whole in
    let new = new_items before piece in
    let q = heard_all scratch login new p in
    let seen : sees (shown anywhere before) new ≡ shown anywhere (before ++ piece) =
    sym (sees_both nothing_shown (items_in before) new) ∙ ap (λ (is : List Item). sees nothing_shown is) (sym (items_grow before piece
    front)) in
    let next : Shows q (shown anywhere (before ++ piece)) = subst (λ (s : Shown). Shows q s) seen (all_shows login new p (shown anywhere
    before) is) in
    subst (λ (xs : List ℕ). Shows (after scratch login p (steps_behind before (Feed piece ∷ calls))) (shown anywhere xs)) same
    (subst (λ (x : P). Shows x (shown anywhere ((before ++ piece) ++ fed calls))) (sym (hears_all login new (steps_behind (before ++ piece)
    calls) p))
    (calls_show login (before ++ piece) calls q whole next))
calls_show login before (Advance n ∷ calls) p fits is =
    calls_show login before calls (stepped scratch login p (Run n)) fits (run_shows login n p (shown anywhere before) is)
calls_show login before (Submit company command ∷ calls) p fits is =
    calls_show login before calls (stepped scratch login p (Say company command)) fits (say_shows login company command p (shown anywhere
    before) is)
calls_show login before (Take room ∷ calls) p fits is =
    calls_show login before calls (stepped scratch login p (Give room)) fits (shows_saying p (taken room p.saying) p.acked (shown anywhere
    before) is)

nothing_yet : nothing_shown ≡ shown anywhere []
unfolding reading_within
nothing_yet = refl

-- a client over all its calls has what its stream shows, unless it is out of step
pub client_shows : (login : Login) (calls : List Call) → IsBytes (fed calls) → Shows (client login calls) (shown anywhere (fed calls))
client_shows login calls fits =
    calls_show login [] calls (joined scratch login) fits (subst (λ (s : Shown). Shows (joined scratch login) s) nothing_yet (inl (record {
      frame = 0;
      runs = refl;
      phase = refl;
      place = λ on. refl;
      number = refl;
      company = refl;
    })))

shown_by : (p : P) (s : Shown) → Shows p s → is_off (client_mark p.runs) ≡ false → IsShown p s
shown_by p s (inl is) steady = is
shown_by p s (inr off) steady = absurd (false≢true (sym steady ∙ off))

pub client_shown : (login : Login) (calls : List Call) → IsBytes (fed calls) → is_off (client_mark (client login calls).runs) ≡ false
    → IsShown (client login calls) (shown anywhere (fed calls))
client_shown login calls fits steady = shown_by (client login calls) (shown anywhere (fed calls)) (client_shows login calls fits) steady
