-- The tokens that a connection was told are those that it gave back, and then the open one.
use Rattle.std.proofs.Common.{◌≡◌, ◌⊎◌, inl, inr, ℕ, ◌+◌, ◌≤◌, ◌<◌, List, [], ◌∷◌, ◌++◌, refl, ap, ap₂, sym, ◌∙◌, subst, true, false, Bool}
use Rattle.std.proofs.Common.{arith, zero, suc, append-nil, append_assoc}
use Rattle.std.specs.Prelude.{◌==◌, ◌*◌, length, take, drop, nat_lt, nat_le, map, flat_map, filter, cond, not, position}
use Rattle.std.specs.List.{AllByRecursion, list_any}
use Rattle.std.proofs.lemmas.Bool.{eqb-true, eq-eqb}
use Rattle.tt_edge.specs.declared.event.Event.{Event}
use Rattle.tt_game.specs.declared.message.GameMsg.{GameMsg}
use Rattle.tt_game.specs.declared.message.GameMsg.TheVariants.{ClientAck, ServerFrame, ServerJoin, ServerMapData, ServerMapDone}
use Rattle.tt_admin.specs.declared.message.AdminMsg.{AdminMsg}
use Rattle.tt_world.specs.declared.command.Entry.{Entry}
use Rattle.tt_rules.specs.Statuses.{rank}
use Rattle.tt_log.specs.declared.deed.Step.{Step}
use Rattle.tt_log.specs.declared.deed.What.{What}
use Rattle.tt_log.specs.declared.deed.What.TheVariants.{Msg, ToAdmin, MapBegin, MapPieces, Sync, Entries, Stamp, End}
use Rattle.tt_log.specs.Origin.{Origin, above}
use Rattle.tt_log.specs.Member.{Member, new_member, is_in, is_welcomed}
use Rattle.tt_rules.specs.declared.status.Status.TheVariants.{MapWait, Active}
use Rattle.tt_log.specs.Table.{Table, member_of, with_member, without_member, is_on, welcomed, now_in, playing}
use Rattle.tt_log.specs.Deed.{Said, game, admin, Deed, ◌▹◌, where_, tells, tells_what, tells_each}
use Rattle.tt_log.specs.Frames.{fresh_token, opened_token, tells_fresh}
use Rattle.tt_log.specs.Queue.{asks, begins, begins_for, begins_where, waits, moved_up, left_place, leaves_queue}
use Rattle.tt_log.specs.Ending.{Farewell, Quitting, Failing, tells_farewell, leaves}
use Rattle.tt_log.specs.PacketRules.{client_info, told_command, enters, becomes_active, asks_company}
use Rattle.tt_log.specs.Watching.{sees_active}
use Rattle.tt_log.specs.Judged.{founder}
use Rattle.tt_log.specs.Desk.{admin_arrives, admin_leaves, counted_aside, most_admins}
use Rattle.tt_log.specs.Tick.{pieces_of}
use Rattle.tt_log.specs.Reports.{reported}
use Rattle.tt_log.specs.Tellings.{Filling, Telling, telling, filled, said_by}
use Rattle.tt_log.specs.Events.{arrives, counted_in, shut_down, deed}
use Rattle.tt_log.specs.Told.{told_to}
use Rattle.tt_log.specs.Answered.{some_token, open_token, token_of}
use Rattle.tt_log.proofs.Lists.{Among}
use Rattle.tt_log.proofs.Crew.{On, put, put-among, on-found}
use Rattle.tt_log.proofs.Changes.{step, Says, By, May, Asks, Change, wants_password, is_let_in, gets_token, gets_frame, answers, plays}
use Rattle.tt_log.proofs.Changes.{commands, has_name, goes_to, founds, gets_pieces, has_all, turned, turned_in, turned-conn, told_with}
use Rattle.tt_log.proofs.Changes.{IsTalk, IsNews, Move, queues, begins_map, loads, moved, moved-conn}
use Rattle.tt_log.proofs.Walk.{Turns, ahead-of, behind-of, Base, Walk, Doors, Closing, Ticks, Of, running, stamping, MayMove, of-then}
use Rattle.tt_log.proofs.Walk.{of-where, of-some}
use Rattle.tt_log.proofs.Walk.{of-deed}
use Rattle.tt_log.proofs.Stamping.{among-put, among-filter, among-drawn, among-last}

-- ---- the tokens that steps tell a connection

abbrev pub what_tokens : What → List ℕ
what_tokens (Msg m) = token_of (game m)
what_tokens other = []

abbrev pub heard_if : Bool → List ℕ → List ℕ
heard_if true tokens = tokens
heard_if false tokens = []

abbrev pub step_tokens : ℕ → List Step → List ℕ
step_tokens c [] = []
step_tokens c (s ∷ steps) = heard_if (list_any (λ x. x == c) s.to) (what_tokens s.what) ++ step_tokens c steps

steps-append : (c : ℕ) (xs ys : List Step) → step_tokens c (xs ++ ys) ≡ step_tokens c xs ++ step_tokens c ys
steps-append c [] ys = refl
steps-append c (s ∷ xs) ys =
    let front : List ℕ = heard_if (list_any (λ x. x == c) s.to) (what_tokens s.what) in
    ap (λ (ks : List ℕ). front ++ ks) (steps-append c xs ys) ∙ sym (append_assoc front (step_tokens c xs) (step_tokens c ys))

-- steps without any token
abbrev IsMute : Step → Type 0
IsMute s = what_tokens s.what ≡ []

heard-nothing : (b : Bool) → heard_if b [] ≡ []
heard-nothing true = refl
heard-nothing false = refl

mute-steps : (c : ℕ) (steps : List Step) → AllByRecursion IsMute steps → step_tokens c steps ≡ []
mute-steps c [] a = refl
mute-steps c (s ∷ steps) a = ap₂ (λ (ks ls : List ℕ). heard_if (list_any (λ x. x == c) s.to) ks ++ ls) a.0 (mute-steps c steps a.1)
    ∙ ap (λ (ks : List ℕ). ks ++ []) (heard-nothing (list_any (λ x. x == c) s.to))

-- steps to one connection
steps-elsewhere : (c conn : ℕ) (ws : List What) → (conn == c) ≡ false → step_tokens c (map (λ w. step (conn ∷ []) w) ws) ≡ []
steps-elsewhere c conn [] is = refl
steps-elsewhere c conn (w ∷ ws) is = rw is (steps-elsewhere c conn ws is)

steps-there : (c conn : ℕ) (ws : List What) → (conn == c) ≡ true → step_tokens c (map (λ w. step (conn ∷ []) w) ws)
    ≡ flat_map what_tokens ws
steps-there c conn [] is = refl
steps-there c conn (w ∷ ws) is = rw is (ap (λ (ks : List ℕ). what_tokens w ++ ks) (steps-there c conn ws is))

-- ---- they are what is told

told-tokens : (b : Bool) (c : ℕ) (to : List ℕ) (said : List Said) (more : List Telling) → list_any (λ x. x == c) to ≡ b
    → flat_map token_of (told_to c (map (telling to) said ++ more))
    ≡ heard_if b (flat_map token_of said) ++ flat_map token_of (told_to c more)
told-tokens true c to [] more is = refl
told-tokens true c to (s ∷ said) more is = rw is (ap (λ (ks : List ℕ). token_of s ++ ks) (told-tokens true c to said more is)
    ∙ sym (append_assoc (token_of s) (flat_map token_of said) (flat_map token_of (told_to c more))))
told-tokens false c to [] more is = refl
told-tokens false c to (s ∷ said) more is = rw is (told-tokens false c to said more is)

admin-tokens : (said : List AdminMsg) → flat_map token_of (map admin said) ≡ []
admin-tokens [] = refl
admin-tokens (m ∷ said) = admin-tokens said

piece-tokens : (bs : List (List ℕ)) (b : Bool) → flat_map token_of (map game (map ServerMapData bs ++ cond b [] (ServerMapDone ∷ []))) ≡ []
piece-tokens [] true = refl
piece-tokens [] false = refl
piece-tokens (x ∷ xs) b = piece-tokens xs b

entry-tokens : (es : List Entry) → flat_map token_of (map (λ e. game (told_command e)) es) ≡ []
entry-tokens [] = refl
entry-tokens (e ∷ es) = entry-tokens es

what-told : (w : What) (o : Origin) (f : Filling) → flat_map token_of (said_by o f w) ≡ what_tokens w
what-told (Msg m) o f = append-nil (token_of (game m))
what-told (ToAdmin r) o f = admin-tokens (reported o f r)
what-told MapBegin o f = refl
what-told MapPieces o f = piece-tokens (pieces_of 4 f.left) (nat_lt (4 * 1400) (length f.left))
what-told Sync o f = refl
what-told (Entries frame) o f = entry-tokens (above o frame f.journal)
what-told (Stamp e) o f = refl
what-told End o f = refl

pub steps-told : (c : ℕ) (o : Origin) (f : Filling) (steps : List Step) → flat_map token_of (told_to c (filled o f steps))
    ≡ step_tokens c steps
steps-told c o f [] = refl
steps-told c o f (s ∷ steps) =
    let b : Bool = list_any (λ x. x == c) s.to in
    told-tokens b c s.to (said_by o f s.what) (filled o f steps) refl
    ∙ ap₂ (λ (ks ls : List ℕ). heard_if b ks ++ ls) (what-told s.what o f) (steps-told c o f steps)

-- ---- what a connection was told and gave back so far

pub record Kept (c : ℕ) (told given : List ℕ) (t : Table) : Type 0 where
  -- of its member: the open token is the one that it has not given back, and none is open before the game
  pub live : (m : Member) → On t m → m.conn ≡ c → told ≡ given ++ open_token m
  pub idle : (m : Member) → On t m → m.conn ≡ c → rank m.status ≤ 7 → m.token ≡ 0
  -- it was opened, and before that it was told nothing
  pub under : (m : Member) → On t m → m.conn ≡ c → c ≤ t.openings
  pub early : t.openings < c → (told ≡ []) × (given ≡ [])
  -- whatever has come of it
  pub rest : List ℕ
  pub whole : told ≡ given ++ rest
  pub few : length rest ≤ 1

-- told more by steps, and having given back this much before them and that much behind them
abbrev pub KeepsTo : ℕ → List ℕ → List ℕ → Table → List Step → Table → Type 0
KeepsTo c given back t steps u = (told : List ℕ) → Kept c told given t → Kept c (told ++ step_tokens c steps) back u

abbrev pub Keeps : ℕ → List ℕ → Table → List Step → Table → Type 0
Keeps c given t steps u = KeepsTo c given given t steps u

pub to-then : (c : ℕ) (given back more : List ℕ) (t u v : Table) (xs ys : List Step) → KeepsTo c given back t xs u
    → KeepsTo c back more u ys v → KeepsTo c given more t (xs ++ ys) v
to-then c given back more t u v xs ys a b told h = subst (λ (ks : List ℕ). Kept c ks more v)
    (append_assoc told (step_tokens c xs) (step_tokens c ys) ∙ ap (λ (ks : List ℕ). told ++ ks) (sym (steps-append c xs ys)))
    (b (told ++ step_tokens c xs) (a told h))

-- without any token told
pub mutely : (c : ℕ) (given : List ℕ) (t u : Table) (steps : List Step) → AllByRecursion IsMute steps
    → ((told : List ℕ) → Kept c told given t → Kept c told given u) → Keeps c given t steps u
mutely c given t u steps mute f told h = subst (λ (ks : List ℕ). Kept c ks given u)
    (sym (append-nil told) ∙ ap (λ (ks : List ℕ). told ++ ks) (sym (mute-steps c steps mute))) (f told h)

pub tells-mutely : (c : ℕ) (given : List ℕ) (t : Table) (steps : List Step) → AllByRecursion IsMute steps → Keeps c given t steps t
tells-mutely c given t steps mute = mutely c given t t steps mute (λ told h. h)

pub tells-once : (c : ℕ) (given : List ℕ) (t : Table) (s : Step) → IsMute s → Keeps c given t (s ∷ []) t
tells-once c given t s mute = tells-mutely c given t (s ∷ []) (mute, tt)

-- another table with the same members, behind as many openings or more
pub same-kept : (c : ℕ) (told given : List ℕ) (t u : Table) → u.members ≡ t.members → t.openings ≤ u.openings → Kept c told given t
    → Kept c told given u
same-kept c told given t u is later h = record {
  live = λ m on own. h.live m (before m on) own;
  idle = λ m on own low. h.idle m (before m on) own low;
  under = λ m on own. omega (arith, h.under m (before m on) own, later);
  early = λ above. h.early (omega (arith, above, later));
  rest = h.rest;
  whole = h.whole;
  few = h.few;
}
  where
    before : (m : Member) → On u m → On t m
    before m on = subst (λ (ms : List Member). Among m ms) is on

few-tokens : (token : ℕ) → length (some_token token) ≤ 1
few-tokens token = by (token == 0)
  where
    by : (b : Bool) → length (cond b [] (token ∷ [])) ≤ 1
    by true = omega arith
    by false = omega arith

-- the connection's own member changes
pub put-own : (c : ℕ) (told more given back : List ℕ) (t u : Table) (n m : Member) → u.members ≡ put n t.members
    → u.openings ≡ t.openings → On t m → n.conn ≡ m.conn → m.conn ≡ c → more ≡ back ++ open_token n
    → (rank n.status ≤ 7 → n.token ≡ 0) → Kept c told given t → Kept c more back u
put-own c told more given back t u n m is opened on conn own whole idle h = record {
  live = λ x there at. elim (here x there at) [
    | inl same ↦ whole ∙ ap (λ (y : Member). back ++ open_token y) (sym same)
    | inr other ↦ absurd other
  ];
  idle = λ x there at low. elim (here x there at) [
    | inl same ↦ ap (λ (y : Member). y.token) same ∙ idle (subst (λ (y : Member). rank y.status ≤ 7) same low)
    | inr other ↦ absurd other
  ];
  under = λ x there at. omega (arith, opened, h.under m on own);
  early = λ above. absurd (omega (arith, above, opened, h.under m on own));
  rest = open_token n;
  whole = whole;
  few = few-tokens n.token;
}
  where
    here : (x : Member) → On u x → x.conn ≡ c → (x ≡ n) ⊎ ⊥
    here x there at = elim (among-put n x t.members (subst (λ (ms : List Member). Among x ms) is there)) [
      | inl same ↦ inl same
      | inr other ↦ inr (let yes : (x.conn == n.conn) ≡ true = eq-eqb x.conn n.conn (at ∙ sym own ∙ sym conn) in
          let not_so : (x.conn == n.conn) ≡ false = other.1 in cc)
    ]

-- a member of another connection changes
put-other : (c : ℕ) (told given : List ℕ) (t u : Table) (n m : Member) → u.members ≡ put n t.members → u.openings ≡ t.openings
    → n.conn ≡ m.conn → (m.conn == c) ≡ false → Kept c told given t → Kept c told given u
put-other c told given t u n m is opened conn apart h = record {
  live = λ x there at. h.live x (before x there at) at;
  idle = λ x there at low. h.idle x (before x there at) at low;
  under = λ x there at. omega (arith, opened, h.under x (before x there at) at);
  early = λ above. h.early (omega (arith, above, opened));
  rest = h.rest;
  whole = h.whole;
  few = h.few;
}
  where
    before : (x : Member) → On u x → x.conn ≡ c → On t x
    before x there at = elim (among-put n x t.members (subst (λ (ms : List Member). Among x ms) is there)) [
      | inl same ↦ absurd (let yes : (m.conn == c) ≡ true = eq-eqb m.conn c (sym conn ∙ ap (λ (y : Member). y.conn) (sym same) ∙ at) in cc)
      | inr other ↦ other.0
    ]

-- what a change does to a connection's own member, where it was told these tokens and has given those back
abbrev Suits : List ℕ → List ℕ → List What → Member → Member → Type 0
Suits told given ws m n = told ≡ given ++ open_token m → (rank m.status ≤ 7 → m.token ≡ 0)
    → (told ++ flat_map what_tokens ws ≡ given ++ open_token n) × (rank n.status ≤ 7 → n.token ≡ 0)

put-by : (b : Bool) (c : ℕ) (given : List ℕ) (ws : List What) (t u : Table) (n m : Member) → (m.conn == c) ≡ b
    → u.members ≡ put n t.members → u.openings ≡ t.openings → On t m → n.conn ≡ m.conn
    → ((told : List ℕ) → m.conn ≡ c → Suits told given ws m n) → Keeps c given t (map (λ w. step (m.conn ∷ []) w) ws) u
put-by true c given ws t u n m at is opened on conn suits told h =
    let own : m.conn ≡ c = eqb-true m.conn c at in
    let a = suits told own (h.live m on own) (h.idle m on own) in
    put-own c told (told ++ step_tokens c (map (λ w. step (m.conn ∷ []) w) ws)) given given t u n m is opened on conn own
    (ap (λ (ks : List ℕ). told ++ ks) (steps-there c m.conn ws at) ∙ a.0) a.1 h
put-by false c given ws t u n m at is opened on conn suits told h = subst (λ (ks : List ℕ). Kept c ks given u)
    (sym (append-nil told) ∙ ap (λ (ks : List ℕ). told ++ ks) (sym (steps-elsewhere c m.conn ws at)))
    (put-other c told given t u n m is opened conn at h)

put-kept : (c : ℕ) (given : List ℕ) (ws : List What) (t u : Table) (n m : Member) → u.members ≡ put n t.members
    → u.openings ≡ t.openings → On t m → n.conn ≡ m.conn → ((told : List ℕ) → m.conn ≡ c → Suits told given ws m n)
    → Keeps c given t (map (λ w. step (m.conn ∷ []) w) ws) u
put-kept c given ws t u n m is opened on conn suits = put-by (m.conn == c) c given ws t u n m refl is opened on conn suits

-- ---- the changes of a member

-- an event is no ACK of the connection
abbrev pub IsQuiet : Event → ℕ → Type 0
IsQuiet e c = (m : Member) (frame token : ℕ) → m.conn ≡ c → Says e m (ClientAck frame token) → ⊥

asked-low : (o : Origin) (e : Event) (t : Table) (m : Member) (name : List ℕ) (asked : ℕ) → Asks o e t m name asked → rank m.status ≤ 7
asked-low o e t m name asked (inl before) = omega (arith, before.3)
asked-low o e t m name asked (inr now) = omega (arith, now.0)

-- a fresh token where none is open
fresh-whole : (told given fresh : List ℕ) (m : Member) → m.token ≡ 0 → told ≡ given ++ open_token m
    → told ++ (fresh ++ []) ≡ given ++ fresh
fresh-whole told given fresh m none is = ap₂ (λ (ks ls : List ℕ). ks ++ ls) (is ∙ ap (λ (k : ℕ). given ++ some_token k) none
    ∙ append-nil given) (append-nil fresh)

turned-suits : (k : Change) (c : ℕ) (o : Origin) (e : Event) (t : Table) (m : Member) (told given : List ℕ) → IsQuiet e c → m.conn ≡ c
    → May o e t m k → By e m k → Suits told given (told_with k o t m) m (turned k t m)
turned-suits (wants_password true name asked) c o e t m told given quiet at may by is idle =
    (append-nil told ∙ is, λ low. idle (asked-low o e t m name asked may))
turned-suits (wants_password false name asked) c o e t m told given quiet at may by is idle =
    (append-nil told ∙ is, λ low. idle (asked-low o e t m name asked may))
turned-suits (is_let_in name asked) c o e t m told given quiet at may by is idle =
    (append-nil told ∙ is, λ low. idle (asked-low o e t m name asked may))
turned-suits gets_token c o e t m told given quiet at may by is idle =
    (fresh-whole told given _ m may.1 is, λ low. absurd (omega (arith, low, may.0)))
turned-suits gets_frame c o e t m told given quiet at may by is idle = (append-nil told ∙ is, idle)
turned-suits (answers frame token) c o e t m told given quiet at may by is idle = absurd (quiet m frame token at by)
turned-suits plays c o e t m told given quiet at may by is idle = (append-nil told ∙ is, λ low. absurd (omega (arith, low)))
turned-suits (commands company code number to text command) c o e t m told given quiet at may by is idle = (append-nil told ∙ is, idle)
turned-suits (has_name name) c o e t m told given quiet at may by is idle = (append-nil told ∙ is, idle)
turned-suits (goes_to company digest) c o e t m told given quiet at may by is idle = (append-nil told ∙ is, idle)
turned-suits (founds company) c o e t m told given quiet at may by is idle = (append-nil told ∙ is, idle)
turned-suits (gets_pieces left) c o e t m told given quiet at may by is idle = (append-nil told ∙ is, idle)
turned-suits has_all c o e t m told given quiet at may by is idle = (append-nil told ∙ is, λ low. idle (omega (arith, may)))

-- talk has no token, and news have none
talk-mute : (o : Origin) (e : Event) (t : Table) (m : GameMsg) → IsTalk o e t m → token_of (game m) ≡ []
talk-mute o e t (ServerFrame frame top token) talk = absurd talk
talk-mute o e t other talk = refl

news-mute : (o : Origin) (e : Event) (t : Table) (w : What) → IsNews o e t w → what_tokens w ≡ []
news-mute o e t (Msg m) news = talk-mute o e t m news
news-mute o e t (ToAdmin r) news = refl
news-mute o e t MapBegin news = refl
news-mute o e t MapPieces news = refl
news-mute o e t Sync news = refl
news-mute o e t (Entries frame) news = refl
news-mute o e t (Stamp entry) news = refl
news-mute o e t End news = refl

token-turns : (c : ℕ) (given : List ℕ) (o : Origin) (e : Event) → IsQuiet e c → Turns o e (Keeps c given)
token-turns c given o e quiet k t m on may by = put-kept c given (told_with k o t m) t (turned_in k t m) (turned k t m) m refl refl on
    (turned-conn k t m) (λ told at. turned-suits k c o e t m told given quiet at may by)

pub token-base : (c : ℕ) (given : List ℕ) (o : Origin) (e : Event) → IsQuiet e c → Base o e (Keeps c given)
token-base c given o e quiet = record {
  still = λ t. tells-mutely c given t [] tt;
  joins = λ t u v xs ys a b. to-then c given given given t u v xs ys a b;
  turns = ahead-of o e (Keeps c given) (token-turns c given o e quiet);
  tells_one = λ t m said on talk. tells-once c given t (step (m.conn ∷ []) (Msg said)) (talk-mute o e t said talk);
  tells_some = λ t to w there news. tells-once c given t (step to w) (news-mute o e t w news);
  tells_admins = λ t to r may is. tells-once c given t (step to (ToAdmin r)) refl;
}

-- ---- the queue

moved-suits : (v : Move) (t : Table) (m : Member) (told given : List ℕ) → MayMove v m → Suits told given [] m (moved v t m)
moved-suits queues t m told given may is idle = (append-nil told ∙ is, λ low. idle (omega (arith, may)))
moved-suits begins_map t m told given may is idle = (append-nil told ∙ is, λ low. idle (omega (arith, may)))
moved-suits loads t m told given may is idle = (append-nil told ∙ is, λ low. absurd (omega (arith, low)))

moved-kept : (v : Move) (c : ℕ) (given : List ℕ) (t : Table) (m : Member) → On t m → MayMove v m
    → Keeps c given t [] (with_member (moved v t m) t)
moved-kept v c given t m on may = put-kept c given [] t (with_member (moved v t m) t) (moved v t m) m refl refl on (moved-conn v t m)
    (λ told at. moved-suits v t m told given may)

begun-kept : (c : ℕ) (given : List ℕ) (t : Table) (m : Member) → On t m → rank m.status ≡ 5
    → Keeps c given t (begins_for m t).told (begins_for m t).table
begun-kept c given t m on at = to-then c given given given t t (begins_for m t).table (begins_for m t).told []
    (tells-mutely c given t (begins_for m t).told (refl, tt)) (moved-kept begins_map c given t m on at)

up-kept : (c : ℕ) (given : List ℕ) (o : Origin) (e : Event) → IsQuiet e c → (place : ℕ) (conns : List ℕ) (t : Table)
    → Of o e (Keeps c given) t (moved_up place conns t)
up-kept c given o e quiet place [] t = tells-mutely c given t [] tt
up-kept c given o e quiet zero (conn ∷ conns) t =
    let base = token-base c given o e quiet in
    of-then o e (Keeps c given) base t (begins conn t) (moved_up 1 conns)
    (of-some o e (Keeps c given) base (member_of t conn) begins_where t (λ m is. of-where o e (Keeps c given) base (is_in MapWait m)
    (begins_for m) t (λ waiting. begun-kept c given t m (on-found t conn m is) (eqb-true (rank m.status) 5 waiting))))
    (up-kept c given o e quiet 1 conns (begins conn t).table)
up-kept c given o e quiet (suc place) (conn ∷ conns) t =
    of-then o e (Keeps c given) (token-base c given o e quiet) t (waits conn (suc place) t) (moved_up (suc (suc place)) conns)
    (tells-mutely c given t (waits conn (suc place) t).told (refl, tt)) (up-kept c given o e quiet (suc (suc place)) conns t)

like-kept : (c : ℕ) (given : List ℕ) (t u : Table) → u.members ≡ t.members → t.openings ≤ u.openings → Keeps c given t [] u
like-kept c given t u is later = mutely c given t u [] tt (λ told h. same-kept c told given t u is later h)

queue-kept : (c : ℕ) (given : List ℕ) (o : Origin) (e : Event) → IsQuiet e c → (conn : ℕ) (t : Table)
    → Of o e (Keeps c given) t (leaves_queue conn t)
queue-kept c given o e quiet conn t = of-some o e (Keeps c given) (token-base c given o e quiet) (position (λ x. x == conn) t.queue)
    left_place t (λ place is.
    let behind : List ℕ = drop (place + 1) t.queue in
    let u : Table = record t { queue = take place t.queue ++ behind } in
    let d : Deed = moved_up place behind u in
    to-then c given given given t u d.table [] d.told (like-kept c given t u refl (omega arith)) (up-kept c given o e quiet place behind u))

parts-kept : (c : ℕ) (told given : List ℕ) (t : Table) (conn : ℕ) → Kept c told given t → Kept c told given (without_member conn t)
parts-kept c told given t conn h = record {
  live = λ m on own. h.live m (among-filter (λ n. not (is_on conn n)) m t.members on) own;
  idle = λ m on own low. h.idle m (among-filter (λ n. not (is_on conn n)) m t.members on) own low;
  under = λ m on own. h.under m (among-filter (λ n. not (is_on conn n)) m t.members on) own;
  early = h.early;
  rest = h.rest;
  whole = h.whole;
  few = h.few;
}

farewell-mute : (f : Farewell) (m : Member) (t : Table) → AllByRecursion IsMute (tells_farewell f m t).told
farewell-mute Quitting m t = (refl, (refl, tt))
farewell-mute (Failing code) m t = (refl, (refl, tt))

farewell-kept : (f : Farewell) (c : ℕ) (given : List ℕ) (m : Member) (t : Table)
    → Keeps c given t (tells_farewell f m t).told (tells_farewell f m t).table
farewell-kept Quitting c given m t = tells-mutely c given t (tells_farewell Quitting m t).told (farewell-mute Quitting m t)
farewell-kept (Failing code) c given m t = tells-mutely c given t (tells_farewell (Failing code) m t).told
    (farewell-mute (Failing code) m t)

leaves-kept : (c : ℕ) (given : List ℕ) (o : Origin) (e : Event) → IsQuiet e c → (m : Member) (f : Farewell) (t : Table)
    → Of o e (Keeps c given) t (leaves m f t)
leaves-kept c given o e quiet m f t =
    let base = token-base c given o e quiet in
    let u : Table = without_member m.conn t in
    let a : Deed = tells_what (m.conn ∷ []) End u in
    let b : Deed = a ▹ where_ (is_welcomed m) (tells_farewell f m) in
    let pa : Of o e (Keeps c given) t a = mutely c given t u a.told (refl, tt) (λ told h. parts-kept c told given t m.conn h) in
    let pb : Of o e (Keeps c given) t b = of-then o e (Keeps c given) base t a (where_ (is_welcomed m) (tells_farewell f m)) pa
    (of-where o e (Keeps c given) base (is_welcomed m) (tells_farewell f m) u (λ is. farewell-kept f c given m u)) in
    of-then o e (Keeps c given) base t b (leaves_queue m.conn) pb (queue-kept c given o e quiet m.conn b.table)

asks-kept : (c : ℕ) (given : List ℕ) (o : Origin) (e : Event) → IsQuiet e c → (t : Table) (m : Member) → On t m → rank m.status ≡ 4
    → Of o e (Keeps c given) t (asks m t)
asks-kept c given o e quiet t m on at =
    let u : Table = with_member (now_in MapWait t m) t in
    let v : Table = record u { queue = t.queue ++ m.conn ∷ [] } in
    let d : Deed = moved_up (length t.queue) (m.conn ∷ []) v in
    to-then c given given given t v d.table [] d.told (to-then c given given given t u v [] [] (moved-kept queues c given t m on at)
    (like-kept c given u v refl (omega arith))) (up-kept c given o e quiet (length t.queue) (m.conn ∷ []) v)

-- ---- a member enters the game: no token of it is open yet

infos-mute : (conn : ℕ) (ms : List Member) → AllByRecursion IsMute (map (λ x. step (conn ∷ []) (Msg x)) (map client_info ms))
infos-mute conn [] = tt
infos-mute conn (m ∷ ms) = (refl, infos-mute conn ms)

greets-kept : (c : ℕ) (given : List ℕ) (t : Table) (m : Member) → On t m → rank m.status ≡ 8 → (m.conn ≡ c → m.token ≡ 0)
    → Keeps c given t (tells_fresh m t).told (tells_fresh m t).table
greets-kept c given t m on at none =
    let fresh : ℕ = fresh_token t.tokens in
    put-kept c given (Msg (ServerFrame t.frame t.top fresh) ∷ []) t (tells_fresh m t).table (opened_token fresh t m) m refl refl on refl
    (λ told own is idle. (fresh-whole told given (some_token fresh) m (none own) is, λ low. absurd (omega (arith, low, at))))

enters-kept : (c : ℕ) (given : List ℕ) (o : Origin) (e : Event) → IsQuiet e c → (t : Table) (m : Member) → On t m → rank m.status ≡ 7
    → Of o e (Keeps c given) t (enters m t)
enters-kept c given o e quiet t m on at told h =
    let base = token-base c given o e quiet in
    let n : Member = moved loads t m in
    let u : Table = with_member n t in
    let here : On u n = put-among n m t.members refl on in
    let a : Deed = tells_each m.conn (map client_info (welcomed t)) u in
    let b : Deed = a ▹ tells_what (m.conn ∷ []) (Entries m.map_frame) in
    let d : Deed = b ▹ tells_fresh n in
    let pa : Of o e (Keeps c given) t a = subst (λ (steps : List Step). Keeps c given t steps u) (append-nil a.told)
    (to-then c given given given t t u a.told [] (tells-mutely c given t a.told (infos-mute m.conn (welcomed t)))
    (moved-kept loads c given t m on at)) in
    let pb : Of o e (Keeps c given) t b = of-then o e (Keeps c given) base t a (tells_what (m.conn ∷ []) (Entries m.map_frame)) pa
    (tells-once c given u (step (m.conn ∷ []) (Entries m.map_frame)) refl) in
    let pd : Of o e (Keeps c given) t d = of-then o e (Keeps c given) base t b (tells_fresh n) pb
    (greets-kept c given u n here refl (λ own. h.idle m on own (omega (arith, at)))) in
    of-then o e (Keeps c given) base t d (leaves_queue m.conn) pd (queue-kept c given o e quiet m.conn d.table) told h

-- a member becomes ACTIVE
pub active-kept : (c : ℕ) (given : List ℕ) (o : Origin) (e : Event) → IsQuiet e c → (t : Table) (m : Member) → On t m
    → Of o e (Keeps c given) t (becomes_active m t)
active-kept c given o e quiet t m on =
    let n : Member = now_in Active t m in
    let u : Table = with_member n t in
    let to : List ℕ = filter (λ x. not (x == m.conn)) (playing t) in
    let d : Deed = tells to (ServerJoin m.client) u ▹ sees_active n in
    let turn : Keeps c given t [] u = put-kept c given [] t u n m refl refl on refl
    (λ told own is idle. (append-nil told ∙ is, λ low. absurd (omega (arith, low)))) in
    let pd : Of o e (Keeps c given) t d = to-then c given given given t u u [] d.told turn (tells-mutely c given u d.told
    (refl, (refl, tt))) in
    of-then o e (Keeps c given) (token-base c given o e quiet) t d (where_ (m.asked == founder) (asks_company n)) pd
    (of-where o e (Keeps c given) (token-base c given o e quiet) (m.asked == founder) (asks_company n) u
    (λ is. like-kept c given u (asks_company n u).table refl (omega arith)))

pub token-walk : (c : ℕ) (given : List ℕ) (o : Origin) (e : Event) → IsQuiet e c → Walk o e (Keeps c given)
token-walk c given o e quiet = record {
  base = token-base c given o e quiet;
  locks = λ t m digest on allowed. like-kept c given t _ refl (omega arith);
  orders = λ t k is still. like-kept c given t _ refl (omega arith);
  asks_map = λ t m on at. asks-kept c given o e quiet t m on at;
  enters_game = λ t m on at. enters-kept c given o e quiet t m on at;
  goes = λ t m farewell on is. leaves-kept c given o e quiet m farewell t;
  settles = λ t a b on is. like-kept c given t _ refl (omega arith);
  goes_aside = λ t a on. mutely c given t (admin_leaves a t).table (admin_leaves a t).told (refl, tt)
      (λ told h. same-kept c told given t (admin_leaves a t).table refl (omega arith) h);
}

-- ---- openings, ticks, and the end

arrives-kept : (full : Bool) (c : ℕ) (given : List ℕ) (t : Table)
    → Keeps c given t (arrives full (counted_in t)).told (arrives full (counted_in t)).table
arrives-kept true c given t = mutely c given t (counted_in t) (arrives true (counted_in t)).told (refl, (refl, tt))
    (λ told h. same-kept c told given t (counted_in t) refl (omega arith) h)
arrives-kept false c given t = mutely c given t _ [] tt (λ told h. record {
  live = λ x there at. elim (among-last x n t.members there) [
    | inl old ↦ h.live x old at
    | inr new ↦ let first = h.early (opened x new at) in first.0 ∙ ap (λ (ks : List ℕ). ks ++ []) (sym first.1)
        ∙ ap (λ (y : Member). given ++ open_token y) new
  ];
  idle = λ x there at low. elim (among-last x n t.members there) [
    | inl old ↦ h.idle x old at low
    | inr new ↦ ap (λ (y : Member). y.token) (sym new)
  ];
  under = λ x there at. elim (among-last x n t.members there) [
    | inl old ↦ omega (arith, h.under x old at)
    | inr new ↦ omega (arith, ap (λ (y : Member). y.conn) new, at)
  ];
  early = λ above. h.early (omega (arith, above));
  rest = h.rest;
  whole = h.whole;
  few = h.few;
})
  where
    n : Member
    n = new_member (t.openings + 1) (t.clients + 1) t.frame

    opened : (x : Member) → n ≡ x → x.conn ≡ c → t.openings < c
    opened x new at = omega (arith, ap (λ (y : Member). y.conn) new, at)

aside-kept : (full : Bool) (c : ℕ) (given : List ℕ) (t : Table)
    → Keeps c given t (admin_arrives full (counted_aside t)).told (admin_arrives full (counted_aside t)).table
aside-kept true c given t = mutely c given t (counted_aside t) (admin_arrives true (counted_aside t)).told (refl, (refl, tt))
    (λ told h. same-kept c told given t (counted_aside t) refl (omega arith) h)
aside-kept false c given t = like-kept c given t (admin_arrives false (counted_aside t)).table refl (omega arith)

token-doors : (c : ℕ) (given : List ℕ) (o : Origin) (e : Event) → Doors o e (Keeps c given)
token-doors c given o e = record {
  comes = λ t. arrives-kept (nat_le o.setup.max_clients (length t.members)) c given t;
  comes_aside = λ t. aside-kept (nat_le most_admins (length t.admins)) c given t;
}

drawn-kept : (c : ℕ) (told given : List ℕ) (t : Table) → Kept c told given t → Kept c told given (stamping t)
drawn-kept c told given t h = record {
  live = λ x there at. let a = among-drawn x t.members there in h.live a.0 a.1 (ap (λ (y : Member). y.conn) (sym a.2) ∙ at)
      ∙ ap (λ (y : Member). given ++ open_token y) (sym a.2);
  idle = λ x there at low. let a = among-drawn x t.members there in ap (λ (y : Member). y.token) a.2
      ∙ h.idle a.0 a.1 (ap (λ (y : Member). y.conn) (sym a.2) ∙ at) (subst (λ (y : Member). rank y.status ≤ 7) a.2 low);
  under = λ x there at. let a = among-drawn x t.members there in h.under a.0 a.1 (ap (λ (y : Member). y.conn) (sym a.2) ∙ at);
  early = h.early;
  rest = h.rest;
  whole = h.whole;
  few = h.few;
}

run-kept : (b : Bool) (c : ℕ) (given : List ℕ) (o : Origin) (t : Table) → Keeps c given t [] (running b o t)
run-kept true c given o t = like-kept c given t _ refl (omega arith)
run-kept false c given o t = like-kept c given t _ refl (omega arith)

token-ticks : (c : ℕ) (given : List ℕ) (o : Origin) (e : Event) → IsQuiet e c → Ticks o e (Keeps c given)
token-ticks c given o e quiet = record {
  behind = behind-of o e (Keeps c given) (token-turns c given o e quiet);
  stamping = λ t. mutely c given t _ [] tt (λ told h. drawn-kept c told given t h);
  running = λ t b is. run-kept b c given o t;
}

pub token-closing : (c : ℕ) (given : List ℕ) (o : Origin) (e : Event) → Closing o e (Keeps c given)
token-closing c given o e = record {
  charges = λ t. like-kept c given t _ refl (omega arith);
  closes = λ t. mutely c given t (shut_down t).table (shut_down t).told (refl, (refl, (refl, tt))) (λ told h. record {
    live = λ m on own. absurd on;
    idle = λ m on own low. absurd on;
    under = λ m on own. absurd on;
    early = h.early;
    rest = h.rest;
    whole = h.whole;
    few = h.few;
  });
}

-- no event but an ACK of the connection gives a token back
pub quiet-kept : (c : ℕ) (given : List ℕ) (o : Origin) (e : Event) (t : Table) → IsQuiet e c
    → Of o e (Keeps c given) t (deed o e t)
quiet-kept c given o e t quiet = of-deed o e (Keeps c given) (token-walk c given o e quiet) (token-ticks c given o e quiet)
    (token-doors c given o e) (token-closing c given o e) t
