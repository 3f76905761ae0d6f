-- What holds of each small step, and of two where it holds of both, holds of every packet's rule: one walk through the rules,
-- for every law. The lemmas stand here since the trait's laws rest on them.
use Rattle.std.proofs.Common.{◌≡◌, ℕ, ◌+◌, ◌≤◌, Bool, true, false, not, ◌&&◌, ◌||◌, cond, List, [], ◌∷◌, ◌++◌, map, Option, Some, None}
use Rattle.std.proofs.Common.{refl, sym, ap, ap₂, ◌∙◌, arith, inl, inr}
use Rattle.std.specs.Prelude.{◌⊎◌, count_by, filter, is_some, nat_le, ◌==◌, length}
use Rattle.std.specs.Str.{bytes_eq}
use Rattle.std.proofs.lemmas.Bool.{false≢true}
use Rattle.std.proofs.lemmas.List.Sums.{sum_by-append}
use Rattle.tt_edge.specs.declared.event.Peer.{Peer}
use Rattle.tt_coord.specs.declared.info.Info.{Info}
use Rattle.tt_coord.specs.declared.coord.CoordMsg.{CoordMsg}
use Rattle.tt_coord.specs.declared.coord.CoordMsg.TheVariants.{GcError, ServerRegister, GcRegisterAck, ServerUpdate, ClientListing}
use Rattle.tt_coord.specs.declared.coord.CoordMsg.TheVariants.{GcListing, ClientConnect, GcConnecting, SercliConnectFailed, GcConnectFailed}
use Rattle.tt_coord.specs.declared.coord.CoordMsg.TheVariants.{ClientConnected, GcDirectConnect, GcStunRequest, SercliStunResult}
use Rattle.tt_coord.specs.declared.coord.CoordMsg.TheVariants.{GcStunConnect, GcNewgrfLookup, GcTurnConnect}
use Rattle.tt_coord.specs.declared.stun.StunMsg.{StunMsg}
use Rattle.tt_coord.specs.declared.stun.StunMsg.TheVariants.{SercliStun}
use Rattle.tt_attempts.specs.declared.attempt.Heard.{Heard}
use Rattle.tt_attempts.specs.declared.attempt.Heard.TheVariants.{Failed, StunResult, Connected, ServerGone}
use Rattle.tt_gc_table.specs.declared.setup.GcSetup.{GcSetup}
use Rattle.tt_gc_table.specs.Table.{Table, Connection, Server, Drawn, Meeting, connection_of, server_on, server_by, meeting_of, with_info}
use Rattle.tt_gc_table.specs.Table.{holders, is_servers, server_by, drawn_by, without_server, served_by, asked_by}
use Rattle.tt_gc_table.specs.Deed.{Deed, ◌▹◌, where_, either, given, each, becomes, tells}
use Rattle.tt_gc_table.specs.Codes.{new_token, new_code, new_secret, behind_code}
use Rattle.tt_gc_table.specs.Meetings.{is_heard, new_meeting, begins_it}
use Rattle.tt_gc_table.specs.Ending.{goes, client_gone, server_gone, leaves, ends}
use Rattle.tt_gc_table.specs.PacketRules.{most_servers, most_attempts, registers, registers_new, may_register, may_return, is_known}
use Rattle.tt_gc_table.specs.PacketRules.{is_empty}
use Rattle.tt_gc_table.specs.PacketRules.{on_register, on_update, is_listed, listed_item, tells_server, on_listing, by_code, on_connect}
use Rattle.tt_gc_table.specs.PacketRules.{may_fail}
use Rattle.tt_gc_table.specs.PacketRules.{is_side, on_message, heard}
use Rattle.tt_gc_table.specs.Desk.{shows, on_stun, at_desk}
use Rattle.tt_gc_table.specs.Ways.{word_in}

-- no code has more servers than before, and none was drawn
pub record KeepsCodes (t u : Table) : Type 0 where
  pub fewer : (code : List ℕ) → holders u code ≤ holders t code
  pub drawn : u.drawn ≡ t.drawn

-- a known code that isn't live has one server more
pub record Returns (t u : Table) : Type 0 where
  pub code : List ℕ
  pub free : is_some (server_by t code) ≡ false
  pub known : is_some (drawn_by t code) ≡ true
  pub servers : (c : List ℕ) → holders u c ≡ holders t c + cond (bytes_eq c code) 1 0
  pub drawn : u.drawn ≡ t.drawn

-- a code that is drawn now has one server more
pub record Draws (t u : Table) : Type 0 where
  pub new : Drawn
  pub is_new : new.code ≡ new_code t
  pub servers : (c : List ℕ) → holders u c ≡ holders t c + cond (bytes_eq c new.code) 1 0
  pub drawn : u.drawn ≡ t.drawn ++ new ∷ []

abbrev pub Registers : Table → Table → Type 0
Registers t u = KeepsCodes t u ⊎ (Returns t u ⊎ Draws t u)

-- alike in all but servers, drawn codes and words; and how servers and codes changed
abbrev pub IsLike : Table → Table → Type 0
IsLike t u =
    (u.connections ≡ t.connections) × (u.over ≡ t.over) × (u.meetings ≡ t.meetings) × (u.attempts ≡ t.attempts) × (u.openings ≡ t.openings)
    × Registers t u × (u.cost ≡ t.cost) × (u.ticks ≡ t.ticks)

-- the message tells no way, and no end of an attempt
abbrev pub TellsNoWord : CoordMsg → Type 0
TellsNoWord m = (token : List ℕ) → word_in token m ≡ []

-- of each small step, and of two
pub record IsKept (s : GcSetup) (P : Table → Deed → Type 0) : Type 0 where
  pub plain : (t u : Table) → IsLike t u → P t (becomes u)
  pub tells : (t : Table) (to : List ℕ) (m : CoordMsg) → TellsNoWord m → P t (tells to m t)
  pub goes : (t : Table) (conn : ℕ) → P t (goes conn t)
  pub hears : (t : Table) (h : Heard) (token : List ℕ) → P t (is_heard s h token t)
  pub shows : (t : Table) (peer : Peer) (token : List ℕ) (side : ℕ) → P t (shows peer token side t)
  pub joins : (t : Table) (d : Deed) (rule : Table → Deed) → P t d → P d.table (rule d.table) → P t (d ▹ rule)

-- and of the begin of an attempt
abbrev pub KeptAtBegin : GcSetup → (Table → Deed → Type 0) → Type 0
KeptAtBegin s P = (t : Table) (code : List ℕ) (server : Connection) (v : Server) (client : Connection)
    → P t (begins_it s code (new_meeting s (new_token t) server v client) t)

alike : (t : Table) → IsLike t t
alike t = (refl, refl, refl, refl, refl, inl (record { fewer = λ code. omega arith; drawn = refl }), refl, refl)

count_cons : (p : Server → Bool) (v : Server) (vs : List Server) → count_by p (v ∷ vs) ≡ cond (p v) 1 0 + count_by p vs
count_cons p v vs = omega (arith, sum_by-append (λ (x : Server). cond (p x) 1 0) (v ∷ []) vs)

count_push : (p : Server → Bool) (v : Server) (vs : List Server) → count_by p (vs ++ v ∷ []) ≡ count_by p vs + cond (p v) 1 0
count_push p v vs = omega (arith, sum_by-append (λ (x : Server). cond (p x) 1 0) vs (v ∷ []))

filter_fewer : (p q : Server → Bool) (vs : List Server) → count_by p (filter q vs) ≤ count_by p vs
filter_fewer p q [] = omega arith
filter_fewer p q (v ∷ vs) = by (q v) (filter_fewer p q vs)
  where
    by : (a : Bool) → count_by p (filter q vs) ≤ count_by p vs → count_by p (cond a (v ∷ filter q vs) (filter q vs)) ≤ count_by p (v ∷ vs)
    by true rest = omega (arith, rest, count_cons p v (filter q vs), count_cons p v vs)
    by false rest = omega (arith, rest, count_cons p v vs)

same_code : (code : List ℕ) (info : Info) (v : Server) (a : Bool)
    → bytes_eq code (cond a (record v { info = Some info }) v).code ≡ bytes_eq code v.code
same_code code info v true = refl
same_code code info v false = refl

informed_same : (code : List ℕ) (conn : ℕ) (info : Info) (vs : List Server)
    → count_by (λ (v : Server). bytes_eq code v.code) (map (λ v. cond (is_servers conn v) (record v { info = Some info }) v) vs)
    ≡ count_by (λ (v : Server). bytes_eq code v.code) vs
informed_same code conn info [] = refl
informed_same code conn info (v ∷ vs) =
    let p : Server → Bool = λ (v : Server). bytes_eq code v.code in
    let w : Server = cond (is_servers conn v) (record v { info = Some info }) v in
    count_cons p w (map (λ v. cond (is_servers conn v) (record v { info = Some info }) v) vs)
    ∙ ap₂ (λ (b : Bool) (n : ℕ). cond b 1 0 + n) (same_code code info v (is_servers conn v)) (informed_same code conn info vs)
    ∙ sym (count_cons p v vs)

pub kept_given : {A : Type 0} (s : GcSetup) (P : Table → Deed → Type 0) (k : IsKept s P) (t : Table) (o : Option A) (rule : A → Table
    → Deed) → ((x : A) → P t (rule x t)) → P t (given o rule t)
kept_given s P k t None rule f = k.plain t t (alike t)
kept_given s P k t (Some x) rule f = f x

pub kept_where : (s : GcSetup) (P : Table → Deed → Type 0) (k : IsKept s P) (t : Table) (b : Bool) (rule : Table → Deed) → P t (rule t)
    → P t (where_ b rule t)
kept_where s P k t true rule f = f
kept_where s P k t false rule f = k.plain t t (alike t)

pub kept_either : (P : Table → Deed → Type 0) (t : Table) (b : Bool) (rule other : Table → Deed) → P t (rule t) → P t (other t)
    → P t (either b rule other t)
kept_either P t true rule other f g = f
kept_either P t false rule other f g = g

pub kept_each : {A : Type 0} (s : GcSetup) (P : Table → Deed → Type 0) (k : IsKept s P) (t : Table) (xs : List A) (rule : A → Table → Deed)
    → ((x : A) (u : Table) → P u (rule x u)) → P t (each xs rule t)
kept_each s P k t [] rule f = k.plain t t (alike t)
kept_each s P k t (x ∷ xs) rule f = k.joins t (rule x t) (each xs rule) (f x t) (kept_each s P k (rule x t).table xs rule f)

-- ---- ends

pub kept_leaves : (s : GcSetup) (P : Table → Deed → Type 0) (k : IsKept s P) (t : Table) (conn : ℕ) → P t (leaves s conn t)
kept_leaves s P k t conn =
    let d1 : Deed = goes conn t in
    let d2 : Deed = d1 ▹ client_gone s conn in
    let d3 : Deed = d2 ▹ (λ t. becomes (without_server conn t)) in
    let p1 : P t d1 = k.goes t conn in
    let p2 : P t d2 = k.joins t d1 (client_gone s conn) p1 (kept_each s P k d1.table (asked_by d1.table conn) (is_heard s Connected)
    (λ token u. k.hears u Connected token)) in
    let p3 : P t d3 = k.joins t d2 (λ t. becomes (without_server conn t)) p2 (k.plain d2.table (without_server conn d2.table) (
      refl,
      refl,
      refl,
      refl,
      refl,
      inl (record {
        fewer = λ code. filter_fewer (λ (v : Server). bytes_eq code v.code) (λ v. not (is_servers conn v)) d2.table.servers;
        drawn = refl;
      }),
      refl,
      refl,
    )) in
    k.joins t d3 (server_gone s conn) p3 (kept_each s P k d3.table (served_by d3.table conn) (is_heard s ServerGone)
    (λ token u. k.hears u ServerGone token))

pub kept_ends : (s : GcSetup) (P : Table → Deed → Type 0) (k : IsKept s P) (t : Table) (conn code : ℕ) (detail : List ℕ)
    → P t (ends s conn code detail t)
kept_ends s P k t conn code detail =
    k.joins t (tells (conn ∷ []) (GcError code detail) t) (leaves s conn) (k.tells t (conn ∷ []) (GcError code detail) (λ token. refl))
    (kept_leaves s P k t conn)

-- ---- packets

and_true_left : (a b : Bool) → a && b ≡ true → a ≡ true
and_true_left true b is = refl
and_true_left false b is = is

and_true_right : (a b : Bool) → a && b ≡ true → b ≡ true
and_true_right true b is = is
and_true_right false b is = absurd (false≢true is)

third_true : (a b c : Bool) → a && b && c ≡ true → c ≡ true
third_true true true c is = is
third_true true false c is = absurd (false≢true is)
third_true false b c is = absurd (false≢true is)

not_true : (a : Bool) → not a ≡ true → a ≡ false
not_true true is = sym is
not_true false is = refl

abbrev registered : Table → ℕ → ℕ → ℕ → Drawn → Table
registered u conn kind port d =
    record u { servers = u.servers ++ record { conn = conn; code = d.code; kind = kind; port = port; info = None } ∷ [] }

kept_registers : (s : GcSetup) (P : Table → Deed → Type 0) (k : IsKept s P) (t u : Table) (conn kind port : ℕ) (d : Drawn)
    → IsLike t (registered u conn kind port d) → P t (registers conn kind port d u)
kept_registers s P k t u conn kind port d like =
    let v : Table = registered u conn kind port d in
    k.joins t (becomes v) (tells (conn ∷ []) (GcRegisterAck d.code d.secret 0)) (k.plain t v like) (k.tells v (conn ∷ [])
    (GcRegisterAck d.code d.secret 0) (λ token. refl))

one_more : (t u : Table) (conn kind port : ℕ) (d : Drawn) → u.servers ≡ t.servers → (c : List ℕ)
    → holders (registered u conn kind port d) c ≡ holders t c + cond (bytes_eq c d.code) 1 0
one_more t u conn kind port d same c =
    let p : Server → Bool = λ (v : Server). bytes_eq c v.code in
    let v : Server = record { conn = conn; code = d.code; kind = kind; port = port; info = None } in
    count_push p v u.servers ∙ ap (λ (vs : List Server). count_by p vs + cond (bytes_eq c d.code) 1 0) same

-- a test that is made, and what holds where it is so
kept_test : (P : Table → Deed → Type 0) (t : Table) (b : Bool) (rule other : Table → Deed) → (b ≡ true → P t (rule t)) → P t (other t)
    → P t (either b rule other t)
kept_test P t true rule other f g = f refl
kept_test P t false rule other f g = g

kept_else : (P : Table → Deed → Type 0) (t : Table) (b : Bool) (rule other : Table → Deed) → P t (rule t) → (b ≡ false → P t (other t))
    → P t (either b rule other t)
kept_else P t true rule other f g = f
kept_else P t false rule other f g = g refl

known_some : (secret : List ℕ) (o : Option Drawn) → is_known secret o ≡ true → is_some o ≡ true
known_some secret None is = is
known_some secret (Some d) is = refl

returns_known : (t : Table) (conn kind port : ℕ) (code secret : List ℕ) → may_register t conn kind code secret ≡ true
    → is_empty code ≡ false
    → IsLike t (registered t conn kind port (record { code = code; secret = secret }))
returns_known t conn kind port code secret may some =
    let d : Drawn = record { code = code; secret = secret } in
    let third : is_empty code || may_return t code secret ≡ true =
    third_true (not (is_some (server_on t conn))) (nat_le kind 2) (is_empty code || may_return t code secret) may in
    let may_so : may_return t code secret ≡ true = ap (λ (b : Bool). b || may_return t code secret) (sym some) ∙ third in (
      refl,
      refl,
      refl,
      refl,
      refl,
      inr (inl (record {
        code = code;
        free = not_true (is_some (server_by t code)) (and_true_right (is_known secret (drawn_by t code)) (not (is_some (server_by t code)))
            may_so);
        known = known_some secret (drawn_by t code) (and_true_left (is_known secret (drawn_by t code)) (not (is_some (server_by t code)))
            may_so);
        servers = one_more t t conn kind port d refl;
        drawn = refl;
      })),
      refl,
      refl,
    )

pub kept_register : (s : GcSetup) (P : Table → Deed → Type 0) (k : IsKept s P) (t : Table) (conn kind port : ℕ) (code secret : List ℕ)
    → P t (on_register s conn kind port code secret t)
kept_register s P k t conn kind port code secret =
    let known : Drawn = record { code = code; secret = secret } in
    let new : Drawn = record { code = new_code t; secret = new_secret t } in
    let taken = either (is_empty code) (registers_new conn kind port) (registers conn kind port known) in
    let u : Table = record (behind_code t) { drawn = t.drawn ++ new ∷ [] } in
    kept_either P t (nat_le most_servers (length t.servers)) (ends s conn 0 []) (either (may_register t conn kind code secret) taken
    (ends s conn 1 []))
    (kept_ends s P k t conn 0 [])
    (kept_test P t (may_register t conn kind code secret) taken (ends s conn 1 [])
    (λ may. kept_else P t (is_empty code) (registers_new conn kind port) (registers conn kind port known)
    (kept_registers s P k t u conn kind port new (
      refl,
      refl,
      refl,
      refl,
      refl,
      inr (inr (record { new = new; is_new = refl; servers = one_more t u conn kind port new refl; drawn = refl })),
      refl,
      refl,
    ))
    (λ some. kept_registers s P k t t conn kind port known (returns_known t conn kind port code secret may some)))
    (kept_ends s P k t conn 1 []))

pub kept_update : (s : GcSetup) (P : Table → Deed → Type 0) (k : IsKept s P) (t : Table) (conn : ℕ) (info : Info)
    → P t (on_update s conn info t)
kept_update s P k t conn info =
    kept_either P t (is_some (server_on t conn)) (λ t. becomes (with_info conn info t)) (ends s conn 0 [])
    (k.plain t (with_info conn info t) (
      refl,
      refl,
      refl,
      refl,
      refl,
      inl (record { fewer = λ code. omega (arith, informed_same code conn info t.servers); drawn = refl }),
      refl,
      refl,
    )) (kept_ends s P k t conn 0 [])

kept_server : (s : GcSetup) (P : Table → Deed → Type 0) (k : IsKept s P) (conn : ℕ) (v : Server) (t : Table) → P t (tells_server conn v t)
kept_server s P k conn v t =
    kept_given s P k t v.info (λ info. tells (conn ∷ []) (GcListing (listed_item v.code info ∷ [])))
    (λ info. k.tells t (conn ∷ []) (GcListing (listed_item v.code info ∷ [])) (λ token. refl))

pub kept_listing : (s : GcSetup) (P : Table → Deed → Type 0) (k : IsKept s P) (t : Table) (conn : ℕ) (revision : List ℕ)
    → P t (on_listing conn revision t)
kept_listing s P k t conn revision =
    let d : Deed = each (filter (is_listed revision) t.servers) (tells_server conn) t in
    k.joins t d (tells (conn ∷ []) (GcListing [])) (kept_each s P k t (filter (is_listed revision) t.servers) (tells_server conn)
    (kept_server s P k conn)) (k.tells d.table (conn ∷ []) (GcListing []) (λ token. refl))

kept_by_code : (s : GcSetup) (P : Table → Deed → Type 0) (k : IsKept s P) → KeptAtBegin s P → (t : Table) (c : Connection) (code : List ℕ)
    (o : Option Server) → P t (by_code s c code o t)
kept_by_code s P k begin t c code None = kept_ends s P k t c.conn 2 code
kept_by_code s P k begin t c code (Some v) =
    kept_given s P k t (connection_of t v.conn) (λ (server : Connection). begins_it s code (new_meeting s (new_token t) server v c))
    (λ server. begin t code server v c)

kept_connect : (s : GcSetup) (P : Table → Deed → Type 0) (k : IsKept s P) → KeptAtBegin s P → (t : Table) (c : Connection) (code : List ℕ)
    → P t (on_connect s c code t)
kept_connect s P k begin t c code =
    kept_either P t (nat_le most_attempts (length t.meetings)) (ends s c.conn 0 []) (by_code s c code (server_by t code))
    (kept_ends s P k t c.conn 0 []) (kept_by_code s P k begin t c code (server_by t code))

-- what some attempt hears in a case
pub kept_said : (s : GcSetup) (P : Table → Deed → Type 0) (k : IsKept s P) (t : Table) (token : List ℕ) (h : Heard) (test : Meeting → Bool)
    → P t (given (meeting_of t token) (λ (m : Meeting). where_ (test m) (is_heard s h token)) t)
kept_said s P k t token h test = kept_given s P k t (meeting_of t token) (λ (m : Meeting). where_ (test m) (is_heard s h token))
    (λ m. kept_where s P k t (test m) (is_heard s h token) (k.hears t h token))

pub kept_message : (s : GcSetup) (P : Table → Deed → Type 0) (k : IsKept s P) → KeptAtBegin s P
    → (t : Table) (c : Connection) (m : CoordMsg) → P t (on_message s c m t)
kept_message s P k begin t c (ServerRegister kind port code secret) = kept_register s P k t c.conn kind port code secret
kept_message s P k begin t c (ServerUpdate info) = kept_update s P k t c.conn info
kept_message s P k begin t c (ClientListing revision) = kept_listing s P k t c.conn revision
kept_message s P k begin t c (ClientConnect code) = kept_connect s P k begin t c code
kept_message s P k begin t c (SercliConnectFailed token tracking) = kept_said s P k t token (Failed tracking) (may_fail c.conn tracking)
kept_message s P k begin t c (ClientConnected token) = kept_said s P k t token Connected (λ (m : Meeting). m.client.conn == c.conn)
kept_message s P k begin t c (SercliStunResult token side ok) = kept_said s P k t token (StunResult side ok) (is_side c.conn side)
kept_message s P k begin t c (GcError code detail) = kept_ends s P k t c.conn 0 []
kept_message s P k begin t c (GcRegisterAck code secret way) = kept_ends s P k t c.conn 0 []
kept_message s P k begin t c (GcListing items) = kept_ends s P k t c.conn 0 []
kept_message s P k begin t c (GcConnecting token code) = kept_ends s P k t c.conn 0 []
kept_message s P k begin t c (GcConnectFailed token) = kept_ends s P k t c.conn 0 []
kept_message s P k begin t c (GcDirectConnect token tracking host port) = kept_ends s P k t c.conn 0 []
kept_message s P k begin t c (GcStunRequest token) = kept_ends s P k t c.conn 0 []
kept_message s P k begin t c (GcStunConnect token tracking side host port) = kept_ends s P k t c.conn 0 []
kept_message s P k begin t c (GcNewgrfLookup items) = kept_ends s P k t c.conn 0 []
kept_message s P k begin t c (GcTurnConnect token tracking ticket host) = kept_ends s P k t c.conn 0 []

pub kept_heard : (s : GcSetup) (P : Table → Deed → Type 0) (k : IsKept s P) → KeptAtBegin s P
    → (t : Table) (c : Connection) (m : Option CoordMsg) → P t (heard s c m t)
kept_heard s P k begin t c None = kept_ends s P k t c.conn 0 []
kept_heard s P k begin t c (Some m) = kept_message s P k begin t c m

kept_stun : (s : GcSetup) (P : Table → Deed → Type 0) (k : IsKept s P) (t : Table) (peer : Peer) (m : StunMsg) → P t (on_stun peer m t)
kept_stun s P k t peer (SercliStun token side) = k.shows t peer token side

pub kept_desk : (s : GcSetup) (P : Table → Deed → Type 0) (k : IsKept s P) (t : Table) (c : Connection) (m : Option StunMsg)
    → P t (at_desk c m t)
kept_desk s P k t c m =
    let d : Deed = given m (on_stun c.peer) t in
    k.joins t d (goes c.conn) (kept_given s P k t m (on_stun c.peer) (kept_stun s P k t c.peer)) (k.goes d.table c.conn)
