-- The end of a connection at once: which attempts go with it, and who is told.
use Rattle.std.proofs.Common.{◌≡◌, ℕ, Bool, true, false, not, ◌&&◌, ◌||◌, cond, List, [], ◌∷◌, ◌++◌, map, Option, Some, None, refl, sym, ap}
use Rattle.std.proofs.Common.{ap₂, ◌∙◌, append_assoc}
use Rattle.std.specs.Prelude.{eqb, filter, find, is_some}
use Rattle.std.specs.Str.{bytes_eq}
use Rattle.std.specs.Ordering.{nat_cmp, eq_by_cmp}
use Rattle.std.specs.List.{AllByRecursion, IsDistinct}
use Rattle.std.specs.Map.{keys_of}
use Rattle.std.proofs.lemmas.Bool.{true≢false, eqb-true}
use Rattle.std.proofs.lemmas.List.{append-nil}
use Rattle.std.proofs.lemmas.List.Elements.{filter-append}
use Rattle.std.proofs.lemmas.Cmp.{nat_cmp_total, eq_by_cmp_equiv}
use Rattle.std.proofs.lemmas.Map.Keys.{IsDistinct-tail}
use Rattle.std.proofs.lemmas.Slice.Eq.{bytes_eq-Decides}
use Rattle.tt_coord.specs.declared.coord.CoordMsg.TheVariants.{GcConnectFailed}
use Rattle.tt_attempts.specs.Attempts.{stepped, server_gone as attempt_gone}
use Rattle.tt_attempts.specs.declared.attempt.Stage.{Stage}
use Rattle.tt_attempts.specs.declared.attempt.Stage.TheVariants.{Fresh, TryingDirect, AwaitingStun, TryingStun, TryingTurn, Over}
use Rattle.tt_attempts.specs.declared.attempt.Heard.{Heard}
use Rattle.tt_attempts.specs.declared.attempt.Heard.TheVariants.{Connected, ServerGone}
use Rattle.tt_gc_table.specs.declared.setup.GcSetup.{GcSetup}
use Rattle.tt_gc_table.specs.Table.{Table, Connection, Meeting, is_for, is_on, is_servers, is_live, meeting_of}
use Rattle.tt_gc_table.specs.Table.{without_server}
use Rattle.tt_gc_table.specs.Deed.{Deed, Step, each, given, tells}
use Rattle.tt_gc_table.specs.Meetings.{hears_it, is_heard, tells_word}
use Rattle.tt_gc_table.specs.Ending.{goes, client_gone, server_gone, leaves}
use Rattle.tt_gc_table.specs.Told.{bytes_to, copies, spelled}
use Rattle.tt_gc_table.specs.OpenAttempts.{meetings_of, IsNumbered, Distinct}
use Rattle.tt_gc_table.specs.Parts.{is_lost, without_connection, without_meetings_of}
use Rattle.tt_gc_table.specs.Hearing.{told_each}
use Rattle.tt_gc_table.proofs.Keyed.{none_found, behind}
use Rattle.tt_gc_table.proofs.Numbers.{one_apart, within}
use Rattle.tt_gc_table.proofs.TellsLaws.{bytes_joined}
use Rattle.tt_gc_table.proofs.HeardLaws.{heard_told, over_table, word_told}
use Rattle.tt_gc_table.proofs.Finding.{find_filter_other}

-- ---- lists

pub none_left : {A : Type 0} (p : A → Bool) (xs : List A) → find p xs ≡ None → filter (λ x. not (p x)) xs ≡ xs
none_left p [] none = refl
none_left {A = A} p (x ∷ xs) none = by (p x) none (none_left p xs)
  where
    by : (b : Bool) → cond b (Some x) (find p xs) ≡ None → (find p xs ≡ None → filter (λ x. not (p x)) xs ≡ xs)
        → cond (not b) (x ∷ filter (λ x. not (p x)) xs) (filter (λ x. not (p x)) xs) ≡ x ∷ xs
    by true is rest = absurd (true≢false (ap is_some is))
    by false is rest = ap (λ (l : List A). x ∷ l) (rest is)

find_past : {A : Type 0} (p : A → Bool) (xs ys : List A) → find p xs ≡ None → find p (xs ++ ys) ≡ find p ys
find_past p [] ys none = refl
find_past {A = A} p (x ∷ xs) ys none = by (p x) none (find_past p xs ys)
  where
    by : (b : Bool) → cond b (Some x) (find p xs) ≡ None → (find p xs ≡ None → find p (xs ++ ys) ≡ find p ys)
        → cond b (Some x) (find p (xs ++ ys)) ≡ find p ys
    by true is rest = absurd (true≢false (ap is_some is))
    by false is rest = rest is

filter_twice : {A : Type 0} (p q : A → Bool) (xs : List A)
    → filter (λ x. not (q x)) (filter (λ x. not (p x)) xs) ≡ filter (λ x. not (q x || p x)) xs
filter_twice p q [] = refl
filter_twice {A = A} p q (x ∷ xs) = by (p x) (q x) refl (filter_twice p q xs)
  where
    left : List A
    left = filter (λ x. not (p x)) xs

    both : List A
    both = filter (λ x. not (q x || p x)) xs

    by : (a b : Bool) → q x ≡ b → filter (λ x. not (q x)) left ≡ both
        → filter (λ x. not (q x)) (cond (not a) (x ∷ left) left) ≡ cond (not (b || a)) (x ∷ both) both
    by true true is rest = rest
    by true false is rest = rest
    by false true is rest = ap (λ (b : Bool). cond (not b) (x ∷ filter (λ x. not (q x)) left) (filter (λ x. not (q x)) left)) is ∙ rest
    by false false is rest = ap (λ (b : Bool). cond (not b) (x ∷ filter (λ x. not (q x)) left) (filter (λ x. not (q x)) left)) is
        ∙ ap (λ (l : List A). x ∷ l) rest

-- ---- tokens

same_bytes : (xs : List ℕ) → bytes_eq xs xs ≡ true
same_bytes xs = (bytes_eq-Decides xs xs).1 refl

other_way : (xs ys : List ℕ) → bytes_eq xs ys ≡ false → bytes_eq ys xs ≡ false
other_way xs ys differ = by (bytes_eq ys xs) refl
  where
    by : (b : Bool) → bytes_eq ys xs ≡ b → b ≡ false
    by true is = absurd (true≢false (sym (same_bytes xs) ∙ ap (bytes_eq xs) (sym ((bytes_eq-Decides ys xs).0 is)) ∙ differ))
    by false is = refl

pub distinct_of : (es : List (ℕ × Meeting)) → IsNumbered es → IsDistinct (eq_by_cmp nat_cmp) (keys_of es) → Distinct (meetings_of es)
distinct_of [] numbered apart = tt
distinct_of (e ∷ es) numbered apart = (
  none_found (λ (e : ℕ × Meeting). e.1) (eq_by_cmp nat_cmp e.0) (is_for e.1.token) es (within e.1.token e.0 numbered.0.small
      numbered.0.digits es numbered.1) (behind (eq_by_cmp nat_cmp e.0) e es ((eq_by_cmp_equiv nat_cmp_total).refl e.0)
      (one_apart e.0 (e ∷ es) apart)),
  distinct_of es numbered.1 (IsDistinct-tail (eq_by_cmp nat_cmp) e.0 (keys_of es) apart),
)

-- none of these has the token of one of those
abbrev NoneHas : List Meeting → List Meeting → Type 0
NoneHas front rest = AllByRecursion (λ (m : Meeting). find (is_for m.token) front ≡ None) rest

-- none before them has a token that one behind has
others_none : (m : Meeting) (front ms : List Meeting) → NoneHas front ms → find (is_for m.token) ms ≡ None → NoneHas (front ++ m ∷ []) ms
others_none m front [] none apart = tt
others_none m front (x ∷ xs) none apart = by (is_for m.token x) refl apart (λ rest. others_none m front xs none.1 rest)
  where
    by : (b : Bool) → is_for m.token x ≡ b → cond b (Some x) (find (is_for m.token) xs) ≡ None
        → (find (is_for m.token) xs ≡ None → NoneHas (front ++ m ∷ []) xs) → NoneHas (front ++ m ∷ []) (x ∷ xs)
    by true at is rest = absurd (true≢false (ap is_some is))
    by false at is rest = (
      find_past (is_for x.token) front (m ∷ []) none.0
          ∙ ap (λ (b : Bool). cond {A = Option Meeting} b (Some m) None) (other_way m.token x.token at),
      rest is,
    )

-- those among the rest that p chooses hear something by which each is over
record Closed (s : GcSetup) (h : Heard) (p : Meeting → Bool) (t : Table) (front rest : List Meeting) : Type 0 where
  pub table : (each (map (λ (m : Meeting). m.token) (filter p rest)) (is_heard s h) (record t { meetings = front ++ rest })).table
      ≡ record t { meetings = front ++ filter (λ m. not (p m)) rest }
  pub told : (c : ℕ)
      → bytes_to c (each (map (λ (m : Meeting). m.token) (filter p rest)) (is_heard s h) (record t { meetings = front ++ rest })).told
      ≡ told_each s h t c (filter p rest)

-- the first one hears it
record First (s : GcSetup) (h : Heard) (t : Table) (front : List Meeting) (m : Meeting) (ms : List Meeting) : Type 0 where
  pub found : meeting_of (record t { meetings = front ++ m ∷ ms }) m.token ≡ Some m
  pub table : (is_heard s h m.token (record t { meetings = front ++ m ∷ ms })).table ≡ record t { meetings = front ++ ms }
  pub told : (c : ℕ) → bytes_to c (is_heard s h m.token (record t { meetings = front ++ m ∷ ms })).told ≡ bytes_to c (hears_it s h m t).told

is_found : (t : Table) (front : List Meeting) (m : Meeting) (ms : List Meeting) → find (is_for m.token) front ≡ None
    → meeting_of (record t { meetings = front ++ m ∷ ms }) m.token ≡ Some m
is_found t front m ms none =
    find_past (is_for m.token) front (m ∷ ms) none
    ∙ ap (λ (b : Bool). cond b (Some m) (find (is_for m.token) ms)) (same_bytes m.token)

is_closed : (m : Meeting) (front ms : List Meeting) → find (is_for m.token) front ≡ None → find (is_for m.token) ms ≡ None
    → filter (λ x. not (is_for m.token x)) (front ++ m ∷ ms) ≡ front ++ ms
is_closed m front ms none apart =
    let p : Meeting → Bool = λ x. not (is_for m.token x) in
    filter-append p front (m ∷ ms)
    ∙ ap₂ (λ (x y : List Meeting). x ++ y) (none_left (is_for m.token) front none)
    (ap (λ (b : Bool). cond (not b) (m ∷ filter p ms) (filter p ms)) (same_bytes m.token) ∙ none_left (is_for m.token) ms apart)

first_of : (s : GcSetup) (h : Heard) (t : Table) (front : List Meeting) (m : Meeting) (ms : List Meeting)
    → (stepped m.state.ways m.state.stage h).stage ≡ Over
    → find (is_for m.token) front ≡ None → find (is_for m.token) ms ≡ None → First s h t front m ms
first_of s h t front m ms over none apart =
    let u : Table = record t { meetings = front ++ m ∷ ms } in
    let here : meeting_of u m.token ≡ Some m = is_found t front m ms none in
    record {
      found = here;
      table = ap (λ (o : Option Meeting). (given o (hears_it s h) u).table) here
          ∙ sym (over_table s h m u m.token Over here (sym over) refl)
          ∙ ap (λ (xs : List Meeting). record t { meetings = xs }) (is_closed m front ms none apart);
      told = λ c. ap (λ (o : Option Meeting). bytes_to c (given o (hears_it s h) u).told) here ∙ heard_told c s h m u
          ∙ word_told c s (stepped m.state.ways m.state.stage h).told m t (front ++ m ∷ ms) ∙ sym (heard_told c s h m t);
    }

closed_of : (s : GcSetup) (h : Heard) (p : Meeting → Bool) → ((m : Meeting) → (stepped m.state.ways m.state.stage h).stage ≡ Over)
    → (t : Table) (front rest : List Meeting) → NoneHas front rest → Distinct rest → Closed s h p t front rest
closed_of s h p over t front [] none apart = record { table = refl; told = λ c. refl }
closed_of s h p over t front (m ∷ ms) none apart =
    let r = by (p m) (closed_of s h p over t front ms none.1 apart.1)
    (closed_of s h p over t (front ++ m ∷ []) ms (others_none m front ms none.1 apart.0) apart.1) in
    record { table = r.0; told = r.1 }
  where
    f : First s h t front m ms
    f = first_of s h t front m ms (over m) none.0 apart.0

    tokens : List Meeting → List (List ℕ)
    tokens xs = map (λ (m : Meeting). m.token) xs

    left : List Meeting
    left = filter (λ m. not (p m)) ms

    u : Table
    u = record t { meetings = front ++ m ∷ ms }

    moved : front ++ m ∷ ms ≡ (front ++ m ∷ []) ++ ms
    moved = sym (append_assoc front (m ∷ []) ms)

    by : (b : Bool) → Closed s h p t front ms → Closed s h p t (front ++ m ∷ []) ms
        → (((each (map (λ (m : Meeting). m.token) (cond b (m ∷ filter p ms) (filter p ms))) (is_heard s h) u).table
        ≡ record t { meetings = front ++ cond (not b) (m ∷ left) left })
        × ((c : ℕ) → bytes_to c (each (map (λ (m : Meeting). m.token) (cond b (m ∷ filter p ms) (filter p ms))) (is_heard s h) u).told
        ≡ told_each s h t c (cond b (m ∷ filter p ms) (filter p ms))))
    by true one two = (
      ap (λ (v : Table). (each (map (λ (m : Meeting). m.token) (filter p ms)) (is_heard s h) v).table) f.table ∙ one.table,
      λ c. bytes_joined c (is_heard s h m.token u).told (each (map (λ (m : Meeting). m.token) (filter p ms)) (is_heard s h)
          (is_heard s h m.token u).table).told
          ∙ ap₂ (λ (x y : List ℕ). x ++ y) (f.told c)
          (ap (λ (v : Table). bytes_to c (each (map (λ (m : Meeting). m.token) (filter p ms)) (is_heard s h) v).told) f.table ∙ one.told c),
    )
    by false one two = (
      ap (λ (xs : List Meeting). (each (map (λ (m : Meeting). m.token) (filter p ms)) (is_heard s h)
          (record t { meetings = xs })).table) moved
          ∙ two.table
          ∙ ap (λ (xs : List Meeting). record t { meetings = xs }) (append_assoc front (m ∷ []) left),
      λ c. ap (λ (xs : List Meeting). bytes_to c (each (map (λ (m : Meeting). m.token) (filter p ms)) (is_heard s h)
          (record t { meetings = xs })).told) moved ∙ two.told c,
    )

no_front : (ms : List Meeting) → NoneHas [] ms
no_front [] = tt
no_front (m ∷ ms) = (refl, no_front ms)

-- ---- who is left

still_none : (m : Meeting) (q : Meeting → Bool) (ms : List Meeting) → find (is_for m.token) ms ≡ None
    → find (is_for m.token) (filter q ms) ≡ None
still_none m q [] none = refl
still_none m q (x ∷ xs) none = by (is_for m.token x) (q x) refl none (still_none m q xs)
  where
    rest : List Meeting
    rest = filter q xs

    by : (a b : Bool) → is_for m.token x ≡ a → cond a (Some x) (find (is_for m.token) xs) ≡ None
        → (find (is_for m.token) xs ≡ None → find (is_for m.token) rest ≡ None) → find (is_for m.token) (cond b (x ∷ rest) rest) ≡ None
    by true b at is more = absurd (true≢false (ap is_some is))
    by false true at is more = ap (λ (a : Bool). cond a (Some x) (find (is_for m.token) rest)) at ∙ more is
    by false false at is more = more is

distinct_filter : (q : Meeting → Bool) (ms : List Meeting) → Distinct ms → Distinct (filter q ms)
distinct_filter q [] apart = tt
distinct_filter q (m ∷ ms) apart = by (q m) (distinct_filter q ms apart.1)
  where
    rest : List Meeting
    rest = filter q ms

    by : (b : Bool) → Distinct rest → Distinct (cond b (m ∷ rest) rest)
    by true more = (still_none m q ms apart.0, more)
    by false more = more

-- ---- the end of a connection

ends_all : (m : Meeting) → (stepped m.state.ways m.state.stage ServerGone).stage ≡ Over
ends_all m = by m.state.stage
  where
    by : (stage : Stage) → (attempt_gone stage).stage ≡ Over
    by Over = refl
    by Fresh = refl
    by TryingDirect = refl
    by (AwaitingStun server client) = refl
    by TryingStun = refl
    by TryingTurn = refl

abbrev asks : ℕ → Meeting → Bool
asks conn m = eqb m.client.conn conn

abbrev serves : ℕ → Meeting → Bool
serves conn m = eqb m.server.conn conn

-- the tables on the way: it is gone; so is what it asked for; so is its server
abbrev one : ℕ → Table → Table
one conn t = record t { connections = filter (λ c. not (is_on conn c)) t.connections }

abbrev two : ℕ → Table → Table
two conn t = record (one conn t) { meetings = filter (λ m. not (asks conn m)) t.meetings }

abbrev three : ℕ → Table → Table
three conn t = record (two conn t) { servers = filter (λ v. not (is_servers conn v)) t.servers }

first_closed : (s : GcSetup) (conn : ℕ) (t : Table) → Distinct t.meetings → Closed s Connected (asks conn) (one conn t) [] t.meetings
first_closed s conn t apart = closed_of s Connected (asks conn) (λ m. refl) (one conn t) [] t.meetings (no_front t.meetings) apart

next_closed : (s : GcSetup) (conn : ℕ) (t : Table) → Distinct t.meetings
    → Closed s ServerGone (serves conn) (three conn t) [] (filter (λ m. not (asks conn m)) t.meetings)
next_closed s conn t apart =
    let left : List Meeting = filter (λ m. not (asks conn m)) t.meetings in
    closed_of s ServerGone (serves conn) ends_all (three conn t) [] left (no_front left)
    (distinct_filter (λ m. not (asks conn m)) t.meetings apart)

pub leaves_table : (s : GcSetup) (conn : ℕ) (t : Table) → Distinct t.meetings
    → without_meetings_of conn (without_connection conn t) ≡ (leaves s conn t).table
leaves_table s conn t apart =
    let a = first_closed s conn t apart in
    let b = next_closed s conn t apart in
    sym (ap (λ (u : Table). (server_gone s conn (without_server conn u)).table) a.table ∙ b.table
    ∙ ap (λ (ms : List Meeting). record (three conn t) { meetings = ms }) (filter_twice (asks conn) (serves conn) t.meetings))

-- ---- who is told

nothing_told : (s : GcSetup) (t : Table) (c : ℕ) (ms : List Meeting) → told_each s Connected t c ms ≡ []
nothing_told s t c [] = refl
nothing_told s t c (m ∷ ms) = ap₂ (λ (x y : List ℕ). x ++ y) (heard_told c s Connected m t) (nothing_told s t c ms)

no_copies : (c conn : ℕ) → copies c (conn ∷ []) [] ++ [] ≡ []
no_copies c conn = by (eqb conn c)
  where
    by : (b : Bool) → cond {A = List ℕ} b ([] ++ []) [] ++ [] ≡ []
    by true = refl
    by false = refl

-- another connection is as live as before
other_live : (t : Table) (conn x : ℕ) → eqb x conn ≡ false → is_live (three conn t) x ≡ is_live t x
other_live t conn x other =
    ap (λ (o : Option Connection). not t.over && is_some o) (find_filter_other (is_on x) (is_on conn) (λ y at. not_both y at) t.connections)
  where
    not_both : (y : Connection) → is_on conn y ≡ true → is_on x y ≡ false
    not_both y at = apart (is_on x y) refl
      where
        apart : (b : Bool) → is_on x y ≡ b → b ≡ false
        apart true is = absurd (true≢false (sym (ap (λ (n : ℕ). eqb n conn) (sym (eqb-true y.conn x is)) ∙ at) ∙ other))
        apart false is = refl

lost_word : (c : ℕ) (s : GcSetup) (conn : ℕ) (t : Table) (m : Meeting) → asks conn m ≡ false
    → bytes_to c (hears_it s ServerGone m (three conn t)).told ≡ bytes_to c (hears_it s ServerGone m t).told
lost_word c s conn t m other =
    heard_told c s ServerGone m (three conn t) ∙ by m.state.stage ∙ sym (heard_told c s ServerGone m t)
  where
    live : is_live (three conn t) m.client.conn ≡ is_live t m.client.conn
    live = other_live t conn m.client.conn other

    failed : bytes_to c (tells (m.client.conn ∷ []) (GcConnectFailed m.token) (three conn t)).told
        ≡ bytes_to c (tells (m.client.conn ∷ []) (GcConnectFailed m.token) t).told
    failed = ap (λ (b : Bool). copies c (cond b (m.client.conn ∷ []) []) (spelled (GcConnectFailed m.token)) ++ []) live

    by : (stage : Stage) → bytes_to c (tells_word s (attempt_gone stage).told m (three conn t)).told
        ≡ bytes_to c (tells_word s (attempt_gone stage).told m t).told
    by Over = refl
    by Fresh = failed
    by TryingDirect = failed
    by (AwaitingStun server client) = failed
    by TryingStun = failed
    by TryingTurn = failed

lost_told : (c : ℕ) (s : GcSetup) (conn : ℕ) (t : Table) (ms : List Meeting)
    → told_each s ServerGone (three conn t) c (filter (serves conn) (filter (λ m. not (asks conn m)) ms))
    ≡ told_each s ServerGone t c (filter (is_lost conn) ms)
lost_told c s conn t [] = refl
lost_told c s conn t (m ∷ ms) = by (asks conn m) (serves conn m) refl refl (lost_told c s conn t ms)
  where
    left : List Meeting
    left = filter (λ m. not (asks conn m)) ms

    those : List Meeting
    those = filter (is_lost conn) ms

    by : (a b : Bool) → asks conn m ≡ a → serves conn m ≡ b
        → told_each s ServerGone (three conn t) c (filter (serves conn) left) ≡ told_each s ServerGone t c those
        → told_each s ServerGone (three conn t) c (filter (serves conn) (cond (not a) (m ∷ left) left))
        ≡ told_each s ServerGone t c (cond (b && not a) (m ∷ those) those)
    by true true at is rest = rest
    by true false at is rest = rest
    by false true at is rest =
        ap (λ (b : Bool). told_each s ServerGone (three conn t) c (cond b (m ∷ filter (serves conn) left) (filter (serves conn) left))) is
        ∙ ap₂ (λ (x y : List ℕ). x ++ y) (lost_word c s conn t m at) rest
    by false false at is rest =
        ap (λ (b : Bool). told_each s ServerGone (three conn t) c (cond b (m ∷ filter (serves conn) left) (filter (serves conn) left))) is
        ∙ rest

pub leaves_told : (c : ℕ) (s : GcSetup) (conn : ℕ) (t : Table) → Distinct t.meetings
    → bytes_to c (leaves s conn t).told ≡ told_each s ServerGone t c (filter (is_lost conn) t.meetings)
leaves_told c s conn t apart =
    let a = first_closed s conn t apart in
    let b = next_closed s conn t apart in
    let gone : List Step = (goes conn t).told in
    let d2 : Deed = client_gone s conn (one conn t) in
    let d4 : Deed = server_gone s conn (without_server conn d2.table) in
    bytes_joined c ((gone ++ d2.told) ++ []) d4.told
    ∙ ap₂ (λ (x y : List ℕ). x ++ y)
    (bytes_joined c (gone ++ d2.told) [] ∙ append-nil (bytes_to c (gone ++ d2.told)) ∙ bytes_joined c gone d2.told
    ∙ ap₂ (λ (x y : List ℕ). x ++ y) (no_copies c conn) (a.told c ∙ nothing_told s (one conn t) c (filter (asks conn) t.meetings)))
    (ap (λ (u : Table). bytes_to c (server_gone s conn (without_server conn u)).told) a.table ∙ b.told c ∙ lost_told c s conn t t.meetings)
