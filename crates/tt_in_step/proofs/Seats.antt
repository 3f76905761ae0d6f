-- The seats of members: what becomes of a seat where members change, come and go.
use Rattle.std.proofs.Common.{◌≡◌, ℕ, ◌<◌, ◌≤◌, Bool, true, false, cond, List, [], ◌∷◌, ◌++◌, ◌==◌, Option, Some, None, map, refl}
use Rattle.std.proofs.Common.{ap, sym, ◌∙◌, subst, inl, inr, arith}
use Rattle.std.specs.Prelude.{find, filter, not, option_map, is_some, ◌||◌, nat_le}
use Rattle.std.specs.List.{list_any}
use Rattle.std.proofs.lemmas.Bool.{eqb-true, eq-eqb, ne_eqb}
use Rattle.tt_rules.specs.Statuses.{rank}
use Rattle.tt_rules.specs.declared.status.Status.{Status}
use Rattle.tt_rules.specs.declared.status.Status.TheVariants.{Inactive, NewgrfsCheck, AuthGame, AuthCompany, Authorized, MapWait, Map}
use Rattle.tt_rules.specs.declared.status.Status.TheVariants.{DoneMap, PreActive, Active}
use Rattle.tt_log.specs.Member.{Member, is_playing}
use Rattle.tt_log.specs.Table.{is_on}
use Rattle.tt_log.specs.History.{AreRising}
use Rattle.tt_log.proofs.Lists.{Among, NotIn, any-not, all-of-filter}
use Rattle.tt_log.proofs.Crew.{put, others, conns}
use Rattle.tt_log.proofs.Ordered.{rising-not}
use Rattle.tt_in_step.specs.Watched.{Seat, AtDoor, Plays, seat_at, seat_of, seat}

-- c stands in a list
abbrev pub among : ℕ → List ℕ → Bool
among c xs = list_any (λ x. x == c) xs

-- ---- members, one of them changed

put-other-one : (b : Bool) (c : ℕ) (n m : Member) (rest old : Option Seat) → (m.conn == n.conn) ≡ b → (n.conn == c) ≡ false → rest ≡ old
    → cond ((cond b n m).conn == c) (Some (seat_of (cond b n m))) rest ≡ cond (m.conn == c) (Some (seat_of m)) old
put-other-one true c n m rest old is apart same = let e : (m.conn == c) ≡ false = ap (λ (k : ℕ). k == c) (eqb-true m.conn n.conn is)
    ∙ apart in rw (e, apart) same
put-other-one false c n m rest old is apart same = ap (λ (o : Option Seat). cond (m.conn == c) (Some (seat_of m)) o) same

pub put-other : (c : ℕ) (n : Member) (ms : List Member) → (n.conn == c) ≡ false → seat c (put n ms) ≡ seat c ms
put-other c n [] apart = refl
put-other c n (m ∷ ms) apart = put-other-one (m.conn == n.conn) c n m (seat c (put n ms)) (seat c ms) refl apart (put-other c n ms apart)

put-here-one : (b : Bool) (c : ℕ) (n m : Member) (rest old : Option Seat) → (m.conn == n.conn) ≡ b → (n.conn == c) ≡ true
    → (is_some old ≡ true → rest ≡ Some (seat_of n)) → is_some (cond (m.conn == c) (Some (seat_of m)) old) ≡ true
    → cond ((cond b n m).conn == c) (Some (seat_of (cond b n m))) rest ≡ Some (seat_of n)
put-here-one true c n m rest old is own next there = rw own refl
put-here-one false c n m rest old is own next there =
    let e : (m.conn == c) ≡ false = ap (λ (k : ℕ). m.conn == k) (sym (eqb-true n.conn c own)) ∙ is in
    let f : is_some old ≡ true = sym (ap (λ (b : Bool). is_some (cond b (Some (seat_of m)) old)) e) ∙ there in
    ap (λ (b : Bool). cond b (Some (seat_of m)) rest) e ∙ next f

pub put-here : (c : ℕ) (n : Member) (ms : List Member) → (n.conn == c) ≡ true → is_some (seat c ms) ≡ true
    → seat c (put n ms) ≡ Some (seat_of n)
put-here c n [] own there = absurd cc
put-here c n (m ∷ ms) own there = put-here-one (m.conn == n.conn) c n m (seat c (put n ms)) (seat c ms) refl own
    (λ t. put-here c n ms own t) there

-- where the seat of the one that is there is that of the new one, all seats stay
put-same-by : (b : Bool) (c : ℕ) (n : Member) (ms : List Member) → (n.conn == c) ≡ b → seat n.conn ms ≡ Some (seat_of n)
    → seat c (put n ms) ≡ seat c ms
put-same-by true c n ms is same =
    let s : seat c ms ≡ Some (seat_of n) = subst (λ k. seat k ms ≡ Some (seat_of n)) (eqb-true n.conn c is) same in
    put-here c n ms is (ap (λ (o : Option Seat). is_some o) s) ∙ sym s
put-same-by false c n ms is same = put-other c n ms is

pub put-same : (c : ℕ) (n : Member) (ms : List Member) → seat n.conn ms ≡ Some (seat_of n) → seat c (put n ms) ≡ seat c ms
put-same c n ms same = put-same-by (n.conn == c) c n ms refl same

-- ---- one of them gone

gone-one : (b : Bool) (c : ℕ) (m : Member) (rest : List Member) → (m.conn == c) ≡ b → seat c rest ≡ None
    → seat c (cond (not b) (m ∷ rest) rest) ≡ None
gone-one true c m rest is h = h
gone-one false c m rest is h = rw is h

pub others-here : (c : ℕ) (ms : List Member) → seat c (others c ms) ≡ None
others-here c [] = refl
others-here c (m ∷ ms) = gone-one (m.conn == c) c m (others c ms) refl (others-here c ms)

others-one : (b : Bool) (c d : ℕ) (m : Member) (rest : List Member) (old : Option Seat) → (m.conn == d) ≡ b → (d == c) ≡ false
    → seat c rest ≡ old → seat c (cond (not b) (m ∷ rest) rest) ≡ cond (m.conn == c) (Some (seat_of m)) old
others-one true c d m rest old is apart same = let e : (m.conn == c) ≡ false = ap (λ (k : ℕ). k == c) (eqb-true m.conn d is) ∙ apart in
    rw e same
others-one false c d m rest old is apart same = ap (λ (o : Option Seat). cond (m.conn == c) (Some (seat_of m)) o) same

pub others-other : (c d : ℕ) (ms : List Member) → (d == c) ≡ false → seat c (others d ms) ≡ seat c ms
others-other c d [] apart = refl
others-other c d (m ∷ ms) apart = others-one (m.conn == d) c d m (others d ms) (seat c ms) refl apart (others-other c d ms apart)

-- ---- all of them changed, and one more

pub map-same : (c : ℕ) (g : Member → Member) (ms : List Member) → ((m : Member) → (g m).conn ≡ m.conn)
    → ((m : Member) → seat_of (g m) ≡ seat_of m) → seat c (map g ms) ≡ seat c ms
map-same c g [] k s = refl
map-same c g (m ∷ ms) k s = rw (k m, s m, map-same c g ms k s) refl

pub more-other : (c : ℕ) (ms : List Member) (n : Member) → (n.conn == c) ≡ false → seat c (ms ++ n ∷ []) ≡ seat c ms
more-other c [] n apart = ap (λ (b : Bool). cond b (Some (seat_of n)) None) apart
more-other c (m ∷ ms) n apart = ap (λ (o : Option Seat). cond (m.conn == c) (Some (seat_of m)) o) (more-other c ms n apart)

pub more-here : (c : ℕ) (ms : List Member) (n : Member) → (n.conn == c) ≡ true → seat c ms ≡ None → seat c (ms ++ n ∷ []) ≡ Some (seat_of n)
more-here c [] n own none = ap (λ (b : Bool). cond b (Some (seat_of n)) None) own
more-here c (m ∷ ms) n own none = by (m.conn == c) none (λ t. more-here c ms n own t)
  where
    by : (b : Bool) → cond b (Some (seat_of m)) (seat c ms) ≡ None → (seat c ms ≡ None → seat c (ms ++ n ∷ []) ≡ Some (seat_of n))
        → cond b (Some (seat_of m)) (seat c (ms ++ n ∷ [])) ≡ Some (seat_of n)
    by true t next = absurd cc
    by false t next = next t

pub more-there : (c : ℕ) (ms : List Member) (n : Member) (x : Seat) → seat c ms ≡ Some x → seat c (ms ++ n ∷ []) ≡ Some x
more-there c [] n x is = absurd cc
more-there c (m ∷ ms) n x is = by (m.conn == c) is (λ t. more-there c ms n x t)
  where
    by : (b : Bool) → cond b (Some (seat_of m)) (seat c ms) ≡ Some x → (seat c ms ≡ Some x → seat c (ms ++ n ∷ []) ≡ Some x)
        → cond b (Some (seat_of m)) (seat c (ms ++ n ∷ [])) ≡ Some x
    by true t next = t
    by false t next = next t

-- ---- who is found, and who is there

found-one : (b : Bool) (d : ℕ) (n m : Member) (ms : List Member) → (n.conn == d) ≡ b
    → (find (is_on d) ms ≡ Some m → seat d ms ≡ Some (seat_of m)) → cond b (Some n) (find (is_on d) ms) ≡ Some m
    → cond b (Some (seat_of n)) (seat d ms) ≡ Some (seat_of m)
found-one true d n m ms is next found = ap (λ (o : Option Member). option_map seat_of o) found
found-one false d n m ms is next found = next found

pub found-seat : (d : ℕ) (ms : List Member) (m : Member) → find (is_on d) ms ≡ Some m → seat d ms ≡ Some (seat_of m)
found-seat d [] m found = absurd cc
found-seat d (n ∷ ns) m found = found-one (n.conn == d) d n m ns refl (λ f. found-seat d ns m f) found

pub none-found : (d : ℕ) (ms : List Member) → find (is_on d) ms ≡ None → seat d ms ≡ None
none-found d [] none = refl
none-found d (n ∷ ns) none = by (n.conn == d) none (λ t. none-found d ns t)
  where
    by : (b : Bool) → cond b (Some n) (find (is_on d) ns) ≡ None → (find (is_on d) ns ≡ None → seat d ns ≡ None)
        → cond b (Some (seat_of n)) (seat d ns) ≡ None
    by true t next = absurd cc
    by false t next = next t

rising-above : (k : ℕ) (m : Member) (ms : List Member) → AreRising k (conns ms) → Among m ms → k < m.conn
rising-above k m [] r there = absurd there
rising-above k m (x ∷ xs) r (inl here) = subst (λ (y : Member). k < y.conn) here r.0
rising-above k m (x ∷ xs) r (inr later) =
    let a : k < x.conn = r.0 in
    let b : x.conn < m.conn = rising-above x.conn m xs r.1 later in
    omega (arith, a, b)

-- in rising order each member has the seat of its connection
pub sits : (k : ℕ) (m : Member) (ms : List Member) → AreRising k (conns ms) → Among m ms → seat m.conn ms ≡ Some (seat_of m)
sits k m [] r there = absurd there
sits k m (x ∷ xs) r (inl here) =
    let own : seat x.conn (x ∷ xs) ≡ Some (seat_of x) = rw (eq-eqb x.conn x.conn refl) refl in
    subst (λ (y : Member). seat y.conn (x ∷ xs) ≡ Some (seat_of y)) here own
sits k m (x ∷ xs) r (inr later) =
    let above : x.conn < m.conn = rising-above x.conn m xs r.1 later in
    let apart : (x.conn == m.conn) ≡ false = ne_eqb x.conn m.conn (λ e. omega (arith, e, above)) in
    ap (λ (b : Bool). cond b (Some (seat_of x)) (seat m.conn xs)) apart ∙ sits x.conn m xs r.1 later

pub none-seated : (c : ℕ) (ms : List Member) → NotIn c (conns ms) → seat c ms ≡ None
none-seated c [] a = refl
none-seated c (m ∷ ms) a = ap (λ (b : Bool). cond b (Some (seat_of m)) (seat c ms)) a.0 ∙ none-seated c ms a.1

-- ---- seats by statuses

abbrev unrank : ℕ → Status
unrank n = cond (n == 0) Inactive (cond (n == 1) NewgrfsCheck (cond (n == 2) AuthGame (cond (n == 3) AuthCompany
    (cond (n == 4) Authorized (cond (n == 5) MapWait (cond (n == 6) Map (cond (n == 7) DoneMap (cond (n == 8) PreActive Active))))))))

unranked : (s : Status) → unrank (rank s) ≡ s
unranked Inactive = refl
unranked NewgrfsCheck = refl
unranked AuthGame = refl
unranked AuthCompany = refl
unranked Authorized = refl
unranked MapWait = refl
unranked Map = refl
unranked DoneMap = refl
unranked PreActive = refl
unranked Active = refl

-- the seat at a rank
pub ranked : (r : ℕ) (m : Member) → rank m.status ≡ r → seat_of m ≡ seat_at (unrank r) m.map_frame m.pieces
ranked r m is = ap (λ (s : Status). seat_at s m.map_frame m.pieces) (sym (unranked m.status) ∙ ap unrank is)

low-seat : (s : Status) (f k : ℕ) → rank s ≤ 3 → seat_at s f k ≡ AtDoor
low-seat Inactive f k l = refl
low-seat NewgrfsCheck f k l = refl
low-seat AuthGame f k l = refl
low-seat AuthCompany f k l = refl
low-seat Authorized f k l = absurd (omega (arith, l))
low-seat MapWait f k l = absurd (omega (arith, l))
low-seat Map f k l = absurd (omega (arith, l))
low-seat DoneMap f k l = absurd (omega (arith, l))
low-seat PreActive f k l = absurd (omega (arith, l))
low-seat Active f k l = absurd (omega (arith, l))

pub at-door : (m : Member) → rank m.status ≤ 3 → seat_of m ≡ AtDoor
at-door m l = low-seat m.status m.map_frame m.pieces l

-- ---- who plays

abbrev pub plays_at : Seat → Bool
plays_at (Plays s) = true
plays_at other = false

abbrev pub plays : Option Seat → Bool
plays None = false
plays (Some x) = plays_at x

plays-rank : (s : Status) (f k : ℕ) → nat_le 8 (rank s) ≡ plays_at (seat_at s f k)
plays-rank Inactive f k = refl
plays-rank NewgrfsCheck f k = refl
plays-rank AuthGame f k = refl
plays-rank AuthCompany f k = refl
plays-rank Authorized f k = refl
plays-rank MapWait f k = refl
plays-rank Map f k = refl
plays-rank DoneMap f k = refl
plays-rank PreActive f k = refl
plays-rank Active f k = refl

high-by : (s : Status) (f k : ℕ) → nat_le 8 (rank s) ≡ true → seat_at s f k ≡ Plays f
high-by Inactive f k is = absurd cc
high-by NewgrfsCheck f k is = absurd cc
high-by AuthGame f k is = absurd cc
high-by AuthCompany f k is = absurd cc
high-by Authorized f k is = absurd cc
high-by MapWait f k is = absurd cc
high-by Map f k is = absurd cc
high-by DoneMap f k is = absurd cc
high-by PreActive f k is = refl
high-by Active f k is = refl

pub high-seat : (m : Member) → is_playing m ≡ true → seat_of m ≡ Plays m.map_frame
high-seat m is = high-by m.status m.map_frame m.pieces is

pub plays-member : (m : Member) → is_playing m ≡ plays_at (seat_of m)
plays-member m = plays-rank m.status m.map_frame m.pieces

playing-one : (b d : Bool) (c : ℕ) (m : Member) (few : List Member) (old : Option Seat) → is_playing m ≡ b → (m.conn == c) ≡ d
    → (d ≡ true → among c (conns few) ≡ false) → among c (conns few) ≡ plays old
    → among c (conns (cond b (m ∷ few) few)) ≡ plays (cond d (Some (seat_of m)) old)
playing-one true true c m few old is own none next = rw own (sym is ∙ plays-rank m.status m.map_frame m.pieces)
playing-one true false c m few old is own none next = rw own next
playing-one false true c m few old is own none next = none refl ∙ sym is ∙ plays-rank m.status m.map_frame m.pieces
playing-one false false c m few old is own none next = next

-- the members that play are those whose seat says so
pub playing-is : (k c : ℕ) (ms : List Member) → AreRising k (conns ms) → among c (conns (filter is_playing ms)) ≡ plays (seat c ms)
playing-is k c [] r = refl
playing-is k c (m ∷ ms) r =
    let none : (m.conn == c) ≡ true → among c (conns (filter is_playing ms)) ≡ false =
    λ own. any-not c (conns (filter is_playing ms)) (all-of-filter (λ (m : Member). m.conn) is_playing c ms
    (rising-not m.conn c (conns ms) (let e : m.conn ≡ c = eqb-true m.conn c own in omega (arith, e)) r.1)) in
    playing-one (is_playing m) (m.conn == c) c m (filter is_playing ms) (seat c ms) refl refl none (playing-is m.conn c ms r.1)

-- who is not among is none of them
pub not-any : (c : ℕ) (xs : List ℕ) → among c xs ≡ false → NotIn c xs
not-any c [] a = tt
not-any c (x ∷ xs) a = by (x == c) refl a (λ none. not-any c xs none)
  where
    by : (b : Bool) → (x == c) ≡ b → (b || among c xs) ≡ false → (among c xs ≡ false → NotIn c xs) → NotIn c (x ∷ xs)
    by true is none next = absurd cc
    by false is none next = (is, next none)
