-- Named members have different names: a name that is given is one that no other named member has.
use Rattle.std.proofs.Common.{◌≡◌, inl, inr, ℕ, zero, suc, ◌+◌, ◌≤◌, ◌<◌, Bool, true, false, List, [], ◌∷◌, ◌++◌, Some, refl, ap}
use Rattle.std.proofs.Common.{sym, ◌∙◌}
use Rattle.std.proofs.Common.{subst, arith, length}
use Rattle.std.specs.Prelude.{◌==◌, ◌&&◌, ◌||◌, ◌^◌, bytes_eq, codes, cond, decimal, filter, nat_le, not}
use Rattle.std.specs.List.{AllByRecursion, list_any}
use Rattle.std.proofs.lemmas.Bool.{eq-eqb, lt-ltb, leb-false, ne_eqb}
use Rattle.std.proofs.lemmas.Fmt.{decimal_injective}
use Rattle.std.proofs.lemmas.List.{append_cancel_left, length-append, length-map}
use Rattle.std.proofs.lemmas.Slice.Eq.{bytes_eq-Decides}
use Rattle.tt_edge.specs.declared.event.Event.{Event}
use Rattle.tt_rules.specs.Statuses.{rank}
use Rattle.tt_log.specs.declared.deed.Step.{Step}
use Rattle.tt_log.specs.Origin.{Origin, IsOrigin}
use Rattle.tt_log.specs.Member.{Member, is_named, new_member}
use Rattle.tt_log.specs.Table.{Table, first, is_on, member_of, with_member}
use Rattle.tt_log.specs.Frames.{fresh_token, opened_token}
use Rattle.tt_log.specs.Names.{first_free_name, given_name, is_taken, numbered}
use Rattle.tt_log.specs.PacketRules.{closed_token}
use Rattle.tt_log.specs.Desk.{admin_arrives, counted_aside, most_admins}
use Rattle.tt_log.specs.Tick.{drawn}
use Rattle.tt_log.specs.Events.{arrives, counted_in, stepped}
use Rattle.tt_log.specs.History.{table_of}
use Rattle.tt_log.proofs.Lists.{Among, IsOther, NotIn, all-filter, all-so}
use Rattle.tt_log.proofs.Crew.{On, found-on, on-found}
use Rattle.tt_log.proofs.Changes.{Change, wants_password, is_let_in, gets_token, gets_frame, answers, plays, commands, has_name, goes_to}
use Rattle.tt_log.proofs.Changes.{founds, gets_pieces, has_all, Asks, May, turned, turned-conn, moved, moved-conn, Move, queues}
use Rattle.tt_log.proofs.Changes.{begins_map, loads}
use Rattle.tt_log.proofs.Walk.{Turns, ahead-of, behind-of}
use Rattle.tt_log.proofs.Walk.{MayMove, running, Base, Walk, Doors, Closing, Moves, Ticks, of-asks, of-enters, of-leaves, of-deed}
use Rattle.tt_log.proofs.Companies.{filter-short}
use Rattle.tt_log.proofs.Stamping.{among-drawn, among-filter, among-last, among-put}
use Rattle.tt_log.proofs.Clock.{from-all}

-- ---- numbered names

-- the numbers from one on, one more than so many
abbrev upto : ℕ → ℕ → List ℕ
upto i zero = i ∷ []
upto i (suc n) = i ∷ upto (i + 1) n

abbrev Distinct : List ℕ → Type 0
Distinct [] = Unit
Distinct (i ∷ is) = NotIn i is × Distinct is

upto-length : (i n : ℕ) → length (upto i n) ≡ n + 1
upto-length i zero = omega arith
upto-length i (suc n) = let l = upto-length (i + 1) n in omega (arith, l)

upto-above : (i n : ℕ) → AllByRecursion (λ j. (i ≤ j) × (j ≤ i + n)) (upto i n)
upto-above i zero = ((omega arith, omega arith), tt)
upto-above i (suc n) = (
  (omega arith, omega arith),
  all-so (λ j. (i + 1 ≤ j) × (j ≤ i + 1 + n)) (λ j. (i ≤ j) × (j ≤ i + suc n)) (upto (i + 1) n)
      (λ j l. let a = l.0 in let b = l.1 in (omega (arith, a), omega (arith, b))) (upto-above (i + 1) n),
)

upto-distinct : (i n : ℕ) → Distinct (upto i n)
upto-distinct i zero = (tt, tt)
upto-distinct i (suc n) = (
  all-so (λ j. (i + 1 ≤ j) × (j ≤ i + 1 + n)) (IsOther i) (upto (i + 1) n) (λ j l. let a = l.0 in ne_eqb j i (λ e. omega (arith, e, a)))
      (upto-above (i + 1) n),
  upto-distinct (i + 1) n,
)

-- a member has the name with this number
abbrev has : ℕ → List ℕ → ℕ → Member → Bool
has conn name i m = is_named m && not (is_on conn m) && bytes_eq m.name (numbered name i)

last-of : (a b c : Bool) → (a && b && c) ≡ true → c ≡ true
last-of true true c is = is
last-of true false c is = absurd cc
last-of false b c is = absurd cc

same-number : (conn : ℕ) (name : List ℕ) (i j : ℕ) (m : Member) → i < 2 ^ 64 → j < 2 ^ 64 → has conn name i m ≡ true
    → has conn name j m ≡ true
    → i ≡ j
same-number conn name i j m li lj a b =
    let one : m.name ≡ numbered name i = (bytes_eq-Decides m.name (numbered name i)).0 (last-of (is_named m) (not (is_on conn m)) _ a) in
    let two : m.name ≡ numbered name j = (bytes_eq-Decides m.name (numbered name j)).0 (last-of (is_named m) (not (is_on conn m)) _ b) in
    decimal_injective i j li lj (append_cancel_left (name ++ codes " #") (decimal i) (decimal j) (sym one ∙ two))

abbrev AreSmall : List ℕ → Type 0
AreSmall is = AllByRecursion (λ i. i < 2 ^ 64) is

-- one member has at most one of them
none-more : (conn : ℕ) (name : List ℕ) (i : ℕ) (m : Member) (is : List ℕ) → i < 2 ^ 64 → has conn name i m ≡ true → NotIn i is → AreSmall is
    → filter (λ j. not (has conn name j m)) is ≡ is
none-more conn name i m [] li here other small = refl
none-more conn name i m (j ∷ js) li here other small = by (has conn name j m) refl (none-more conn name i m js li here other.1 small.1)
  where
    by : (b : Bool) → has conn name j m ≡ b → filter (λ k. not (has conn name k m)) js ≡ js
        → cond (not b) (j ∷ filter (λ k. not (has conn name k m)) js) (filter (λ k. not (has conn name k m)) js) ≡ j ∷ js
    by true is same = absurd (let e : (j == i) ≡ true = eq-eqb j i
        (same-number conn name j i m small.0 li is here) in let d = other.0 in cc)
    by false is same = ap (λ (xs : List ℕ). j ∷ xs) same

few-of : (conn : ℕ) (name : List ℕ) (m : Member) (is : List ℕ) → Distinct is → AreSmall is
    → length is ≤ suc (length (filter (λ j. not (has conn name j m)) is))
few-of conn name m [] d small = omega arith
few-of conn name m (i ∷ is) d small = by (has conn name i m) refl (few-of conn name m is d.1 small.1)
    (λ here. none-more conn name i m is small.0 here d.0 small.1)
  where
    by : (b : Bool) → has conn name i m ≡ b → length is ≤ suc (length (filter (λ j. not (has conn name j m)) is))
        → (has conn name i m ≡ true → filter (λ j. not (has conn name j m)) is ≡ is)
        → length (i ∷ is) ≤ suc (length (cond (not b) (i ∷ filter (λ j. not (has conn name j m)) is) (filter (λ j. not
        (has conn name j m)) is)))
    by true here few same = let e = ap (λ (xs : List ℕ). length xs) (same here) in omega (arith, e)
    by false here few same = omega (arith, few)

abbrev AreHeld : ℕ → List ℕ → List Member → List ℕ → Type 0
AreHeld conn name ms is = AllByRecursion (λ i. list_any (has conn name i) ms ≡ true) is

filter-distinct : (p : ℕ → Bool) (is : List ℕ) → Distinct is → Distinct (filter p is)
filter-distinct p [] d = tt
filter-distinct p (i ∷ is) d = by (p i) (filter-distinct p is d.1) (all-filter (IsOther i) p is d.0)
  where
    by : (b : Bool) → Distinct (filter p is) → NotIn i (filter p is) → Distinct (cond b (i ∷ filter p is) (filter p is))
    by true rest other = (other, rest)
    by false rest other = rest

filter-held : (conn : ℕ) (name : List ℕ) (m : Member) (ms : List Member) (is : List ℕ) → AreHeld conn name (m ∷ ms) is
    → AreHeld conn name ms (filter (λ j. not (has conn name j m)) is)
filter-held conn name m ms [] a = tt
filter-held conn name m ms (i ∷ is) a = by (has conn name i m) refl a.0 (filter-held conn name m ms is a.1)
  where
    by : (b : Bool) → has conn name i m ≡ b → (has conn name i m || list_any (has conn name i) ms) ≡ true
        → AreHeld conn name ms (filter (λ j. not (has conn name j m)) is)
        → AreHeld conn name ms (cond (not b) (i ∷ filter (λ j. not (has conn name j m)) is) (filter (λ j. not (has conn name j m)) is))
    by true here any rest = rest
    by false here any rest = (ap (λ (b : Bool). b || list_any (has conn name i) ms) (sym here) ∙ any, rest)

-- so they are no more than the members
pigeons : (conn : ℕ) (name : List ℕ) (ms : List Member) (is : List ℕ) → Distinct is → AreSmall is → AreHeld conn name ms is
    → length is ≤ length ms
pigeons conn name [] [] d small a = omega arith
pigeons conn name [] (i ∷ is) d small a = absurd (let e = a.0 in cc)
pigeons conn name (m ∷ ms) is d small a =
    let p : ℕ → Bool = λ j. not (has conn name j m) in
    let few = few-of conn name m is d small in
    let rest = pigeons conn name ms (filter p is) (filter-distinct p is d) (all-filter (λ i. i < 2 ^ 64) p is small)
    (filter-held conn name m ms is a) in
    omega (arith, few, rest)

-- ---- the name that is given

free-held : (t : Table) (conn : ℕ) (name : List ℕ) (i n : ℕ) → is_taken t conn (first_free_name t conn name i n) ≡ true
    → AreHeld conn name t.members (upto i n)
free-held t conn name i zero is = (is, tt)
free-held t conn name i (suc n) is = by (is_taken t conn (numbered name i)) refl is (λ taken. free-held t conn name (i + 1) n taken)
  where
    by : (b : Bool) → is_taken t conn (numbered name i) ≡ b → is_taken t conn (elim b [
      | true ↦ first_free_name t conn name (i + 1) n
      | false ↦ numbered name i
    ]) ≡ true → (is_taken t conn (first_free_name t conn name (i + 1) n) ≡ true → AreHeld conn name t.members (upto (i + 1) n))
        → AreHeld conn name t.members (upto i (suc n))
    by true here taken next = (here, next taken)
    by false here taken next = absurd (cc (here, taken))

free-is-free : (t : Table) (conn : ℕ) (name : List ℕ) → length t.members ≤ 255
    → is_taken t conn (first_free_name t conn name 1 (length t.members)) ≡ false
free-is-free t conn name few = by (is_taken t conn (first_free_name t conn name 1 (length t.members))) refl
  where
    by : (b : Bool) → is_taken t conn (first_free_name t conn name 1 (length t.members)) ≡ b → b ≡ false
    by false is = refl
    by true is =
        let n : ℕ = length t.members in
        let small : AreSmall (upto 1 n) = all-so (λ j. (1 ≤ j) × (j ≤ 1 + n)) (λ j. j < 2 ^ 64) (upto 1 n)
        (λ j l. let k = l.1 in omega (arith, k, few)) (upto-above 1 n) in
        let most = pigeons conn name t.members (upto 1 n) (upto-distinct 1 n) small (free-held t conn name 1 n is) in
        let all = upto-length 1 n in absurd (omega (arith, most, all))

given-free : (t : Table) (conn : ℕ) (name : List ℕ) → length t.members ≤ 255 → is_taken t conn (given_name t conn name) ≡ false
given-free t conn name few = by (is_taken t conn name) refl (free-is-free t conn name few)
  where
    by : (b : Bool) → is_taken t conn name ≡ b → is_taken t conn (first_free_name t conn name 1 (length t.members)) ≡ false
        → is_taken t conn (elim b [ true ↦ first_free_name t conn name 1 (length t.members) | false ↦ name ]) ≡ false
    by true here free = free
    by false here free = here

-- a name that is not taken is no other's
untaken : (conn : ℕ) (name : List ℕ) (y : Member) (ms : List Member) → Among y ms
    → list_any (λ m. is_named m && not (is_on conn m) && bytes_eq m.name name) ms ≡ false → (y.conn == conn) ≡ false → is_named y ≡ true
    → name ≡ y.name → ⊥
untaken conn name y [] there free other named same = absurd there
untaken conn name y (x ∷ xs) (inl here) free other named same =
    let test : Member → Bool = λ m. is_named m && not (is_on conn m) && bytes_eq m.name name in
    let free_y : test y ≡ false = subst (λ (m : Member). test m ≡ false) here (first-false (test x) (list_any test xs) free) in
    let equal : bytes_eq y.name name ≡ true = (bytes_eq-Decides y.name name).1 (sym same) in
    cc (free_y, other, named, equal)
  where
    first-false : (a b : Bool) → (a || b) ≡ false → a ≡ false
    first-false true b is = is
    first-false false b is = refl
untaken conn name y (x ∷ xs) (inr later) free other named same =
    let test : Member → Bool = λ m. is_named m && not (is_on conn m) && bytes_eq m.name name in
    untaken conn name y xs later (rest-false (test x) (list_any test xs) free) other named same
  where
    rest-false : (a b : Bool) → (a || b) ≡ false → b ≡ false
    rest-false true b is = absurd cc
    rest-false false b is = is

-- ---- the walk

record Named (t : Table) : Type 0 where
  few : length t.members ≤ 255
  differ : (x y : Member) → On t x → On t y → (x.conn == y.conn) ≡ false → is_named x ≡ true → is_named y ≡ true → x.name ≡ y.name → ⊥

abbrev KeepsNames : Table → List Step → Table → Type 0
KeepsNames t steps u = Named t → Named u

-- a member that changes has a name of its own
abbrev OwnName : Table → Member → Member → Type 0
OwnName t m n = (y : Member) → On t y → (y.conn == m.conn) ≡ false → is_named n ≡ true → is_named y ≡ true → n.name ≡ y.name → ⊥

flip : (c d : ℕ) → (c == d) ≡ false → (d == c) ≡ false
flip c d is = ne_eqb d c (λ same. let e : (c == d) ≡ true = eq-eqb c d (sym same) in absurd cc)

put-names : (t : Table) (n m : Member) (words : ℕ × ℕ) → On t m → n.conn ≡ m.conn → OwnName t m n → Named t
    → Named (with_member n (record t { tokens = words }))
put-names t n m words on same own h = record {
  few = let l = length-map t.members (λ x. cond (x.conn == n.conn) n x) in omega (arith, l, h.few);
  differ = λ x y a b. elim (among-put n x t.members a) [
    | inl new ↦ λ apart. elim (among-put n y t.members b) [
      | inl new2 ↦ absurd (let e : (x.conn == y.conn) ≡ true = eq-eqb x.conn y.conn (ap (λ (z : Member). z.conn) (new ∙ sym new2)) in cc)
      | inr old ↦ λ p q e. own y old.0 (ap (λ (c : ℕ). y.conn == c) (sym same) ∙ old.1)
          (ap (λ (z : Member). is_named z) (sym new) ∙ p) q (ap (λ (z : Member). z.name) (sym new) ∙ e)
    ]
    | inr old ↦ λ apart. elim (among-put n y t.members b) [
      | inl new ↦ λ p q e. own x old.0 (ap (λ (c : ℕ). x.conn == c) (sym same) ∙ old.1)
          (ap (λ (z : Member). is_named z) (sym new) ∙ q) p (ap (λ (z : Member). z.name) (sym new) ∙ sym e)
      | inr old2 ↦ λ p q e. h.differ x y old.0 old2.0 apart p q e
    ]
  ];
}

-- one that had its name before
kept-name : (t : Table) (m n : Member) → On t m → n.name ≡ m.name → (is_named n ≡ true → is_named m ≡ true) → Named t → OwnName t m n
kept-name t m n on same before h y there other named others e =
    h.differ m y on there (flip y.conn m.conn other) (before named) others (sym same ∙ e)

low-named : (m : Member) (r : ℕ) → 1 ≤ r → rank m.status ≡ r → is_named m ≡ true
low-named m r l is = lt-ltb 0 (rank m.status) (omega (arith, l, is))

asked-name : (o : Origin) (e : Event) (t : Table) (m : Member) (name : List ℕ) (asked : ℕ) (n : Member) → On t m → n.name ≡ name
    → Asks o e t m name asked → Named t → OwnName t m n
asked-name o e t m name asked n on same (inl before) h = kept-name t m n on (same ∙ before.0)
    (λ named. lt-ltb 0 (rank m.status) (let l = before.2 in omega (arith, l))) h
asked-name o e t m name asked n on same (inr (at, (revision, grf, wanted, is, allowed))) h =
    λ y there other named others equal. untaken m.conn (given_name t m.conn wanted) y t.members there
    (given-free t m.conn wanted h.few) other others
    (sym is ∙ sym same ∙ equal)

turned-name : (c : Change) (o : Origin) (e : Event) (t : Table) (m : Member) → On t m → May o e t m c → Named t
    → OwnName t m (turned c t m)
turned-name (wants_password true name asked) o e t m on may h = asked-name o e t m name asked (turned
    (wants_password true name asked) t m) on refl may h
turned-name (wants_password false name asked) o e t m on may h = asked-name o e t m name asked (turned
    (wants_password false name asked) t m) on refl may h
turned-name (is_let_in name asked) o e t m on may h = asked-name o e t m name asked (turned (is_let_in name asked) t m) on refl may h
turned-name gets_token o e t m on may h = kept-name t m (turned gets_token t m) on refl (λ named. named) h
turned-name gets_frame o e t m on may h = kept-name t m (turned gets_frame t m) on refl (λ named. named) h
turned-name (answers frame token) o e t m on may h = by (token == 0)
  where
    by : (b : Bool) → OwnName t m (record (cond b m (closed_token m)) { acked = frame })
    by true = kept-name t m (record m { acked = frame }) on refl (λ named. named) h
    by false = kept-name t m (record (closed_token m) { acked = frame }) on refl (λ named. named) h
turned-name plays o e t m on may h = kept-name t m (turned plays t m) on refl (λ named. low-named m 8 (omega arith) may) h
turned-name (commands company code number to text command) o e t m on may h = kept-name t m (turned
    (commands company code number to text command) t m) on refl (λ named. named) h
turned-name (has_name name) o e t m on may h =
    λ y there other named others equal. untaken m.conn (given_name t m.conn name) y t.members there
    (given-free t m.conn name h.few) other others equal
turned-name (goes_to company digest) o e t m on may h = kept-name t m (turned (goes_to company digest) t m) on refl (λ named. named) h
turned-name (founds company) o e t m on may h = kept-name t m (turned (founds company) t m) on refl (λ named. named) h
turned-name (gets_pieces left) o e t m on may h = kept-name t m (turned (gets_pieces left) t m) on refl (λ named. named) h
turned-name has_all o e t m on may h = kept-name t m (turned has_all t m) on refl (λ named. low-named m 6 (omega arith) may) h

moved-name : (v : Move) (t : Table) (m : Member) → On t m → MayMove v m → Named t → OwnName t m (moved v t m)
moved-name queues t m on may h = kept-name t m (moved queues t m) on refl (λ named. low-named m 4 (omega arith) may) h
moved-name begins_map t m on may h = kept-name t m (moved begins_map t m) on refl (λ named. low-named m 5 (omega arith) may) h
moved-name loads t m on may h = kept-name t m (moved loads t m) on refl (λ named. low-named m 7 (omega arith) may) h

same-names : (t u : Table) → u.members ≡ t.members → Named t → Named u
same-names t u members h = record {
  few = rw members h.few;
  differ = λ x y a b. h.differ x y (subst (λ (ms : List Member). Among x ms) members a) (subst (λ
      (ms : List Member). Among y ms) members b);
}

name-turns : (o : Origin) (e : Event) → Turns o e KeepsNames
name-turns o e c t m on may by h = put-names t (turned c t m) m _ on (turned-conn c t m) (turned-name c o e t m on may h) h

name-base : (o : Origin) (e : Event) → Base o e KeepsNames
name-base o e = record {
  still = λ t h. h;
  joins = λ t u v xs ys a b h. b (a h);
  turns = ahead-of o e KeepsNames (name-turns o e);
  tells_one = λ t m msg on talk h. h;
  tells_some = λ t to w there news h. h;
  tells_admins = λ t to r there is h. h;
}

name-moves : (o : Origin) (e : Event) → Moves o e KeepsNames
name-moves o e = record {
  moving = λ v t m on may h. put-names t (moved v t m) m t.tokens on (moved-conn v t m) (moved-name v t m on may h) h;
  recalls = λ t m on at h. h;
  waits_on = λ t conn n there h. h;
  stands = λ t m on h. same-names t _ refl h;
  cuts = λ t place h. same-names t _ refl h;
  ends_one = λ t m on h. h;
  parts = λ t m on h. record {
    few = let l = filter-short (λ n. not (is_on m.conn n)) t.members in omega (arith, l, h.few);
    differ = λ x y a b. h.differ x y (among-filter (λ n. not (is_on m.conn n)) x t.members a)
        (among-filter (λ n. not (is_on m.conn n)) y t.members b);
  };
  greets = λ t m on at h. let n : Member = opened_token (fresh_token t.tokens) t m in
      put-names t n m _ on refl (kept-name t m n on refl (λ named. named) h) h;
}

name-walk : (o : Origin) (e : Event) → Walk o e KeepsNames
name-walk o e = record {
  base = name-base o e;
  locks = λ t m digest on allowed h. same-names t _ refl h;
  orders = λ t c is still h. same-names t _ refl h;
  asks_map = λ t m on at. of-asks o e KeepsNames (name-base o e) (name-moves o e) t m on at;
  enters_game = λ t m on at. of-enters o e KeepsNames (name-base o e) (name-moves o e) t m on at;
  goes = λ t m farewell on is. of-leaves o e KeepsNames (name-base o e) (name-moves o e) t m farewell on is;
  settles = λ t a b on is h. same-names t _ refl h;
  goes_aside = λ t a on h. same-names t _ refl h;
}

arrives-names : (full : Bool) (o : Origin) (t : Table) → IsOrigin o → nat_le o.setup.max_clients (length t.members) ≡ full → Named t
    → Named (arrives full (counted_in t)).table
arrives-names true o t ok is h = same-names t _ refl h
arrives-names false o t ok is h =
    let new : Member = new_member (t.openings + 1) (t.clients + 1) t.frame in
    let room : length t.members < o.setup.max_clients = leb-false o.setup.max_clients (length t.members) is in
    let most : o.setup.max_clients ≤ 255 = ok.setup.max_clients.1 in
    let more = length-append t.members (new ∷ []) in
    record {
      few = omega (arith, room, most, more);
      differ = λ x y a b. elim (among-last x new t.members a) [
        | inl old ↦ λ apart. elim (among-last y new t.members b) [
          | inl old2 ↦ λ p q e. h.differ x y old old2 apart p q e
          | inr at ↦ λ p q e. absurd (let none : is_named y ≡ false = ap (λ (z : Member). is_named z) (sym at) in cc)
        ]
        | inr at ↦ λ apart p q e. absurd (let none : is_named x ≡ false = ap (λ (z : Member). is_named z) (sym at) in cc)
      ];
    }

aside-names : (full : Bool) (t : Table) → Named t → Named (admin_arrives full (counted_aside t)).table
aside-names true t h = same-names t _ refl h
aside-names false t h = same-names t _ refl h

name-doors : (o : Origin) (e : Event) → IsOrigin o → Doors o e KeepsNames
name-doors o e ok = record {
  comes = λ t h. arrives-names (nat_le o.setup.max_clients (length t.members)) o t ok refl h;
  comes_aside = λ t h. aside-names (nat_le most_admins (length t.admins)) t h;
}

run-names : (b : Bool) (o : Origin) (t : Table) → Named t → Named (running b o t)
run-names true o t h = same-names t _ refl h
run-names false o t h = same-names t _ refl h

name-ticks : (o : Origin) (e : Event) → Ticks o e KeepsNames
name-ticks o e = record {
  stamping = λ t h. record {
    few = let l = length-map t.members drawn in omega (arith, l, h.few);
    differ = λ x y a b apart p q same.
        let k = among-drawn x t.members a in let l = among-drawn y t.members b in
        let at = k.2 in let too = l.2 in
        h.differ k.0 l.0 k.1 l.1 (ap (λ (z : Member). z.conn == l.0.conn) (sym at) ∙ ap (λ (z : Member). x.conn == z.conn)
        (sym too) ∙ apart)
        (ap (λ (z : Member). is_named z) (sym at) ∙ p) (ap (λ (z : Member). is_named z) (sym too) ∙ q)
        (ap (λ (z : Member). z.name) (sym at) ∙ same ∙ ap (λ (z : Member). z.name) too);
  };
  behind = behind-of o e KeepsNames (name-turns o e);
  running = λ t b is h. run-names b o t h;
}

name-closing : (o : Origin) (e : Event) → Closing o e KeepsNames
name-closing o e = record {
  charges = λ t h. same-names t _ refl h;
  closes = λ t h. record { few = omega arith; differ = λ x y a b. absurd a };
}

step-names : (o : Origin) (e : Event) (t : Table) → IsOrigin o → Named t → Named (stepped o t e)
step-names o e t ok h = of-deed o e KeepsNames (name-walk o e) (name-ticks o e) (name-doors o e ok) (name-closing o e) t h

are-named : (o : Origin) (es : List Event) → IsOrigin o → Named (table_of o es)
are-named o es ok = from-all o Named (λ e t h. step-names o e t ok h) es (first o)
    (record { few = omega arith; differ = λ x y a b. absurd a })

pub names-differ : (o : Origin) (es : List Event) (x y : Member) (c d : ℕ) → IsOrigin o → member_of (table_of o es) c ≡ Some x
    → member_of (table_of o es) d ≡ Some y → (c == d) ≡ false → is_named x ≡ true → is_named y ≡ true → x.name ≡ y.name → ⊥
names-differ o es x y c d ok a b apart p q same =
    let t : Table = table_of o es in
    let at : x.conn ≡ c = found-on c t.members x a in
    let too : y.conn ≡ d = found-on d t.members y b in
    (are-named o es ok).differ x y (on-found t c x a) (on-found t d y b) (ap (λ (k : ℕ). k == y.conn) at ∙ ap (λ
    (k : ℕ). c == k) too ∙ apart)
    p q same
