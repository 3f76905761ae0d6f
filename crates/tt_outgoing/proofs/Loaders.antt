-- Who downloads: how that stays by a rule that moves nobody in the queue.
use Rattle.std.proofs.Common.{◌≡◌, ℕ, List, [], ◌∷◌, ◌++◌, refl, ap, sym, ◌∙◌, subst, true, false, Bool, Option, Some, None}
use Rattle.std.specs.Prelude.{◌==◌, ◌||◌, cond, find}
use Rattle.std.specs.List.{AllByRecursion}
use Rattle.std.proofs.lemmas.Bool.{eq-eqb, eqb-true}
use Rattle.std.proofs.lemmas.List.Folds.{list_any-append}
use Rattle.tt_rules.specs.Statuses.{rank}
use Rattle.tt_log.specs.declared.deed.Step.{Step}
use Rattle.tt_log.specs.declared.report.Report.{Report}
use Rattle.tt_log.specs.Member.{Member}
use Rattle.tt_log.specs.Polls.{tells_admin}
use Rattle.tt_log.specs.Table.{Table, downloader, first_loading, if_loading, is_on, member_of, with_member, without_member}
use Rattle.tt_log.specs.Deed.{Deed, ◌▹◌}
use Rattle.tt_log.proofs.Lists.{NotIn, all-so}
use Rattle.tt_log.proofs.Crew.{conns, find-others, find-put-other, found-on, none-left, others, put}
use Rattle.tt_outgoing.specs.Carrying.{begins_map, is_begin}

-- ---- members that load

-- it loads as before: the same map, and as much of it was told
pub record IsSame (m n : Member) : Type 0 where
  pub loads : rank m.status ≡ 6
  pub map_frame : n.map_frame ≡ m.map_frame
  pub pieces : n.pieces ≡ m.pieces

abbrev pub Goes : Option Member → Member → Type 0
Goes x n = (m : Member) × (x ≡ Some m) × IsSame m n

pub as-before : (x : Option Member) (n : Member) → x ≡ Some n → rank n.status ≡ 6 → Goes x n
as-before x n is at = (n, is, record { loads = at; map_frame = refl; pieces = refl })

loading-by : (b : Bool) (k n : Member) → (rank k.status == 6) ≡ b → cond b (Some k) None ≡ Some n → (Some k ≡ Some n) × (rank n.status ≡ 6)
loading-by true k n at is = (is, let e : k ≡ n = cc in subst (λ (m : Member). rank m.status ≡ 6) e (eqb-true (rank k.status) 6 at))
loading-by false k n at is = absurd cc

pub if-loading : (x : Option Member) (n : Member) → if_loading x ≡ Some n → (x ≡ Some n) × (rank n.status ≡ 6)
if-loading None n is = absurd cc
if-loading (Some k) n is = loading-by (rank k.status == 6) k n refl is

pub loading-if : (m : Member) → rank m.status ≡ 6 → if_loading (Some m) ≡ Some m
loading-if m at = rw (eq-eqb (rank m.status) 6 at) refl

-- who downloads behind a rule did so before it
abbrev pub From : Table → Table → Type 0
From t u = (n : Member) → downloader u ≡ Some n → Goes (downloader t) n

-- ---- a rule that moves nobody: each member that loads behind it loaded before

pub record Calm (t u : Table) : Type 0 where
  pub queue : u.queue ≡ t.queue
  pub each : (d : ℕ) (n : Member) → member_of u d ≡ Some n → rank n.status ≡ 6 → Goes (member_of t d) n

pub calm-still : (t : Table) → Calm t t
calm-still t = record { queue = refl; each = λ d n is at. as-before (member_of t d) n is at }

-- the same members, and the same queue
pub same-calm : (t u : Table) → u.members ≡ t.members → u.queue ≡ t.queue → Calm t u
same-calm t u members queue = record {
  queue = queue;
  each = λ d n is at. as-before (member_of t d) n (subst (λ (ms : List Member). find (is_on d) ms ≡ Some n) members is) at;
}

pub calm-then : (t u v : Table) → Calm t u → Calm u v → Calm t v
calm-then t u v a b = record {
  queue = b.queue ∙ a.queue;
  each = λ d n is at.
      let g = b.each d n is at in
      let h = a.each d g.0 g.1 g.2.loads in (
        h.0,
        h.1,
        record { loads = h.2.loads; map_frame = g.2.map_frame ∙ h.2.map_frame; pieces = g.2.pieces ∙ h.2.pieces },
      );
}

pub from-calm : (t u : Table) → Calm t u → From t u
from-calm t u c n is = by t.queue (subst (λ (q : List ℕ). first_loading q u ≡ Some n) c.queue is)
  where
    by : (q : List ℕ) → first_loading q u ≡ Some n → Goes (first_loading q t) n
    by [] none = absurd cc
    by (d ∷ ds) some =
        let a = if-loading (member_of u d) n some in
        let g = c.each d n a.0 a.1 in
        (g.0, ap if_loading g.1 ∙ loading-if g.0 g.2.loads, g.2)

pub from-then : (t u v : Table) → From t u → From u v → From t v
from-then t u v a b n is =
    let g = b n is in
    let h = a g.0 g.1 in (
      h.0,
      h.1,
      record { loads = h.2.loads; map_frame = g.2.map_frame ∙ h.2.map_frame; pieces = g.2.pieces ∙ h.2.pieces },
    )

-- ---- nobody loads on a connection, or behind the first of the queue

abbrev pub Idle : Table → ℕ → Type 0
Idle t c = (k : Member) → member_of t c ≡ Some k → rank k.status ≡ 6 → ⊥

abbrev pub Behind : Table → ℕ → List ℕ → Type 0
Behind t d ds = AllByRecursion (λ y. (y == d) ≡ false → Idle t y) ds

abbrev pub Alone : Table → List ℕ → Type 0
Alone t [] = Unit {0}
Alone t (d ∷ ds) = Behind t d ds

pub calm-idle : (t u : Table) (c : ℕ) → Calm t u → Idle t c → Idle u c
calm-idle t u c calm idle k is at = let g = calm.each c k is at in idle g.0 g.1 g.2.loads

pub calm-alone : (t u : Table) (q : List ℕ) → Calm t u → Alone t q → Alone u q
calm-alone t u [] c a = tt
calm-alone t u (d ∷ ds) c a = all-so (λ y. (y == d) ≡ false → Idle t y) (λ y. (y == d) ≡ false → Idle u y) ds
    (λ y idle apart. calm-idle t u y c (idle apart)) a

-- ---- a member is put in the place of the one on its connection

put-found-by : (b : Bool) (n k x : Member) (rest : Option Member) → (x.conn == n.conn) ≡ b → (rest ≡ Some k → n ≡ k)
    → cond ((cond b n x).conn == n.conn) (Some (cond b n x)) rest ≡ Some k → n ≡ k
put-found-by true n k x rest is later found =
    let e : (n.conn == n.conn) ≡ true = eq-eqb n.conn n.conn refl in
    let same : Some n ≡ Some k = subst (λ (b : Bool). cond b (Some n) rest ≡ Some k) e found in cc
put-found-by false n k x rest is later found = later (subst (λ (b : Bool). cond b (Some x) rest ≡ Some k) is found)

-- whoever is found on that connection is that member
pub put-found : (n k : Member) (ms : List Member) → find (is_on n.conn) (put n ms) ≡ Some k → n ≡ k
put-found n k [] is = absurd cc
put-found n k (x ∷ xs) is = put-found-by (x.conn == n.conn) n k x (find (is_on n.conn) (put n xs)) refl (put-found n k xs) is

pub put-calm : (t : Table) (n : Member) → (rank n.status ≡ 6 → Goes (member_of t n.conn) n) → Calm t (with_member n t)
put-calm t n own = record { queue = refl; each = λ d k is at. by (n.conn == d) d k refl is at }
  where
    by : (b : Bool) (d : ℕ) (k : Member) → (n.conn == d) ≡ b → find (is_on d) (put n t.members) ≡ Some k → rank k.status ≡ 6
        → Goes (member_of t d) k
    by true d k here is at =
        let e : n.conn ≡ d = eqb-true n.conn d here in
        let same : n ≡ k = put-found n k t.members (subst (λ (c : ℕ). find (is_on c) (put n t.members) ≡ Some k) (sym e) is) in
        let low : rank n.status ≡ 6 = ap (λ (m : Member). rank m.status) same ∙ at in
        subst (λ (m : Member). Goes (member_of t d) m) same (subst (λ (c : ℕ). Goes (member_of t c) n) e (own low))
    by false d k here is at = as-before (member_of t d) k (sym (find-put-other n d t.members here) ∙ is) at

-- one that loads no more on its connection
pub put-idle : (t : Table) (n : Member) → (rank n.status ≡ 6 → ⊥) → Idle (with_member n t) n.conn
put-idle t n never k is at = never (ap (λ (m : Member). rank m.status) (put-found n k t.members is) ∙ at)

pub idle-calm : (t : Table) (n : Member) → (rank n.status ≡ 6 → ⊥) → Calm t (with_member n t)
idle-calm t n never = put-calm t n (λ at. absurd (never at))

-- whoever is found is found on its own connection
pub own-found : (t : Table) (c : ℕ) (m : Member) → member_of t c ≡ Some m → member_of t m.conn ≡ Some m
own-found t c m is = subst (λ (d : ℕ). member_of t d ≡ Some m) (sym (found-on c t.members m is)) is

-- a member that keeps its status and its map
pub kept-calm : (t : Table) (m n : Member) → member_of t m.conn ≡ Some m → n.conn ≡ m.conn → n.status ≡ m.status
    → n.map_frame ≡ m.map_frame → n.pieces ≡ m.pieces → Calm t (with_member n t)
kept-calm t m n is conn status map_frame pieces = put-calm t n (λ at. (
  m,
  subst (λ (c : ℕ). member_of t c ≡ Some m) (sym conn) is,
  record { loads = sym (ap rank status) ∙ at; map_frame = map_frame; pieces = pieces },
))

-- ---- a member is one no longer

none-found : (c : ℕ) (ms : List Member) (k : Member) → NotIn c (conns ms) → find (is_on c) ms ≡ Some k → ⊥
none-found c [] k none is = absurd cc
none-found c (x ∷ xs) k none is =
    none-found c xs k none.1 (subst (λ (b : Bool). cond b (Some x) (find (is_on c) xs) ≡ Some k) none.0 is)

pub out-idle : (t : Table) (c : ℕ) → Idle (without_member c t) c
out-idle t c k is at = none-found c (others c t.members) k (none-left c t.members) is

pub out-calm : (t : Table) (c : ℕ) → Calm t (without_member c t)
out-calm t c = record { queue = refl; each = λ d k is at. by (c == d) d k refl is at }
  where
    by : (b : Bool) (d : ℕ) (k : Member) → (c == d) ≡ b → find (is_on d) (others c t.members) ≡ Some k → rank k.status ≡ 6
        → Goes (member_of t d) k
    by true d k here is at =
        absurd (out-idle t c k (subst (λ (x : ℕ). find (is_on x) (others c t.members) ≡ Some k) (sym (eqb-true c d here)) is) at)
    by false d k here is at = as-before (member_of t d) k (sym (find-others c d t.members here) ∙ is) at

-- ---- steps that begin no map

pub quiet-front : (xs ys : List Step) → begins_map xs ≡ false → begins_map (xs ++ ys) ≡ begins_map ys
quiet-front xs ys is = list_any-append (λ (s : Step). is_begin s.what) xs ys ∙ ap (λ (b : Bool). b || begins_map ys) is

or-no : (b : Bool) → (b || false) ≡ b
or-no true = refl
or-no false = refl

pub quiet-behind : (xs ys : List Step) → begins_map ys ≡ false → begins_map (xs ++ ys) ≡ begins_map xs
quiet-behind xs ys is =
    list_any-append (λ (s : Step). is_begin s.what) xs ys ∙ ap (λ (b : Bool). begins_map xs || b) is ∙ or-no (begins_map xs)

pub told-quiet : (conn : ℕ) (reports : List Report) (t : Table) → begins_map (tells_admin conn reports t).told ≡ false
told-quiet conn [] t = refl
told-quiet conn (r ∷ reports) t = told-quiet conn reports t

-- ---- a rule that moves nobody and begins no map, and keeps the members on their connections

pub record Quiet (t : Table) (d : Deed) : Type 0 where
  pub calm : Calm t d.table
  pub none : begins_map d.told ≡ false
  pub same : conns d.table.members ≡ conns t.members

pub quiet-then : (t : Table) (d : Deed) (rule : Table → Deed) → Quiet t d → Quiet d.table (rule d.table) → Quiet t (d ▹ rule)
quiet-then t d rule a b = record {
  calm = calm-then t d.table (rule d.table).table a.calm b.calm;
  none = quiet-front d.told (rule d.table).told a.none ∙ b.none;
  same = b.same ∙ a.same;
}
