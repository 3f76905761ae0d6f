-- How far a connection has come: it only comes further, and stands once in the queue just while it waits or downloads.
use Rattle.std.proofs.Common.{◌≡◌, ◌⊎◌, inl, inr, ap₂, ℕ, ◌+◌, ◌≤◌, ◌<◌, List, [], ◌∷◌, ◌++◌, refl, ap, sym, ◌∙◌, true, false, Bool, Option}
use Rattle.std.proofs.Common.{Some, None, arith, zero, suc}
use Rattle.std.specs.Prelude.{◌==◌, drop, take, length, nat_lt, map, cond, not, ◌&&◌, ◌||◌}
use Rattle.std.specs.List.{AllByRecursion, list_any, position_or_len}
use Rattle.std.proofs.lemmas.Bool.{eqb-true, eqb-false, ltb-false}
use Rattle.tt_rules.specs.Statuses.{rank}
use Rattle.tt_log.specs.declared.deed.Step.{Step}
use Rattle.tt_log.specs.declared.deed.What.{What}
use Rattle.tt_log.specs.declared.deed.What.TheVariants.{Msg, Entries, Stamp, End}
use Rattle.tt_rules.specs.declared.status.Status.TheVariants.{MapWait}
use Rattle.tt_log.specs.Member.{Member, is_in, is_welcomed}
use Rattle.tt_log.specs.Table.{Table, member_of, with_member, without_member, welcomed, is_on, now_in}
use Rattle.tt_log.specs.Deed.{game, Deed, ◌▹◌, where_, where_some, becomes, tells_what, tells_each}
use Rattle.tt_log.specs.Told.{is_entry}
use Rattle.tt_log.specs.Frames.{tells_fresh}
use Rattle.tt_log.specs.Queue.{moved_up, left_place, leaves_queue, begins, begins_for, begins_where, downloading, waits, asks}
use Rattle.tt_log.specs.Ending.{Farewell, Quitting, Failing, tells_farewell, leaves}
use Rattle.tt_log.specs.PacketRules.{client_info, enters}
use Rattle.tt_log.proofs.Lists.{Among, IsOther, NotIn, all-append, all-drop, all-filter, any-not}
use Rattle.tt_log.proofs.Crew.{On, put, put-all, put-conns, conns, others, found-on}
use Rattle.tt_log.proofs.Changes.{step, gets_token, turned, moved, loads}

-- ---- phases

pub data Phase : Type 0 where
  -- before it asks for the map
  Early : Phase
  -- from then on until it enters
  Queued : Phase
  -- it plays, or is gone
  InGame : Phase

-- the statuses of a phase, by their rank
abbrev pub fits : Phase → ℕ → Type 0
fits Early r = r ≤ 4
fits Queued r = (5 ≤ r) × (r ≤ 7)
fits InGame r = 8 ≤ r

-- a member on the connection is in the phase
abbrev pub Suits : ℕ → Phase → Member → Type 0
Suits c p m = (m.conn == c) ≡ true → fits p (rank m.status)

-- it stands once in a queue
abbrev pub OnceIn : ℕ → List ℕ → Type 0
OnceIn c [] = ⊥
OnceIn c (x ∷ xs) = (((x == c) ≡ true) × NotIn c xs) ⊎ (((x == c) ≡ false) × OnceIn c xs)

-- a member that waits or downloads is there, and stands once in the queue; others do not stand there
abbrev pub Place : Phase → ℕ → List ℕ → List ℕ → Type 0
Place Early c q xs = NotIn c q
Place Queued c q xs = OnceIn c q × (list_any (λ x. x == c) xs ≡ true)
Place InGame c q xs = NotIn c q

pub record Holds (c : ℕ) (p : Phase) (ms : List Member) (q : List ℕ) : Type 0 where
  pub suits : AllByRecursion (Suits c p) ms
  pub place : Place p c q (conns ms)

abbrev pub Has : ℕ → Phase → Table → Type 0
Has c p t = Holds c p t.members t.queue

-- ---- what is told meanwhile

abbrev pub is_command : What → Bool
is_command (Msg m) = is_entry (game m)
is_command (Entries frame) = true
is_command (Stamp e) = true
is_command other = false

-- a step tells the connection no command
abbrev pub Quiet : ℕ → Step → Type 0
Quiet c s = (is_command s.what && list_any (λ x. x == c) s.to) ≡ false

abbrev pub AllQuiet : ℕ → List Step → Type 0
AllQuiet c steps = AllByRecursion (Quiet c) steps

abbrev pub WhileQuiet : Phase → ℕ → List Step → Type 0
WhileQuiet Early c steps = AllQuiet c steps
WhileQuiet Queued c steps = AllQuiet c steps
WhileQuiet InGame c steps = Unit

abbrev pub Later : Phase → Phase → Type 0
Later Early q = Unit
Later Queued Early = ⊥
Later Queued Queued = Unit
Later Queued InGame = Unit
Later InGame Early = ⊥
Later InGame Queued = ⊥
Later InGame InGame = Unit

-- a rule keeps the phase, and tells no command
pub record Keeps (c : ℕ) (p : Phase) (ms : List Member) (q : List ℕ) (steps : List Step) : Type 0 where
  pub holds : Holds c p ms q
  pub quiet : AllQuiet c steps

-- a rule brings it further, and where it does not play then it was told no command
pub record Goes (c : ℕ) (p : Phase) (ms : List Member) (q : List ℕ) (steps : List Step) : Type 0 where
  pub to : Phase
  pub later : Later p to
  pub holds : Holds c to ms q
  pub quiet : WhileQuiet to c steps

abbrev pub KeepsBy : ℕ → Phase → Deed → Type 0
KeepsBy c p d = Keeps c p d.table.members d.table.queue d.told

abbrev pub GoesBy : ℕ → Phase → Deed → Type 0
GoesBy c p d = Goes c p d.table.members d.table.queue d.told

pub later-self : (p : Phase) → Later p p
later-self Early = tt
later-self Queued = tt
later-self InGame = tt

pub later-then : (p q r : Phase) → Later p q → Later q r → Later p r
later-then Early q r a b = tt
later-then Queued Early r a b = absurd a
later-then Queued Queued r a b = b
later-then Queued InGame Early a b = absurd b
later-then Queued InGame Queued a b = absurd b
later-then Queued InGame InGame a b = tt
later-then InGame Early r a b = absurd a
later-then InGame Queued r a b = absurd a
later-then InGame InGame r a b = b

pub while-all : (p : Phase) (c : ℕ) (steps : List Step) → AllQuiet c steps → WhileQuiet p c steps
while-all Early c steps a = a
while-all Queued c steps a = a
while-all InGame c steps a = tt

pub while-then : (p q : Phase) (c : ℕ) (xs ys : List Step) → Later p q → WhileQuiet p c xs → WhileQuiet q c ys → WhileQuiet q c (xs ++ ys)
while-then Early Early c xs ys l a b = all-append (Quiet c) xs ys a b
while-then Early Queued c xs ys l a b = all-append (Quiet c) xs ys a b
while-then Early InGame c xs ys l a b = tt
while-then Queued Early c xs ys l a b = absurd l
while-then Queued Queued c xs ys l a b = all-append (Quiet c) xs ys a b
while-then Queued InGame c xs ys l a b = tt
while-then InGame Early c xs ys l a b = absurd l
while-then InGame Queued c xs ys l a b = absurd l
while-then InGame InGame c xs ys l a b = tt

pub goes-kept : (c : ℕ) (p : Phase) (d : Deed) → KeepsBy c p d → GoesBy c p d
goes-kept c p d k = record { to = p; later = later-self p; holds = k.holds; quiet = while-all p c d.told k.quiet }

pub then-keeps : (c : ℕ) (p : Phase) (d : Deed) (rule : Table → Deed) → KeepsBy c p d → (Has c p d.table → KeepsBy c p (rule d.table))
    → KeepsBy c p (d ▹ rule)
then-keeps c p d rule a b =
    let next : KeepsBy c p (rule d.table) = b a.holds in
    record { holds = next.holds; quiet = all-append (Quiet c) d.told (rule d.table).told a.quiet next.quiet }

pub then-goes : (c : ℕ) (p : Phase) (d : Deed) (rule : Table → Deed) → GoesBy c p d
    → ((q : Phase) → Has c q d.table → GoesBy c q (rule d.table)) → GoesBy c p (d ▹ rule)
then-goes c p d rule a b =
    let next : GoesBy c a.to (rule d.table) = b a.to a.holds in
    record {
      to = next.to;
      later = later-then p a.to next.to a.later next.later;
      holds = next.holds;
      quiet =
          while-then a.to next.to c d.told (rule d.table).told next.later a.quiet next.quiet;
    }

-- a deed that keeps, and a rule that goes on from the same phase
pub kept-goes : (c : ℕ) (p : Phase) (d : Deed) (rule : Table → Deed) → KeepsBy c p d → (Has c p d.table → GoesBy c p (rule d.table))
    → GoesBy c p (d ▹ rule)
kept-goes c p d rule a b =
    let next : GoesBy c p (rule d.table) = b a.holds in
    record {
      to = next.to;
      later = next.later;
      holds = next.holds;
      quiet = while-then p next.to c d.told (rule d.table).told next.later
          (while-all p c d.told a.quiet) next.quiet;
    }

pub still-keeps : (c : ℕ) (p : Phase) (t : Table) → Has c p t → KeepsBy c p (becomes t)
still-keeps c p t h = record { holds = h; quiet = tt }

pub where-keeps : (c : ℕ) (p : Phase) (b : Bool) (rule : Table → Deed) (t : Table) → Has c p t → (b ≡ true → KeepsBy c p (rule t))
    → KeepsBy c p (where_ b rule t)
where-keeps c p true rule t h k = k refl
where-keeps c p false rule t h k = still-keeps c p t h

pub where-goes : (c : ℕ) (p : Phase) (b : Bool) (rule : Table → Deed) (t : Table) → Has c p t → GoesBy c p (rule t)
    → GoesBy c p (where_ b rule t)
where-goes c p true rule t h k = k
where-goes c p false rule t h k = goes-kept c p (becomes t) (still-keeps c p t h)

-- what is no command is quiet
pub quiet-what : (c : ℕ) (to : List ℕ) (w : What) → is_command w ≡ false → (is_command w && list_any (λ x. x == c) to) ≡ false
quiet-what c to w is = rw is refl

pub says-keeps : (c : ℕ) (p : Phase) (to : List ℕ) (w : What) (t : Table) → is_command w ≡ false → Has c p t
    → KeepsBy c p (tells_what to w t)
says-keeps c p to w t is h = record { holds = h; quiet = (quiet-what c to w is, tt) }

-- ---- a changed member

pub place-live : (p : Phase) (c : ℕ) (q xs ys : List ℕ) → list_any (λ x. x == c) ys ≡ list_any (λ x. x == c) xs → Place p c q xs
    → Place p c q ys
place-live Early c q xs ys e h = h
place-live Queued c q xs ys e h = (h.0, e ∙ h.1)
place-live InGame c q xs ys e h = h

pub any-with : (c : ℕ) (n : Member) (ms : List Member) → list_any (λ x. x == c) (conns (put n ms)) ≡ list_any (λ x. x == c) (conns ms)
any-with c n ms = ap (λ (xs : List ℕ). list_any (λ x. x == c) xs) (put-conns n ms)

pub put-holds : (c : ℕ) (p : Phase) (n : Member) (t : Table) → Suits c p n → Has c p t → Holds c p (put n t.members) t.queue
put-holds c p n t s h = record {
  suits = put-all (Suits c p) n t.members s h.suits;
  place = place-live p c t.queue (conns t.members)
      (conns (put n t.members)) (any-with c n t.members) h.place;
}

pub put-own-one : (b : Bool) (c : ℕ) (p : Phase) (n x : Member) → (x.conn == n.conn) ≡ b → (n.conn == c) ≡ true → fits p (rank n.status)
    → Suits c p (cond b n x)
put-own-one true c p n x is own fit = λ same. fit
put-own-one false c p n x is own fit = λ same. absurd (eqb-false x.conn n.conn is (eqb-true x.conn c same ∙ sym (eqb-true n.conn c own)))

-- the member on the connection itself is brought further
pub put-own : (c : ℕ) (p : Phase) (n : Member) (ms : List Member) → (n.conn == c) ≡ true → fits p (rank n.status)
    → AllByRecursion (Suits c p) (map (λ x. cond (x.conn == n.conn) n x) ms)
put-own c p n [] own fit = tt
put-own c p n (x ∷ xs) own fit = (put-own-one (x.conn == n.conn) c p n x refl own fit, put-own c p n xs own fit)

-- ---- ranks within a phase

pub early-stays : (p : Phase) (r s : ℕ) → r ≤ 4 → s ≤ 4 → fits p r → fits p s
early-stays Early r s a b f = b
early-stays Queued r s a b f = let low : 5 ≤ r = f.0 in absurd (omega (arith, a, low))
early-stays InGame r s a b f = absurd (omega (arith, a, f))

pub queued-stays : (p : Phase) (r s : ℕ) → 5 ≤ r → r ≤ 7 → 5 ≤ s → s ≤ 7 → fits p r → fits p s
queued-stays Early r s a b l h f = absurd (omega (arith, a, f))
queued-stays Queued r s a b l h f = (l, h)
queued-stays InGame r s a b l h f = absurd (omega (arith, b, f))

pub playing-stays : (p : Phase) (r s : ℕ) → 8 ≤ r → 8 ≤ s → fits p r → fits p s
playing-stays Early r s a b f = absurd (omega (arith, a, f))
playing-stays Queued r s a b f = let high : r ≤ 7 = f.1 in absurd (omega (arith, a, high))
playing-stays InGame r s a b f = b

pub queued-fits : (p : Phase) (r : ℕ) → 5 ≤ r → r ≤ 7 → p ≡ Queued → fits p r
queued-fits Early r a b is = absurd cc
queued-fits Queued r a b is = (a, b)
queued-fits InGame r a b is = absurd cc

-- ---- the queue

-- without the first one of a connection
abbrev pub removed : ℕ → List ℕ → List ℕ
removed x [] = []
removed x (y ∷ ys) = cond (y == x) ys (y ∷ removed x ys)

abbrev pub place_in : ℕ → List ℕ → ℕ
place_in x q = position_or_len (λ y. y == x) q

pub one-on : (k y : ℕ) (ys : List ℕ) → take (1 + k) (y ∷ ys) ++ drop (1 + k + 1) (y ∷ ys) ≡ y ∷ (take k ys ++ drop (k + 1) ys)
one-on k y ys =
    let e : 1 + k ≡ suc k = omega arith in
    let f : 1 + k + 1 ≡ suc (k + 1) = omega arith in
    ap₂ (λ (i j : ℕ). take i (y ∷ ys) ++ drop j (y ∷ ys)) e f

pub removed-is : (x : ℕ) (q : List ℕ) → take (place_in x q) q ++ drop (place_in x q + 1) q ≡ removed x q
removed-is x [] = refl
removed-is x (y ∷ ys) = elim (y == x) as (λ b. take (cond (not b) (1 + place_in x ys) 0) (y ∷ ys)
    ++ drop (cond (not b) (1 + place_in x ys) 0 + 1) (y ∷ ys) ≡ cond b ys (y ∷ removed x ys))
    [ true ↦ refl | false ↦ one-on (place_in x ys) y ys ∙ ap (λ (zs : List ℕ). y ∷ zs) (removed-is x ys) ]

pub once-one : (b : Bool) (c x y : ℕ) (ys : List ℕ) → (y == x) ≡ b → (x == c) ≡ false → OnceIn c (y ∷ ys)
    → (OnceIn c ys → OnceIn c (removed x ys)) → (NotIn c ys → NotIn c (removed x ys)) → OnceIn c (cond b ys (y ∷ removed x ys))
once-one true c x y ys is apart (inl own) next none = let e : (y == c) ≡ false = ap (λ (z : ℕ). z == c) (eqb-true y x is) ∙ apart in
    absurd cc
once-one true c x y ys is apart (inr other) next none = other.1
once-one false c x y ys is apart (inl own) next none = inl (own.0, none own.1)
once-one false c x y ys is apart (inr other) next none = inr (other.0, next other.1)

pub none-removed : (c x : ℕ) (ys : List ℕ) → NotIn c ys → NotIn c (removed x ys)
none-removed c x [] a = tt
none-removed c x (y ∷ ys) a = elim (y == x) as (λ b. NotIn c (cond b ys (y ∷ removed x ys))) [
  | true ↦ a.1
  | false ↦
      (a.0, none-removed c x ys a.1)
]

pub once-removed : (c x : ℕ) (ys : List ℕ) → (x == c) ≡ false → OnceIn c ys → OnceIn c (removed x ys)
once-removed c x [] apart a = a
once-removed c x (y ∷ ys) apart a = once-one (y == x) c x y ys refl apart a (λ b. once-removed c x ys apart b) (λ b. none-removed c x ys b)

pub own-one : (b : Bool) (c y : ℕ) (ys : List ℕ) → (y == c) ≡ b → OnceIn c (y ∷ ys) → (OnceIn c ys → NotIn c (removed c ys))
    → NotIn c (cond b ys (y ∷ removed c ys))
own-one true c y ys is (inl own) next = own.1
own-one true c y ys is (inr other) next = absurd cc
own-one false c y ys is (inl own) next = absurd cc
own-one false c y ys is (inr other) next = (is, next other.1)

pub own-removed : (c : ℕ) (ys : List ℕ) → OnceIn c ys → NotIn c (removed c ys)
own-removed c [] a = absurd a
own-removed c (y ∷ ys) a = own-one (y == c) c y ys refl a (λ b. own-removed c ys b)

pub within-one : (b : Bool) (c y k n : ℕ) (ys : List ℕ) → (y == c) ≡ b → OnceIn c (y ∷ ys) → (OnceIn c ys → k < n)
    → cond (not b) (1 + k) 0 < suc n
within-one true c y k n ys is a next = omega arith
within-one false c y k n ys is (inl own) next = absurd cc
within-one false c y k n ys is (inr other) next = let l : k < n = next other.1 in omega (arith, l)

pub once-within : (c : ℕ) (q : List ℕ) → OnceIn c q → place_in c q < length q
once-within c [] a = absurd a
once-within c (y ∷ ys) a = within-one (y == c) c y (place_in c ys) (length ys) ys refl a (λ b. once-within c ys b)

-- those that move up wait or download
abbrev pub MayMove : ℕ → Phase → ℕ → Type 0
MayMove c p x = (x == c) ≡ true → p ≡ Queued

begins-by : (x : Option Member) (c conn : ℕ) (p : Phase) (t : Table) → MayMove c p conn → member_of t conn ≡ x → Has c p t
    → KeepsBy c p (where_some x begins_where t)
begins-by None c conn p t may is h = still-keeps c p t h
begins-by (Some m) c conn p t may is h = where-keeps c p (is_in MapWait m) (begins_for m) t h (λ waiting. record {
  holds = put-holds c p (downloading t m) t (λ own. queued-fits p 6 (omega arith) (omega arith)
      (may (ap (λ (x : ℕ). x == c) (sym (found-on conn t.members m is)) ∙ own))) h;
  quiet = (refl, tt);
})

pub begins-keeps : (c : ℕ) (p : Phase) (conn : ℕ) (t : Table) → MayMove c p conn → Has c p t → KeepsBy c p (begins conn t)
begins-keeps c p conn t may h = begins-by (member_of t conn) c conn p t may refl h

pub moved-keeps : (c : ℕ) (p : Phase) (place : ℕ) (xs : List ℕ) (t : Table) → AllByRecursion (MayMove c p) xs → Has c p t
    → KeepsBy c p (moved_up place xs t)
moved-keeps c p place [] t may h = still-keeps c p t h
moved-keeps c p zero (x ∷ xs) t may h = then-keeps c p (begins x t) (moved_up 1 xs) (begins-keeps c p x t may.0 h)
    (λ b. moved-keeps c p 1 xs (begins x t).table may.1 b)
moved-keeps c p (suc place) (x ∷ xs) t may h = then-keeps c p (waits x (suc place) t) (moved_up (suc (suc place)) xs)
    (record { holds = h; quiet = (refl, tt) }) (λ b. moved-keeps c p (suc (suc place)) xs t may.1 b)

pub none-moves : (c : ℕ) (p : Phase) (xs : List ℕ) → NotIn c xs → AllByRecursion (MayMove c p) xs
none-moves c p [] a = tt
none-moves c p (x ∷ xs) a = let e : (x == c) ≡ false = a.0 in (λ own. absurd cc, none-moves c p xs a.1)

pub all-move : (c : ℕ) (xs : List ℕ) → AllByRecursion (MayMove c Queued) xs
all-move c [] = tt
all-move c (x ∷ xs) = (λ own. refl, all-move c xs)

pub moves-behind : (p : Phase) (c n : ℕ) (q xs : List ℕ) → Place p c q xs → AllByRecursion (MayMove c p) (drop n q)
moves-behind Early c n q xs h = none-moves c Early (drop n q) (all-drop (IsOther c) n q h)
moves-behind Queued c n q xs h = all-move c (drop n q)
moves-behind InGame c n q xs h = none-moves c InGame (drop n q) (all-drop (IsOther c) n q h)

-- another one leaves the queue
pub place-removed : (p : Phase) (c x : ℕ) (q xs : List ℕ) → (x == c) ≡ false → Place p c q xs → Place p c (removed x q) xs
place-removed Early c x q xs apart h = none-removed c x q h
place-removed Queued c x q xs apart h = (once-removed c x q apart h.0, h.1)
place-removed InGame c x q xs apart h = none-removed c x q h

pub place-cut : (p : Phase) (c x : ℕ) (q xs : List ℕ) → (x == c) ≡ false → Place p c q xs → Place p c (take (place_in x q) q
    ++ drop (place_in x q + 1) q) xs
place-cut p c x q xs apart h = rw (removed-is x q) (place-removed p c x q xs apart h)

pub left-keeps : (b : Bool) (c x : ℕ) (p : Phase) (t : Table) → (x == c) ≡ false → Has c p t
    → KeepsBy c p (where_some (cond b (Some (place_in x t.queue)) None) left_place t)
left-keeps true c x p t apart h =
    let u : Table = record t { queue = take (place_in x t.queue) t.queue ++ drop (place_in x t.queue + 1) t.queue } in
    moved-keeps c p (place_in x t.queue) (drop (place_in x t.queue + 1) t.queue) u (moves-behind p c (place_in x t.queue + 1) t.queue
    (conns t.members) h.place)
    (record { suits = h.suits; place = place-cut p c x t.queue (conns t.members) apart h.place })
left-keeps false c x p t apart h = still-keeps c p t h

pub leaves-queue-keeps : (c x : ℕ) (p : Phase) (t : Table) → (x == c) ≡ false → Has c p t → KeepsBy c p (leaves_queue x t)
leaves-queue-keeps c x p t apart h = left-keeps (nat_lt (place_in x t.queue) (length t.queue)) c x p t apart h

-- the connection itself leaves the queue, once its member plays or is gone
pub record Cut (c : ℕ) (ms : List Member) (q : List ℕ) : Type 0 where
  pub suits : AllByRecursion (Suits c InGame) ms
  pub once : OnceIn c q ⊎ NotIn c q

pub cut-none : (c : ℕ) (q : List ℕ) → OnceIn c q ⊎ NotIn c q → NotIn c (removed c q)
cut-none c q (inl once) = own-removed c q once
cut-none c q (inr none) = none-removed c c q none

pub none-behind : (c : ℕ) (xs ys : List ℕ) → NotIn c (xs ++ ys) → NotIn c ys
none-behind c [] ys a = a
none-behind c (x ∷ xs) ys a = none-behind c xs ys a.1

pub not-found : (c : ℕ) (q : List ℕ) → nat_lt (place_in c q) (length q) ≡ false → OnceIn c q ⊎ NotIn c q → NotIn c q
not-found c q is (inl once) = let l : place_in c q < length q = once-within c q once in let m : length q ≤ place_in c q =
    ltb-false (place_in c q) (length q) is in absurd (omega (arith, l, m))
not-found c q is (inr none) = none

pub left-cut : (b : Bool) (c : ℕ) (t : Table) → nat_lt (place_in c t.queue) (length t.queue) ≡ b → Cut c t.members t.queue
    → Has c InGame (where_some (cond b (Some (place_in c t.queue)) None) left_place t).table
left-cut true c t is cut =
    let u : Table = record t { queue = take (place_in c t.queue) t.queue ++ drop (place_in c t.queue + 1) t.queue } in
    let none : NotIn c u.queue = rw (removed-is c t.queue) (cut-none c t.queue cut.once) in
    (moved-keeps c InGame (place_in c t.queue) (drop (place_in c t.queue + 1) t.queue) u
    (none-moves c InGame (drop (place_in c t.queue + 1) t.queue) (none-behind c (take (place_in c t.queue) t.queue)
    (drop (place_in c t.queue + 1) t.queue) none))
    (record { suits = cut.suits; place = none })).holds
left-cut false c t is cut = record { suits = cut.suits; place = not-found c t.queue is cut.once }

pub own-leaves : (c : ℕ) (t : Table) → Cut c t.members t.queue → Has c InGame (leaves_queue c t).table
own-leaves c t cut = left-cut (nat_lt (place_in c t.queue) (length t.queue)) c t refl cut

pub leaves-queue-cut : (c x : ℕ) (t : Table) → x ≡ c → Cut c t.members t.queue → Has c InGame (leaves_queue x t).table
leaves-queue-cut c x t same cut = rw same (own-leaves c t cut)

pub place-once : (p : Phase) (c : ℕ) (q xs : List ℕ) → Place p c q xs → OnceIn c q ⊎ NotIn c q
place-once Early c q xs h = inr h
place-once Queued c q xs h = inl h.0
place-once InGame c q xs h = inr h

pub later-end : (p : Phase) → Later p InGame
later-end Early = tt
later-end Queued = tt
later-end InGame = tt

-- ---- a member goes

gone-one : (b : Bool) (c x : ℕ) (m : Member) (rest ms : List Member) → (m.conn == x) ≡ b → (x == c) ≡ false
    → list_any (λ y. y == c) (conns rest) ≡ list_any (λ y. y == c) (conns ms)
    → list_any (λ y. y == c) (conns (cond (not b) (m ∷ rest) rest)) ≡ ((m.conn == c) || list_any (λ y. y == c) (conns ms))
gone-one true c x m rest ms is apart same = let e : (m.conn == c) ≡ false = ap (λ (y : ℕ). y == c) (eqb-true m.conn x is) ∙ apart in
    rw e same
gone-one false c x m rest ms is apart same = ap (λ (b : Bool). (m.conn == c) || b) same

pub any-others : (c x : ℕ) (ms : List Member) → (x == c) ≡ false → list_any (λ y. y == c) (conns (others x ms))
    ≡ list_any (λ y. y == c) (conns ms)
any-others c x [] apart = refl
any-others c x (m ∷ ms) apart = gone-one (m.conn == x) c x m (others x ms) ms refl apart (any-others c x ms apart)

pub without-holds : (c x : ℕ) (p : Phase) (t : Table) → (x == c) ≡ false → Has c p t → Has c p (without_member x t)
without-holds c x p t apart h = record {
  suits = all-filter (Suits c p) (λ m. not (is_on x m)) t.members h.suits;
  place =
      place-live p c t.queue (conns t.members) (conns (others x t.members)) (any-others c x t.members apart) h.place;
}

gone-suits-one : (b : Bool) (c x : ℕ) (m : Member) (ms : List Member) → (m.conn == x) ≡ b → x ≡ c → AllByRecursion (Suits c InGame) ms
    → AllByRecursion (Suits c InGame) (cond (not b) (m ∷ ms) ms)
gone-suits-one true c x m ms is same a = a
gone-suits-one false c x m ms is same a = (λ own. absurd (eqb-false m.conn x is (eqb-true m.conn c own ∙ sym same)), a)

pub gone-suits : (c x : ℕ) (ms : List Member) → x ≡ c → AllByRecursion (Suits c InGame) (others x ms)
gone-suits c x [] same = tt
gone-suits c x (m ∷ ms) same = gone-suits-one (m.conn == x) c x m (others x ms) refl same (gone-suits c x ms same)

farewell-keeps : (f : Farewell) (c : ℕ) (p : Phase) (m : Member) (t : Table) → Has c p t → KeepsBy c p (tells_farewell f m t)
farewell-keeps Quitting c p m t h = record { holds = h; quiet = (refl, (refl, tt)) }
farewell-keeps (Failing code) c p m t h = record { holds = h; quiet = (refl, (refl, tt)) }

farewell-cut : (f : Farewell) (b : Bool) (c : ℕ) (m : Member) (t : Table) → Cut c t.members t.queue
    → Cut c (where_ b (tells_farewell f m) t).table.members (where_ b (tells_farewell f m) t).table.queue
farewell-cut Quitting true c m t cut = cut
farewell-cut (Failing code) true c m t cut = cut
farewell-cut f false c m t cut = cut

pub leaves-by : (b : Bool) (c : ℕ) (p : Phase) (m : Member) (f : Farewell) (t : Table) → (m.conn == c) ≡ b → Has c p t
    → GoesBy c p (leaves m f t)
leaves-by true c p m f t is h =
    let u : Table = without_member m.conn t in
    let v : Table = (where_ (is_welcomed m) (tells_farewell f m) u).table in
    let same : m.conn ≡ c = eqb-true m.conn c is in
    let cut : Cut c v.members v.queue = farewell-cut f (is_welcomed m) c m u (record {
      suits = gone-suits c m.conn t.members same;
      once =
          place-once p c t.queue (conns t.members) h.place;
    }) in
    record { to = InGame; later = later-end p; holds = leaves-queue-cut c m.conn v same cut; quiet = tt }
leaves-by false c p m f t is h =
    let u : Table = without_member m.conn t in
    let a : Deed = tells_what (m.conn ∷ []) End u in
    let d : Deed = a ▹ where_ (is_welcomed m) (tells_farewell f m) in
    let k : KeepsBy c p d = then-keeps c p a (where_ (is_welcomed m) (tells_farewell f m)) (says-keeps c p (m.conn ∷ []) End u refl
    (without-holds c m.conn p t is h))
    (λ b. where-keeps c p (is_welcomed m) (tells_farewell f m) u b (λ yes. farewell-keeps f c p m u b)) in
    goes-kept c p (leaves m f t) (then-keeps c p d (leaves_queue m.conn) k (λ b. leaves-queue-keeps c m.conn p d.table is b))

-- ---- a member enters the game

infos-quiet : (c conn : ℕ) (ms : List Member) → AllQuiet c (map (λ m. step (conn ∷ []) (Msg m)) (map client_info ms))
infos-quiet c conn [] = tt
infos-quiet c conn (m ∷ ms) = (refl, infos-quiet c conn ms)

pub enters-by : (b : Bool) (c : ℕ) (p : Phase) (m : Member) (t : Table) → (m.conn == c) ≡ b → Has c p t → GoesBy c p (enters m t)
enters-by true c p m t is h =
    let n : Member = moved loads t m in
    let u : Table = with_member n t in
    let v : Table = (tells_fresh n u).table in
    let cut : Cut c v.members v.queue = record {
      suits = put-own c InGame (turned gets_token u n) (put n t.members) is (omega arith);
      once =
          place-once p c t.queue (conns t.members) h.place;
    } in
    record { to = InGame; later = later-end p; holds = leaves-queue-cut c m.conn v (eqb-true m.conn c is) cut; quiet = tt }
enters-by false c p m t is h =
    let n : Member = moved loads t m in
    let u : Table = with_member n t in
    let d1 : Deed = tells_each m.conn (map client_info (welcomed t)) u in
    let d2 : Deed = d1 ▹ tells_what (m.conn ∷ []) (Entries m.map_frame) in
    let d3 : Deed = d2 ▹ tells_fresh n in
    let k1 : KeepsBy c p d1 = record { holds = put-holds c p n t (λ own. absurd cc) h; quiet = infos-quiet c m.conn (welcomed t) } in
    let away : list_any (λ x. x == c) (m.conn ∷ []) ≡ false = any-not c (m.conn ∷ []) (is, tt) in
    let k2 : KeepsBy c p d2 = then-keeps c p d1 (tells_what (m.conn ∷ []) (Entries m.map_frame)) k1
    (λ b. record { holds = b; quiet = (away, tt) }) in
    let k3 : KeepsBy c p d3 = then-keeps c p d2 (tells_fresh n) k2
    (λ b. record { holds = put-holds c p (turned gets_token d2.table n) d2.table (λ own. absurd cc) b; quiet = (refl, tt) }) in
    goes-kept c p (enters m t) (then-keeps c p d3 (leaves_queue m.conn) k3 (λ b. leaves-queue-keeps c m.conn p d3.table is b))

-- ---- a member asks for the map: it stands last

once-last : (c x : ℕ) (q : List ℕ) → (x == c) ≡ true → NotIn c q → OnceIn c (q ++ x ∷ [])
once-last c x [] own a = inl (own, tt)
once-last c x (y ∷ ys) own a = inr (a.0, once-last c x ys own a.1)

once-more : (c x : ℕ) (q : List ℕ) → (x == c) ≡ false → OnceIn c q → OnceIn c (q ++ x ∷ [])
once-more c x [] apart a = absurd a
once-more c x (y ∷ ys) apart (inl own) = inl (own.0, all-append (IsOther c) ys (x ∷ []) own.1 (apart, tt))
once-more c x (y ∷ ys) apart (inr other) = inr (other.0, once-more c x ys apart other.1)

place-more : (p : Phase) (c x : ℕ) (q xs : List ℕ) → (x == c) ≡ false → Place p c q xs → Place p c (q ++ x ∷ []) xs
place-more Early c x q xs apart h = all-append (IsOther c) q (x ∷ []) h (apart, tt)
place-more Queued c x q xs apart h = (once-more c x q apart h.0, h.1)
place-more InGame c x q xs apart h = all-append (IsOther c) q (x ∷ []) h (apart, tt)

-- a member that is on the connection is there
on-there : (c : ℕ) (m : Member) (ms : List Member) → Among m ms → (m.conn == c) ≡ true → list_any (λ x. x == c) (conns ms) ≡ true
on-there c m [] there own = absurd there
on-there c m (x ∷ xs) (inl here) own = let e : (x.conn == c) ≡ true = ap (λ (y : Member). y.conn == c) here ∙ own in rw e refl
on-there c m (x ∷ xs) (inr later) own = or-true (x.conn == c) (list_any (λ y. y == c) (conns xs)) (on-there c m xs later own)
  where
    or-true : (a b : Bool) → b ≡ true → (a || b) ≡ true
    or-true true b is = refl
    or-true false b is = is

asks-own : (p : Phase) (c : ℕ) (m : Member) (t : Table) → rank m.status ≡ 4 → (m.conn == c) ≡ true → fits p (rank m.status) → On t m
    → Has c p t → GoesBy c p (asks m t)
asks-own Early c m t at own fit on h =
    let n : Member = now_in MapWait t m in
    let u : Table = record (with_member n t) { queue = t.queue ++ m.conn ∷ [] } in
    let k : Has c Queued u = record {
      suits = put-own c Queued n t.members own (omega arith, omega arith);
      place =
          (once-last c m.conn t.queue own h.place, any-with c n t.members ∙ on-there c m t.members on own);
    } in
    let d : KeepsBy c Queued (moved_up (length t.queue) (m.conn ∷ []) u) = moved-keeps c Queued (length t.queue) (m.conn ∷ []) u
    (λ own. refl, tt) k in
    record { to = Queued; later = tt; holds = d.holds; quiet = d.quiet }
asks-own Queued c m t at own fit on h = let low : 5 ≤ rank m.status = fit.0 in absurd (omega (arith, at, low))
asks-own InGame c m t at own fit on h = absurd (omega (arith, at, fit))

pub asks-by : (b : Bool) (c : ℕ) (p : Phase) (m : Member) (t : Table) → (m.conn == c) ≡ b → rank m.status ≡ 4 → Suits c p m → On t m
    → Has c p t → GoesBy c p (asks m t)
asks-by true c p m t is at s on h = asks-own p c m t at is (s is) on h
asks-by false c p m t is at s on h =
    let n : Member = now_in MapWait t m in
    let v : Holds c p (put n t.members) t.queue = put-holds c p n t (λ own. absurd cc) h in
    let u : Table = record (with_member n t) { queue = t.queue ++ m.conn ∷ [] } in
    let k : Has c p u = record { suits = v.suits; place = place-more p c m.conn t.queue (conns (put n t.members)) is v.place } in
    goes-kept c p (asks m t) (moved-keeps c p (length t.queue) (m.conn ∷ []) u (λ own. absurd cc, tt) k)
