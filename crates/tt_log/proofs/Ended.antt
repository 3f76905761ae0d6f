-- What a connection was told by its phase, and that one that has ended stays so.
use Rattle.std.proofs.Common.{◌≡◌, inl, inr, ℕ, ◌+◌, ◌≤◌, ◌<◌, List, [], ◌∷◌, ◌++◌, refl, ap, sym, ◌∙◌, true, false, Bool, Some, arith}
use Rattle.std.proofs.Common.{append-nil, append_assoc}
use Rattle.std.specs.Prelude.{fold, ◌*◌, ◌==◌, length, nat_lt, nat_le, map, cond, ◌&&◌, ◌||◌}
use Rattle.std.specs.List.{AllByRecursion, list_any}
use Rattle.std.proofs.lemmas.Bool.{eqb-true, eq-eqb, ltb-true, ltb-false, le-leb}
use Rattle.std.proofs.lemmas.List.Sums.{fold-append}
use Rattle.tt_edge.specs.declared.event.Door.TheVariants.{Main, Side}
use Rattle.tt_edge.specs.declared.event.Event.{Event}
use Rattle.tt_edge.specs.declared.event.Event.TheVariants.{Open, Packet, Broken, Shut, Tick, Stop}
use Rattle.tt_admin.specs.declared.message.AdminMsg.{AdminMsg}
use Rattle.tt_game.specs.declared.message.GameMsg.TheVariants.{ServerMapData, ServerMapDone}
use Rattle.tt_rules.specs.Statuses.{rank}
use Rattle.tt_log.specs.declared.deed.Step.{Step}
use Rattle.tt_log.specs.declared.deed.What.{What}
use Rattle.tt_log.specs.declared.deed.What.TheVariants.{Msg, ToAdmin, MapBegin, MapPieces, Sync, Entries, Stamp, End}
use Rattle.tt_log.specs.Origin.{Origin}
use Rattle.tt_log.specs.Member.{Member, is_playing}
use Rattle.tt_log.specs.Table.{Table, first, member_of, is_live}
use Rattle.tt_log.specs.Deed.{Said, game, admin}
use Rattle.tt_log.specs.Tick.{pieces_of}
use Rattle.tt_log.specs.Events.{deed, stepped}
use Rattle.tt_log.specs.History.{table_of}
use Rattle.tt_log.specs.Reports.{reported}
use Rattle.tt_log.specs.Tellings.{Filling, Telling, telling, filled, said_by, filling}
use Rattle.tt_log.specs.Told.{is_entry, kept_if, told_to, told_by, heard_from, heard}
use Rattle.tt_log.proofs.Going.{heard-append}
use Rattle.tt_log.proofs.Lists.{NotIn, all-append, among-all}
use Rattle.tt_log.proofs.Crew.{conns, admin_conns, live-conns, live-admins, on-found, found-on}
use Rattle.tt_log.proofs.Ordered.{Ordered, is-ordered, step-ordered, under-not}
use Rattle.tt_log.proofs.Apart.{Apart, Passes, Unseen, step-passes, missed, apart-not-live}
use Rattle.tt_log.proofs.Phases.{Phase, Early, Queued, InGame, fits, Suits, Place, Has, is_command, AllQuiet, WhileQuiet, Later, GoesBy}
use Rattle.tt_log.proofs.Phasing.{Opens, deed-goes}

-- ---- what quiet steps tell

abbrev IsPlain : Said → Type 0
IsPlain s = is_entry s ≡ false

-- none of these is a command
abbrev ArePlain : List Said → Type 0
ArePlain said = AllByRecursion IsPlain said

data-plain : (bs : List (List ℕ)) → ArePlain (map game (map ServerMapData bs))
data-plain [] = tt
data-plain (b ∷ bs) = (refl, data-plain bs)

pieces-plain : (bs : List (List ℕ)) (b : Bool) → ArePlain (map game (map ServerMapData bs ++ cond b [] (ServerMapDone ∷ [])))
pieces-plain [] true = tt
pieces-plain [] false = (refl, tt)
pieces-plain (x ∷ xs) b = (refl, pieces-plain xs b)

admin-plain : (said : List AdminMsg) → ArePlain (map admin said)
admin-plain [] = tt
admin-plain (m ∷ said) = (refl, admin-plain said)

what-plain : (w : What) (o : Origin) (f : Filling) → is_command w ≡ false → ArePlain (said_by o f w)
what-plain (Msg m) o f is = (is, tt)
what-plain (ToAdmin r) o f is = admin-plain (reported o f r)
what-plain MapBegin o f is = (refl, (refl, tt))
what-plain MapPieces o f is = pieces-plain (pieces_of 4 f.left) (nat_lt (4 * 1400) (length f.left))
what-plain Sync o f is = (refl, tt)
what-plain (Entries frame) o f is = absurd cc
what-plain (Stamp e) o f is = absurd cc
what-plain End o f is = tt

kept-plain : (b : Bool) (s : Said) (rest : List Said) → IsPlain s → AllByRecursion IsPlain rest → AllByRecursion IsPlain (kept_if b s rest)
kept-plain true s rest is a = (is, a)
kept-plain false s rest is a = a

told-plain : (c : ℕ) (to : List ℕ) (said : List Said) (more : List Telling) → ArePlain said → AllByRecursion IsPlain (told_to c more)
    → AllByRecursion IsPlain (told_to c (map (telling to) said ++ more))
told-plain c to [] more plain a = a
told-plain c to (s ∷ said) more plain a = kept-plain (list_any (λ x. x == c) to) s (told_to c (map (telling to) said ++ more)) plain.0
    (told-plain c to said more plain.1 a)

unheard : (c : ℕ) (to : List ℕ) (said : List Said) (more : List Telling) → list_any (λ x. x == c) to ≡ false
    → AllByRecursion IsPlain (told_to c more) → AllByRecursion IsPlain (told_to c (map (telling to) said ++ more))
unheard c to [] more is a = a
unheard c to (s ∷ said) more is a = rw is (unheard c to said more is a)

step-plain : (b : Bool) (c : ℕ) (o : Origin) (f : Filling) (s : Step) (more : List Telling) → is_command s.what ≡ b
    → (b && list_any (λ x. x == c) s.to) ≡ false → AllByRecursion IsPlain (told_to c more)
    → AllByRecursion IsPlain (told_to c (map (telling s.to) (said_by o f s.what) ++ more))
step-plain true c o f s more is quiet a = unheard c s.to (said_by o f s.what) more quiet a
step-plain false c o f s more is quiet a = told-plain c s.to (said_by o f s.what) more (what-plain s.what o f is) a

steps-plain : (c : ℕ) (o : Origin) (f : Filling) (steps : List Step) → AllQuiet c steps
    → AllByRecursion IsPlain (told_to c (filled o f steps))
steps-plain c o f [] a = tt
steps-plain c o f (s ∷ steps) a = step-plain (is_command s.what) c o f s (filled o f steps) refl a.0 (steps-plain c o f steps a.1)

-- ---- what was told by a phase

abbrev pub WhilePlain : Phase → List Said → Type 0
WhilePlain Early said = AllByRecursion IsPlain said
WhilePlain Queued said = AllByRecursion IsPlain said
WhilePlain InGame said = Unit

while-plain : (p : Phase) (c : ℕ) (o : Origin) (f : Filling) (steps : List Step) → WhileQuiet p c steps
    → WhilePlain p (told_to c (filled o f steps))
while-plain Early c o f steps a = steps-plain c o f steps a
while-plain Queued c o f steps a = steps-plain c o f steps a
while-plain InGame c o f steps a = tt

plain-then : (p q : Phase) (xs ys : List Said) → Later p q → WhilePlain p xs → WhilePlain q ys → WhilePlain q (xs ++ ys)
plain-then Early Early xs ys l a b = all-append IsPlain xs ys a b
plain-then Early Queued xs ys l a b = all-append IsPlain xs ys a b
plain-then Early InGame xs ys l a b = tt
plain-then Queued Early xs ys l a b = absurd l
plain-then Queued Queued xs ys l a b = all-append IsPlain xs ys a b
plain-then Queued InGame xs ys l a b = tt
plain-then InGame Early xs ys l a b = absurd l
plain-then InGame Queued xs ys l a b = absurd l
plain-then InGame InGame xs ys l a b = tt

-- a connection's phase, and what it was told so far
pub record IsKept (c : ℕ) (t : Table) (said : List Said) : Type 0 where
  pub phase : Phase
  pub holds : Has c phase t
  pub unopened : t.openings < c → phase ≡ Early
  pub plain : WhilePlain phase said

early-plain : (p : Phase) (said : List Said) → p ≡ Early → WhilePlain p said → AllByRecursion IsPlain said
early-plain Early said is a = a
early-plain Queued said is a = a
early-plain InGame said is a = absurd cc

apart-suits : (c : ℕ) (p : Phase) (ms : List Member) → NotIn c (conns ms) → AllByRecursion (Suits c p) ms
apart-suits c p [] a = tt
apart-suits c p (m ∷ ms) a = let e : (m.conn == c) ≡ false = a.0 in (λ own. absurd cc, apart-suits c p ms a.1)

opens-early : (c : ℕ) (p : Phase) (e : Event) (t : Table) → (t.openings < c → p ≡ Early) → Opens c p t e
opens-early c p (Open Main peer) t early = λ own. let same : t.openings + 1 ≡ c = eqb-true (t.openings + 1) c own in
    early (omega (arith, same))
opens-early c p (Open Side peer) t early = tt
opens-early c p (Packet conn kind body) t early = tt
opens-early c p (Broken conn) t early = tt
opens-early c p (Shut conn) t early = tt
opens-early c p Tick t early = tt
opens-early c p Stop t early = tt

early-place : (p : Phase) (c : ℕ) (q xs : List ℕ) → p ≡ Early → Place p c q xs → NotIn c q
early-place Early c q xs is h = h
early-place Queued c q xs is h = absurd cc
early-place InGame c q xs is h = absurd cc

-- a connection that was not opened stands nowhere
unopened-apart : (c : ℕ) (t : Table) (said : List Said) → t.openings < c → Ordered t → IsKept c t said → Apart c t
unopened-apart c t said above order kept = record {
  members = under-not t.openings c (conns t.members) above order.under;
  admins = under-not t.openings c (admin_conns t.admins) above order.admins_under;
  queue = early-place kept.phase c t.queue (conns t.members) (kept.unopened above) kept.holds.place;
}

step-by : (b : Bool) (c : ℕ) (o : Origin) (e : Event) (t : Table) (said : List Said) → nat_lt (stepped o t e).openings c ≡ b → Ordered t
    → IsKept c t said → IsKept c (stepped o t e) (said ++ told_by o t e c)
step-by true c o e t said is order kept =
    let s : Table = stepped o t e in
    let l : s.openings < c = ltb-true s.openings c is in
    let p : Passes c t (deed o e t).told s = step-passes c o e t in
    let before : t.openings < c = omega (arith, l, p.openings) in
    let unseen : Unseen c (deed o e t).told s = p.unseen (inr l) (unopened-apart c t said before order kept) in
    let nothing : told_by o t e c ≡ [] = missed c o (filling o t s) (deed o e t).told unseen.misses in
    record {
      phase = Early;
      holds = record { suits = apart-suits c Early s.members unseen.apart.members; place = unseen.apart.queue };
      unopened = λ later. refl;
      plain = rw (nothing, append-nil said) (early-plain kept.phase said (kept.unopened before) kept.plain);
    }
step-by false c o e t said is order kept =
    let s : Table = stepped o t e in
    let l : c ≤ s.openings = ltb-false s.openings c is in
    let g : GoesBy c kept.phase (deed o e t) = deed-goes c kept.phase o e t (opens-early c kept.phase e t kept.unopened) kept.holds in
    record {
      phase = g.to;
      holds = g.holds;
      unopened = λ above. absurd (omega (arith, l, above));
      plain = plain-then kept.phase g.to said (told_by o t e c) g.later kept.plain (while-plain g.to c o (filling o t s)
          (deed o e t).told g.quiet);
    }

from-kept : (c : ℕ) (o : Origin) (es : List Event) (t : Table) (said : List Said) → Ordered t → IsKept c t said
    → IsKept c (fold (stepped o) t es) (said ++ heard_from o t es c)
from-kept c o [] t said order kept = rw (append-nil said) kept
from-kept c o (e ∷ es) t said order kept =
    let s : Table = stepped o t e in
    let next : IsKept c s (said ++ told_by o t e c) = step-by (nat_lt s.openings c) c o e t said refl order kept in
    rw (sym (append_assoc said (told_by o t e c) (heard_from o s es c))) (from-kept c o es s (said ++ told_by o t e c)
    (step-ordered o e t order) next)

pub is-kept : (c : ℕ) (o : Origin) (es : List Event) → IsKept c (table_of o es) (heard o es c)
is-kept c o es = from-kept c o es (first o) [] (is-ordered o []) (record {
  phase = Early;
  holds = record { suits = tt; place = tt };
  unopened = λ above. refl;
  plain = tt;
})

-- ---- a connection that was not opened

openings-rise : (o : Origin) (es : List Event) (t : Table) → t.openings ≤ (fold (stepped o) t es).openings
openings-rise o [] t = omega arith
openings-rise o (e ∷ es) t = let p : Passes 0 t (deed o e t).told (stepped o t e) = step-passes 0 o e t in
    omega (arith, p.openings, openings-rise o es (stepped o t e))

from-unopened : (c : ℕ) (o : Origin) (es : List Event) (t : Table) → (fold (stepped o) t es).openings < c → Apart c t
    → Apart c (fold (stepped o) t es) × (heard_from o t es c ≡ [])
from-unopened c o [] t above a = (a, refl)
from-unopened c o (e ∷ es) t above a =
    let s : Table = stepped o t e in
    let p : Passes c t (deed o e t).told s = step-passes c o e t in
    let unseen : Unseen c (deed o e t).told s = p.unseen (inr (omega (arith, above, openings-rise o es s))) a in
    let rest : Apart c (fold (stepped o) s es) × (heard_from o s es c ≡ []) = from-unopened c o es s above unseen.apart in
    (rest.0, ap (λ (xs : List Said). xs ++ heard_from o s es c) (missed c o (filling o t s) (deed o e t).told unseen.misses) ∙ rest.1)

pub unopened : (o : Origin) (es : List Event) (c : ℕ) → (table_of o es).openings < c → (is_live (table_of o es) c ≡ false)
    × (heard o es c ≡ [])
unopened o es c above =
    let all = from-unopened c o es (first o) above (record { members = tt; admins = tt; queue = tt }) in
    (apart-not-live c (table_of o es) all.0, all.1)

-- ---- a member that does not play

plays-at : (p : Phase) (m : Member) (said : List Said) → fits p (rank m.status) → is_playing m ≡ false → WhilePlain p said
    → AllByRecursion IsPlain said
plays-at Early m said fit is a = a
plays-at Queued m said fit is a = a
plays-at InGame m said fit is a = let high : 8 ≤ rank m.status = fit in let low : nat_le 8 (rank m.status) ≡ true =
    le-leb 8 (rank m.status) high in absurd cc

pub suits-found : (c : ℕ) (p : Phase) (t : Table) (m : Member) → member_of t c ≡ Some m → Has c p t → Suits c p m
suits-found c p t m is h = among-all (Suits c p) m t.members (on-found t c m is) h.suits

pub not-yet : (o : Origin) (es : List Event) (c : ℕ) (m : Member) → member_of (table_of o es) c ≡ Some m → is_playing m ≡ false
    → AllByRecursion IsPlain (heard o es c)
not-yet o es c m is idle =
    let kept : IsKept c (table_of o es) (heard o es c) = is-kept c o es in
    let own : (m.conn == c) ≡ true = eq-eqb m.conn c (found-on c (table_of o es).members m is) in
    plays-at kept.phase m (heard o es c) (suits-found c kept.phase (table_of o es) m is kept.holds own) idle kept.plain

-- ---- a connection that ended

pub none-there : (c : ℕ) (xs : List ℕ) → list_any (λ x. x == c) xs ≡ false → NotIn c xs
none-there c [] gone = tt
none-there c (x ∷ xs) gone = none-of (x == c) c x xs refl gone (λ later. none-there c xs later)
  where
    none-of : (b : Bool) (c x : ℕ) (xs : List ℕ) → (x == c) ≡ b → (b || list_any (λ y. y == c) xs) ≡ false
        → (list_any (λ y. y == c) xs ≡ false → NotIn c xs) → NotIn c (x ∷ xs)
    none-of true c x xs is gone next = absurd cc
    none-of false c x xs is gone next = (is, next gone)

first-false : (x y : Bool) → (x || y) ≡ false → (x ≡ false) × (y ≡ false)
first-false true y is = absurd cc
first-false false y is = (refl, is)

pub place-gone : (p : Phase) (c : ℕ) (q xs : List ℕ) → list_any (λ x. x == c) xs ≡ false → Place p c q xs → NotIn c q
place-gone Early c q xs gone h = h
place-gone Queued c q xs gone h = let there : list_any (λ x. x == c) xs ≡ true = h.1 in absurd cc
place-gone InGame c q xs gone h = h

pub gone-apart : (c : ℕ) (p : Phase) (t : Table) → is_live t c ≡ false → Has c p t → Apart c t
gone-apart c p t gone h =
    let both = first-false _ _ gone in
    let none : list_any (λ x. x == c) (conns t.members) ≡ false = sym (live-conns c t.members) ∙ both.0 in
    record {
      members = none-there c (conns t.members) none;
      admins = none-there c (admin_conns t.admins) (sym (live-admins c t.admins)
          ∙ both.1);
      queue = place-gone p c t.queue (conns t.members) none h.place;
    }

from-ended : (c : ℕ) (o : Origin) (es : List Event) (t : Table) → c ≤ t.openings → Apart c t → Apart c (fold (stepped o) t es)
    × (heard_from o t es c ≡ [])
from-ended c o [] t l a = (a, refl)
from-ended c o (e ∷ es) t l a =
    let s : Table = stepped o t e in
    let p : Passes c t (deed o e t).told s = step-passes c o e t in
    let unseen : Unseen c (deed o e t).told s = p.unseen (inl l) a in
    let rest : Apart c (fold (stepped o) s es) × (heard_from o s es c ≡ []) =
    from-ended c o es s (omega (arith, l, p.openings)) unseen.apart in
    (rest.0, ap (λ (xs : List Said). xs ++ heard_from o s es c) (missed c o (filling o t s) (deed o e t).told unseen.misses) ∙ rest.1)

pub ended : (o : Origin) (es fs : List Event) (c : ℕ) → c ≤ (table_of o es).openings → is_live (table_of o es) c ≡ false
    → Apart c (fold (stepped o) (table_of o es) fs) × (heard_from o (table_of o es) fs c ≡ [])
ended o es fs c l gone = let kept : IsKept c (table_of o es) (heard o es c) = is-kept c o es in from-ended c o fs (table_of o es) l
    (gone-apart c kept.phase (table_of o es) gone kept.holds)

pub ended-not-live : (o : Origin) (es fs : List Event) (c : ℕ) → c ≤ (table_of o es).openings → is_live (table_of o es) c ≡ false
    → is_live (table_of o (es ++ fs)) c ≡ false
ended-not-live o es fs c l gone = ap (λ (t : Table). is_live t c) (fold-append (stepped o) (first o) es fs)
    ∙ apart-not-live c (fold (stepped o) (table_of o es) fs) (ended o es fs c l gone).0

pub ended-heard : (o : Origin) (es fs : List Event) (c : ℕ) → c ≤ (table_of o es).openings → is_live (table_of o es) c ≡ false
    → heard o (es ++ fs) c ≡ heard o es c
ended-heard o es fs c l gone = heard-append o (first o) es fs c ∙ ap (λ (xs : List Said). heard o es c ++ xs) (ended o es fs c l gone).1
    ∙ append-nil (heard o es c)

-- ---- no connection has the number 0

nought-apart : (o : Origin) (es : List Event) → Apart 0 (table_of o es) × (heard_from o (first o) es 0 ≡ [])
nought-apart o es = from-ended 0 o es (first o) (omega arith) (record { members = tt; admins = tt; queue = tt })

pub nought : (o : Origin) (es : List Event) → (is_live (table_of o es) 0 ≡ false) × (heard o es 0 ≡ [])
nought o es = let all = nought-apart o es in (apart-not-live 0 (table_of o es) all.0, all.1)
