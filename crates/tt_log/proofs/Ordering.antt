-- What the server ordered itself is what was stamped of it, and then its own list.
use Rattle.std.proofs.Common.{◌≡◌, ℕ, ◌+◌, List, [], ◌∷◌, ◌++◌, refl, ap, ap₂, sym, ◌∙◌, subst, true, false, Bool, append-nil, append_assoc}
use Rattle.std.proofs.Common.{zero, suc}
use Rattle.std.specs.Prelude.{◌==◌, ◌||◌, fold, length, drop, nat_le, nat_lt, map}
use Rattle.tt_edge.specs.declared.event.Event.{Event}
use Rattle.tt_edge.specs.declared.event.Event.TheVariants.{Open, Packet, Broken, Shut, Tick, Stop}
use Rattle.tt_edge.specs.Event.{is_tick}
use Rattle.tt_world.specs.declared.command.Command.{Command}
use Rattle.tt_world.specs.declared.command.Entry.{Entry}
use Rattle.tt_log.specs.declared.deed.Step.{Step}
use Rattle.tt_log.specs.Origin.{Origin}
use Rattle.tt_log.specs.Table.{Table, first, world_of}
use Rattle.tt_log.specs.Deed.{where_}
use Rattle.tt_log.specs.Desk.{admin_arrives, counted_aside, most_admins}
use Rattle.tt_log.specs.Tick.{stamps, own_entry, stamped, frame_runs_by, left_of, ticked}
use Rattle.tt_log.specs.Events.{arrives, counted_in, by_event, charged, shut_down, stops, taken, takes, stepped, last_frame}
use Rattle.tt_log.specs.History.{table_of, journal_of}
use Rattle.tt_log.specs.Stamps.{ordered, ordered_by, ordered_from, owned, stamped_of}
use Rattle.tt_log.proofs.Walk.{Turns, ahead-of, behind-of}
use Rattle.tt_log.proofs.Walk.{Base, Walk, Doors, Moves, running, stamping, of-asks, of-enters, of-leaves, of-still, of-entries, of-frames}
use Rattle.tt_log.proofs.Walk.{of-follows}
use Rattle.tt_log.proofs.Lists.{last-among}
use Rattle.tt_log.proofs.Places.{world-places}
use Rattle.tt_log.proofs.Clock.{Ticked, ticked-is, event-same, taken-run}
use Rattle.tt_log.proofs.Ordered.{Ordered, is-ordered, step-ordered}
use Rattle.tt_log.proofs.Stamping.{stamped-append, drawing, drawing-none, drop-front, rising-none}

-- the own list grows behind what stands there, and not in a tick
record Grows (e : Event) (t u : Table) : Type 0 where
  more : List Command
  own : u.own ≡ t.own ++ more
  still : is_tick e ≡ true → more ≡ []

abbrev KeepsOwn : Event → Table → List Step → Table → Type 0
KeepsOwn e t steps u = Grows e t u

same : (e : Event) (t u : Table) → u.own ≡ t.own → Grows e t u
same e t u is = record { more = []; own = is ∙ sym (append-nil t.own); still = λ tick. refl }

then-grows : (e : Event) (t u v : Table) → Grows e t u → Grows e u v → Grows e t v
then-grows e t u v a b = record {
  more = a.more ++ b.more;
  own = b.own ∙ ap (λ (xs : List Command). xs ++ b.more) a.own ∙ append_assoc t.own a.more b.more;
  still = λ tick. ap₂ (λ (xs ys : List Command). xs ++ ys) (a.still tick) (b.still tick);
}

own-turns : (o : Origin) (e : Event) → Turns o e (KeepsOwn e)
own-turns o e k t m on may by = same e t _ refl

own-base : (o : Origin) (e : Event) → Base o e (KeepsOwn e)
own-base o e = record {
  still = λ t. same e t t refl;
  joins = λ t u v xs ys a b. then-grows e t u v a b;
  turns = ahead-of o e (KeepsOwn e) (own-turns o e);
  tells_one = λ t m msg on talk. same e t t refl;
  tells_some = λ t to w there news. same e t t refl;
  tells_admins = λ t to r may is. same e t t refl;
}

own-moves : (o : Origin) (e : Event) → Moves o e (KeepsOwn e)
own-moves o e = record {
  moving = λ v t m on may. same e t _ refl;
  recalls = λ t m on at. same e t t refl;
  waits_on = λ t conn n there. same e t t refl;
  stands = λ t m on. same e t _ refl;
  cuts = λ t place. same e t _ refl;
  ends_one = λ t m on. same e t t refl;
  parts = λ t m on. same e t _ refl;
  greets = λ t m on at. same e t _ refl;
}

own-walk : (o : Origin) (e : Event) → Walk o e (KeepsOwn e)
own-walk o e = record {
  base = own-base o e;
  locks = λ t m digest on allowed. same e t _ refl;
  orders = λ t c is still. record { more = c ∷ []; own = refl; still = λ tick. absurd cc };
  asks_map = λ t m on at. of-asks o e (KeepsOwn e) (own-base o e) (own-moves o e) t m on at;
  enters_game = λ t m on at. of-enters o e (KeepsOwn e) (own-base o e) (own-moves o e) t m on at;
  goes = λ t m farewell on is. of-leaves o e (KeepsOwn e) (own-base o e) (own-moves o e) t m farewell on is;
  settles = λ t a b on is. same e t _ refl;
  goes_aside = λ t a on. same e t _ refl;
}

arrives-own : (full : Bool) (t : Table) → (arrives full (counted_in t)).table.own ≡ t.own
arrives-own true t = refl
arrives-own false t = refl

aside-own : (full : Bool) (t : Table) → (admin_arrives full (counted_aside t)).table.own ≡ t.own
aside-own true t = refl
aside-own false t = refl

own-doors : (o : Origin) (e : Event) → Doors o e (KeepsOwn e)
own-doors o e = record {
  comes = λ t. same e t _ (arrives-own (nat_le o.setup.max_clients (length t.members)) t);
  comes_aside = λ t. same e t _ (aside-own (nat_le most_admins (length t.admins)) t);
}

-- ---- a tick

runs-own : (o : Origin) (b : Bool) (t : Table) → Grows Tick (running b o t) (frame_runs_by b o t).table
runs-own o true t = of-frames o Tick (KeepsOwn Tick) (own-base o Tick) t.members (running true o t)
runs-own o false t = same Tick (running false o t) _ refl

running-own : (o : Origin) (b : Bool) (t : Table) → (running b o t).own ≡ t.own
running-own o true t = refl
running-own o false t = refl

none-more : (t u : Table) → Grows Tick t u → u.own ≡ t.own
none-more t u a = a.own ∙ ap (λ (xs : List Command). t.own ++ xs) (a.still refl) ∙ append-nil t.own

ticked-own : (o : Origin) (t : Table) → (ticked o t).table.own ≡ []
ticked-own o t =
    let s : Table = (stamped t).table in
    let b : Bool = nat_lt s.top (s.frame + 1) in
    let u : Table = (frame_runs_by b o s).table in
    none-more u (ticked o t).table (of-follows o Tick (KeepsOwn Tick) (own-walk o Tick)
    (behind-of o Tick (KeepsOwn Tick) (own-turns o Tick)) (world_of o t) (left_of o t) u
    (world-places o t.journal t.frame))
    ∙ none-more (running b o s) u (runs-own o b s) ∙ running-own o b s
    ∙ none-more (stamping t) s (of-entries o Tick (KeepsOwn Tick) (own-base o Tick) (stamps t) (stamping t)
    (last-among t.journal (stamps t)))

-- ---- what is stamped of the server

own-stamped : (f : ℕ) (cs : List Command) → stamped_of 1 (map (own_entry f) cs) ≡ map owned cs
own-stamped f [] = refl
own-stamped f (c ∷ cs) = ap (λ (rest : List (ℕ × Command)). owned c ∷ rest) (own-stamped f cs)

stamps-own : (t : Table) → Ordered t → stamped_of 1 (stamps t) ≡ map owned t.own
stamps-own t r =
    stamped-append 1 (map (own_entry (t.top + 1)) t.own) (drawing (t.top + 1) t.members)
    ∙ ap₂ (λ (xs ys : List (ℕ × Command)). xs ++ ys) (own-stamped (t.top + 1) t.own) (drawing-none 1 (t.top + 1) t.members
    (rising-none t.members r.clients))
    ∙ append-nil (map owned t.own)

-- ---- what holds behind every list of events

record Served (said : List Command) (t : Table) : Type 0 where
  all : map owned said ≡ stamped_of 1 t.journal ++ map owned t.own

map-owned : (xs ys : List Command) → map owned (xs ++ ys) ≡ map owned xs ++ map owned ys
map-owned [] ys = refl
map-owned (x ∷ xs) ys = ap (λ (rest : List (ℕ × Command)). owned x ∷ rest) (map-owned xs ys)

closed-own : (b : Bool) (t : Table) → (where_ b shut_down t).table.own ≡ t.own
closed-own true t = refl
closed-own false t = refl

taken-own : (o : Origin) (e : Event) (t : Table) → (taken o e t).table.own ≡ (by_event o e t).table.own
taken-own o e t =
    let v : Table = (charged e (by_event o e t).table).table in
    closed-own (stops o e t || nat_le o.setup.cost v.cost || (v.frame == last_frame)) v

still-served : (said : List Command) (o : Origin) (e : Event) (t u : Table) → u.own ≡ (by_event o e t).table.own → u.journal ≡ t.journal
    → Grows e t (by_event o e t).table
    → Served said t → Served (said ++ drop (length t.own) u.own) u
still-served said o e t u own journal a h =
    let is : u.own ≡ t.own ++ a.more = own ∙ a.own in
    record {
      all = ap (λ (xs : List Command). map owned (said ++ drop (length t.own) xs)) is
          ∙ ap (λ (xs : List Command). map owned (said ++ xs)) (drop-front t.own a.more)
          ∙ map-owned said a.more ∙ ap (λ (xs : List (ℕ × Command)). xs ++ map owned a.more) h.all
          ∙ append_assoc (stamped_of 1 t.journal) (map owned t.own) (map owned a.more)
          ∙ ap (λ (xs : List (ℕ × Command)). stamped_of 1 t.journal ++ xs) (sym (map-owned t.own a.more))
          ∙ ap₂ (λ (xs : List Entry) (ys : List Command). stamped_of 1 xs ++ map owned ys) (sym journal) (sym is);
    }

abbrev nothing : List Command
nothing = []

drop-none : (n : ℕ) → drop n nothing ≡ []
drop-none zero = refl
drop-none (suc n) = refl

tick-served : (said : List Command) (t u : Table) → Ordered t → u.own ≡ [] → u.journal ≡ t.journal ++ stamps t → Served said t
    → Served (said ++ drop (length t.own) u.own) u
tick-served said t u r own journal h = record {
  all = ap (λ (xs : List Command). map owned (said ++ drop (length t.own) xs)) own
      ∙ ap (λ (xs : List Command). map owned (said ++ xs)) (drop-none (length t.own)) ∙ ap (λ (xs : List Command). map owned xs)
      (append-nil said) ∙ h.all
      ∙ ap (λ (xs : List (ℕ × Command)). stamped_of 1 t.journal ++ xs) (sym (stamps-own t r)) ∙ sym (stamped-append 1 t.journal (stamps t))
      ∙ ap (λ (xs : List Entry). stamped_of 1 xs) (sym journal) ∙ sym (append-nil (stamped_of 1 u.journal))
      ∙ ap (λ (xs : List Command). stamped_of 1 u.journal ++ map owned xs) (sym own);
}

taken-served : (said : List Command) (o : Origin) (e : Event) (t : Table) → Ordered t → Served said t
    → Served (said ++ drop (length t.own) (taken o e t).table.own) (taken o e t).table
taken-served said o Tick t r h =
    let a : Ticked o t (ticked o t).table = ticked-is o t in
    tick-served said t (taken o Tick t).table r (taken-own o Tick t ∙ ticked-own o t) ((taken-run o Tick t).journal ∙ a.journal) h
taken-served said o (Open door peer) t r h = let e : Event = Open door peer in still-served said o e t (taken o e t).table (taken-own o e t)
    ((taken-run o e t).journal ∙ (event-same o e t refl).journal) (of-still o e (KeepsOwn e) (own-walk o e) (own-doors o e) t refl) h
taken-served said o (Packet conn kind body) t r h = let e : Event = Packet conn kind body in still-served said o e t (taken o e t).table
    (taken-own o e t) ((taken-run o e t).journal ∙ (event-same o e t refl).journal) (of-still o e (KeepsOwn e) (own-walk o e)
    (own-doors o e) t refl) h
taken-served said o (Broken conn) t r h = let e : Event = Broken conn in still-served said o e t (taken o e t).table (taken-own o e t)
    ((taken-run o e t).journal ∙ (event-same o e t refl).journal) (of-still o e (KeepsOwn e) (own-walk o e) (own-doors o e) t refl) h
taken-served said o (Shut conn) t r h = let e : Event = Shut conn in still-served said o e t (taken o e t).table (taken-own o e t)
    ((taken-run o e t).journal ∙ (event-same o e t refl).journal) (of-still o e (KeepsOwn e) (own-walk o e) (own-doors o e) t refl) h
taken-served said o Stop t r h = let e : Event = Stop in still-served said o e t (taken o e t).table (taken-own o e t)
    ((taken-run o e t).journal ∙ (event-same o e t refl).journal) (of-still o e (KeepsOwn e) (own-walk o e) (own-doors o e) t refl) h

step-served : (b : Bool) (said : List Command) (o : Origin) (e : Event) (t : Table) → Ordered t → Served said t
    → Served (said ++ drop (length t.own) (where_ b (taken o e) t).table.own) (where_ b (taken o e) t).table
step-served true said o e t r h = taken-served said o e t r h
step-served false said o e t r h =
    let none : drop (length t.own) t.own ≡ [] = ap (λ (xs : List Command). drop (length t.own) xs) (sym (append-nil t.own))
    ∙ drop-front t.own [] in
    subst (λ (xs : List Command). Served xs t) (sym (append-nil said) ∙ ap (λ (xs : List Command). said ++ xs) (sym none)) h

from-served : (o : Origin) (es : List Event) (t : Table) (said : List Command) → Ordered t → Served said t
    → Served (said ++ ordered_from o t es) (fold (stepped o) t es)
from-served o [] t said r h = subst (λ (xs : List Command). Served xs t) (sym (append-nil said)) h
from-served o (e ∷ es) t said r h =
    let s : Table = stepped o t e in
    subst (λ (xs : List Command). Served xs (fold (stepped o) s es)) (append_assoc said (ordered_by o t e) (ordered_from o s es))
    (from-served o es s (said ++ ordered_by o t e) (step-ordered o e t r) (step-served (takes t e) said o e t r h))

pub all-served : (o : Origin) (es : List Event) → map owned (ordered o es) ≡ stamped_of 1 (journal_of o es) ++ map owned (table_of o es).own
all-served o es = (from-served o es (first o) [] (is-ordered o []) (record { all = refl })).all
