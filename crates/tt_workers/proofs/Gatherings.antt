-- A worker's part, told over the whole history.
use Rattle.std.proofs.Common.{◌≡◌, ℕ, ◌+◌, ◌-◌, ◌≤◌, ◌⊎◌, inl, inr, List, [], ◌∷◌, ◌++◌, length, take, drop, take-add, refl}
use Rattle.std.proofs.Common.{sym, ap, ◌∙◌, append_assoc, arith}
use Rattle.std.specs.Prelude.{Bool, true, false, Option}
use Rattle.std.specs.List.{AllByRecursion}
use Rattle.std.proofs.lemmas.List.{append-nil}
use mathlib.Core.List.{IsPrefix}
use Rattle.tt_edge.specs.declared.event.Event.{Event}
use Rattle.tt_edge.specs.declared.event.Event.TheVariants as event
use Rattle.tt_edge.specs.declared.event.Door.{Door}
use Rattle.tt_edge.specs.declared.event.Peer.{Peer}
use Rattle.tt_edge.specs.declared.listener.Served.{Served}
use Rattle.tt_edge.specs.declared.listener.LinkEnd.{LinkEnd}
use Rattle.tt_edge.specs.declared.listener.LinkEnd.TheVariants as end
use Rattle.tt_edge.specs.Event.{opens}
use Rattle.tt_edge.specs.Core.{GrowsTo}
use Rattle.tt_edge.specs.Link.{LinkCounts}
use Rattle.tt_edge.specs.Listener.{DoorCounts, TickCounts}
use Rattle.tt_edge.specs.declared.ticker.Beat.{Beat}
use Rattle.tt_room.specs.declared.pass.Pass.{Pass}
use Rattle.tt_room.specs.Passes.{seen, mine}
use Rattle.tt_workers.specs.Telling.{LinkNow}
use Rattle.tt_workers.specs.Serving.{EndsSo, Opened, Refused, Serves, behind}
use Rattle.tt_workers.specs.Ticking.{TicksEndSo, Ticks}
use Rattle.tt_workers.specs.Attending.{Row, Attends, Attended, AttendsEndSo}
use Rattle.tt_workers.specs.Gathering.{EndsIn, IsOpened, IsRefused, AreLinks, GathersLinks, GathersTicks}
use Rattle.tt_workers.specs.declared.ticks.TickEnd.{TickEnd}
use Rattle.tt_workers.specs.declared.ticks.TickEnd.TheVariants as tick
use Rattle.tt_workers.specs.declared.attending.WorkerEnd.{WorkerEnd}
use Rattle.tt_workers.specs.declared.attending.WorkerEnd.TheVariants as worker
use Rattle.tt_workers.proofs.Tellings.{told_grows, prefix_trans}
use Rattle.tt_workers.proofs.Talkings.{opens_push, opens_later}
use Rattle.tt_workers.proofs.Servings.{dead_on}

-- ---- histories that go on

front_of_longer : (a b : ℕ) (history : List Event) → a ≤ b → IsPrefix (take a history) (take b history)
front_of_longer a b history less =
    let sum : a + (b - a) ≡ b = omega arith in
    (take (b - a) (drop a history), sym (take-add a (b - a) history) ∙ ap (λ (n : ℕ). take n history) sum)

-- what a longer list begins with is what it has up to that length
front_is : (list more history : List Event) → IsPrefix (list ++ more) history → take (length list) history ≡ list
front_is list more history longer =
    ap (take (length list)) (sym longer.1 ∙ append_assoc list more longer.0) ∙ take_front list (more ++ longer.0)
  where
    take_front : (xs ys : List Event) → take (length xs) (xs ++ ys) ≡ xs
    take_front [] ys = refl
    take_front (x ∷ xs) ys = ap (λ (zs : List Event). x ∷ zs) (take_front xs ys)

over_more : (over : List Event → Bool) → ((before : List Event) (e : Event) → over before ≡ true → over (before ++ e ∷ []) ≡ true)
    → (before rest : List Event) → over before ≡ true → over (before ++ rest) ≡ true
over_more over last before [] is = ap over (append-nil before) ∙ is
over_more over last before (e ∷ es) is = ap over (sym (append_assoc before (e ∷ []) es)) ∙ over_more over last (before ++ e ∷ []) es
    (last before e is)

-- what is over stays over
pub over_later : (over : List Event → Bool) → ((before : List Event) (e : Event) → over before ≡ true → over (before ++ e ∷ []) ≡ true)
    → (before after : List Event) → IsPrefix before after → over before ≡ true → over after ≡ true
over_later over last before after longer is = ap over (sym longer.1) ∙ over_more over last before longer.0 is

-- ---- one link

module _ (told : List Event → List ℕ) (live : List Event → Bool) (conn : ℕ)
    (grows : (before : List Event) (event : Event) → GrowsTo (told before) (told (before ++ event ∷ [])))
    (stays : (before : List Event) (event : Event) → conn ≤ opens before → live before ≡ false → (live (before ++ event ∷ []) ≡ false)
    × (told (before ++ event ∷ []) ≡ told before)) where
  -- where all was written that was told up to the last of some events, so it was up to each
  up_to_each : (history : List Event) (out : List ℕ) (n : ℕ) (own : List (ℕ × Event)) → behind own ≤ n → IsPrefix (told (take n history))
      out → AllByRecursion (λ x. IsPrefix (told (take (x.0 + 1) history)) out) own
  up_to_each history out n [] less all = tt
  up_to_each history out n (x ∷ xs) less all = (
    prefix_trans (told (take (x.0 + 1) history)) (told (take n history)) out (told_grows told grows (take (x.0 + 1) history)
        (take n history) (front_of_longer (x.0 + 1) n history (omega (arith, less)))) all,
    up_to_each history out n xs (omega (arith, less)) all,
  )

  ends_in : (seen history : List Event) (own : List (ℕ × Event)) (c c' : LinkCounts) (out : List ℕ) (e : LinkEnd) → IsPrefix seen history
      → conn ≤ opens seen → EndsSo told (live seen) seen own c c' out e → EndsIn told (live history) history own c c' out e
  ends_in seen history own c c' out end.Done longer known ended = (
    dead_on told live conn grows stays seen history longer known ended.0,
    ended.1 history longer,
  )
  ends_in seen history own c c' out end.PeerEnd longer known ended = (
    ended.0,
    elim ended.1 [
      | inl idle ↦ inl idle
      | inr all ↦ inr (up_to_each history out (behind own) own (omega arith) (all history longer))
    ],
  )
  ends_in seen history own c c' out end.LinkFault longer known ended = ended
  ends_in seen history own c c' out end.Over longer known ended = ended
  ends_in seen history own c c' out end.Memory longer known ended = tt
  ends_in seen history own c c' out end.Slow longer known ended = let rest = ended.1 history longer in (ended.0, rest.0, rest.1, rest.2)

-- an end whose cause is that all is over
ends_over : {L : Type 0} (rows : List (Row L)) (b b' : Bool) (c c' : DoorCounts) (e : WorkerEnd) → (b ≡ true → b' ≡ true)
    → AttendsEndSo rows b c c' e → AttendsEndSo rows b' c c' e
ends_over rows b b' c c' worker.Fresh on ended = ended
ends_over rows b b' c c' worker.Over on ended = (ended.0, on ended.1, ended.2, ended.3)
ends_over rows b b' c c' worker.ListenFault on ended = ended
ends_over rows b b' c c' worker.TickFault on ended = ended
ends_over rows b b' c c' worker.Stopped on ended = ended
ends_over rows b b' c c' worker.Memory on ended = ended

module _ {C L : Type 0} (now : L → LinkNow) (told : List Event → ℕ → List ℕ) (live : List Event → ℕ → Bool) (over : List Event → Bool)
    (door : Door)
    (grows : (conn : ℕ) (before : List Event) (event : Event) → GrowsTo (told before conn) (told (before ++ event ∷ []) conn))
    (stays : (conn : ℕ) (before : List Event) (event : Event) → conn ≤ opens before → live before conn ≡ false
    → (live (before ++ event ∷ []) conn ≡ false) × (told (before ++ event ∷ []) conn ≡ told before conn))
    (last : (before : List Event) (event : Event) → over before ≡ true → over (before ++ event ∷ []) ≡ true) where
  opened_in : (p p' : Pass C) (history : List Event) (row : Row L) → IsPrefix (seen p') history
      → (o : Opened told live door row.peer p p' (now row.came) (now row.gone) row.served)
      → IsOpened now told live over history door row (((length o.list, event.Open door row.peer) ∷ o.heard) ++ o.shut)
  opened_in p p' history row longer o =
      let conn = row.served.conn in
      let whole = prefix_trans (o.list ++ event.Open door row.peer ∷ []) (seen p') history o.opening longer in
      let known : conn ≤ opens (seen p') = omega (
        arith,
        o.conn_is,
        opens_push o.list (event.Open door row.peer),
        opens_later
            (o.list ++ event.Open door row.peer ∷ []) (seen p') o.opening,
      ) in
      let dead : live (seen p') conn ≡ false → live history conn ≡ false = dead_on (λ es. told es conn) (λ es. live es conn) conn
      (grows conn) (stays conn) (seen p') history longer known in
      let first = o.told_first history longer in
      record {
        place = length o.list;
        heard = o.heard;
        shut = o.shut;
        events = refl;
        number = o.conn_is ∙ ap (λ (es : List Event). opens es + 1) (sym (front_is o.list (event.Open door row.peer ∷ []) history whole));
        named = o.named;
        bytes = o.bytes;
        read = o.link;
        read_is = o.read_is;
        in_order = o.in_order;
        whole = λ packets e reads. elim (o.whole packets e reads) [
          | inl all ↦ inl all
          | inr (inl gone) ↦ inr (inl (gone.0, dead gone.1))
          | inr (inr short) ↦ inr (inr short)
        ];
        shut_is = elim o.shut_is [
          | inl none ↦ inl (
            none.0,
            elim none.1 [
              | inl done ↦ inl done
              | inr (inl gone) ↦ inr (inl (dead gone))
              | inr (inr short) ↦ inr (inr short)
            ],
          )
          | inr one ↦ inr one
        ];
        out = o.out;
        held = o.held;
        written_is = o.written_is;
        first = prefix_trans o.out (o.out ++ o.unsent) (told history conn) (o.unsent, refl) first;
        ended = ends_in (λ es. told es conn) (λ es. live es conn) conn (grows conn) (stays conn) (seen p') history
            ((length o.list, event.Open door row.peer) ∷ o.heard) (now row.came).counts (now row.gone).counts o.out row.served.end longer
            known o.ended;
      }

  refused_in : (p p' : Pass C) (history : List Event) (row : Row L) → IsPrefix (seen p') history → Refused over p p' (now row.came)
      (now row.gone) row.served → IsRefused now told live over history door row []
  refused_in p p' history row longer r = record {
    events = refl;
    number = r.conn_is;
    moved = r.numbers;
    untouched = r.link;
    ended = elim r.ended [
      | inl is ↦ inl (is.0, over_later over last (seen p') history longer is.1)
      | inr short ↦ inr short
    ];
  }

  -- the part of one link
  served_in : (p p' : Pass C) (row : Row L) → Serves told live over door row.peer p p' (now row.came) (now row.gone) row.served
      → (own : List (ℕ × Event)) × (mine p' ≡ mine p ++ own) × ((history : List Event) → IsPrefix (seen p') history
      → IsOpened now told live over history door row own ⊎ IsRefused now told live over history door row own)
  served_in p p' row (inl o) = (
    ((length o.list, event.Open door row.peer) ∷ o.heard) ++ o.shut,
    o.own_events
        ∙ append_assoc (mine p) ((length o.list, event.Open door row.peer) ∷ o.heard) o.shut,
    λ history longer. inl
        (opened_in p p' history row longer o),
  )
  served_in p p' row (inr r) = ([], r.own_events ∙ sym (append-nil (mine p)), λ history longer. inr (refused_in p p' history row longer r))

  -- the part of all links
  pub links_in : (rows : List (Row L)) (a b : Pass C) → Attends now told live over door rows a b
      → (part : List (ℕ × Event)) × (mine b ≡ mine a ++ part) × IsPrefix (seen a) (seen b)
      × ((history : List Event) → IsPrefix (seen b) history → AreLinks now told live over history door rows part)
  links_in [] a b waits = ([], waits.1 ∙ sym (append-nil (mine a)), waits.0, λ history longer. refl)
  links_in (row ∷ rows) a b x =
      let start = x.0 in
      let next = x.1 in
      let one = served_in start next row x.5 in
      let rest = links_in rows next b x.6 in (
        one.0 ++ rest.0,
        rest.1 ∙ ap (λ (m : List (ℕ × Event)). m ++ rest.0) (one.1 ∙ ap (λ (m : List (ℕ × Event)). m ++ one.0) x.2.1)
            ∙ append_assoc (mine a) one.0 rest.0,
        prefix_trans (seen a) (seen start) (seen b) x.2.0 (prefix_trans (seen start) (seen next) (seen b) x.4 rest.2),
        λ history longer. (
          one.0,
          rest.0,
          refl,
          x.3,
          one.2 history (prefix_trans (seen next) (seen b) history rest.2 longer),
          rest.3
              history longer,
        ),
      )

  -- the part of a connection worker
  pub gathers_links : (a b : Pass C) (c c' : DoorCounts) (s s' : Option (List (Served × L))) (q q' : Option (List Peer)) (e : WorkerEnd)
      → Attended now told live over door a b c c' s s' q q' e
      → (part : List (ℕ × Event)) × (mine b ≡ mine a ++ part) × ((history : List Event) → IsPrefix (seen b) history
      → GathersLinks now told live over history door c c' s s' q q' part e)
  gathers_links a b c c' s s' q q' e t =
      let all = links_in t.rows a b t.attends in (
        all.0,
        all.1,
        λ history longer. record {
          rows = t.rows;
          links = all.3 history longer;
          given = t.given;
          given_back = t.given_back;
          ended = ends_over t.rows (over (seen b)) (over history) c c' e (over_later over last (seen b) history longer) t.ended;
        },
      )

-- ---- the ticker

ticks_over : (b b' : Bool) (c c' : TickCounts) (last : Beat) (stop : List Event) (r : TickEnd) → (b ≡ true → b' ≡ true)
    → TicksEndSo b c c' last stop r → TicksEndSo b' c c' last stop r
ticks_over b b' c c' last stop tick.Over on ended = (ended.0, ended.1, on ended.2, ended.3)
ticks_over b b' c c' last stop tick.Stopped on ended = (
  ended.0,
  elim ended.1 [ inl one ↦ inl one | inr none ↦ inr (none.0, on none.1) ],
  ended.2,
  ended.3,
)
ticks_over b b' c c' last stop tick.Fault on ended = (
  ended.0,
  elim ended.1 [ inl one ↦ inl one | inr none ↦ inr (none.0, on none.1) ],
  ended.2,
)
ticks_over b b' c c' last stop tick.Memory on ended = ended

-- the part of the ticker's worker
pub gathers_ticks : {C : Type 0} (over : List Event → Bool) → ((before : List Event) (e : Event) → over before ≡ true
    → over (before ++ e ∷ []) ≡ true) → (a b : Pass C) (c c' : TickCounts) (t t' : Option (List Beat)) (r : TickEnd)
    → Ticks (over (seen b)) a b c c' t t' r
    → (part : List (ℕ × Event)) × (mine b ≡ mine a ++ part) × ((history : List Event) → IsPrefix (seen b) history
    → GathersTicks (over history) c c' t t' part r)
gathers_ticks over stays_over a b c c' t t' r ticks = (
  ticks.put,
  ticks.own_events,
  λ history longer. record {
    count = ticks.count;
    last = ticks.last;
    stop = ticks.stop;
    told = ticks.beats;
    events = ticks.events;
    ended = ticks_over (over (seen b)) (over history) c c' ticks.last ticks.stop r (over_later over stays_over (seen b) history longer)
        ticks.ended;
  },
)
