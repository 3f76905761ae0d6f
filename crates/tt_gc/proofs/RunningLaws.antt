-- A coordinator over its events: one is taken, and what is kept is again what they come to.
use Rattle.std.proofs.Common.{◌≡◌, ℕ, ◌+◌, Bool, true, false, ◌||◌, cond, List, [], ◌∷◌, ◌++◌, length, drop, map}
use Rattle.std.proofs.Common.{refl, sym, ap, ap₂, ◌∙◌, subst, arith, inr}
use Rattle.std.proofs.Common.{Result, Ok, Err, OnOk, is_err}
use Rattle.std.specs.Prelude.{eqb, nat_le}
use Rattle.std.proofs.lemmas.Bool.{true≢false}
use Rattle.tt_attempts.specs.declared.attempt.Heard.{Heard}
use Rattle.tt_attempts.specs.declared.attempt.Heard.TheVariants.{Connected, ServerGone}
use Rattle.std.proofs.lemmas.List.Sums.{sum_by-append}
use Rattle.std.proofs.lemmas.List.{append-nil, drop-append-le, length-append}
use Rattle.tt_edge.specs.declared.event.Event.{Event}
use Rattle.tt_edge.specs.declared.event.Event.TheVariants.{Open, Packet, Broken, Shut, Tick, Stop}
use Rattle.tt_edge.specs.Event.{event_cost, is_open, opens, conn_of}
use Rattle.tt_gc_table.specs.declared.setup.GcSetup.{GcSetup}
use Rattle.tt_gc_table.specs.Table.{Table, Connection, meeting_of, without_server, served_by, asked_by}
use Rattle.tt_gc_table.specs.Meetings.{is_heard}
use Rattle.tt_gc_table.specs.Ending.{goes, client_gone, leaves}
use Rattle.tt_gc_table.proofs.OneConnection.{still_heard}
use Rattle.tt_gc.specs.declared.change.Change.{Change}
use Rattle.tt_gc.specs.declared.change.Change.TheVariants.{Stay, Arrive, Refuse, Quit, Go, Note, Register, Draw, Update, Pass, Begin, Hear}
use Rattle.tt_gc.specs.declared.change.Change.TheVariants.{Beat}
use Rattle.tt_gc.specs.Changes.{applied}
use Rattle.tt_gc_table.specs.Deed.{Deed, ◌▹◌, where_, each}
use Rattle.tt_gc_table.specs.Events.{by_event, charged, closed, counted, is_stop, last_tick, shut_down, stepped, table_of, takes}
use Rattle.tt_gc_table.specs.Told.{bytes_to, copies, sent, told}
use Rattle.tt_gc_table.specs.Laws.{table_of-push, sent-push, openings_of, unopened}
use Rattle.tt_gc_table.proofs.TellsLaws.{bytes_joined}
use Rattle.tt_gc.specs.Queues.{Queue, queue_of, IsAsFull, IsTold, IsOf}
use Rattle.tt_gc.specs.Running.{IsRunning, IsStepped, about}

-- ---- one event

no_bytes : (c : ℕ) (to : List ℕ) → copies c to [] ≡ []
no_bytes c [] = refl
no_bytes c (x ∷ to) = by (eqb x c) (no_bytes c to)
  where
    by : (b : Bool) → copies c to [] ≡ [] → cond b ([] ++ copies c to []) (copies c to []) ≡ []
    by true rest = rest
    by false rest = rest

closed_told : (x : ℕ) (s : GcSetup) (e : Event) (t : Table) → bytes_to x (closed s e t).told ≡ []
closed_told x s e t = by (is_stop e || nat_le s.cost t.cost || (eqb t.ticks last_tick))
  where
    by : (b : Bool) → bytes_to x (where_ b shut_down t).told ≡ []
    by true = append-nil (copies x (map (λ (c : Connection). c.conn) t.connections) [])
        ∙ no_bytes x (map (λ (c : Connection). c.conn) t.connections)
    by false = refl

abbrev pub done : GcSetup → Event → Table → Deed
done s e t = by_event s e (counted e t)

abbrev pub paid : Event → Table → Table
paid e t = record t { cost = t.cost + event_cost e }

pub stepped_table : (s : GcSetup) (e : Event) (t : Table) → takes t e ≡ true
    → (closed s e (paid e (done s e t).table)).table ≡ stepped s t e
stepped_table s e t taken =
    ap (λ (b : Bool). (where_ b (λ t. by_event s e t ▹ charged e ▹ closed s e) (counted e t)).table) (sym taken)

pub stepped_told : (s : GcSetup) (e : Event) (t : Table) (x : ℕ) → takes t e ≡ true → bytes_to x (done s e t).told ≡ told s t e x
stepped_told s e t x taken =
    let d : Deed = done s e t in
    sym (ap (λ (b : Bool). bytes_to x (where_ b (λ t. by_event s e t ▹ charged e ▹ closed s e) (counted e t)).told) taken
    ∙ bytes_joined x (d.told ++ []) (closed s e (paid e d.table)).told
    ∙ ap₂ (λ (a b : List ℕ). a ++ b) (ap (bytes_to x) (append-nil d.told)) (closed_told x s e (paid e d.table))
    ∙ append-nil (bytes_to x d.told))

-- ---- queues

grown : (sent later more : List ℕ) (q p : Queue) → IsOf sent q → IsTold more q p → later ≡ sent ++ more → IsOf later p
grown sent later more q p of is at = record {
  left = is.left ∙ ap (λ (l : List ℕ). l ++ more) of.left ∙ sym (drop-append-le q.taken sent more of.within)
      ∙ ap₂ drop (sym is.taken) (sym at);
  within = omega (arith, is.taken, of.within, ap length at, length-append sent more);
}

as_full : (sent : List ℕ) (q p : Queue) → IsOf sent q → IsAsFull q p → IsOf sent p
as_full sent q p of is = record {
  left = is.left ∙ of.left ∙ ap (λ (n : ℕ). drop n sent) (sym is.taken);
  within = omega (arith, is.taken, of.within);
}

-- ---- the coordinator

pub running_after : (s : GcSetup) (es later : List Event) (e : Event) (t u : Table) (qs ps : List Queue) → IsRunning s es t qs
    → IsStepped s e t qs u ps → later ≡ es ++ e ∷ [] → IsRunning s later u ps
running_after s es later e t u qs ps is step at = subst (λ (all : List Event). IsRunning s all u ps) (sym at) (record {
  table_is = step.table ∙ ap (λ (k : Table). stepped s k e) is.table_is ∙ sym (table_of-push s es e);
  queues_are = λ conn. grown (sent s es conn) (sent s (es ++ e ∷ []) conn) (told s t e conn) (queue_of qs conn) (queue_of ps conn)
      (is.queues_are conn) (step.tells conn) (sent-push s es e conn
      ∙ ap (λ (k : Table). sent s es conn ++ told s k e conn) (sym is.table_is));
})

pub running_same : (s : GcSetup) (es later : List Event) (t u : Table) (qs ps : List Queue) → IsRunning s es t qs → u ≡ t
    → ((conn : ℕ) → IsAsFull (queue_of qs conn) (queue_of ps conn)) → later ≡ es → IsRunning s later u ps
running_same s es later t u qs ps is same full at = subst (λ (all : List Event). IsRunning s all u ps) (sym at) (record {
  table_is = same ∙ is.table_is;
  queues_are = λ conn. as_full (sent s es conn) (queue_of qs conn) (queue_of ps conn) (is.queues_are conn) (full conn);
})

opened_one : (es : List Event) (e : Event) → opens (es ++ e ∷ []) ≡ opens es + cond (is_open e) 1 0
opened_one es e = omega (arith, sum_by-append (λ (y : Event). cond (is_open y) 1 0) es (e ∷ []))

-- the connection that an event was about
pub about_of : (s : GcSetup) (es : List Event) (e : Event) → about (table_of s (es ++ e ∷ [])) e ≡ conn_of es e
about_of s es (Open door peer) = openings_of s (es ++ Open door peer ∷ []) ∙ opened_one es (Open door peer)
about_of s es (Packet conn kind body) = refl
about_of s es (Broken conn) = refl
about_of s es (Shut conn) = refl
about_of s es Tick = refl
about_of s es Stop = refl

-- nothing was taken of a connection that is opened now
pub fresh : (s : GcSetup) (es : List Event) (t : Table) (qs : List Queue) (e : Event) → IsRunning s es t qs → is_open e ≡ true
    → (queue_of qs (opens (es ++ e ∷ []))).taken ≡ 0
fresh s es t qs e is opening =
    let c : ℕ = opens (es ++ e ∷ []) in
    let one : c ≡ opens es + 1 = opened_one es e ∙ ap (λ (b : Bool). opens es + cond b 1 0) opening in
    let none : sent s es c ≡ [] = (unopened s es c (inr (omega (arith, one)))).1 in
    omega (arith, (is.queues_are c).within, ap length none)

pub on_ok : {T E : Type 0} (r : Result T E) (P : Type 0) → is_err r ≡ false → OnOk r P → P
on_ok (Ok x) P is p = p
on_ok (Err e) P is p = absurd (true≢false is)

-- ---- nothing that is done costs anything

each_cost : (s : GcSetup) (h : Heard) (tokens : List (List ℕ)) (t : Table) → (each tokens (is_heard s h) t).table.cost ≡ t.cost
each_cost s h [] t = refl
each_cost s h (token ∷ tokens) t =
    each_cost s h tokens (is_heard s h token t).table ∙ (still_heard s h t (meeting_of t token)).cost

leaves_cost : (s : GcSetup) (conn : ℕ) (t : Table) → (leaves s conn t).table.cost ≡ t.cost
leaves_cost s conn t =
    let one : Table = (goes conn t).table in
    let two : Table = (client_gone s conn one).table in
    let three : Table = without_server conn two in
    each_cost s ServerGone (served_by three conn) three ∙ each_cost s Connected (asked_by one conn) one

pub applied_cost : (s : GcSetup) (change : Change) (t : Table) → (applied s change t).cost ≡ t.cost
applied_cost s Stay t = refl
applied_cost s (Arrive side peer) t = refl
applied_cost s (Refuse side peer) t = refl
applied_cost s (Quit conn) t = leaves_cost s conn t
applied_cost s (Go conn) t = refl
applied_cost s (Note conn token side peer) t = refl
applied_cost s (Register conn kind port code) t = refl
applied_cost s (Draw conn kind port code secret random) t = refl
applied_cost s (Update conn info) t = refl
applied_cost s (Pass random) t = refl
applied_cost s (Begin random meeting) t = refl
applied_cost s (Hear token hearing) t = (still_heard s hearing.heard t (meeting_of t token)).cost
applied_cost s Beat t = refl
