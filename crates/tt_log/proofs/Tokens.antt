-- A token that comes back is the open one; so what was told is what was given back, and then the open token.
use Rattle.std.proofs.Common.{◌≡◌, ℕ, ◌+◌, ◌≤◌, List, [], ◌∷◌, ◌++◌, refl, ap, ap₂, sym, ◌∙◌, subst, true, false, Bool}
use Rattle.std.proofs.Common.{Option, Some, None, arith, append-nil, append_assoc}
use Rattle.std.specs.Prelude.{◌==◌, ◌||◌, ◌&&◌, fold, length, flat_map, cond, not, nat_le, Result, Ok, Err}
use Rattle.std.specs.Result.{result_ok}
use Rattle.std.proofs.lemmas.Bool.{eqb-true, eq-eqb}
use Rattle.std.proofs.lemmas.Grind.{flat_map-append}
use Rattle.std.proofs.lemmas.List.{length-append}
use Rattle.tt_edge.specs.declared.event.Event.{Event}
use Rattle.tt_edge.specs.declared.event.Event.TheVariants.{Open, Packet, Broken, Shut, Tick, Stop}
use Rattle.tt_edge.specs.Event.{event_cost}
use Rattle.tt_game.specs.declared.message.GameMsg.{GameMsg}
use Rattle.tt_game.specs.declared.message.GameMsg.TheVariants.{ClientAck, ServerFull}
use Rattle.tt_rules.specs.Reasons.{◌⇒◌}
use Rattle.tt_rules.specs.Statuses.{rank}
use Rattle.tt_rules.specs.declared.status.Verdict.{Verdict}
use Rattle.tt_rules.specs.declared.status.Verdict.TheVariants.{Allowed, Ends}
use Rattle.tt_log.specs.Origin.{Origin}
use Rattle.tt_log.specs.Member.{Member}
use Rattle.tt_log.specs.Admin.{Admin}
use Rattle.tt_log.specs.Table.{Table, first, is_admin_on, member_of, admin_of, with_member}
use Rattle.tt_log.specs.Deed.{Deed, ◌▹◌, where_, where_some}
use Rattle.tt_log.specs.Judged.{judged}
use Rattle.tt_log.specs.PacketRules.{acknowledged, acknowledges, closed_token, has_caught_up, becomes_active}
use Rattle.tt_log.specs.Desk.{read_admin, admin_hears}
use Rattle.tt_log.specs.Tellings.{filling}
use Rattle.tt_log.specs.Events.{read_msg, heard, to_named, by_verdict, by_event, charged, closed, stops, shut_down, taken, takes}
use Rattle.tt_log.specs.Events.{deed, stepped, last_frame}
use Rattle.tt_log.specs.History.{table_of}
use Rattle.tt_log.specs.Told as told
use Rattle.tt_log.specs.Answered.{some_token, open_token, token_of, tokens_told, answer_in, if_allowed, answered_of, if_so, answered_by}
use Rattle.tt_log.specs.Answered.{answered_from, tokens_answered}
use Rattle.tt_log.proofs.Lists.{found-among, found-passes}
use Rattle.tt_log.proofs.Crew.{On, put-among, on-found, found-on}
use Rattle.tt_log.proofs.Codes.{IsCodeOf, judged-code}
use Rattle.tt_log.proofs.Marking.{none-first}
use Rattle.tt_log.proofs.Changes.{Allows, allows}
use Rattle.tt_log.proofs.Walk.{of-where, of-ends, is-packet-aside, of-admin-hears}
use Rattle.tt_log.proofs.Answering.{steps-told, Kept, KeepsTo, Keeps, to-then, tells-mutely, put-own, IsQuiet}
use Rattle.tt_log.proofs.Answering.{token-base, token-walk, token-closing, quiet-kept, active-kept}

-- ---- an ACK that is allowed

none-last : (b : Bool) (code : ℕ) → (b ⇒ code) ≡ None → b ≡ false
none-last true code is = absurd cc
none-last false code is = refl

-- the token that comes back is none, or the open one
acked-open : (b : Bool) (frame token : ℕ) (given : List ℕ) (m : Member) → (token == 0) ≡ b → not (b || (token == m.token)) ≡ false
    → given ++ open_token m ≡ (given ++ cond b [] (token ∷ [])) ++ open_token (record (cond b m (closed_token m)) { acked = frame })
acked-open true frame token given m is right = ap (λ (ks : List ℕ). ks ++ open_token m) (sym (append-nil given))
acked-open false frame token given m is right =
    let same : token ≡ m.token = eqb-true token m.token (double (token == m.token) right) in
    ap (λ (k : ℕ). given ++ some_token k) (sym same) ∙ ap (λ (b : Bool). given ++ cond b [] (token ∷ [])) is
    ∙ sym (append-nil (given ++ token ∷ []))
  where
    double : (b : Bool) → not b ≡ false → b ≡ true
    double true is = refl
    double false is = absurd cc

acked-idle : (b : Bool) (frame : ℕ) (m : Member) → (rank m.status ≤ 7 → m.token ≡ 0)
    → rank (record (cond b m (closed_token m)) { acked = frame }).status ≤ 7
    → (record (cond b m (closed_token m)) { acked = frame }).token ≡ 0
acked-idle true frame m idle low = idle low
acked-idle false frame m idle low = refl

acked-conn : (b : Bool) (frame : ℕ) (m : Member) → (record (cond b m (closed_token m)) { acked = frame }).conn ≡ m.conn
acked-conn true frame m = refl
acked-conn false frame m = refl

-- so the member's open token is closed as it is given back
acked-kept : (c : ℕ) (given : List ℕ) (t : Table) (m : Member) (frame token : ℕ) → On t m → m.conn ≡ c
    → not ((token == 0) || (token == m.token)) ≡ false
    → KeepsTo c given (given ++ some_token token) t [] (with_member (acknowledged frame token m) t)
acked-kept c given t m frame token on own right told h =
    let n : Member = acknowledged frame token m in
    put-own c told (told ++ []) given (given ++ some_token token) t (with_member n t) n m refl refl on (acked-conn (token == 0) frame m) own
    (append-nil told ∙ h.live m on own ∙ acked-open (token == 0) frame token given m refl right)
    (acked-idle (token == 0) frame m (h.idle m on own)) h

stop-quiet : (c : ℕ) → IsQuiet Stop c
stop-quiet c m frame token at (kind, body, is, said) = absurd cc

-- and it may become ACTIVE behind that
acks-kept : (c : ℕ) (given : List ℕ) (o : Origin) (t : Table) (m : Member) (frame token : ℕ) → On t m → m.conn ≡ c
    → not ((token == 0) || (token == m.token)) ≡ false
    → KeepsTo c given (given ++ some_token token) t (acknowledges m frame token t).told (acknowledges m frame token t).table
acks-kept c given o t m frame token on own right =
    let n : Member = acknowledged frame token m in
    let u : Table = with_member n t in
    let back : List ℕ = given ++ some_token token in
    let rule : Table → Deed = where_ (has_caught_up frame t m) (becomes_active n) in
    let here : On u n = put-among n m t.members (acked-conn (token == 0) frame m) on in
    to-then c given back back t u (rule u).table [] (rule u).told (acked-kept c given t m frame token on own right)
    (of-where o Stop (Keeps c back) (token-base c back o Stop (stop-quiet c)) (has_caught_up frame t m) (becomes_active n) u
    (λ is. active-kept c back o Stop (stop-quiet c) u n here))

-- ---- a packet of the connection that is an ACK

verdict-kept : (v : Verdict) (c : ℕ) (given : List ℕ) (o : Origin) (t : Table) (m : Member) (kind : ℕ) (body : List ℕ) (frame token : ℕ)
    → read_msg kind body ≡ Some (ClientAck frame token) → judged o t m (Some (ClientAck frame token)) ≡ v → IsCodeOf v → On t m → m.conn ≡ c
    → KeepsTo c given (given ++ if_allowed v (some_token token)) t (by_verdict v o m (Some (ClientAck frame token)) t).told
    (by_verdict v o m (Some (ClientAck frame token)) t).table
verdict-kept Allowed c given o t m kind body frame token said is low on own =
    let a : Allows o (Packet m.conn kind body) t m (ClientAck frame token) =
    allows o (Packet m.conn kind body) t m (ClientAck frame token) (kind, body, refl, said) is in
    let late = none-first _ 7 _ a.standing in
    acks-kept c given o t m frame token on own (none-last _ 7 late.1)
verdict-kept (Ends code) c given o t m kind body frame token said is low on own =
    subst (λ (back : List ℕ). KeepsTo c given back t (by_verdict (Ends code) o m (Some (ClientAck frame token)) t).told
    (by_verdict (Ends code) o m (Some (ClientAck frame token)) t).table) (sym (append-nil given))
    (of-ends o Stop (Keeps c given) (token-walk c given o Stop (stop-quiet c)) t m code on low)

-- a packet of kind 0 spells at most that the server is full
full-alone : (b : Bool) (said : GameMsg) → result_ok (cond {A = Result GameMsg ℕ} b (Ok ServerFull) (Err 0)) ≡ Some said → said ≡ ServerFull
full-alone true said is = cc
full-alone false said is = absurd cc

no-ack : (body : List ℕ) (frame token : ℕ) → read_msg 0 body ≡ Some (ClientAck frame token) → ⊥
no-ack body frame token is = let e : ClientAck frame token ≡ ServerFull = full-alone (length body == 0) (ClientAck frame token) is in cc

-- an ACK of no member gives nothing back, and an admin says what it says
named-kept : (x : Option Member) (c : ℕ) (given : List ℕ) (o : Origin) (t : Table) (kind : ℕ) (body : List ℕ) (frame token : ℕ)
    → read_msg kind body ≡ Some (ClientAck frame token) → member_of t c ≡ x
    → KeepsTo c given (given ++ answered_of o t x (read_msg kind body)) t
    (to_named x (admin_of t c) (heard o (read_msg kind body)) (admin_hears o (read_admin kind body)) t).told
    (to_named x (admin_of t c) (heard o (read_msg kind body)) (admin_hears o (read_admin kind body)) t).table
named-kept None c given o t kind body frame token said is =
    let d : Deed = where_some (admin_of t c) (admin_hears o (read_admin kind body)) t in
    subst (λ (back : List ℕ). KeepsTo c given back t d.told d.table) (sym (append-nil given)) (by (admin_of t c) refl)
  where
    -- an event of this connection with the same bytes, which spells no ACK
    other : Event
    other = Packet c 0 body

    quiet : IsQuiet other c
    quiet m frame token at (k, b, is, said) =
        let one : 0 ≡ k = ap kind_in is in
        let two : body ≡ b = ap body_in is in
        no-ack body frame token (ap₂ (λ (x : ℕ) (y : List ℕ). read_msg x y) one two ∙ said)
      where
        kind_in : Event → ℕ
        kind_in (Packet conn k b) = k
        kind_in e = 0

        body_in : Event → List ℕ
        body_in (Packet conn k b) = b
        body_in e = []

    by : (x : Option Admin) → admin_of t c ≡ x → Keeps c given t (where_some x (admin_hears o (read_admin kind body)) t).told
        (where_some x (admin_hears o (read_admin kind body)) t).table
    by None at = tells-mutely c given t [] tt
    by (Some a) at = of-admin-hears o other (Keeps c given) (token-walk c given o other quiet) (read_admin kind body) t a
        (found-among (is_admin_on c) a t.admins at) (sym (eqb-true a.conn c (found-passes (is_admin_on c) a t.admins at))) refl
        (is-packet-aside o other (Keeps c given) (token-walk c given o other quiet) (read_admin kind body) kind body refl (λ bytes. bytes))
named-kept (Some m) c given o t kind body frame token said is =
    let P : Option GameMsg → Type 0 = λ x. KeepsTo c given (given ++ answered_of o t (Some m) x) t (heard o x m t).told
    (heard o x m t).table in
    subst P (sym said) (verdict-kept (judged o t m (Some (ClientAck frame token))) c given o t m kind body frame token said refl
    (judged-code o t m (Some (ClientAck frame token))) (on-found t c m is) (found-on c t.members m is))

-- what follows the rule of an event
taken-kept : (c : ℕ) (given back : List ℕ) (o : Origin) (e : Event) (t : Table)
    → KeepsTo c given back t (by_event o e t).told (by_event o e t).table
    → KeepsTo c given back t (taken o e t).told (taken o e t).table
taken-kept c given back o e t h =
    let d : Deed = by_event o e t in
    let v : Table = record d.table { cost = d.table.cost + event_cost e } in
    let rule : Table → Deed = closed o (stops o e t) in
    to-then c given back back t v (rule v).table (d ▹ charged e).told (rule v).told
    (to-then c given back back t d.table v d.told [] h ((token-closing c back o e).charges d.table))
    (of-where o Stop (Keeps c back) (token-base c back o Stop (stop-quiet c))
    (stops o e t || nat_le o.setup.cost v.cost || (v.frame == last_frame)) shut_down v (λ is. (token-closing c back o e).closes v))

ack-by : (b : Bool) (c : ℕ) (given : List ℕ) (o : Origin) (t : Table) (kind : ℕ) (body : List ℕ) (frame token : ℕ)
    → read_msg kind body ≡ Some (ClientAck frame token)
    → KeepsTo c given (given ++ if_so b (answered_of o t (member_of t c) (read_msg kind body))) t
    (where_ b (taken o (Packet c kind body)) t).told (where_ b (taken o (Packet c kind body)) t).table
ack-by false c given o t kind body frame token said = subst (λ (back : List ℕ). KeepsTo c given back t [] t) (sym (append-nil given))
    (tells-mutely c given t [] tt)
ack-by true c given o t kind body frame token said = taken-kept c given _ o (Packet c kind body) t
    (named-kept (member_of t c) c given o t kind body frame token said refl)

-- ---- each event

holds_ack : Option GameMsg → Bool
holds_ack (Some (ClientAck frame token)) = true
holds_ack other = false

-- an event is an ACK of the connection
abbrev speaks : Event → ℕ → Bool
speaks (Packet conn kind body) c = (conn == c) && holds_ack (read_msg kind body)
speaks other c = false

both-true : (x y : Bool) → x ≡ true → y ≡ true → (x && y) ≡ true
both-true true y p q = q
both-true false y p q = absurd cc

both-are : (x y : Bool) → (x && y) ≡ true → (x ≡ true) × (y ≡ true)
both-are true y is = (refl, is)
both-are false y is = absurd cc

silent-is-quiet : (e : Event) (c : ℕ) → speaks e c ≡ false → IsQuiet e c
unfolding holds_ack
silent-is-quiet e c silent m frame token at (kind, body, is, said) =
    let yes : speaks (Packet m.conn kind body) c ≡ true = both-true (m.conn == c) _ (eq-eqb m.conn c at)
    (ap (λ (x : Option GameMsg). holds_ack x) said) in
    absurd (cc (ap (λ (d : Event). speaks d c) is, yes, silent))

no-answer : (said : Option GameMsg) → holds_ack said ≡ false → answer_in said ≡ []
unfolding holds_ack
no-answer (Some (ClientAck frame token)) is = absurd cc
no-answer other is = refl

none-allowed : (v : Verdict) → if_allowed v [] ≡ []
none-allowed Allowed = refl
none-allowed (Ends code) = refl

answered-none : (o : Origin) (t : Table) (x : Option Member) (said : Option GameMsg) → holds_ack said ≡ false → answered_of o t x said ≡ []
answered-none o t None said is = refl
answered-none o t (Some m) said is = ap (λ (ks : List ℕ). if_allowed (judged o t m said) ks) (no-answer said is)
    ∙ none-allowed (judged o t m said)

if-none : (b : Bool) → if_so b [] ≡ []
if-none true = refl
if-none false = refl

silent-by : (b d : Bool) (o : Origin) (t : Table) (conn : ℕ) (said : Option GameMsg) → (b && holds_ack said) ≡ false
    → if_so (b && d) (answered_of o t (member_of t conn) said) ≡ []
silent-by true d o t conn said is = ap (λ (ks : List ℕ). if_so d ks) (answered-none o t (member_of t conn) said is) ∙ if-none d
silent-by false d o t conn said is = refl

silent-answered : (o : Origin) (t : Table) (e : Event) (c : ℕ) → speaks e c ≡ false → answered_by o t e c ≡ []
silent-answered o t (Packet conn kind body) c is = silent-by (conn == c) (takes t (Packet conn kind body)) o t conn (read_msg kind body) is
silent-answered o t (Open door peer) c is = refl
silent-answered o t (Broken conn) c is = refl
silent-answered o t (Shut conn) c is = refl
silent-answered o t Tick c is = refl
silent-answered o t Stop c is = refl

read-ack : (said : Option GameMsg) → holds_ack said ≡ true → (frame : ℕ) × (token : ℕ) × (said ≡ Some (ClientAck frame token))
unfolding holds_ack
read-ack (Some (ClientAck frame token)) is = (frame, token, refl)
read-ack other is = absurd cc

abbrev Steps : ℕ → List ℕ → Origin → Event → Table → Type 0
Steps c given o e t = KeepsTo c given (given ++ answered_by o t e c) t (deed o e t).told (deed o e t).table

spoken-step : (c : ℕ) (given : List ℕ) (o : Origin) (e : Event) (t : Table) → speaks e c ≡ true → Steps c given o e t
spoken-step c given o (Packet conn kind body) t is =
    let both = both-are (conn == c) (holds_ack (read_msg kind body)) is in
    let said = read-ack (read_msg kind body) both.1 in
    let own : conn ≡ c = eqb-true conn c both.0 in
    subst (λ (k : ℕ). Steps c given o (Packet k kind body) t) (sym own)
    (subst (λ (b : Bool). KeepsTo c given (given ++ if_so (b && takes t (Packet c kind body)) (answered_of o t (member_of t c)
    (read_msg kind body))) t (deed o (Packet c kind body) t).told (deed o (Packet c kind body) t).table) (sym (eq-eqb c c refl))
    (ack-by (takes t (Packet c kind body)) c given o t kind body said.0 said.1 said.2))
spoken-step c given o (Open door peer) t is = absurd cc
spoken-step c given o (Broken conn) t is = absurd cc
spoken-step c given o (Shut conn) t is = absurd cc
spoken-step c given o Tick t is = absurd cc
spoken-step c given o Stop t is = absurd cc

step-by : (b : Bool) (c : ℕ) (given : List ℕ) (o : Origin) (e : Event) (t : Table) → speaks e c ≡ b → Steps c given o e t
step-by true c given o e t is = spoken-step c given o e t is
step-by false c given o e t is = subst (λ (back : List ℕ). KeepsTo c given back t (deed o e t).told (deed o e t).table)
    (sym (append-nil given) ∙ ap (λ (ks : List ℕ). given ++ ks) (sym (silent-answered o t e c is)))
    (quiet-kept c given o e t (silent-is-quiet e c is))

step-kept : (c : ℕ) (heard given : List ℕ) (o : Origin) (e : Event) (t : Table) → Kept c heard given t
    → Kept c (heard ++ flat_map token_of (told.told_by o t e c)) (given ++ answered_by o t e c) (stepped o t e)
step-kept c heard given o e t h = subst (λ (ks : List ℕ). Kept c (heard ++ ks) (given ++ answered_by o t e c) (stepped o t e))
    (sym (steps-told c o (filling o t (stepped o t e)) (deed o e t).told)) (step-by (speaks e c) c given o e t refl heard h)

from-kept : (c : ℕ) (o : Origin) (es : List Event) (t : Table) (heard given : List ℕ) → Kept c heard given t
    → Kept c (heard ++ flat_map token_of (told.heard_from o t es c)) (given ++ answered_from o t es c) (fold (stepped o) t es)
from-kept c o [] t heard given h = subst (λ (ks : List ℕ). Kept c (heard ++ []) ks t) (sym (append-nil given))
    (subst (λ (ks : List ℕ). Kept c ks given t) (sym (append-nil heard)) h)
from-kept c o (e ∷ es) t heard given h =
    let s : Table = stepped o t e in
    let now = told.told_by o t e c in
    let later = told.heard_from o s es c in
    let back : List ℕ = answered_by o t e c in
    let next : Kept c ((heard ++ flat_map token_of now) ++ flat_map token_of later) ((given ++ back) ++ answered_from o s es c)
    (fold (stepped o) s es) =
    from-kept c o es s (heard ++ flat_map token_of now) (given ++ back) (step-kept c heard given o e t h) in
    subst (λ (ks : List ℕ). Kept c ks (given ++ (back ++ answered_from o s es c)) (fold (stepped o) s es))
    (append_assoc heard (flat_map token_of now) (flat_map token_of later)
    ∙ ap (λ (ks : List ℕ). heard ++ ks) (sym (flat_map-append token_of now later)))
    (subst (λ (ks : List ℕ). Kept c ((heard ++ flat_map token_of now) ++ flat_map token_of later) ks (fold (stepped o) s es))
    (append_assoc given back (answered_from o s es c)) next)

are-kept : (c : ℕ) (o : Origin) (es : List Event) → Kept c (tokens_told o es c) (tokens_answered o es c) (table_of o es)
are-kept c o es = from-kept c o es (first o) [] [] (record {
  live = λ m on own. absurd on;
  idle = λ m on own low. absurd on;
  under = λ m on own. absurd on;
  early = λ above. (refl, refl);
  rest = [];
  whole = refl;
  few = omega arith;
})

-- ---- the law

pub told-then-open : (o : Origin) (es : List Event) (c : ℕ) (m : Member) → member_of (table_of o es) c ≡ Some m
    → tokens_told o es c ≡ tokens_answered o es c ++ open_token m
told-then-open o es c m is = (are-kept c o es).live m (on-found (table_of o es) c m is) (found-on c (table_of o es).members m is)

pub told-then-one : (o : Origin) (es : List Event) (c : ℕ) → (rest : List ℕ) × (tokens_told o es c ≡ tokens_answered o es c ++ rest)
    × (length rest ≤ 1)
told-then-one o es c = let kept = are-kept c o es in (kept.rest, kept.whole, kept.few)

pub told-one-more : (o : Origin) (es : List Event) (c : ℕ) → length (tokens_told o es c) ≤ length (tokens_answered o es c) + 1
told-one-more o es c =
    let kept = are-kept c o es in
    omega (arith, ap (λ (ks : List ℕ). length ks) kept.whole, length-append (tokens_answered o es c) kept.rest, kept.few)
