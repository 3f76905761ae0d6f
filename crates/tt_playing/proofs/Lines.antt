-- Lines of attached clients, and which lines are refused.
use Rattle.std.proofs.Common.{◌≡◌, ◌≢◌, ℕ, zero, suc, ◌+◌, ◌-◌, ◌≤◌, ◌<◌, Bool, true}
use Rattle.std.proofs.Common.{false, not, ◌||◌, List, [], ◌∷◌, ◌++◌, length, take, drop}
use Rattle.std.proofs.Common.{refl, sym, ap, ap₂, subst, ◌∙◌, arith, Option, Some, None}
use Rattle.std.specs.Prelude.{◌==◌, slice_get, slice_index_or, slice_set, if◌then◌else◌, is_some}
use Rattle.std.proofs.lemmas.List.{append-nil, length-drop, length-take, length-set, get_or-set_same, get_or-set_other}
use Rattle.std.proofs.lemmas.Bool.{eqb-true, eq-eqb, ne_eqb, true≢false}
use Rattle.std.proofs.lemmas.Option.{slice_get_within, slice_get-get_or, get_or_from_slice_get}
use Rattle.tt_client.specs.Calls.{Call, Feed, Advance, Submit, Take}
use Rattle.tt_client.specs.Held.{Held, held, held_after, held_first, with_call}
use Rattle.tt_client.specs.declared.login.Login.{Login}
use Rattle.tt_edge.specs.declared.event.Event.{Event}
use Rattle.tt_edge.specs.Event.{opens}
use Rattle.tt_frame.specs.Stream.{rest_of}
use Rattle.tt_frame.specs.Packet.{IsBytes}
use Rattle.tt_hub.specs.Hub.{HubState, origin, taken}
use Rattle.tt_log.specs.Origin.{Origin}
use Rattle.tt_log.specs.Told.{sent}
use Rattle.tt_log.specs.declared.script.line.Line1.{Line1}
use Rattle.tt_log.specs.declared.script.line.Line1.TheVariants.{Open, Side, Bytes, Shut, Tick, Stop, Join, Up, Down, Run, Pump, Do, Forge}
use Rattle.tt_log.specs.declared.script.line.Line1.TheVariants.{Expect}
use Rattle.tt_world.specs.declared.command.Command.{Command}
use Rattle.tt_playing.specs.declared.play.Play.{Play}
use Rattle.tt_playing.specs.declared.play.Connection.{Connection}
use Rattle.tt_playing.specs.Attached.{Attached, AreSayings, after_call, after_order, called, changed}
use Rattle.tt_playing.specs.Attached.{client_in, client_of, given_in, handed, misled}
use Rattle.tt_playing.specs.Attached.{next_of, runs_with, with_client}
use Rattle.tt_playing.specs.Played.{Played, did, done, is_gone, is_over, is_refused, on_client, one_refused, refuses}
use Rattle.tt_playing.specs.Playing.{IsKept, IsAt, client_at, client_on, refused_by}
use Rattle.tt_playing.proofs.Histories.{another}
use Rattle.tt_playing.proofs.Pieces.{take-more}
use Rattle.tt_playing.proofs.Sayings.{sayings_fit}

-- ---- the client of a connection

-- a connection that was not opened has none
bare_so : (o : Origin) (play : Play) (p : Played) (place : ℕ) → IsAt o play p → (place < length play.connections.items → ⊥)
    → p.clients (suc place) ≡ None
bare_so o play p place at past = at.bare (suc place) (omega (arith, past, at.count))

past_by : (cs : List Connection) (place : ℕ) → slice_get cs place ≡ None → place < length cs → ⊥
past_by [] place none within = omega (arith, within)
past_by (c ∷ cs) zero none within = let e : ◌≡◌ {A = Option Connection} (Some c) None = none in cc
past_by (c ∷ cs) (suc place) none within = past_by cs place none (omega (arith, within))

module _ (o : Origin) (play : Play) (p : Played) (place : ℕ) (at : IsAt o play p) where
  client_by : (x : Option Connection) → slice_get play.connections.items place ≡ x → client_on x ≡ client_in (p.clients (suc place))
  client_by None is = sym (ap client_in (bare_so o play p place at (past_by play.connections.items place is)))
  client_by (Some c) is =
      let low = slice_get_within play.connections.items place c is in
      let same = get_or_from_slice_get play.connections.items place c c is in
      let one : place + 1 ≡ suc place = omega arith in
      ap (λ (k : Connection). k.client) (sym same) ∙ (at.each place c low).client ∙ ap (λ (n : ℕ). client_in (p.clients n)) one

-- it is that of the lines so far
pub client_is : (o : Origin) (play : Play) (p : Played) (conn : ℕ) → IsAt o play p → client_at play conn ≡ client_in (p.clients conn)
client_is o play p zero at = sym (ap client_in at.none)
client_is o play p (suc place) at = client_by o play p place at (slice_get play.connections.items place) refl

pub record IsPlaced (play : Play) (conn : ℕ) : Type 0 where
  pub place : ℕ
  pub is : place + 1 ≡ conn
  pub low : place < length play.connections.items

nothing_there : ◌≡◌ {A = Bool} (is_some {T = Held} None) true → ⊥
nothing_there e = true≢false (sym e)

placed_by : (play : Play) (place : ℕ) (x : Option Connection) → slice_get play.connections.items place ≡ x → is_some (client_on x) ≡ true
    → IsPlaced play (suc place)
placed_by play place None is some = absurd (nothing_there some)
placed_by play place (Some c) is some = record {
  place = place;
  is = omega arith;
  low = slice_get_within play.connections.items place c is;
}

-- a connection with a client was opened
pub placed : (play : Play) (conn : ℕ) → is_some (client_at play conn) ≡ true → IsPlaced play conn
placed play zero some = absurd (nothing_there some)
placed play (suc place) some = placed_by play place (slice_get play.connections.items place) refl some

pub record IsWith (p : Played) (conn : ℕ) : Type 0 where
  pub a : Attached
  pub is : p.clients conn ≡ Some a

with_by : (p : Played) (conn : ℕ) (x : Option Attached) → p.clients conn ≡ x → is_some (client_in x) ≡ true → IsWith p conn
with_by p conn None is some = absurd (nothing_there some)
with_by p conn (Some a) is some = record { a = a; is = is }

pub attached_is : (o : Origin) (play : Play) (p : Played) (conn : ℕ) → IsAt o play p → is_some (client_at play conn) ≡ true → IsWith p conn
attached_is o play p conn at some =
    with_by p conn (p.clients conn) refl (ap (λ (x : Option Held). is_some x) (sym (client_is o play p conn at)) ∙ some)

-- ---- another client on a connection

with_here : (conn : ℕ) (x : Option Attached) (clients : ℕ → Option Attached) → with_client conn x clients conn ≡ x
with_here conn x clients = ap (λ (b : Bool). if b then x else clients conn) (eq-eqb conn conn refl)

pub with_elsewhere : (conn other : ℕ) (x : Option Attached) (clients : ℕ → Option Attached) → other ≢ conn
    → with_client conn x clients other ≡ clients other
with_elsewhere conn other x clients apart = ap (λ (b : Bool). if b then x else clients other) (ne_eqb other conn apart)

pub with_new : (conn other : ℕ) (x : Option Attached) (clients : ℕ → Option Attached) → other ≡ conn → with_client conn x clients other ≡ x
with_new conn other x clients is = ap (λ (b : Bool). if b then x else clients other) (eq-eqb other conn is)

-- one call more
pub held_push : (h : Held) (calls : List Call) (c : Call) → held_after h (calls ++ c ∷ []) ≡ with_call (held_after h calls) c
held_push h [] c = refl
held_push h (x ∷ calls) c = held_push (with_call h x) calls c

pub client_called : (a : Attached) (c : Call) → client_of (called c a) ≡ with_call (client_of a) c
client_called a c = held_push (held_first a.login) a.calls c

-- what a client is that was changed: the connection's client, what was taken of the connection, and what is kept of that
pub record IsChanged (o : Origin) (play next : Play) (p : Played) (conn : ℕ) (old new : Connection) (a b : Attached) : Type 0 where
  pub door : new.door ≡ old.door
  pub rest : new.rest.items ≡ old.rest.items
  pub client : new.client ≡ Some (client_of b)
  pub within : b.given ≤ length (sent o p.events conn)
  pub told : play.keeps ≡ true → new.told.items ≡ take b.given (sent o p.events conn)
  pub taken : taken next.hub conn ≡ b.given

-- the play but for that connection
pub record IsSameBut (play next : Play) (conn place : ℕ) (new : Connection) : Type 0 where
  pub made : origin next.hub ≡ origin play.hub
  pub events : next.hub.events ≡ play.hub.events
  pub others : (other : ℕ) → other ≢ conn → taken next.hub other ≡ taken play.hub other
  pub refused : next.refused ≡ play.refused
  pub revision : next.revision ≡ play.revision
  pub keeps : next.keeps ≡ play.keeps
  pub written : next.connections.items ≡ slice_set play.connections.items place new

module _ (o : Origin) (play next : Play) (p : Played) (conn place : ℕ) (old new : Connection) (change : Attached → Attached) (a : Attached)
    (at : IsAt o play p) (there : p.clients conn ≡ Some a) (number : place + 1 ≡ conn) (low : place < length play.connections.items)
    (read : old ≡ slice_index_or play.connections.items place old) (same : IsSameBut play next conn place new)
    (changes : IsChanged o play next p conn old new a (change a)) where
  abbrev q : Played
  q = on_client conn change p

  here : q.clients conn ≡ Some (change a)
  here = with_here conn (changed change (p.clients conn)) p.clients ∙ ap (changed change) there

  elsewhere : (other : ℕ) → other ≢ conn → q.clients other ≡ p.clients other
  elsewhere other apart = with_elsewhere conn other (changed change (p.clients conn)) p.clients apart

  kept_old : IsKept o play.keeps p conn old
  kept_old = subst (λ (n : ℕ). IsKept o play.keeps p n old) number (subst (λ (k : Connection). IsKept o play.keeps p (place + 1) k) (sym
      read) (at.each place old low))

  kept_here : IsKept o play.keeps q conn new
  kept_here = record {
    door = kept_old.door ∙ ap Some (sym changes.door);
    bytes = kept_old.bytes;
    held = subst (λ (xs : List ℕ). IsBytes xs) (sym changes.rest) kept_old.held;
    rest = λ live. kept_old.rest live ∙ ap rest_of (sym changes.rest);
    client = changes.client ∙ ap client_in (sym here);
    within = subst (λ (x : Option Attached). given_in x ≤ length (sent o p.events conn)) (sym here) changes.within;
    told = λ keeps. changes.told keeps ∙ ap (λ (x : Option Attached). take (given_in x) (sent o p.events conn)) (sym here);
  }

  kept_there : (n : ℕ) (c : Connection) → n ≢ conn → IsKept o play.keeps p n c → IsKept o play.keeps q n c
  kept_there n c apart kept = let is = elsewhere n apart in record {
    door = kept.door;
    bytes = kept.bytes;
    held = kept.held;
    rest = kept.rest;
    client = kept.client ∙ ap client_in (sym is);
    within = subst (λ (x : Option Attached). given_in x ≤ length (sent o p.events n)) (sym is) kept.within;
    told = λ keeps. kept.told keeps ∙ ap (λ (x : Option Attached). take (given_in x) (sent o p.events n)) (sym is);
  }

  abbrev Kept : ℕ → Connection → Type 0
  Kept n k = IsKept o play.keeps q (n + 1) k

  found_here : (n : ℕ) (other : Connection) → n ≡ place → Kept n (slice_index_or next.connections.items n other)
  found_here n other one =
      subst (λ (k : Connection). Kept n k)
      (sym (ap₂ (λ (ks : List Connection) (i : ℕ). slice_index_or ks i other) same.written one ∙ get_or-set_same play.connections.items
      place new other low))
      (subst (λ (i : ℕ). IsKept o play.keeps q i new) (sym number ∙ ap (λ (i : ℕ). i + 1) (sym one)) kept_here)

  found_there : (n : ℕ) (other : Connection) → n < length play.connections.items → n ≢ place → Kept n (slice_index_or
      next.connections.items n other)
  found_there n other within apart =
      subst (λ (k : Connection). Kept n k)
      (sym (ap (λ (ks : List Connection). slice_index_or ks n other) same.written ∙ get_or-set_other play.connections.items place n new
      other apart))
      (kept_there (n + 1) _ (λ e. apart (omega (arith, e, number))) (at.each n other within))

  long : length next.connections.items ≡ length play.connections.items
  long = ap length same.written ∙ length-set play.connections.items place new

  -- the client of a connection was changed, and nothing else
  pub at_client : IsAt o next (on_client conn change p)
  at_client = record {
    made = same.made ∙ at.made;
    revision = same.revision ∙ at.revision;
    events = same.events ∙ at.events;
    given = λ c. elim (c == conn) as (λ (b : Bool). (c == conn) ≡ b → taken next.hub c ≡ given_in (q.clients c)) [
      | true ↦ (λ is. let one = eqb-true c conn is in
          subst (λ (n : ℕ). taken next.hub n ≡ given_in (q.clients n)) (sym one) (changes.taken ∙ ap given_in (sym here)))
      | false ↦ (λ is. let apart = another c conn is in
          same.others c apart ∙ at.given c ∙ ap given_in (sym (elsewhere c apart)))
    ] refl;
    refused = same.refused ∙ at.refused;
    count = long ∙ at.count;
    each = λ n other within. subst (λ (b : Bool). IsKept o b q (n + 1) (slice_index_or next.connections.items n other)) (sym same.keeps)
        (elim (n == place) as (λ (b : Bool). (n == place) ≡ b → Kept n (slice_index_or next.connections.items n other)) [
          | true ↦ (λ one. found_here n other (eqb-true n place one))
          | false ↦ (λ apart. found_there n other (omega (arith, within, long)) (another n place apart))
        ] refl);
    unfed = at.unfed;
    bare = λ c above. elsewhere c (λ e. omega (arith, e, above, number, low, at.count)) ∙ at.bare c above;
    none = elsewhere 0 (λ e. omega (arith, e, number)) ∙ at.none;
  }

-- ---- a call that takes nothing of the connection

-- it was so before
kept_of : (o : Origin) (play : Play) (p : Played) (conn place : ℕ) (old : Connection) → IsAt o play p → place + 1 ≡ conn
    → place < length play.connections.items → old ≡ slice_index_or play.connections.items place old → IsKept o play.keeps p conn old
kept_of o play p conn place old at number low read =
    subst (λ (n : ℕ). IsKept o play.keeps p n old) number (subst (λ (k : Connection). IsKept o play.keeps p (place + 1) k) (sym read)
    (at.each place old low))

client_then : (a : Attached) (x : Option Attached) → x ≡ Some a → client_in x ≡ Some (client_of a)
client_then a x is = ap client_in is

pub at_call : (o : Origin) (play : Play) (p : Played) (conn place : ℕ) (old new : Connection) (next : Play) (change : Attached → Attached)
    → IsAt o play p → is_some (client_at play conn) ≡ true → place + 1 ≡ conn → place < length play.connections.items
    → old ≡ slice_index_or play.connections.items place old → IsSameBut play next conn place new → next.hub ≡ play.hub
    → new.door ≡ old.door → new.rest.items ≡ old.rest.items → new.told.items ≡ old.told.items
    → ((a : Attached) → (change a).given ≡ a.given)
    → ((a : Attached) → old.client ≡ Some (client_of a) → new.client ≡ Some (client_of (change a)))
    → IsAt o next (on_client conn change p)
at_call o play p conn place old new next change at some number low read same hub door rest told given client =
    let with = attached_is o play p conn at some in
    let kept = kept_of o play p conn place old at number low read in
    let is : given_in (p.clients conn) ≡ (change with.a).given = ap given_in with.is ∙ sym (given with.a) in
    at_client o play next p conn place old new change with.a at with.is number low read same (record {
      door = door;
      rest = rest;
      client = client with.a (kept.client ∙ client_then with.a (p.clients conn) with.is);
      within = omega (arith, is, kept.within);
      told = λ keeps. told ∙ kept.told keeps ∙ ap (λ (n : ℕ). take n (sent o p.events conn)) is;
      taken = ap (λ (h : HubState). taken h conn) hub ∙ at.given conn ∙ is;
    })

-- ---- bytes that are handed down

-- a front, by its own length
front_self : (n : ℕ) (xs : List ℕ) → take n xs ≡ take (length (take n xs)) xs
front_self zero xs = refl
front_self (suc n) [] = refl
front_self (suc n) (x ∷ xs) = ap (λ (ys : List ℕ). x ∷ ys) (front_self n xs)

front_is : (n : ℕ) (xs piece : List ℕ) → piece ≡ take n xs → piece ≡ take (length piece) xs
front_is n xs piece is = is ∙ front_self n xs ∙ ap (λ (ys : List ℕ). take (length ys) xs) (sym is)

-- what was taken before, and the next ones
taken_and : (n k : ℕ) (s piece : List ℕ) → piece ≡ take n (drop k s) → take k s ++ piece ≡ take (k + length piece) s
taken_and n k s piece is =
    ap (λ (xs : List ℕ). take k s ++ xs) (front_is n (drop k s) piece is) ∙ take-more k (length piece) s

pub at_down : (o : Origin) (play : Play) (p : Played) (conn place n : ℕ) (old new : Connection) (next : Play) (piece : List ℕ)
    → IsAt o play p → is_some (client_at play conn) ≡ true → place + 1 ≡ conn → place < length play.connections.items
    → old ≡ slice_index_or play.connections.items place old → IsSameBut play next conn place new
    → piece ≡ take n (drop (taken play.hub conn) (sent (origin play.hub) play.hub.events conn))
    → taken next.hub conn ≡ taken play.hub conn + length piece
    → new.door ≡ old.door → new.rest.items ≡ old.rest.items → new.client ≡ after_call (Feed piece) old.client
    → (play.keeps ≡ true → new.told.items ≡ old.told.items ++ piece)
    → IsAt o next (on_client conn (handed n (sent o p.events conn)) p)
at_down o play p conn place n old new next piece at some number low read same is count door rest client told =
    let with = attached_is o play p conn at some in
    let a = with.a in
    let s = sent o p.events conn in
    let kept = kept_of o play p conn place old at number low read in
    let given : taken play.hub conn ≡ a.given = at.given conn ∙ ap given_in with.is in
    let whole : sent (origin play.hub) play.hub.events conn ≡ s =
    ap₂ (λ (g : Origin) (es : List Event). sent g es conn) at.made at.events in
    let bytes : piece ≡ next_of n s a = is ∙ ap₂ (λ (k : ℕ) (xs : List ℕ). take n (drop k xs)) given whole in
    let within : a.given ≤ length s = omega (arith, kept.within, ap given_in with.is) in
    let size : length piece ≤ length s - a.given = omega (arith, ap length bytes, length-take n (drop a.given s), length-drop a.given s) in
    let long : a.given + length (next_of n s a) ≡ a.given + length piece = ap (λ (xs : List ℕ). a.given + length xs) (sym bytes) in
    at_client o play next p conn place old new (handed n s) a at with.is number low read same (record {
      door = door;
      rest = rest;
      client = client ∙ ap (after_call (Feed piece)) (kept.client ∙ client_then a (p.clients conn) with.is)
          ∙ ap (λ (xs : List ℕ). Some (with_call (client_of a) (Feed xs))) bytes ∙ ap Some (sym (client_called a (Feed (next_of n s a))));
      within = omega (arith, long, size, within);
      told = λ keeps. told keeps ∙ ap (λ (xs : List ℕ). xs ++ piece) (kept.told keeps ∙ ap (λ (x : Option Attached). take (given_in x) s)
          with.is) ∙ taken_and n a.given s piece bytes ∙ ap (λ (k : ℕ). take k s) (sym long);
      taken = count ∙ ap (λ (k : ℕ). k + length piece) given ∙ sym long;
    })

-- ---- which lines are refused

module _ (o : Origin) (play : Play) (p : Played) (at : IsAt o play p) where
  over_is : is_over (origin play.hub) play.hub.events ≡ is_over o p.events
  over_is = ap₂ is_over at.made at.events

  gone_is : (conn : ℕ) → is_gone (origin play.hub) play.hub.events conn ≡ is_gone o p.events conn
  gone_is conn = ap₂ (λ (g : Origin) (es : List Event). is_gone g es conn) at.made at.events

  bare_is : (conn : ℕ) → not (is_some (client_at play conn)) ≡ not (is_some (client_in (p.clients conn)))
  bare_is conn = ap (λ (x : Option Held). not (is_some x)) (client_is o play p conn at)

  pub refused_is : (line : Line1) → refused_by play line ≡ is_refused o p line
  refused_is Open = over_is
  refused_is Side = over_is
  refused_is (Bytes conn piece) = gone_is conn
  refused_is (Shut conn) = gone_is conn
  refused_is (Tick n) = over_is
  refused_is Stop = over_is
  refused_is (Join name company password own) = over_is
  refused_is (Up conn n) = ap₂ (λ (a b : Bool). a || b) (gone_is conn) (bare_is conn)
  refused_is (Down conn n) = bare_is conn
  refused_is (Run conn n) = bare_is conn
  refused_is (Pump conn) = bare_is conn
  refused_is (Do conn command) = ap (λ (x : Option Held). not (runs_with x)) (client_is o play p conn at)
  refused_is (Forge conn bytes) = bare_is conn
  refused_is (Expect line) = refl

pub done_so : (o : Origin) (play : Play) (p : Played) (line : Line1) (b : Bool) → IsAt o play p → refused_by play line ≡ b
    → done o p line ≡ (if b then one_refused p else did o p line)
done_so o play p line b at is =
    ap (λ (c : Bool). if c then one_refused p else did o p line) (sym (refused_is o play p at line) ∙ is)

-- ---- what a client joins with

abbrev pub login : ℕ → List ℕ → List ℕ → List ℕ → List ℕ → Login
login company revision name password own = record {
  revision = revision;
  grf = 13;
  name = name;
  company = company;
  password = password;
  company_password = own;
}

pub login_is : (company : ℕ) (r s n m p q a b : List ℕ) → r ≡ s → n ≡ m → p ≡ q → a ≡ b → login company r n p a ≡ login company s m q b
login_is company r s n m p q a b one two three four =
    ap₂ (λ (x y : List ℕ). login company x y p a) one two ∙ ap₂ (λ (x y : List ℕ). login company s m x y) three four

-- ---- a client that runs

some_by : (x : Option Held) → runs_with x ≡ true → is_some x ≡ true
some_by None is = absurd (true≢false (sym is))
some_by (Some h) is = refl

-- is there
pub runs_some : (x : Option Held) → runs_with x ≡ true → is_some x ≡ true
runs_some x is = some_by x is

-- the client at a place
pub client_there : (play : Play) (conn place : ℕ) (c : Connection) → place + 1 ≡ conn → place < length play.connections.items
    → c ≡ slice_index_or play.connections.items place c → client_at play conn ≡ c.client
client_there play conn place c is low read =
    let one : conn ≡ suc place = omega (arith, is) in
    ap (client_at play) one
    ∙ ap client_on (slice_get-get_or play.connections.items place c low ∙ ap (λ (k : Connection). Some k) (sym read))

pub running_there : (play : Play) (conn place : ℕ) (c : Connection) → place + 1 ≡ conn → place < length play.connections.items
    → c ≡ slice_index_or play.connections.items place c → runs_with (client_at play conn) ≡ true → runs_with c.client ≡ true
running_there play conn place c is low read runs = ap runs_with (sym (client_there play conn place c is low read)) ∙ runs

-- ---- what a client has to say

-- what waits in the client at a place is laid out as it is to be
pub sayings_there : (o : Origin) (play : Play) (p : Played) (conn place : ℕ) (c : Connection) → IsAt o play p → place + 1 ≡ conn
    → place < length play.connections.items → c ≡ slice_index_or play.connections.items place c → AreSayings c.client
sayings_there o play p conn place c at is low read =
    subst AreSayings (sym (client_is o play p conn at) ∙ client_there play conn place c is low read) (sayings_fit (p.clients conn))

-- ---- one line behind another

-- a client whose calls go on is still there
pub still_some : (o : Origin) (play next : Play) (p : Played) (conn : ℕ) (change : Attached → Attached) → IsAt o play p
    → is_some (client_at play conn) ≡ true → IsAt o next (on_client conn change p) → is_some (client_at next conn) ≡ true
still_some o play next p conn change at some behind =
    let with = attached_is o play p conn at some in
    ap (λ (x : Option Held). is_some x) (client_is o next (on_client conn change p) conn behind
    ∙ ap client_in (with_here conn (changed change (p.clients conn)) p.clients ∙ ap (changed change) with.is))

pub gone_live : (a b : Bool) → a || not b ≡ false → b ≡ true
gone_live true b is = absurd (true≢false is)
gone_live false true is = refl
gone_live false false is = absurd (true≢false is)
