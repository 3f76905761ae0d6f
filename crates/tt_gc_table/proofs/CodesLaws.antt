-- A live code belongs to one server, as long as no code was drawn twice.
use Rattle.std.proofs.Common.{◌≡◌, ℕ, ◌+◌, ◌≤◌, Bool, true, false, not, ◌&&◌, ◌||◌, cond, length, List, [], ◌∷◌, ◌++◌, Option, Some, None}
use Rattle.std.proofs.Common.{refl, sym, ap, subst, ◌∙◌, arith, inl, inr}
use Rattle.std.specs.Prelude.{◌⊎◌, count_by, find, is_some, nat_le}
use Rattle.std.specs.Str.{bytes_eq}
use Rattle.std.proofs.lemmas.Bool.{true≢false, false≢true}
use Rattle.std.proofs.lemmas.List.Sums.{sum_by-append}
use Rattle.std.proofs.lemmas.Slice.Eq.{bytes_eq-Decides}
use Rattle.tt_edge.specs.declared.event.Event.{Event}
use Rattle.tt_gc_table.specs.declared.setup.GcSetup.{GcSetup}
use Rattle.tt_gc_table.specs.Table.{Table, Server, Drawn, server_on}
use Rattle.tt_gc_table.specs.Table.{server_by}
use Rattle.tt_gc_table.specs.Table.{drawn_by, holders, NoneTwice}
use Rattle.tt_gc_table.specs.Deed.{Deed, either}
use Rattle.tt_gc_table.specs.Codes.{IsOwners}
use Rattle.tt_gc_table.specs.Ending.{ends}
use Rattle.tt_gc_table.specs.PacketRules.{most_servers, registers, registers_new, is_known, is_empty, may_return, may_register, on_register}
use Rattle.tt_gc_table.specs.Events.{table_of}
use Rattle.tt_gc_table.specs.Walk.{Registers, Returns, Draws}
use Rattle.tt_gc_table.proofs.Finding.{find_behind}
use Rattle.tt_gc_table.proofs.Carried.{carried_to}

-- ---- counting

pub count_cons : {A : Type 0} (p : A → Bool) (x : A) (xs : List A) → count_by p (x ∷ xs) ≡ cond (p x) 1 0 + count_by p xs
count_cons {A = A} p x xs = omega (arith, sum_by-append (λ (y : A). cond (p y) 1 0) (x ∷ []) xs)

pub count_push : {A : Type 0} (p : A → Bool) (x : A) (xs : List A) → count_by p (xs ++ x ∷ []) ≡ count_by p xs + cond (p x) 1 0
count_push {A = A} p x xs = omega (arith, sum_by-append (λ (y : A). cond (p y) 1 0) xs (x ∷ []))

pub none_found : {A : Type 0} (p : A → Bool) (xs : List A) → count_by p xs ≡ 0 → is_some (find p xs) ≡ false
none_found p [] none = refl
none_found {A = A} p (x ∷ xs) none = by (p x) (sym (count_cons p x xs) ∙ none) (none_found p xs)
  where
    by : (b : Bool) → cond b 1 0 + count_by p xs ≡ 0 → (count_by p xs ≡ 0 → is_some (find p xs) ≡ false)
        → is_some (cond b (Some x) (find p xs)) ≡ false
    by true is rest = absurd (omega (arith, is))
    by false is rest = rest (omega (arith, is))

pub none_counted : {A : Type 0} (p : A → Bool) (xs : List A) → is_some (find p xs) ≡ false → count_by p xs ≡ 0
none_counted p [] none = refl
none_counted {A = A} p (x ∷ xs) none = count_cons p x xs ∙ by (p x) none (none_counted p xs)
  where
    by : (b : Bool) → is_some (cond b (Some x) (find p xs)) ≡ false → (is_some (find p xs) ≡ false → count_by p xs ≡ 0)
        → cond b 1 0 + count_by p xs ≡ 0
    by true is rest = absurd (true≢false is)
    by false is rest = omega (arith, rest is)

-- ---- what holds of a table, as long as no code was drawn twice

pub record Owned (t : Table) (code : List ℕ) : Type 0 where
  pub one : holders t code ≤ 1
  -- a code that wasn't drawn has no server
  pub known : is_some (drawn_by t code) ≡ false → holders t code ≡ 0

abbrev pub IsOwned : Table → Type 0
IsOwned t = NoneTwice t.drawn → (code : List ℕ) → Owned t code

-- servers and drawn codes are as they were
owned_same : (t u : Table) → u.servers ≡ t.servers → u.drawn ≡ t.drawn → IsOwned t → IsOwned u
owned_same t u servers drawn own once code =
    let o : Owned t code = own (subst NoneTwice drawn once) code in
    let same : holders u code ≡ holders t code = ap (count_by (λ (v : Server). bytes_eq code v.code)) servers in
    record {
      one = omega (arith, same, o.one);
      known = λ none. same ∙ o.known (sym (ap (λ (ds : List Drawn). is_some (find (λ (d : Drawn). bytes_eq code d.code) ds)) drawn) ∙ none);
    }

-- the code that is returned, or another one
owned_returned : (t u : Table) (r : Returns t u) (code : List ℕ) (b : Bool) → bytes_eq code r.code ≡ b → Owned t code
    → holders u code ≡ holders t code + cond b 1 0 → is_some (drawn_by u code) ≡ is_some (drawn_by t code) → Owned u code
owned_returned t u r code true is o more same =
    let here : code ≡ r.code = (bytes_eq-Decides code r.code).0 is in
    let none : holders t code ≡ 0 = ap (holders t) here ∙ none_counted (λ (v : Server). bytes_eq r.code v.code) t.servers r.free in
    record {
      one = omega (arith, none, more);
      known = λ lost. absurd (true≢false (sym (ap (λ (c : List ℕ). is_some (drawn_by t c)) here ∙ r.known) ∙ sym same ∙ lost));
    }
owned_returned t u r code false is o more same = record {
  one = omega (arith, o.one, more);
  known = λ none. omega (arith, more, o.known (sym same ∙ none));
}

owned_drawn : (t u : Table) (r : Draws t u) (code : List ℕ) (b : Bool) → bytes_eq code r.new.code ≡ b → NoneTwice u.drawn → Owned t code
    → holders u code ≡ holders t code + cond b 1 0 → Owned u code
owned_drawn t u r code true is once o more =
    let p : Drawn → Bool = λ (d : Drawn). bytes_eq code d.code in
    let all : count_by p u.drawn ≡ count_by p t.drawn + cond (p r.new) 1 0 = ap (count_by p) r.drawn ∙ count_push p r.new t.drawn in
    let own : cond {A = ℕ} (p r.new) 1 0 ≡ 1 = ap (λ (c : Bool). cond {A = ℕ} c 1 0) is in
    let none : count_by p t.drawn ≡ 0 = omega (arith, all, own, once code) in
    let empty : holders t code ≡ 0 = o.known (none_found p t.drawn none) in
    record {
      one = omega (arith, empty, more);
      known = λ lost. absurd (omega (arith, none_counted p u.drawn lost, all, own));
    }
owned_drawn t u r code false is once o more =
    let p : Drawn → Bool = λ (d : Drawn). bytes_eq code d.code in
    let same : find p u.drawn ≡ find p t.drawn = ap (find p) r.drawn ∙ find_behind p r.new is t.drawn in
    record {
      one = omega (arith, o.one, more);
      known = λ none. omega (arith, more, o.known (ap is_some (sym same) ∙ none));
    }

fewer_twice : (xs : List Drawn) (new : Drawn) (ys : List Drawn) → ys ≡ xs ++ new ∷ [] → NoneTwice ys → NoneTwice xs
fewer_twice xs new ys is once code =
    let p : Drawn → Bool = λ (d : Drawn). bytes_eq code d.code in
    omega (arith, once code, ap (count_by p) is, count_push p new xs)

owned_plain : (t u : Table) → Registers t u → IsOwned t → IsOwned u
owned_plain t u (inl k) own once code =
    let o : Owned t code = own (subst NoneTwice k.drawn once) code in
    record {
      one = omega (arith, k.fewer code, o.one);
      known = λ none. omega (
        arith,
        k.fewer code,
        o.known (sym (ap (λ (ds : List Drawn). is_some (find (λ (d : Drawn). bytes_eq code d.code) ds)) k.drawn) ∙ none),
      );
    }
owned_plain t u (inr (inl r)) own once code =
    owned_returned t u r code (bytes_eq code r.code) refl (own (subst NoneTwice r.drawn once) code) (r.servers code)
    (ap (λ (ds : List Drawn). is_some (find (λ (d : Drawn). bytes_eq code d.code) ds)) r.drawn)
owned_plain t u (inr (inr r)) own once code =
    owned_drawn t u r code (bytes_eq code r.new.code) refl once (own (fewer_twice t.drawn r.new u.drawn r.drawn once) code) (r.servers code)

is_owned : (s : GcSetup) (es : List Event) → IsOwned (table_of s es)
is_owned s es = carried_to s IsOwned (record { same = owned_same; registers = owned_plain }) (λ once code. record {
  one = omega arith;
  known = λ none. refl;
}) es

pub one_holder : (s : GcSetup) (es : List Event) (code : List ℕ) → NoneTwice (table_of s es).drawn → holders (table_of s es) code ≤ 1
one_holder s es code once = (is_owned s es once code).one

-- a code that wasn't drawn has no server
pub none_undrawn : (s : GcSetup) (es : List Event) (code : List ℕ) → NoneTwice (table_of s es).drawn
    → is_some (drawn_by (table_of s es) code) ≡ false → is_some (server_by (table_of s es) code) ≡ false
none_undrawn s es code once none =
    none_found (λ (v : Server). bytes_eq code v.code) (table_of s es).servers ((is_owned s es once code).known none)

-- ---- the secret

owners : (t : Table) (code secret : List ℕ) (o : Option Drawn) → drawn_by t code ≡ o → is_known secret o ≡ true
    → is_some (server_by t code) ≡ false → IsOwners t code secret
owners t code secret None is known free = absurd (false≢true known)
owners t code secret (Some d) is known free = record {
  kept = d;
  drawn = is;
  same = sym ((bytes_eq-Decides secret d.secret).0 known);
  free = free;
}

both_true : (a b : Bool) → a && not b ≡ true → (a ≡ true) × (b ≡ false)
both_true true true is = absurd (false≢true is)
both_true true false is = (refl, refl)
both_true false b is = absurd (false≢true is)

last_true : (a b c d : Bool) → c ≡ false → a && b && (c || d) ≡ true → d ≡ true
last_true true true false d none is = is
last_true true true true d none is = absurd (true≢false none)
last_true true false c d none is = absurd (false≢true is)
last_true false b c d none is = absurd (false≢true is)

pub code_owned : (s : GcSetup) (t : Table) (conn kind port : ℕ) (code secret : List ℕ) → is_empty code ≡ false
    → (on_register s conn kind port code secret t ≡ ends s conn 0 [] t) ⊎ ((on_register s conn kind port code secret t ≡ ends s conn 1 [] t)
    ⊎ IsOwners t code secret)
code_owned s t conn kind port code secret some = by (nat_le most_servers (length t.servers)) (may_register t conn kind code secret) refl
  where
    taken : Table → Deed
    taken = either (is_empty code) (registers_new conn kind port) (registers conn kind port (record { code = code; secret = secret }))

    by : (a b : Bool) → may_register t conn kind code secret ≡ b
        → (either a (ends s conn 0 []) (either b taken (ends s conn 1 [])) t ≡ ends s conn 0 [] t)
        ⊎ ((either a (ends s conn 0 []) (either b taken (ends s conn 1 [])) t ≡ ends s conn 1 [] t) ⊎ IsOwners t code secret)
    by true b is = inl refl
    by false false is = inr (inl refl)
    by false true is =
        let may : may_return t code secret ≡ true =
        last_true (not (is_some (server_on t conn))) (nat_le kind 2) (is_empty code) (may_return t code secret) some is in
        let h = both_true (is_known secret (drawn_by t code)) (is_some (server_by t code)) may in
        inr (inr (owners t code secret (drawn_by t code) refl h.0 h.1))
