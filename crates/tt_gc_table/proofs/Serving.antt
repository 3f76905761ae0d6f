-- Servers by connection are servers by the code of the connection.
use Rattle.std.proofs.Common.{◌≡◌, ℕ, zero, suc, Bool, true, false, not, cond, List, [], ◌∷◌, ◌++◌, map, Option, Some, None, refl, sym, ap}
use Rattle.std.proofs.Common.{ap₂, ◌∙◌, arith, subst}
use Rattle.std.specs.Prelude.{filter, find, eqb, is_some, option_map, slice_index_or, slice_set, length, ◌<◌}
use Rattle.std.specs.List.{AllByRecursion}
use Rattle.std.specs.Str.{bytes_eq}
use Rattle.std.proofs.lemmas.Bool.{ne_eqb, eqb-true, eqb-false, true≢false}
use Rattle.std.proofs.lemmas.Slice.Eq.{bytes_eq-Decides}
use Rattle.tt_gc_table.specs.declared.lines.Line.{Line}
use Rattle.tt_gc_table.specs.Table.{Server, is_servers}
use Rattle.tt_gc_table.specs.Lines.{unopened, code_at}
use Rattle.std.proofs.lemmas.List.{get_or-set_same, get_or-set_other}
use Rattle.tt_gc_table.specs.Parts.{IsServing}

-- the server has this code, where there is one
abbrev pub at_code : Option (List ℕ) → Server → Bool
at_code None v = false
at_code (Some code) v = bytes_eq code v.code

eqb-same : (n : ℕ) → eqb n n ≡ true
eqb-same n = grind arith

abbrev unwrap : {A : Type 0} → A → Option A → A
unwrap d None = d
unwrap d (Some x) = x

same_code : (code : List ℕ) → bytes_eq code code ≡ true
same_code code = (bytes_eq-Decides code code).1 refl

-- two connections that are registered by one code are one
one_code : (ls : List Line) (vs : List Server) (c d : ℕ) (code : List ℕ) → IsServing ls vs → code_at ls c ≡ Some code
    → code_at ls d ≡ Some code → c ≡ d
one_code ls vs c d code s at_c at_d = ap (unwrap c) (sym (s.served c code at_c) ∙ s.served d code at_d)

agree_one : (ls : List Line) (vs : List Server) (conn : ℕ) (v : Server) → IsServing ls vs → code_at ls v.conn ≡ Some v.code
    → is_servers conn v ≡ at_code (code_at ls conn) v
agree_one ls vs conn v s own = by (eqb v.conn conn) refl (code_at ls conn) refl
  where
    by : (b : Bool) → eqb v.conn conn ≡ b → (o : Option (List ℕ)) → code_at ls conn ≡ o → b ≡ at_code o v
    by true same None at_conn =
        absurd (true≢false (ap is_some (sym own ∙ ap (code_at ls) (eqb-true v.conn conn same) ∙ at_conn)))
    by true same (Some code) at_conn =
        let is : code ≡ v.code = ap (unwrap code) (sym at_conn ∙ ap (code_at ls) (sym (eqb-true v.conn conn same)) ∙ own) in
        sym (ap (bytes_eq code) (sym is) ∙ same_code code)
    by false differ None at_conn = refl
    by false differ (Some code) at_conn = other (bytes_eq code v.code) refl
      where
        other : (b : Bool) → bytes_eq code v.code ≡ b → false ≡ b
        other true is =
            let same : conn ≡ v.conn =
            one_code ls vs conn v.conn code s at_conn (own ∙ ap (λ (k : List ℕ). Some k) (sym ((bytes_eq-Decides code v.code).0 is))) in
            absurd (eqb-false v.conn conn differ (sym same))
        other false is = refl

agree : (ls : List Line) (vs ws : List Server) (conn : ℕ) → IsServing ls vs → AllByRecursion (λ (v : Server). code_at ls v.conn ≡ Some
    v.code) ws
    → AllByRecursion (λ (v : Server). is_servers conn v ≡ at_code (code_at ls conn) v) ws
agree ls vs [] conn s own = own
agree ls vs (w ∷ ws) conn s own = (agree_one ls vs conn w s own.0, agree ls vs ws conn s own.1)

find_same : (p q : Server → Bool) (vs : List Server) → AllByRecursion (λ (v : Server). p v ≡ q v) vs → find p vs ≡ find q vs
find_same p q [] same = refl
find_same p q (v ∷ vs) same = ap₂ (λ (b : Bool) (o : Option Server). cond b (Some v) o) same.0 (find_same p q vs same.1)

filter_same : (p q : Server → Bool) (vs : List Server) → AllByRecursion (λ (v : Server). p v ≡ q v) vs
    → filter (λ v. not (p v)) vs ≡ filter (λ v. not (q v)) vs
filter_same p q [] same = refl
filter_same p q (v ∷ vs) same =
    ap₂ (λ (b : Bool) (l : List Server). cond (not b) (v ∷ l) l) same.0 (filter_same p q vs same.1)

map_same : (p q : Server → Bool) (change : Server → Server) (vs : List Server) → AllByRecursion (λ (v : Server). p v ≡ q v) vs
    → map (λ v. cond (p v) (change v) v) vs ≡ map (λ v. cond (q v) (change v) v) vs
map_same p q change [] same = refl
map_same p q change (v ∷ vs) same =
    ap₂ (λ (b : Bool) (l : List Server). cond b (change v) v ∷ l) same.0 (map_same p q change vs same.1)

-- ---- by connection, and by its code

pub found_by_code : (ls : List Line) (vs : List Server) (conn : ℕ) → IsServing ls vs
    → find (is_servers conn) vs ≡ find (at_code (code_at ls conn)) vs
found_by_code ls vs conn s = find_same (is_servers conn) (at_code (code_at ls conn)) vs (agree ls vs vs conn s s.coded)

pub left_by_code : (ls : List Line) (vs : List Server) (conn : ℕ) → IsServing ls vs
    → filter (λ v. not (is_servers conn v)) vs ≡ filter (λ v. not (at_code (code_at ls conn) v)) vs
left_by_code ls vs conn s = filter_same (is_servers conn) (at_code (code_at ls conn)) vs (agree ls vs vs conn s s.coded)

pub changed_by_code : (ls : List Line) (vs : List Server) (conn : ℕ) (change : Server → Server) → IsServing ls vs
    → map (λ v. cond (is_servers conn v) (change v) v) vs ≡ map (λ v. cond (at_code (code_at ls conn) v) (change v) v) vs
changed_by_code ls vs conn change s =
    map_same (is_servers conn) (at_code (code_at ls conn)) change vs (agree ls vs vs conn s s.coded)

none_by : (vs : List Server) → find (at_code None) vs ≡ None
none_by [] = refl
none_by (v ∷ vs) = none_by vs

pub all_stay : (vs : List Server) → filter (λ v. not (at_code None v)) vs ≡ vs
all_stay [] = refl
all_stay (v ∷ vs) = ap (λ (l : List Server). v ∷ l) (all_stay vs)

-- a connection is a server's exactly where it is registered by a code
pub is_registered : (ls : List Line) (vs : List Server) (conn : ℕ) → IsServing ls vs
    → is_some (code_at ls conn) ≡ is_some (find (is_servers conn) vs)
is_registered ls vs conn s = by (code_at ls conn) refl ∙ ap is_some (sym (found_by_code ls vs conn s))
  where
    some_by : (o : Option Server) → option_map (λ (v : Server). v.conn) o ≡ Some conn → true ≡ is_some o
    some_by None is = absurd (true≢false (ap is_some (sym is)))
    some_by (Some v) is = refl

    by : (o : Option (List ℕ)) → code_at ls conn ≡ o → is_some o ≡ is_some (find (at_code (code_at ls conn)) vs)
    by None is = sym (ap is_some (ap (λ (o : Option (List ℕ)). find (at_code o) vs) is ∙ none_by vs))
    by (Some code) is = some_by (find (λ (v : Server). bytes_eq code v.code) vs) (s.served conn code is)
        ∙ sym (ap (λ (o : Option (List ℕ)). is_some (find (at_code o) vs)) is)

-- ---- the lines change

-- the code of a connection once one line is another
code_set : (ls : List Line) (k : ℕ) (l : Line) → k < length ls → (conn : ℕ)
    → code_at (slice_set ls k l) conn ≡ cond (eqb conn (suc k)) l.code (code_at ls conn)
code_set ls k l within zero =
    sym (ap (λ (b : Bool). cond b l.code (code_at ls 0)) (ne_eqb 0 (suc k) (λ same. omega (arith, same))))
code_set ls k l within (suc j) = by (eqb (suc j) (suc k)) refl
  where
    by : (b : Bool) → eqb (suc j) (suc k) ≡ b → code_at (slice_set ls k l) (suc j) ≡ cond b l.code (code_at ls (suc j))
    by true same = ap (λ (x : Line). x.code) (ap (λ (i : ℕ). slice_index_or (slice_set ls k l) i unopened)
        (omega (arith, eqb-true (suc j) (suc k) same)) ∙ get_or-set_same ls k l unopened within)
    by false differ = ap (λ (x : Line). x.code)
        (get_or-set_other ls k j l unopened (λ same. eqb-false (suc j) (suc k) differ (ap suc same)))

-- ---- one is registered

find_front : (p : Server → Bool) (vs ws : List Server) (conn : ℕ) → option_map (λ (v : Server). v.conn) (find p vs) ≡ Some conn
    → option_map (λ (v : Server). v.conn) (find p (vs ++ ws)) ≡ Some conn
find_front p [] ws conn is = absurd (true≢false (ap is_some (sym is)))
find_front p (v ∷ vs) ws conn is = by (p v) is (find_front p vs ws conn)
  where
    by : (b : Bool) → option_map (λ (v : Server). v.conn) (cond b (Some v) (find p vs)) ≡ Some conn
        → (option_map (λ (v : Server). v.conn) (find p vs) ≡ Some conn → option_map (λ (v : Server). v.conn) (find p (vs ++ ws)) ≡ Some
        conn)
        → option_map (λ (v : Server). v.conn) (cond b (Some v) (find p (vs ++ ws))) ≡ Some conn
    by true is rest = is
    by false is rest = rest is

find_last : (p : Server → Bool) (vs : List Server) (w : Server) → find p vs ≡ None → p w ≡ true → find p (vs ++ w ∷ []) ≡ Some w
find_last p [] w none passes = ap (λ (b : Bool). cond b (Some w) None) passes
find_last p (v ∷ vs) w none passes = by (p v) none (λ more. find_last p vs w more passes)
  where
    by : (b : Bool) → cond b (Some v) (find p vs) ≡ None → (find p vs ≡ None → find p (vs ++ w ∷ []) ≡ Some w)
        → cond b (Some v) (find p (vs ++ w ∷ [])) ≡ Some w
    by true is rest = absurd (true≢false (ap is_some is))
    by false is rest = rest is

pub serving_more : (ls : List Line) (vs : List Server) (k : ℕ) (l : Line) (w : Server) → IsServing ls vs → k < length ls
    → code_at ls (suc k) ≡ None → find (λ (v : Server). bytes_eq w.code v.code) vs ≡ None → w.conn ≡ suc k → l.code ≡ Some w.code
    → IsServing (slice_set ls k l) (vs ++ w ∷ [])
serving_more ls vs k l w s within fresh none own is = record { coded = each vs s.coded; served = λ conn code at. served conn code at }
  where
    after : List Line
    after = slice_set ls k l

    kept : (v : Server) → code_at ls v.conn ≡ Some v.code → code_at after v.conn ≡ Some v.code
    kept v has = code_set ls k l within v.conn ∙ ap (λ (b : Bool). cond b l.code (code_at ls v.conn)) (ne_eqb v.conn (suc k)
        (λ same. true≢false (ap is_some (sym has ∙ ap (code_at ls) same ∙ fresh)))) ∙ has

    new : code_at after w.conn ≡ Some w.code
    new = code_set ls k l within w.conn ∙ ap (λ (b : Bool). cond b l.code (code_at ls w.conn))
        (ap (λ (n : ℕ). eqb n (suc k)) own ∙ eqb-same (suc k)) ∙ is

    each : (us : List Server) → AllByRecursion (λ (v : Server). code_at ls v.conn ≡ Some v.code) us
        → AllByRecursion (λ (v : Server). code_at after v.conn ≡ Some v.code) (us ++ w ∷ [])
    each [] all = (new, tt)
    each (u ∷ us) all = (kept u all.0, each us all.1)

    served : (conn : ℕ) (code : List ℕ) → code_at after conn ≡ Some code
        → option_map (λ (v : Server). v.conn) (find (λ (v : Server). bytes_eq code v.code) (vs ++ w ∷ [])) ≡ Some conn
    served conn code at = by (eqb conn (suc k)) refl (sym (code_set ls k l within conn) ∙ at)
      where
        by : (b : Bool) → eqb conn (suc k) ≡ b → cond b l.code (code_at ls conn) ≡ Some code
            → option_map (λ (v : Server). v.conn) (find (λ (v : Server). bytes_eq code v.code) (vs ++ w ∷ [])) ≡ Some conn
        by true same has =
            let code_is : w.code ≡ code = ap (unwrap w.code) (sym is ∙ has) in
            subst (λ (x : List ℕ). option_map (λ (v : Server). v.conn) (find (λ (v : Server). bytes_eq x v.code) (vs ++ w ∷ [])) ≡ Some
            conn)
            code_is (ap (option_map (λ (v : Server). v.conn)) (find_last (λ (v : Server). bytes_eq w.code v.code) vs w none
            (same_code w.code)) ∙ ap (λ (n : ℕ). Some n) (own ∙ sym (eqb-true conn (suc k) same)))
        by false differ has = find_front (λ (v : Server). bytes_eq code v.code) vs (w ∷ []) conn (s.served conn code has)

-- ---- one leaves

find_kept : (p : Server → Bool) (gone conn : ℕ) (vs : List Server) → (conn ≡ gone → ⊥)
    → option_map (λ (v : Server). v.conn) (find p vs) ≡ Some conn
    → option_map (λ (v : Server). v.conn) (find p (filter (λ v. not (is_servers gone v)) vs)) ≡ Some conn
find_kept p gone conn [] apart is = is
find_kept p gone conn (v ∷ vs) apart is = by (p v) refl (is_servers gone v) refl is (find_kept p gone conn vs apart)
  where
    rest : List Server
    rest = filter (λ v. not (is_servers gone v)) vs

    by : (a : Bool) → p v ≡ a → (b : Bool) → is_servers gone v ≡ b → option_map (λ (v : Server). v.conn) (cond a (Some v) (find p vs)) ≡
        Some conn
        → (option_map (λ (v : Server). v.conn) (find p vs) ≡ Some conn → option_map (λ (v : Server). v.conn) (find p rest) ≡ Some conn)
        → option_map (λ (v : Server). v.conn) (find p (cond (not b) (v ∷ rest) rest)) ≡ Some conn
    by true passes true same is more = absurd (apart (ap (unwrap conn) (sym is) ∙ eqb-true v.conn gone same))
    by true passes false differ is more = ap (λ (b : Bool). option_map (λ (v : Server). v.conn) (cond b (Some v) (find p rest))) passes ∙ is
    by false fails true same is more = more is
    by false fails false differ is more =
        ap (λ (b : Bool). option_map (λ (v : Server). v.conn) (cond b (Some v) (find p rest))) fails ∙ more is

pub serving_less : (ls : List Line) (vs : List Server) (k : ℕ) (l : Line) → IsServing ls vs → k < length ls → l.code ≡ None
    → IsServing (slice_set ls k l) (filter (λ v. not (is_servers (suc k) v)) vs)
serving_less ls vs k l s within is = record { coded = each vs s.coded; served = λ conn code at. served conn code at }
  where
    after : List Line
    after = slice_set ls k l

    kept : (v : Server) → is_servers (suc k) v ≡ false → code_at ls v.conn ≡ Some v.code → code_at after v.conn ≡ Some v.code
    kept v differ has = code_set ls k l within v.conn ∙ ap (λ (b : Bool). cond b l.code (code_at ls v.conn)) differ ∙ has

    each : (us : List Server) → AllByRecursion (λ (v : Server). code_at ls v.conn ≡ Some v.code) us
        → AllByRecursion (λ (v : Server). code_at after v.conn ≡ Some v.code) (filter (λ v. not (is_servers (suc k) v)) us)
    each [] all = all
    each (u ∷ us) all = by (is_servers (suc k) u) refl (each us all.1)
      where
        rest : List Server
        rest = filter (λ v. not (is_servers (suc k) v)) us

        by : (b : Bool) → is_servers (suc k) u ≡ b → AllByRecursion (λ (v : Server). code_at after v.conn ≡ Some v.code) rest
            → AllByRecursion (λ (v : Server). code_at after v.conn ≡ Some v.code) (cond (not b) (u ∷ rest) rest)
        by true same more = more
        by false differ more = (kept u differ all.0, more)

    served : (conn : ℕ) (code : List ℕ) → code_at after conn ≡ Some code → option_map (λ (v : Server). v.conn)
        (find (λ (v : Server). bytes_eq code v.code) (filter (λ v. not (is_servers (suc k) v)) vs)) ≡ Some conn
    served conn code at = by (eqb conn (suc k)) refl (sym (code_set ls k l within conn) ∙ at)
      where
        by : (b : Bool) → eqb conn (suc k) ≡ b → cond b l.code (code_at ls conn) ≡ Some code → option_map (λ (v : Server). v.conn)
            (find (λ (v : Server). bytes_eq code v.code) (filter (λ v. not (is_servers (suc k) v)) vs)) ≡ Some conn
        by true same has = absurd (true≢false (ap is_some (sym has ∙ is)))
        by false differ has = find_kept (λ (v : Server). bytes_eq code v.code) (suc k) conn vs (eqb-false conn (suc k) differ)
            (s.served conn code has)

-- ---- one more line, and one that says something of its game

code_push : (ls : List Line) (l : Line) → l.code ≡ None → (conn : ℕ) → code_at (ls ++ l ∷ []) conn ≡ code_at ls conn
code_push ls l none zero = refl
code_push ls l none (suc k) = at ls k
  where
    at : (ls : List Line) (k : ℕ) → (slice_index_or (ls ++ l ∷ []) k unopened).code ≡ (slice_index_or ls k unopened).code
    at [] zero = none
    at [] (suc k) = refl
    at (x ∷ xs) zero = refl
    at (x ∷ xs) (suc k) = at xs k

pub serving_pushed : (ls : List Line) (vs : List Server) (l : Line) → IsServing ls vs → l.code ≡ None → IsServing (ls ++ l ∷ []) vs
serving_pushed ls vs l s none = record {
  coded = each vs s.coded;
  served = λ conn code at. s.served conn code (sym (code_push ls l none conn) ∙ at);
}
  where
    each : (us : List Server) → AllByRecursion (λ (v : Server). code_at ls v.conn ≡ Some v.code) us
        → AllByRecursion (λ (v : Server). code_at (ls ++ l ∷ []) v.conn ≡ Some v.code) us
    each [] all = all
    each (u ∷ us) all = (code_push ls l none u.conn ∙ all.0, each us all.1)

pub serving_changed : (ls : List Line) (vs : List Server) (p : Server → Bool) (change : Server → Server) → IsServing ls vs
    → ((v : Server) → (change v).conn ≡ v.conn) → ((v : Server) → (change v).code ≡ v.code)
    → IsServing ls (map (λ v. cond (p v) (change v) v) vs)
serving_changed ls vs p change s conns codes = record {
  coded = each vs s.coded;
  served = λ conn code at. found vs code ∙ s.served conn code at;
}
  where
    each : (us : List Server) → AllByRecursion (λ (v : Server). code_at ls v.conn ≡ Some v.code) us
        → AllByRecursion (λ (v : Server). code_at ls v.conn ≡ Some v.code) (map (λ v. cond (p v) (change v) v) us)
    each [] all = all
    each (u ∷ us) all = (by (p u), each us all.1)
      where
        by : (b : Bool) → code_at ls (cond b (change u) u).conn ≡ Some (cond b (change u) u).code
        by true = ap (code_at ls) (conns u) ∙ all.0 ∙ ap (λ (k : List ℕ). Some k) (sym (codes u))
        by false = all.0

    found : (us : List Server) (code : List ℕ)
        → option_map (λ (v : Server). v.conn) (find (λ (v : Server). bytes_eq code v.code) (map (λ v. cond (p v) (change v) v) us))
        ≡ option_map (λ (v : Server). v.conn) (find (λ (v : Server). bytes_eq code v.code) us)
    found [] code = refl
    found (u ∷ us) code = by (p u) (found us code)
      where
        rest : Option Server
        rest = find (λ (v : Server). bytes_eq code v.code) (map (λ v. cond (p v) (change v) v) us)

        own : (b : Bool) → option_map (λ (v : Server). v.conn) rest
            ≡ option_map (λ (v : Server). v.conn) (find (λ (v : Server). bytes_eq code v.code) us)
            → option_map (λ (v : Server). v.conn) (cond b (Some (change u)) rest)
            ≡ option_map (λ (v : Server). v.conn) (cond b (Some u) (find (λ (v : Server). bytes_eq code v.code) us))
        own true more = ap (λ (n : ℕ). Some n) (conns u)
        own false more = more

        by : (b : Bool) → option_map (λ (v : Server). v.conn) rest
            ≡ option_map (λ (v : Server). v.conn) (find (λ (v : Server). bytes_eq code v.code) us)
            → option_map (λ (v : Server). v.conn) (cond (bytes_eq code (cond b (change u) u).code) (Some (cond b (change u) u)) rest)
            ≡ option_map (λ (v : Server). v.conn) (cond (bytes_eq code u.code) (Some u) (find (λ (v : Server). bytes_eq code v.code) us))
        by true more = ap (λ (k : List ℕ). option_map (λ (v : Server). v.conn) (cond (bytes_eq code k) (Some (change u)) rest)) (codes u)
            ∙ own (bytes_eq code u.code) more
        by false more = ap (λ (o : Option ℕ). o) (same (bytes_eq code u.code) more)
          where
            same : (b : Bool) → option_map (λ (v : Server). v.conn) rest
                ≡ option_map (λ (v : Server). v.conn) (find (λ (v : Server). bytes_eq code v.code) us)
                → option_map (λ (v : Server). v.conn) (cond b (Some u) rest)
                ≡ option_map (λ (v : Server). v.conn) (cond b (Some u) (find (λ (v : Server). bytes_eq code v.code) us))
            same true more = refl
            same false more = more
