-- What is done to the parts is done to the table.
use Rattle.std.proofs.Common.{◌≡◌, ℕ, zero, suc, ◌+◌, ◌-◌, ◌<◌, Bool, true, false, not, cond, List, [], ◌∷◌, ◌++◌, length, Option}
use Rattle.std.proofs.Common.{Some, None, refl, sym, ap, ◌∙◌, arith}
use Rattle.std.specs.Prelude.{filter, find, is_some, option_map, slice_index_or, slice_set}
use Rattle.std.specs.Str.{bytes_eq}
use Rattle.std.proofs.lemmas.Bool.{true≢false}
use Rattle.tt_gc_table.specs.declared.lines.Line.{Line}
use Rattle.tt_gc_table.specs.Table.{Server, is_on, is_servers}
use Rattle.tt_gc_table.specs.Lines.{unopened, line_of, gone, coded, seen, connections_of, code_at}
use Rattle.tt_gc_table.specs.Parts.{IsServing}
use Rattle.tt_gc_table.proofs.LinesLaws.{found_live, gone_live, coded_live}
use Rattle.std.proofs.Common.{map}
use Rattle.tt_gc_table.proofs.Serving.{at_code, all_stay, changed_by_code, left_by_code, serving_less, serving_more}

less_one : (k : ℕ) → suc k - 1 ≡ k
less_one k = omega arith

-- the line of a connection that is there is live
pub line_live : (ls : List Line) (conn : ℕ) → is_some (find (is_on conn) (connections_of ls)) ≡ true → (line_of ls conn).live ≡ true
line_live ls conn there = by (line_of ls conn).live refl
  where
    by : (b : Bool) → (line_of ls conn).live ≡ b → b ≡ true
    by true is = refl
    by false is = absurd (true≢false (sym there ∙ ap is_some (found_live conn ls)
        ∙ ap (λ (b : Bool). is_some (option_map (seen conn) (cond b (Some (line_of ls conn)) None))) is))

-- such a line is there
within_live : (ls : List Line) (k : ℕ) → (slice_index_or ls k unopened).live ≡ true → k < length ls
within_live [] k live = absurd (true≢false (sym live))
within_live (l ∷ ls) zero live = omega arith
within_live (l ∷ ls) (suc k) live = omega (arith, within_live ls k live)

-- ---- one ends

pub ended : (ls : List Line) (conn : ℕ) → (line_of ls conn).live ≡ true
    → connections_of (slice_set ls (conn - 1) (gone (line_of ls conn))) ≡ filter (λ c. not (is_on conn c)) (connections_of ls)
ended ls zero live = absurd (true≢false (sym live))
ended ls (suc k) live =
    ap (λ (i : ℕ). connections_of (slice_set ls i (gone (slice_index_or ls k unopened)))) (less_one k) ∙ gone_live k ls

pub serving_ended : (ls : List Line) (vs : List Server) (conn : ℕ) → (line_of ls conn).live ≡ true → IsServing ls vs
    → IsServing (slice_set ls (conn - 1) (gone (line_of ls conn))) (filter (λ v. not (is_servers conn v)) vs)
serving_ended ls vs zero live s = absurd (true≢false (sym live))
serving_ended ls vs (suc k) live s =
    rw (less_one k) (serving_less ls vs k (gone (slice_index_or ls k unopened)) s (within_live ls k live) refl)

-- ---- one is registered

pub registered : (ls : List Line) (conn : ℕ) (code : List ℕ) → (line_of ls conn).live ≡ true
    → connections_of (slice_set ls (conn - 1) (coded code (line_of ls conn))) ≡ connections_of ls
registered ls zero code live = absurd (true≢false (sym live))
registered ls (suc k) code live =
    ap (λ (i : ℕ). connections_of (slice_set ls i (coded code (slice_index_or ls k unopened)))) (less_one k) ∙ coded_live k code ls

pub serving_registered : (ls : List Line) (vs : List Server) (conn : ℕ) (w : Server) → (line_of ls conn).live ≡ true → IsServing ls vs
    → code_at ls conn ≡ None → find (λ (v : Server). bytes_eq w.code v.code) vs ≡ None → w.conn ≡ conn
    → IsServing (slice_set ls (conn - 1) (coded w.code (line_of ls conn))) (vs ++ w ∷ [])
serving_registered ls vs zero w live s fresh none own = absurd (true≢false (sym live))
serving_registered ls vs (suc k) w live s fresh none own =
    rw (less_one k) (serving_more ls vs k (coded w.code (slice_index_or ls k unopened)) w s (within_live ls k live) fresh none own refl)

-- ---- how many lines there are

pub length_push : (ls : List Line) (l : Line) → length (ls ++ l ∷ []) ≡ length ls + 1
length_push [] l = refl
length_push (x ∷ xs) l = omega (arith, length_push xs l)

-- ---- codes

pub by_its_code : (ls : List Line) (vs : List Server) (conn : ℕ) (code : List ℕ) (change : Server → Server) → IsServing ls vs
    → code_at ls conn ≡ Some code
    → map (λ v. cond (bytes_eq code v.code) (change v) v) vs ≡ map (λ v. cond (is_servers conn v) (change v) v) vs
by_its_code ls vs conn code change s is =
    ap (λ (o : Option (List ℕ)). map (λ v. cond (at_code o v) (change v) v) vs) (sym is) ∙ sym (changed_by_code ls vs conn change s)

pub without_its_code : (ls : List Line) (vs : List Server) (conn : ℕ) (code : List ℕ) → IsServing ls vs → code_at ls conn ≡ Some code
    → filter (λ v. not (bytes_eq code v.code)) vs ≡ filter (λ v. not (is_servers conn v)) vs
without_its_code ls vs conn code s is =
    ap (λ (o : Option (List ℕ)). filter (λ v. not (at_code o v)) vs) (sym is) ∙ sym (left_by_code ls vs conn s)

none_has : (vs : List Server) (change : Server → Server) → map (λ v. cond (at_code None v) (change v) v) vs ≡ vs
none_has [] change = refl
none_has (v ∷ vs) change = ap (λ (l : List Server). v ∷ l) (none_has vs change)

pub by_no_code : (ls : List Line) (vs : List Server) (conn : ℕ) (change : Server → Server) → IsServing ls vs → code_at ls conn ≡ None
    → vs ≡ map (λ v. cond (is_servers conn v) (change v) v) vs
by_no_code ls vs conn change s is =
    sym (none_has vs change) ∙ ap (λ (o : Option (List ℕ)). map (λ v. cond (at_code o v) (change v) v) vs) (sym is)
    ∙ sym (changed_by_code ls vs conn change s)

pub without_no_code : (ls : List Line) (vs : List Server) (conn : ℕ) → IsServing ls vs → code_at ls conn ≡ None
    → vs ≡ filter (λ v. not (is_servers conn v)) vs
without_no_code ls vs conn s is =
    sym (all_stay vs) ∙ ap (λ (o : Option (List ℕ)). filter (λ v. not (at_code o v)) vs) (sym is) ∙ sym (left_by_code ls vs conn s)

pub none_of : {A : Type 0} (o : Option A) → is_some o ≡ false → o ≡ None
none_of None is = refl
none_of (Some x) is = absurd (true≢false is)
