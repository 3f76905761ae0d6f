-- The connections that the lines tell, found and ended by number.
use Rattle.std.proofs.Common.{◌≡◌, ℕ, zero, suc, ◌+◌, ◌<◌, ◌≤◌, Bool, true, false, not, cond, List, [], ◌∷◌, ◌++◌, length, Some}
use Rattle.std.proofs.Common.{None, refl, sym, ap, ◌∙◌, arith}
use Rattle.std.specs.Prelude.{filter, find, eqb, option_map, slice_index_or, slice_set}
use Rattle.std.specs.Prelude.{◌&&◌}
use Rattle.std.proofs.lemmas.Bool.{ne_eqb}
use Rattle.std.proofs.lemmas.List.Sums.{sum_by-append}
use Rattle.tt_gc_table.specs.declared.lines.Line.{Line}
use Rattle.tt_gc_table.specs.Table.{Connection, is_on}
use Rattle.tt_gc_table.specs.Lines.{unopened, line_of, live_line, gone, coded, live_side, sides_in, seen, live_from, connections_of}

same_number : (n conn : ℕ) → n ≡ conn → eqb n conn ≡ true
same_number n conn same = rw same (grind arith)

-- no connection has a number before the first
none_below : (n conn : ℕ) (ls : List Line) → conn < n → find (is_on conn) (live_from n ls) ≡ None
none_below n conn [] below = refl
none_below n conn (l ∷ ls) below = by l.live (none_below (suc n) conn ls (omega (arith, below)))
  where
    by : (b : Bool) → find (is_on conn) (live_from (suc n) ls) ≡ None
        → find (is_on conn) (cond b (seen n l ∷ live_from (suc n) ls) (live_from (suc n) ls)) ≡ None
    by true rest = ap (λ (b : Bool). cond b (Some (seen n l)) (find (is_on conn) (live_from (suc n) ls)))
        (ne_eqb n conn (λ same. omega (arith, below, same))) ∙ rest
    by false rest = rest

kept_below : (n conn : ℕ) (ls : List Line) → conn < n → filter (λ c. not (is_on conn c)) (live_from n ls) ≡ live_from n ls
kept_below n conn [] below = refl
kept_below n conn (l ∷ ls) below = by l.live (kept_below (suc n) conn ls (omega (arith, below)))
  where
    by : (b : Bool) → filter (λ c. not (is_on conn c)) (live_from (suc n) ls) ≡ live_from (suc n) ls
        → filter (λ c. not (is_on conn c)) (cond b (seen n l ∷ live_from (suc n) ls) (live_from (suc n) ls))
        ≡ cond b (seen n l ∷ live_from (suc n) ls) (live_from (suc n) ls)
    by true rest = ap (λ (b : Bool). cond (not b) (seen n l ∷ filter (λ c. not (is_on conn c)) (live_from (suc n) ls))
        (filter (λ c. not (is_on conn c)) (live_from (suc n) ls))) (ne_eqb n conn (λ same. omega (arith, below, same)))
        ∙ ap (λ (cs : List Connection). seen n l ∷ cs) rest
    by false rest = rest

-- nor one behind the last
pub kept_above : (n conn : ℕ) (ls : List Line) → n + length ls ≤ conn → filter (λ c. not (is_on conn c)) (live_from n ls) ≡ live_from n ls
kept_above n conn [] above = refl
kept_above n conn (l ∷ ls) above = by l.live (kept_above (suc n) conn ls (omega (arith, above)))
  where
    by : (b : Bool) → filter (λ c. not (is_on conn c)) (live_from (suc n) ls) ≡ live_from (suc n) ls
        → filter (λ c. not (is_on conn c)) (cond b (seen n l ∷ live_from (suc n) ls) (live_from (suc n) ls))
        ≡ cond b (seen n l ∷ live_from (suc n) ls) (live_from (suc n) ls)
    by true rest = ap (λ (b : Bool). cond (not b) (seen n l ∷ filter (λ c. not (is_on conn c)) (live_from (suc n) ls))
        (filter (λ c. not (is_on conn c)) (live_from (suc n) ls))) (ne_eqb n conn (λ same. omega (arith, above, same)))
        ∙ ap (λ (cs : List Connection). seen n l ∷ cs) rest
    by false rest = rest

-- ---- found

found_from : (n i conn : ℕ) (ls : List Line) → conn ≡ n + i
    → find (is_on conn) (live_from n ls) ≡ option_map (seen conn) (live_line (slice_index_or ls i unopened))
found_from n i conn [] is = refl
found_from n zero conn (l ∷ ls) is = by l.live
  where
    by : (b : Bool) → find (is_on conn) (cond b (seen n l ∷ live_from (suc n) ls) (live_from (suc n) ls))
        ≡ option_map (seen conn) (cond b (Some l) None)
    by true = ap (λ (b : Bool). cond b (Some (seen n l)) (find (is_on conn) (live_from (suc n) ls)))
        (same_number n conn (omega (arith, is))) ∙ ap (λ (k : ℕ). Some (seen k l)) (omega (arith, is))
    by false = none_below (suc n) conn ls (omega (arith, is))
found_from n (suc i) conn (l ∷ ls) is = by l.live (found_from (suc n) i conn ls (omega (arith, is)))
  where
    by : (b : Bool)
        → find (is_on conn) (live_from (suc n) ls) ≡ option_map (seen conn) (live_line (slice_index_or ls i unopened))
        → find (is_on conn) (cond b (seen n l ∷ live_from (suc n) ls) (live_from (suc n) ls))
        ≡ option_map (seen conn) (live_line (slice_index_or ls i unopened))
    by true rest = ap (λ (b : Bool). cond b (Some (seen n l)) (find (is_on conn) (live_from (suc n) ls)))
        (ne_eqb n conn (λ same. omega (arith, is, same))) ∙ rest
    by false rest = rest

pub found_live : (conn : ℕ) (ls : List Line) → find (is_on conn) (connections_of ls) ≡ option_map (seen conn) (live_line (line_of ls conn))
found_live zero ls = none_below 1 0 ls (omega arith)
found_live (suc k) ls = found_from 1 k (suc k) ls (omega arith)

-- ---- ended

gone_from : (n i conn : ℕ) (ls : List Line) → conn ≡ n + i
    → live_from n (slice_set ls i (gone (slice_index_or ls i unopened))) ≡ filter (λ c. not (is_on conn c)) (live_from n ls)
gone_from n i conn [] is = refl
gone_from n zero conn (l ∷ ls) is = by l.live
  where
    by : (b : Bool)
        → live_from (suc n) ls ≡ filter (λ c. not (is_on conn c)) (cond b (seen n l ∷ live_from (suc n) ls) (live_from (suc n) ls))
    by true = sym (ap (λ (b : Bool). cond (not b) (seen n l ∷ filter (λ c. not (is_on conn c)) (live_from (suc n) ls))
        (filter (λ c. not (is_on conn c)) (live_from (suc n) ls))) (same_number n conn (omega (arith, is)))
        ∙ kept_below (suc n) conn ls (omega (arith, is)))
    by false = sym (kept_below (suc n) conn ls (omega (arith, is)))
gone_from n (suc i) conn (l ∷ ls) is = by l.live (gone_from (suc n) i conn ls (omega (arith, is)))
  where
    after : List Line
    after = slice_set ls i (gone (slice_index_or ls i unopened))

    by : (b : Bool) → live_from (suc n) after ≡ filter (λ c. not (is_on conn c)) (live_from (suc n) ls)
        → cond b (seen n l ∷ live_from (suc n) after) (live_from (suc n) after)
        ≡ filter (λ c. not (is_on conn c)) (cond b (seen n l ∷ live_from (suc n) ls) (live_from (suc n) ls))
    by true rest = ap (λ (cs : List Connection). seen n l ∷ cs) rest
        ∙ sym (ap (λ (b : Bool). cond (not b) (seen n l ∷ filter (λ c. not (is_on conn c)) (live_from (suc n) ls))
        (filter (λ c. not (is_on conn c)) (live_from (suc n) ls))) (ne_eqb n conn (λ same. omega (arith, is, same))))
    by false rest = rest

pub gone_live : (k : ℕ) (ls : List Line)
    → connections_of (slice_set ls k (gone (slice_index_or ls k unopened))) ≡ filter (λ c. not (is_on (suc k) c)) (connections_of ls)
gone_live k ls = gone_from 1 k (suc k) ls (omega arith)

-- ---- registered

coded_from : (n i : ℕ) (code : List ℕ) (ls : List Line)
    → live_from n (slice_set ls i (coded code (slice_index_or ls i unopened))) ≡ live_from n ls
coded_from n i code [] = refl
coded_from n zero code (l ∷ ls) = refl
coded_from n (suc i) code (l ∷ ls) =
    ap (λ (cs : List Connection). cond l.live (seen n l ∷ cs) cs) (coded_from (suc n) i code ls)

pub coded_live : (k : ℕ) (code : List ℕ) (ls : List Line)
    → connections_of (slice_set ls k (coded code (slice_index_or ls k unopened))) ≡ connections_of ls
coded_live k code ls = coded_from 1 k code ls

-- ---- opened

pushed_from : (n : ℕ) (l : Line) (ls : List Line)
    → live_from n (ls ++ l ∷ []) ≡ live_from n ls ++ cond l.live (seen (n + length ls) l ∷ []) []
pushed_from n l [] = ap (λ (k : ℕ). cond l.live (seen k l ∷ []) []) (omega arith)
pushed_from n l (x ∷ ls) = by x.live (pushed_from (suc n) l ls
    ∙ ap (λ (k : ℕ). live_from (suc n) ls ++ cond l.live (seen k l ∷ []) []) (omega arith))
  where
    last : List Connection
    last = cond l.live (seen (n + length (x ∷ ls)) l ∷ []) []

    by : (b : Bool) → live_from (suc n) (ls ++ l ∷ []) ≡ live_from (suc n) ls ++ last
        → cond b (seen n x ∷ live_from (suc n) (ls ++ l ∷ [])) (live_from (suc n) (ls ++ l ∷ []))
        ≡ cond b (seen n x ∷ live_from (suc n) ls) (live_from (suc n) ls) ++ last
    by true rest = ap (λ (cs : List Connection). seen n x ∷ cs) rest
    by false rest = rest

pub pushed_live : (l : Line) (ls : List Line)
    → connections_of (ls ++ l ∷ []) ≡ connections_of ls ++ cond l.live (seen (1 + length ls) l ∷ []) []
pushed_live l ls = pushed_from 1 l ls

-- ---- counted

sides-cons : (l : Line) (ls : List Line) → sides_in (l ∷ ls) ≡ cond (live_side l) 1 0 + sides_in ls
sides-cons l ls = omega (arith, sum_by-append (λ (x : Line). cond (live_side x) 1 0) (l ∷ []) ls)

sides_from : (n : ℕ) (ls : List Line) → length (filter (λ (c : Connection). c.side) (live_from n ls)) ≡ sides_in ls
sides_from n [] = refl
sides_from n (l ∷ ls) = by l.live l.side (sides_from (suc n) ls) ∙ sym (sides-cons l ls)
  where
    more : List Connection
    more = live_from (suc n) ls

    by : (a b : Bool) → length (filter (λ (c : Connection). c.side) more) ≡ sides_in ls
        → length (filter (λ (c : Connection). c.side) (cond a (record { conn = n; side = b; peer = l.peer } ∷ more) more))
        ≡ cond (a && b) 1 0 + sides_in ls
    by true true rest = omega (arith, rest)
    by true false rest = omega (arith, rest)
    by false b rest = omega (arith, rest)

pub sides_live : (ls : List Line) → length (filter (λ (c : Connection). c.side) (connections_of ls)) ≡ sides_in ls
sides_live ls = sides_from 1 ls
