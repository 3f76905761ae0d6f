-- The laws of a table: what is read is spelled so, what is spelled so is read, and where nothing is spelled the place is
-- where the row stops.
use Rattle.std.proofs.Common.{◌≡◌, ℕ, ◌+◌, ◌≤◌, ◌<◌, ◌^◌, ◌++◌, length, List, [], ◌∷◌, Bool}
use Rattle.std.proofs.Common.{true, false, Result, Ok, Err, sym, ap, subst, refl, ◌∙◌, ◌⊎◌, inl, inr}
use Rattle.std.specs.Prelude.{◌≢◌, IfOk, ◌==◌, if◌then◌else◌}
use Rattle.tt_frame.specs.Packet.{IsBytes, Packet, packet}
use Rattle.tt_frame.specs.Framing.{BeginsWith}
use Rattle.tt_frame.specs.Unread.{Unread, whole}
use Rattle.tt_frame.specs.declared.bad.Bad.{Bad}
use Rattle.tt_frame.specs.declared.bad.Bad.TheVariants.{Memory, Malformed}
use Rattle.tt_frame.specs.Rows.{row_at}
use Rattle.tt_frame.specs.Tables.{Rule, rule_of, SpelledBy, read_by, MessageRead, MessageReadOrMemory, Reads, ReadsOrMemory, StopsBy}
use Rattle.tt_frame.proofs.FieldLaws.{ok_is}
use Rattle.tt_frame.proofs.StreamLaws.{same_first}
use Rattle.tt_frame.proofs.RowLaws.{row_takes, row_again}
use Rattle.tt_frame.proofs.StopLaws.{row_stops}

-- the line of a number reads what the table reads
pub read_by_row : {M : Type 0} (table : List (Rule M)) (kind : ℕ) (s : Unread)
    → read_by table kind s ≡ row_at (rule_of table kind).fields (rule_of table kind).make s
read_by_row [] kind s = refl
read_by_row {M} (l ∷ ls) kind s = either (kind == l.kind) (read_by_row ls kind s)
  where
    either : (t : Bool) → read_by ls kind s ≡ row_at (rule_of ls kind).fields (rule_of ls kind).make s
        → (if t then row_at l.fields l.make s else read_by ls kind s)
        ≡ row_at (if t then l else rule_of ls kind).fields (if t then l else rule_of ls kind).make s
    either true below = refl
    either false below = below

-- where memory may run out, what is read without it is right too
pub or_memory : {M : Type 0} (r : Result M Bad) (reading : Result M ℕ) → MessageRead r reading → MessageReadOrMemory r reading
or_memory (Ok m) reading made = made
or_memory (Err Memory) reading made = tt
or_memory (Err (Malformed at)) reading made = made

pub is_found : {M : Type 0} (table : List (Rule M)) (kind : ℕ) (body : List ℕ) (r : Result M Bad) → IsBytes body
    → MessageReadOrMemory r (read_by table kind (whole body)) → IfOk r (λ m. SpelledBy table m kind body)
is_found table kind body (Ok m) fits made =
    row_takes (rule_of table kind).fields (rule_of table kind).make (whole body) m fits (sym (read_by_row table kind (whole body)) ∙ made)
is_found table kind body (Err e) fits made = tt

pub again : {M : Type 0} (table : List (Rule M)) (kind : ℕ) (body : List ℕ) (m : M) → SpelledBy table m kind body
    → read_by table kind (whole body) ≡ Ok m
again table kind body m spelled =
    read_by_row table kind (whole body) ∙ row_again (rule_of table kind).fields (rule_of table kind).make m 0 body spelled

-- so is the first packet of a stream that begins with the message's packet, whatever follows it
pub followed : {M : Type 0} (table : List (Rule M)) (m : M) (kind : ℕ) (body more : List ℕ) (limit : ℕ) (p : Packet) (rest : List ℕ)
    → SpelledBy table m kind body → length body + 3 ≤ limit → limit < 2 ^ 16
    → BeginsWith limit (packet kind body ++ more) p rest → (read_by table p.kind (whole p.body) ≡ Ok m) × (rest ≡ more)
followed table m kind body more limit p rest spelled fits small first =
    let own : Packet = record { kind = kind; body = body } in
    let stands : BeginsWith limit (packet kind body ++ more) own more = record { fits = record { size = fits }; whole = refl } in
    let same = same_first limit (packet kind body ++ more) own p more rest small stands first in
    (subst (λ (q : Packet). read_by table q.kind (whole q.body) ≡ Ok m) same.0 (again table kind body m spelled), sym same.1)

pub is_read_or_memory : {M : Type 0} (table : List (Rule M)) (kind : ℕ) (body : List ℕ) (r : Result M Bad) (m : M)
    → SpelledBy table m kind body → MessageReadOrMemory r (read_by table kind (whole body)) → (r ≡ Ok m) ⊎ (r ≡ Err Memory)
is_read_or_memory {M} table kind body (Ok n) m spelled made =
    inl (ap (λ (x : M). Ok x) (sym (ok_is m n (sym (again table kind body m spelled) ∙ made))))
is_read_or_memory table kind body (Err Memory) m spelled made = inr refl
is_read_or_memory {M} table kind body (Err (Malformed at)) m spelled made =
    absurd (let h : Ok m ≡ Err at = sym (again table kind body m spelled) ∙ made in cc)

-- a call that takes no memory reads all that is spelled
pub is_read : {M : Type 0} (table : List (Rule M)) (kind : ℕ) (body : List ℕ) (r : Result M Bad) (m : M) → SpelledBy table m kind body
    → MessageRead r (read_by table kind (whole body)) → r ≡ Ok m
is_read {M} table kind body (Ok n) m spelled made = ap (λ (x : M). Ok x) (sym (ok_is m n (sym (again table kind body m spelled) ∙ made)))
is_read table kind body (Err Memory) m spelled made = absurd made
is_read {M} table kind body (Err (Malformed at)) m spelled made =
    absurd (let h : Ok m ≡ Err at = sym (again table kind body m spelled) ∙ made in cc)

pub never_memory : {M : Type 0} (r : Result M Bad) (reading : Result M ℕ) → MessageRead r reading → r ≢ Err Memory
never_memory (Ok m) reading made is = cc
never_memory (Err Memory) reading made is = made
never_memory (Err (Malformed at)) reading made is = cc

pub is_nothing : {M : Type 0} (table : List (Rule M)) (kind : ℕ) (body : List ℕ) (r : Result M Bad) (at : ℕ) (m : M)
    → r ≡ Err (Malformed at) → MessageReadOrMemory r (read_by table kind (whole body)) → SpelledBy table m kind body → ⊥
is_nothing {M} table kind body r at m e made spelled =
    let P : Result M Bad → Type 0 = λ r. MessageReadOrMemory r (read_by table kind (whole body)) in
    let there : read_by table kind (whole body) ≡ Err at = subst P e made in
    let h : Ok m ≡ Err at = sym (again table kind body m spelled) ∙ there in
    cc

pub stops_at : {M : Type 0} (table : List (Rule M)) (kind : ℕ) (body : List ℕ) (r : Result M Bad) (at : ℕ) → IsBytes body
    → r ≡ Err (Malformed at) → MessageReadOrMemory r (read_by table kind (whole body)) → StopsBy table kind body at
stops_at {M} table kind body (Ok m) at fits e made = absurd cc
stops_at {M} table kind body (Err Memory) at fits e made = absurd cc
stops_at {M} table kind body (Err (Malformed here)) at fits e made =
    let same : here ≡ at = cc in
    row_stops M (rule_of table kind).fields (rule_of table kind).make (whole body) at fits
    (sym (read_by_row table kind (whole body)) ∙ made ∙ ap (λ (n : ℕ). Err n) same)

-- ---- the fields of a message, and then its end
