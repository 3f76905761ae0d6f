-- Parts told one behind the other, and the bytes that they come to.
use Rattle.std.proofs.Common.{◌≡◌, ℕ, zero, suc, ◌+◌, ◌<◌, List, [], ◌∷◌, ◌++◌, length, get_or, take, refl, sym, ap, ◌∙◌, append_assoc}
use Rattle.std.proofs.Common.{arith}
use Rattle.std.proofs.lemmas.List.{take_more, append-nil}
use Rattle.tt_frame.specs.FieldForms.{Named, Field, u8, u16, u32, u64, within, truth, text, digest, optional_digest, raw, Value, spelled}
use Rattle.tt_frame.specs.ItemForms.{Item, item_spelled, items_spelled, marked_spelled}
use Rattle.tt_frame.specs.Rows.{Row, unknown, end, rest, ◌▸◌, fixed, counted, marked}
use Rattle.tt_frame.specs.Apart.{Values, body_of}
use Rattle.tt_frame.specs.Said.{Said, field_said, item_said, items_said, marks_said, marked_said, row_said, each_said, said_bytes, mark}
use Rattle.tt_frame.specs.Parts.{said_by, all_said_by, PartFits, PartsFit}
use Rattle.tt_frame.specs.declared.parts.Part.{Part}

pub each_said-append : (word : Said → List ℕ) (xs ys : List Said) → each_said word (xs ++ ys) ≡ each_said word xs ++ each_said word ys
each_said-append word [] ys = refl
each_said-append word (x ∷ xs) ys =
    ap (λ (r : List ℕ). word x ++ r) (each_said-append word xs ys) ∙ sym (append_assoc (word x) (each_said word xs) (each_said word ys))

all_said_by-append : (ps qs : List Part) → all_said_by (ps ++ qs) ≡ all_said_by ps ++ all_said_by qs
all_said_by-append [] qs = refl
all_said_by-append (p ∷ ps) qs = ap (λ (r : List Said). said_by p ∷ r) (all_said_by-append ps qs)

-- one part more is told behind the others
pub one_part : (word : Said → List ℕ) (old mid new : List ℕ) (ps : List Part) (i : ℕ) (p : Part) → i < length ps → mid ≡ old
    ++ each_said word (all_said_by (take i ps)) → new ≡ mid ++ word (said_by (get_or ps i p))
    → new ≡ old ++ each_said word (all_said_by (take (i + 1) ps))
one_part word old mid new ps i p lt so_far step =
    let q = get_or ps i p in
    let more : each_said word (all_said_by (take (i + 1) ps)) ≡ each_said word (all_said_by (take i ps)) ++ word (said_by q) =
    ap (λ (xs : List Part). each_said word (all_said_by xs)) (take_more ps i p lt)
    ∙ ap (λ (xs : List Said). each_said word xs) (all_said_by-append (take i ps) (q ∷ []))
    ∙ each_said-append word (all_said_by (take i ps)) (said_by q ∷ [])
    ∙ ap (λ (r : List ℕ). each_said word (all_said_by (take i ps)) ++ r) (append-nil (word (said_by q))) in
    step
    ∙ ap (λ (r : List ℕ). r ++ word (said_by q)) so_far
    ∙ append_assoc old (each_said word (all_said_by (take i ps))) (word (said_by q))
    ∙ ap (λ (r : List ℕ). old ++ r) (sym more)

-- each of the parts fits
pub part_fits : (ps : List Part) (i : ℕ) (p : Part) → i < length ps → PartsFit ps → PartFits (get_or ps i p)
part_fits [] i p lt fits = absurd (omega arith)
part_fits (q ∷ ps) zero p lt fits = fits.0
part_fits (q ∷ ps) (suc i) p lt fits = part_fits ps i p (omega arith) fits.1

-- ---- the bytes of a message's parts are its body

field_bytes : (f : Field) (x : Value f) → said_bytes (field_said f x) ≡ spelled f x
field_bytes u8 x = refl
field_bytes u16 x = refl
field_bytes u32 x = refl
field_bytes u64 x = refl
field_bytes (within w max) x = refl
field_bytes truth x = refl
field_bytes (text max) x = refl
field_bytes digest x = refl
field_bytes optional_digest x = refl
field_bytes (raw n) x = refl

item_bytes : (fs : List Named) (x : Item fs) → each_said said_bytes (item_said fs x) ≡ item_spelled fs x
item_bytes [] x = refl
item_bytes (f ∷ fs) x = λ i. field_bytes f.field x.0 i ++ item_bytes fs x.1 i

items_bytes : (fs : List Named) (xs : List (Item fs)) → each_said said_bytes (items_said fs xs) ≡ items_spelled fs xs
items_bytes fs [] = refl
items_bytes fs (x ∷ xs) = each_said-append said_bytes (item_said fs x) (items_said fs xs) ∙ (λ i. item_bytes fs x i ++ items_bytes fs xs i)

marked_bytes : (fs : List Named) (xs : List (Item fs)) → each_said said_bytes (marked_said fs xs) ≡ marked_spelled fs xs
marked_bytes fs [] = refl
marked_bytes fs (x ∷ xs) =
    ap (λ (all : List Said). each_said said_bytes all) (append_assoc (mark 1 ∷ item_said fs x) (marks_said fs xs) (mark 0 ∷ []))
    ∙ each_said-append said_bytes (mark 1 ∷ item_said fs x) (marked_said fs xs)
    ∙ (λ i. (1 ∷ item_bytes fs x i) ++ marked_bytes fs xs i)

pub row_bytes : (r : Row) (v : Values r) → each_said said_bytes (row_said r v) ≡ body_of r v
row_bytes unknown v = absurd v
row_bytes end v = refl
row_bytes (rest low high) v = append-nil v
row_bytes (f ▸ r) v = λ i. field_bytes f.field v.0 i ++ row_bytes r v.1 i
row_bytes (fixed b r) v = ap (λ (s : List ℕ). b ∷ s) (row_bytes r v)
row_bytes (counted w max fs r) v =
    let n = spelled (within w max) (length v.0) in
    ap (λ (s : List ℕ). n ++ s) (each_said-append said_bytes (items_said fs v.0) (row_said r v.1) ∙ (λ i. items_bytes fs v.0 i
    ++ row_bytes r v.1 i))
    ∙ sym (append_assoc n (items_spelled fs v.0) (body_of r v.1))
row_bytes (marked max fs r) v =
    each_said-append said_bytes (marked_said fs v.0) (row_said r v.1) ∙ (λ i. marked_bytes fs v.0 i ++ row_bytes r v.1 i)

-- ---- items told one behind the other

items_said-append : (fs : List Named) (xs : List (Item fs)) (y : Item fs) → items_said fs (xs ++ y ∷ []) ≡ items_said fs xs
    ++ item_said fs y
items_said-append fs [] y = append-nil (item_said fs y)
items_said-append fs (x ∷ xs) y = ap (λ (r : List Said). item_said fs x ++ r) (items_said-append fs xs y)
    ∙ sym (append_assoc (item_said fs x) (items_said fs xs) (item_said fs y))

marks_said-append : (fs : List Named) (xs : List (Item fs)) (y : Item fs) → marks_said fs (xs ++ y ∷ []) ≡ marks_said fs xs
    ++ (mark 1 ∷ item_said fs y)
marks_said-append fs [] y = append-nil (mark 1 ∷ item_said fs y)
marks_said-append fs (x ∷ xs) y = ap (λ (r : List Said). (mark 1 ∷ item_said fs x) ++ r) (marks_said-append fs xs y)
    ∙ sym (append_assoc (mark 1 ∷ item_said fs x) (marks_said fs xs) (mark 1 ∷ item_said fs y))

-- parts told behind others
pub told_after : (word : Said → List ℕ) (old mid new : List ℕ) (xs ys zs : List Said) → mid ≡ old ++ each_said word xs → new ≡ mid
    ++ each_said word ys → zs ≡ xs ++ ys → new ≡ old ++ each_said word zs
told_after word old mid new xs ys zs one two all =
    two ∙ ap (λ (r : List ℕ). r ++ each_said word ys) one ∙ append_assoc old (each_said word xs) (each_said word ys)
    ∙ ap (λ (r : List ℕ). old ++ r) (sym (ap (λ (t : List Said). each_said word t) all ∙ each_said-append word xs ys))

-- one item more of a list, as its values
listed_more : (X : Type 0) (fs : List Named) (listed : List X → List (Item fs)) (values : X → Item fs) → ((xs : List X) (x : X)
    → listed (xs ++ x ∷ []) ≡ listed xs ++ values x ∷ [])
    → (xs : List X) (i : ℕ) (x : X) → i < length xs → x ≡ get_or xs i x → listed (take (i + 1) xs) ≡ listed (take i xs) ++ values x ∷ []
listed_more X fs listed values more xs i x lt is =
    ap listed (take_more xs i x lt) ∙ more (take i xs) (get_or xs i x) ∙ ap (λ (y : X). listed (take i xs) ++ values y ∷ []) (sym is)

pub items_more_said : (X : Type 0) (fs : List Named) (listed : List X → List (Item fs)) (values : X → Item fs) → ((xs : List X) (x : X)
    → listed (xs ++ x ∷ []) ≡ listed xs ++ values x ∷ [])
    → (xs : List X) (i : ℕ) (x : X) → i < length xs → x ≡ get_or xs i x → items_said fs (listed (take (i + 1) xs)) ≡ items_said fs
    (listed (take i xs)) ++ item_said fs (values x)
items_more_said X fs listed values more xs i x lt is = ap (λ (all : List (Item fs)). items_said fs all) (listed_more X fs listed values
    more xs i x lt is) ∙ items_said-append fs (listed (take i xs)) (values x)

pub marks_more_said : (X : Type 0) (fs : List Named) (listed : List X → List (Item fs)) (values : X → Item fs) → ((xs : List X) (x : X)
    → listed (xs ++ x ∷ []) ≡ listed xs ++ values x ∷ [])
    → (xs : List X) (i : ℕ) (x : X) → i < length xs → x ≡ get_or xs i x → marks_said fs (listed (take (i + 1) xs)) ≡ marks_said fs
    (listed (take i xs)) ++ (mark 1 ∷ item_said fs (values x))
marks_more_said X fs listed values more xs i x lt is = ap (λ (all : List (Item fs)). marks_said fs all) (listed_more X fs listed values
    more xs i x lt is) ∙ marks_said-append fs (listed (take i xs)) (values x)
