-- The line of a packet is what the message that it spells tells of itself.
use Rattle.std.proofs.Common.{◌≡◌, ℕ, List, [], ◌∷◌, ◌++◌, length, Option, Some, None, Result, Ok, Err, refl, sym, ap, subst, ◌∙◌}
use Rattle.std.proofs.Common.{append_assoc}
use Rattle.std.specs.Prelude.{codes}
use Rattle.std.proofs.lemmas.List.{append-nil}
use Rattle.tt_frame.specs.Packet.{IsBytes}
use Rattle.tt_frame.specs.Unread.{whole}
use Rattle.tt_frame.specs.FieldForms.{Named, Field, u8, u16, u32, u64, within, truth, text, digest, optional_digest, raw, Value}
use Rattle.tt_frame.specs.ItemForms.{Item}
use Rattle.tt_frame.specs.Rows.{Row, unknown, end, rest, ◌▸◌, fixed, counted, marked}
use Rattle.tt_frame.specs.Tables.{rule_of, name_by, SpelledBy, read_by, StopsBy, MessageReadOrMemory}
use Rattle.tt_frame.specs.Apart.{Values}
use Rattle.tt_frame.specs.Said.{Said, mark, field_said, item_said, items_said, marks_said, row_said, each_said}
use Rattle.tt_frame.specs.Families.{Family as Messages, family_kind, family_said}
use Rattle.tt_frame.specs.declared.bad.Bad.{Bad}
use Rattle.tt_frame.specs.declared.bad.Bad.TheVariants.{Memory, Malformed}
use Rattle.tt_frame.proofs.TableLaws.{again, is_found, stops_at}
use Rattle.tt_frame.proofs.SaidLaws.{each_said-append}
use Rattle.tt_show.specs.Words.{word}
use Rattle.tt_show.specs.Texts.{field_text, item_text, items_text, row_text}
use Rattle.tt_show.specs.SaidWords.{said_words}
use Rattle.tt_show.specs.Packets.{message_text, text_of, text_by, Appends}

-- ---- the words of a row are the words of its parts

field_words : (f : Field) (x : Value f) → said_words (field_said f x) ≡ word (field_text f x)
field_words u8 x = refl
field_words u16 x = refl
field_words u32 x = refl
field_words u64 x = refl
field_words (within w max) x = refl
field_words truth x = refl
field_words (text max) x = refl
field_words digest x = refl
field_words optional_digest x = refl
field_words (raw n) x = refl

item_words : (fs : List Named) (x : Item fs) → each_said said_words (item_said fs x) ≡ item_text fs x
item_words [] x = refl
item_words (f ∷ fs) x = λ i. field_words f.field x.0 i ++ item_words fs x.1 i

items_words : (fs : List Named) (xs : List (Item fs)) → each_said said_words (items_said fs xs) ≡ items_text fs xs
items_words fs [] = refl
items_words fs (x ∷ xs) = each_said-append said_words (item_said fs x) (items_said fs xs) ∙ (λ i. item_words fs x i ++ items_words fs xs i)

marks_words : (fs : List Named) (xs : List (Item fs)) → each_said said_words (marks_said fs xs) ≡ items_text fs xs
marks_words fs [] = refl
marks_words fs (x ∷ xs) =
    each_said-append said_words (mark 1 ∷ item_said fs x) (marks_said fs xs) ∙ (λ i. item_words fs x i ++ marks_words fs xs i)

pub row_words : (r : Row) (v : Values r) → each_said said_words (row_said r v) ≡ row_text r v
row_words unknown v = absurd v
row_words end v = refl
row_words (rest low high) v = append-nil (said_words (Rattle.tt_frame.specs.Said.bytes v))
row_words (f ▸ r) v = λ i. field_words f.field v.0 i ++ row_words r v.1 i
row_words (fixed b r) v = ap (λ (s : List ℕ). said_words (Rattle.tt_frame.specs.Said.always b) ++ s) (row_words r v)
row_words (counted w max fs r) v =
    let n = said_words (Rattle.tt_frame.specs.Said.count (Rattle.tt_frame.specs.FieldForms.count_width w) (length v.0)) in
    ap (λ (s : List ℕ). n ++ s) (each_said-append said_words (items_said fs v.0) (row_said r v.1) ∙ (λ i. items_words fs v.0 i
    ++ row_words r v.1 i))
    ∙ sym (append_assoc n (items_text fs v.0) (row_text r v.1))
row_words (marked max fs r) v =
    each_said-append said_words (marks_said fs v.0 ++ mark 0 ∷ []) (row_said r v.1)
    ∙ (λ i. (each_said-append said_words (marks_said fs v.0) (mark 0 ∷ []) ∙ append-nil (each_said said_words (marks_said fs v.0))
    ∙ marks_words fs v.0) i ++ row_words r v.1 i)

-- ---- a message that was read

-- its name and its words are its line
pub line_shown : (M : Type 0) (family : Messages M) (kind : ℕ) (body : List ℕ) (m : M) (before after : List ℕ)
    → read_by family.table kind (whole body) ≡ Ok m → family_kind family m ≡ kind
    → after ≡ before ++ (name_by family.table kind ++ (each_said said_words (family_said family m) ++ codes "\n"))
    → Appends (text_by family (record { kind = kind; body = body })) before after
line_shown M family kind body m before after read same is =
    let p = family.apart m in
    let words = each_said said_words (family_said family m) in
    let line : name_by family.table kind ++ (words ++ codes "\n") ≡ message_text family m =
    sym (append_assoc (name_by family.table kind) words (codes "\n"))
    ∙ (λ i. (name_by family.table (sym same i) ++ row_words (rule_of family.table p.kind).fields p.values i) ++ codes "\n") in
    subst (λ (z : Result M ℕ). Appends (text_of family z) before after) (sym read) (is ∙ ap (λ (s : List ℕ). before ++ s) line)

-- ---- the messages that are spelled

pub spelled_line : (M : Type 0) (family : Messages M) (kind : ℕ) (body : List ℕ) (m : M) → SpelledBy family.table m kind body
    → text_by family (record { kind = kind; body = body }) ≡ Some (message_text family m)
spelled_line M family kind body m spelled = ap (text_of family) (again family.table kind body m spelled)

by_reading : (M : Type 0) (family : Messages M) (kind : ℕ) (body line : List ℕ) → IsBytes body → (z : Result M ℕ)
    → read_by family.table kind (whole body) ≡ z → text_of family z ≡ Some line
    → (m : M) × SpelledBy family.table m kind body × (line ≡ message_text family m)
by_reading M family kind body line fits (Ok m) read is = let same : message_text family m ≡ line =
    cc in (m, is_found family.table kind body (Ok m) fits read, sym same)
by_reading M family kind body line fits (Err at) read is = absurd cc

pub line_spelled : (M : Type 0) (family : Messages M) (kind : ℕ) (body line : List ℕ) → IsBytes body
    → text_by family (record { kind = kind; body = body }) ≡ Some line → (m : M) × SpelledBy family.table m kind body
    × (line ≡ message_text family m)
line_spelled M family kind body line fits is = by_reading M family kind body line fits (read_by family.table kind (whole body)) refl is
