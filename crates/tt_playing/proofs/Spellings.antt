-- What messages of a game are spelled as is bytes.
use Rattle.std.proofs.Common.{◌≡◌, ℕ, ◌+◌, ◌<◌, Bool, true, false, List, [], ◌∷◌, ◌++◌, Option, Some, None, refl, sym, subst, lit<}
use Rattle.std.specs.Prelude.{nat_lt, not, ◌&&◌, length}
use Rattle.std.specs.List.{list_all}
use Rattle.std.specs.Int.{w8, w16, w32, w64, to_le_bytes}
use Rattle.std.proofs.lemmas.Bool.{false≢true, ltb-true}
use Rattle.tt_frame.specs.Packet.{packet}
use Rattle.tt_frame.specs.Text.{IsText, text_bytes}
use Rattle.tt_frame.specs.FieldForms.{Field, u8, u16, u32, u64, within, truth, text, digest, optional_digest, raw, Named, Value, Fits}
use Rattle.tt_frame.specs.FieldForms.{count_width, optional_bytes, spelled, truth_number}
use Rattle.tt_frame.specs.ItemForms.{Item, ItemFits, ItemsFit, item_spelled, items_spelled, marked_spelled}
use Rattle.tt_frame.specs.Rows.{Row, unknown, end, rest, ◌▸◌, fixed, counted, marked, Maker, RowSpells}
use Rattle.tt_frame.specs.Tables.{rule_of}
use Rattle.tt_frame.specs.Apart.{Values, body_of}
use Rattle.tt_frame.proofs.TestLaws.{and_both}
use Rattle.tt_frame.proofs.TextLaws.{IsText-from_is_digest, IsText-from_is_text}
use Rattle.tt_game.specs.declared.message.GameMsg.{GameMsg}
use Rattle.tt_game.specs.declared.message.GameMsg.TheVariants.{ServerFull, ServerCheckNewgrfs, ServerMapData}
use Rattle.tt_game.specs.Apart.{kind_of, body_bytes}
use Rattle.tt_game.specs.Messages.{Spells, messages}
use Rattle.tt_playing.proofs.Bytes.{AreBytes, join, le-number, utf8-bytes}

-- ---- fields

pub text-bytes : (bytes : List ℕ) → AreBytes bytes → AreBytes (text_bytes bytes)
text-bytes bytes a = join bytes (0 ∷ []) a (lit< tt, tt)

pub written-bytes : (bytes : List ℕ) → IsText bytes → AreBytes bytes
written-bytes bytes is = utf8-bytes bytes is.utf8

-- its texts, its digests and what is raw are bytes
abbrev pub HasBytes : (f : Field) → Value f → Type 0
HasBytes (text max) s = AreBytes s
HasBytes digest s = AreBytes s
HasBytes optional_digest o = AreBytes (optional_bytes o)
HasBytes (raw n) s = AreBytes s
HasBytes other x = Unit {0}

pub field-bytes : (f : Field) (x : Value f) → HasBytes f x → AreBytes (spelled f x)
field-bytes u8 n a = le-number w8 n
field-bytes u16 n a = le-number w16 n
field-bytes u32 n a = le-number w32 n
field-bytes u64 n a = le-number w64 n
field-bytes (within w max) n a = le-number (count_width w) n
field-bytes truth b a = le-number w8 (truth_number b)
field-bytes (text max) s a = text-bytes s a
field-bytes digest s a = text-bytes s a
field-bytes optional_digest o a = text-bytes (optional_bytes o) a
field-bytes (raw n) s a = a

abbrev pub is_raw : Field → Bool
is_raw (raw n) = true
is_raw other = false

option-bytes : (o : Option (List ℕ)) → Fits optional_digest o → AreBytes (optional_bytes o)
option-bytes None fits = tt
option-bytes (Some d) fits = written-bytes d (IsText-from_is_digest d fits)

-- a value in its range has bytes, unless it is raw
fits-bytes : (f : Field) (x : Value f) → not (is_raw f) ≡ true → Fits f x → HasBytes f x
fits-bytes (text max) s is fits = written-bytes s (IsText-from_is_text max s fits)
fits-bytes digest s is fits = written-bytes s (IsText-from_is_digest s fits)
fits-bytes optional_digest o is fits = option-bytes o fits
fits-bytes (raw n) s is fits = absurd (false≢true is)
fits-bytes u8 n is fits = tt
fits-bytes other x is fits = tt

ranged-bytes : (f : Field) (x : Value f) → not (is_raw f) ≡ true → Fits f x → AreBytes (spelled f x)
ranged-bytes f x is fits = field-bytes f x (fits-bytes f x is fits)

-- ---- items

abbrev pub is_ranged : Named → Bool
is_ranged f = not (is_raw f.field)

item-bytes : (fs : List Named) (x : Item fs) → list_all is_ranged fs ≡ true → ItemFits fs x → AreBytes (item_spelled fs x)
item-bytes [] x is fits = tt
item-bytes (f ∷ fs) x is fits =
    let both = and_both (is_ranged f) (list_all is_ranged fs) is in
    join (spelled f.field x.0) (item_spelled fs x.1) (ranged-bytes f.field x.0 both.0 fits.0) (item-bytes fs x.1 both.1 fits.1)

items-bytes : (fs : List Named) (xs : List (Item fs)) → list_all is_ranged fs ≡ true → ItemsFit fs xs → AreBytes (items_spelled fs xs)
items-bytes fs [] is fits = tt
items-bytes fs (x ∷ xs) is fits =
    join (item_spelled fs x) (items_spelled fs xs) (item-bytes fs x is fits.0) (items-bytes fs xs is fits.1)

marked-bytes : (fs : List Named) (xs : List (Item fs)) → list_all is_ranged fs ≡ true → ItemsFit fs xs → AreBytes (marked_spelled fs xs)
marked-bytes fs [] is fits = (lit< tt, tt)
marked-bytes fs (x ∷ xs) is fits = (
  lit< tt,
  join (item_spelled fs x) (marked_spelled fs xs) (item-bytes fs x is fits.0) (marked-bytes fs xs is fits.1),
)

-- ---- rows

-- each byte of the row is that of a value in a range
abbrev pub all_ranged : Row → Bool
all_ranged unknown = true
all_ranged end = true
all_ranged (rest low high) = false
all_ranged (f ▸ r) = is_ranged f && all_ranged r
all_ranged (fixed byte r) = nat_lt byte 256 && all_ranged r
all_ranged (counted w max fs r) = list_all is_ranged fs && all_ranged r
all_ranged (marked max fs r) = list_all is_ranged fs && all_ranged r

row-bytes : {M : Type 0} (r : Row) (make : Maker r M) (m : M) (body : List ℕ) → all_ranged r ≡ true → RowSpells r make m body
    → AreBytes body
row-bytes unknown make m body is h = absurd h
row-bytes end make m body is h = subst AreBytes (sym h.1) tt
row-bytes (rest low high) make m body is h = absurd (false≢true is)
row-bytes (f ▸ r) make m body is h =
    let both = and_both (is_ranged f) (all_ranged r) is in
    subst AreBytes (sym h.1.1.1) (join (spelled f.field h.0) h.1.0 (ranged-bytes f.field h.0 both.0 h.1.1.0)
    (row-bytes r (make h.0) m h.1.0 both.1 h.1.1.2))
row-bytes (fixed byte r) make m body is h =
    let both = and_both (nat_lt byte 256) (all_ranged r) is in
    subst AreBytes (sym h.1.0) (ltb-true byte 256 both.0, row-bytes r make m h.0 both.1 h.1.1)
row-bytes (counted w max fs r) make m body is h =
    let both = and_both (list_all is_ranged fs) (all_ranged r) is in
    let count = spelled (within w max) (length h.0) in
    let items = items_spelled fs h.0 in
    subst AreBytes (sym h.1.1.2) (join (count ++ items) h.1.0 (join count items (le-number (count_width w) (length h.0))
    (items-bytes fs h.0 both.0 h.1.1.1)) (row-bytes r (make h.0) m h.1.0 both.1 h.1.1.3))
row-bytes (marked max fs r) make m body is h =
    let both = and_both (list_all is_ranged fs) (all_ranged r) is in
    subst AreBytes (sym h.1.1.2) (join (marked_spelled fs h.0) h.1.0 (marked-bytes fs h.0 both.0 h.1.1.1)
    (row-bytes r (make h.0) m h.1.0 both.1 h.1.1.3))

-- the same of values that need not be in range
abbrev pub HaveBytes : (r : Row) → Values r → Type 0
HaveBytes end v = Unit {0}
HaveBytes (f ▸ r) v = HasBytes f.field v.0 × HaveBytes r v.1
HaveBytes other v = ⊥

pub values-bytes : (r : Row) (v : Values r) → HaveBytes r v → AreBytes (body_of r v)
values-bytes end v a = tt
values-bytes (f ▸ r) v a = join (spelled f.field v.0) (body_of r v.1) (field-bytes f.field v.0 a.0) (values-bytes r v.1 a.1)
values-bytes unknown v a = absurd a
values-bytes other v a = absurd a

-- ---- messages

-- the bytes of the map that it has are bytes; the list of files has bytes of another kind
abbrev pub HasData : GameMsg → Type 0
HasData (ServerMapData piece) = AreBytes piece
HasData (ServerCheckNewgrfs items) = ⊥
HasData other = Unit {0}

pub kind-small : (m : GameMsg) → kind_of m < 256
kind-small ServerFull = lit< tt
kind-small other = lit< tt

pub packet-bytes : (kind : ℕ) (body : List ℕ) → kind < 256 → AreBytes body → AreBytes (packet kind body)
packet-bytes kind body low a = join (to_le_bytes w16 (length body + 3)) (kind ∷ body) (le-number w16 (length body + 3)) (low, a)

body-bytes : (m : GameMsg) → HasData m → Spells m (kind_of m) (body_bytes m) → AreBytes (body_bytes m)
body-bytes (ServerMapData piece) held is = held
body-bytes (ServerCheckNewgrfs items) held is = absurd held
body-bytes other held is = row-bytes (rule_of messages (kind_of other)).fields (rule_of messages (kind_of other)).make other
    (body_bytes other) refl is

-- what is sent of a message
pub message-bytes : (m : GameMsg) → HasData m → Spells m (kind_of m) (body_bytes m) → AreBytes (packet (kind_of m) (body_bytes m))
message-bytes m held is = packet-bytes (kind_of m) (body_bytes m) (kind-small m) (body-bytes m held is)
