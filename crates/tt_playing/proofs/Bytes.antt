-- Lists of bytes, by recursion: what numbers, texts and digits are spelled as.
use Rattle.std.proofs.Common.{◌≡◌, ℕ, zero, suc, ◌+◌, ◌/◌, ◌%◌, ◌<◌, Bool, true, false, cond, List, [], ◌∷◌, ◌++◌, refl, subst, arith}
use Rattle.std.proofs.Common.{lit<, mod-lt, ltb-true, inl, inr}
use Rattle.std.specs.Prelude.{nat_lt, flat_map, take, drop}
use Rattle.std.specs.List.{AllByRecursion, list_all}
use Rattle.std.specs.Int.{Width, byte_at, byte_len, bytes_high_first, bytes_low_first, to_be_bytes, to_le_bytes}
use Rattle.std.specs.Str.{IsUtf8}
use lib.Utf8.{encode, encodes, scalar, scalar_cases, scalars}
use Rattle.hex.specs.Hex.{encode_lower, encode_with, lower_digits}
use Rattle.tt_frame.specs.Packet.{IsBytes}
use Rattle.tt_frame.proofs.TestLaws.{and_both}

abbrev pub AreBytes : List ℕ → Type 0
AreBytes bytes = AllByRecursion (λ (b : ℕ). b < 256) bytes

pub by-place : (bytes : List ℕ) → AreBytes bytes → IsBytes bytes
by-place [] a i = omega arith
by-place (b ∷ bytes) a zero = a.0
by-place (b ∷ bytes) a (suc i) = by-place bytes a.1 i

pub by-turn : (bytes : List ℕ) → IsBytes bytes → AreBytes bytes
by-turn [] fits = tt
by-turn (b ∷ bytes) fits = (fits 0, by-turn bytes (λ i. fits (suc i)))

-- ---- lists joined and cut

pub join : (xs ys : List ℕ) → AreBytes xs → AreBytes ys → AreBytes (xs ++ ys)
join [] ys a b = b
join (x ∷ xs) ys a b = (a.0, join xs ys a.1 b)

pub cut : (n : ℕ) (xs : List ℕ) → AreBytes xs → AreBytes (take n xs)
cut zero xs a = tt
cut (suc n) [] a = tt
cut (suc n) (x ∷ xs) a = (a.0, cut n xs a.1)

pub left : (n : ℕ) (xs : List ℕ) → AreBytes xs → AreBytes (drop n xs)
left zero xs a = a
left (suc n) [] a = tt
left (suc n) (x ∷ xs) a = left n xs a.1

pub front : (xs ys : List ℕ) → AreBytes (xs ++ ys) → AreBytes xs
front [] ys a = tt
front (x ∷ xs) ys a = (a.0, front xs ys a.1)

pub back : (xs ys : List ℕ) → AreBytes (xs ++ ys) → AreBytes ys
back [] ys a = a
back (x ∷ xs) ys a = back xs ys a.1

pub each : {A : Type 0} (f : A → List ℕ) (xs : List A) → AllByRecursion (λ x. AreBytes (f x)) xs → AreBytes (flat_map f xs)
each f [] a = tt
each f (x ∷ xs) a = join (f x) (flat_map f xs) a.0 (each f xs a.1)

-- a literal's bytes compute to true
pub literal : (bytes : List ℕ) → list_all (λ b. nat_lt b 256) bytes ≡ true → AreBytes bytes
literal [] is = tt
literal (b ∷ bytes) is =
    let both = and_both (nat_lt b 256) (list_all (λ x. nat_lt x 256) bytes) is in (ltb-true b 256 both.0, literal bytes both.1)

-- ---- numbers

byte-small : (i n : ℕ) → byte_at i n < 256
byte-small zero n = mod-lt n (lit< tt)
byte-small (suc i) n = mod-lt _ (lit< tt)

low-first : (i k n : ℕ) → AreBytes (bytes_low_first i k n)
low-first i zero n = tt
low-first i (suc k) n = (byte-small i n, low-first (suc i) k n)

high-first : (k n : ℕ) → AreBytes (bytes_high_first k n)
high-first zero n = tt
high-first (suc k) n = (byte-small k n, high-first k n)

pub le-number : (w : Width) (n : ℕ) → AreBytes (to_le_bytes w n)
le-number w n = low-first 0 (byte_len w) n

pub be-number : (w : Width) (n : ℕ) → AreBytes (to_be_bytes w n)
be-number w n = high-first (byte_len w) n

-- ---- texts

low-char : (c : ℕ) → scalar c ≡ true → c < 1114112
low-char c is = elim (scalar_cases c is) [
  | inl low ↦ omega (arith, low)
  | inr high ↦ omega (arith, high.1)
]

char-by : (one two three : Bool) (c : ℕ) → nat_lt c 128 ≡ one → nat_lt c 2048 ≡ two → nat_lt c 65536 ≡ three → c < 1114112
    → AreBytes (cond one (c ∷ []) (cond two ((192 + c / 64) ∷ (128 + c % 64) ∷ [])
    (cond three ((224 + c / 4096) ∷ (128 + c / 64 % 64) ∷ (128 + c % 64) ∷ [])
    ((240 + c / 262144) ∷ (128 + c / 4096 % 64) ∷ (128 + c / 64 % 64) ∷ (128 + c % 64) ∷ []))))
char-by true two three c a b d low = let l = ltb-true c 128 a in (omega (arith, l), tt)
char-by false true three c a b d low = let l = ltb-true c 2048 b in (omega (arith, l), (omega arith, tt))
char-by false false true c a b d low = let l = ltb-true c 65536 d in (omega (arith, l), (omega arith, (omega arith, tt)))
char-by false false false c a b d low = (omega (arith, low), (omega arith, (omega arith, (omega arith, tt))))

char-bytes : (c : ℕ) → scalar c ≡ true → AreBytes (encode c)
unfolding encode
char-bytes c is = char-by (nat_lt c 128) (nat_lt c 2048) (nat_lt c 65536) c refl refl refl (low-char c is)

chars-bytes : (cs : List ℕ) → scalars cs ≡ true → AreBytes (encodes cs)
chars-bytes [] is = tt
chars-bytes (c ∷ cs) is =
    let both = and_both (scalar c) (scalars cs) is in join (encode c) (encodes cs) (char-bytes c both.0) (chars-bytes cs both.1)

pub utf8-bytes : (bytes : List ℕ) → IsUtf8 bytes → AreBytes bytes
utf8-bytes bytes is = subst AreBytes is.1.1 (chars-bytes is.0 is.1.0)

-- ---- digits

digits-bytes : AreBytes lower_digits
digits-bytes = literal lower_digits refl

pub hex-bytes : (bytes : List ℕ) → AreBytes (encode_lower bytes)
unfolding encode_with
hex-bytes [] = tt
hex-bytes (b ∷ bytes) = (by-place lower_digits digits-bytes (b / 16), (by-place lower_digits digits-bytes (b % 16), hex-bytes bytes))
