-- Reading one field: its value and what is left behind it, or the place where the field isn't there.
use Rattle.std.specs.Prelude.{◌≡◌, ℕ, zero, suc, ◌+◌, List, [], ◌∷◌, length, take, Option, Some, None, option_map, Result, Ok, Err, Bool}
use Rattle.std.specs.Prelude.{nat_lt, ◌==◌, if◌then◌else◌}
use Rattle.std.specs.Int.{Width, w8, byte_len, from_le_bytes}
use Rattle.tt_frame.specs.Text.{is_text, is_digest}
use Rattle.tt_frame.specs.Unread.{Unread, skip}
use Rattle.tt_frame.specs.declared.bad.Bad.{Bad}
use Rattle.tt_frame.specs.declared.bad.Bad.TheVariants.{Memory, Malformed}

-- one step of reading behind the other
infixl 10 ◌>>=◌
abbrev pub ◌>>=◌ : {A B : Type 0} → Result A ℕ → (A → Result B ℕ) → Result B ℕ
(Ok x) >>= f = f x
(Err e) >>= f = Err e

-- a number of that width, the low byte first
unfoldable pub number_at : Width → Unread → Result (ℕ × Unread) ℕ
number_at w s =
    if nat_lt (length s.rest) (byte_len w) then Err s.at
    else Ok (from_le_bytes w (take (byte_len w) s.rest), skip (byte_len w) s)

-- a number of that width from 0 to max
unfoldable pub within_at : Width → ℕ → Unread → Result (ℕ × Unread) ℕ
within_at w max s = do
  n ← number_at w s
  if nat_lt max n.0 then Err s.at else Ok n

-- a byte that is 0 or 1
unfoldable pub truth_at : Unread → Result (Bool × Unread) ℕ
truth_at s = do
  n ← within_at w8 1 s
  Ok (n.0 == 1, n.1)

-- a byte that is this one
unfoldable pub fixed_at : ℕ → Unread → Result Unread ℕ
fixed_at byte s = do
  n ← number_at w8 s
  if n.0 == byte then Ok n.1 else Err s.at

-- the bytes before the first zero, where it is among the first max + 1
unfoldable pub before_zero : ℕ → List ℕ → Option (List ℕ)
before_zero max [] = None
before_zero max (zero ∷ bs) = Some []
before_zero zero (suc b ∷ bs) = None
before_zero (suc max) (suc b ∷ bs) = option_map (λ s. suc b ∷ s) (before_zero max bs)

-- the bytes before a zero, where they pass the test
abbrev pub kept : (List ℕ → Bool) → Option (List ℕ) → Unread → Result (List ℕ × Unread) ℕ
kept good None s = Err s.at
kept good (Some bs) s = if good bs then Ok (bs, skip (length bs + 1) s) else Err s.at

-- a text of at most max bytes, with a zero behind it
unfoldable pub text_at : ℕ → Unread → Result (List ℕ × Unread) ℕ
text_at max s = kept (is_text max) (before_zero max s.rest) s

-- a digest, with a zero behind it
unfoldable pub digest_at : Unread → Result (List ℕ × Unread) ℕ
digest_at s = kept is_digest (before_zero 32 s.rest) s

-- the bytes before a zero, where they are a digest, or none
abbrev pub kept_or_none : Option (List ℕ) → Unread → Result (Option (List ℕ) × Unread) ℕ
kept_or_none None s = Err s.at
kept_or_none (Some []) s = Ok (None, skip 1 s)
kept_or_none (Some (b ∷ bs)) s = if is_digest (b ∷ bs) then Ok (Some (b ∷ bs), skip (length (b ∷ bs) + 1) s) else Err s.at

-- a digest or the empty text, with a zero behind it
unfoldable pub optional_digest_at : Unread → Result (Option (List ℕ) × Unread) ℕ
optional_digest_at s = kept_or_none (before_zero 32 s.rest) s

-- n bytes as they are
unfoldable pub raw_at : ℕ → Unread → Result (List ℕ × Unread) ℕ
raw_at n s = if nat_lt (length s.rest) n then Err s.at else Ok (take n s.rest, skip n s)

-- What a call of the reader answered is what reading gives; after None it stands where it stood.
abbrev pub FieldTaken : {X Y : Type 0} → (X → Y) → Option X → Unread → Unread → Result (Y × Unread) ℕ → Type 0
FieldTaken view None old new reading = (reading ≡ Err old.at) × (new ≡ old)
FieldTaken view (Some x) old new reading = reading ≡ Ok (view x, new)

-- What a function of a decoder answered is what reading gives.
abbrev pub FieldRead : {X Y : Type 0} → (X → Y) → Result X Bad → Unread → Result (Y × Unread) ℕ → Type 0
FieldRead view (Ok x) new reading = reading ≡ Ok (view x, new)
FieldRead view (Err Memory) new reading = ⊥
FieldRead view (Err (Malformed at)) new reading = reading ≡ Err at

-- the same of a function that takes memory: what reading gives, unless memory ran out
abbrev pub FieldReadOrMemory : {X Y : Type 0} → (X → Y) → Result X Bad → Unread → Result (Y × Unread) ℕ → Type 0
FieldReadOrMemory view (Ok x) new reading = reading ≡ Ok (view x, new)
FieldReadOrMemory view (Err Memory) new reading = Unit {0}
FieldReadOrMemory view (Err (Malformed at)) new reading = reading ≡ Err at

-- What a function answered that reads a byte which a message doesn't keep: it stood there and what is left is behind it, or
-- the place where it isn't there.
abbrev pub FixedRead : Result (Unit {0}) Bad → Unread → Result Unread ℕ → Type 0
FixedRead (Ok _) new reading = reading ≡ Ok new
FixedRead (Err Memory) new reading = ⊥
FixedRead (Err (Malformed at)) new reading = reading ≡ Err at
