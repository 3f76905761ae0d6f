-- Numbers and bytes that are spelled in digits.
use Rattle.std.specs.Prelude.{◌≡◌, ◌≢◌, ℕ, ◌<◌, List, [], ◌∷◌, length, slice_index, codes}
use Rattle.hex.specs.Hex.{encode_lower}
use Rattle.tt_frame.specs.Packet.{IsBytes}

-- the front of a number that is spelled without a sign or a zero that leads
pub record StartsPlain (digits : List ℕ) : Type 0 where
  pub some : 0 < length digits
  pub sign : slice_index digits 0 ≢ 43
  pub zero : slice_index digits 0 ≡ 48 → length digits ≡ 1

-- a piece of bytes: at least one; it is spelled as pairs of lower-case hexadecimal digits
pub record IsPiece (piece : List ℕ) : Type 0 where
  pub bytes : IsBytes piece
  pub some : 0 < length piece

-- how bytes are told: in hexadecimal digits, or as a dash for none
abbrev pub bytes_text : List ℕ → List ℕ
bytes_text [] = codes "-"
bytes_text (byte ∷ bytes) = encode_lower (byte ∷ bytes)
