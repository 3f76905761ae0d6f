-- The digest of a password, salted by the game's id and seed.
use Rattle.std.specs.Prelude.{ℕ, ◌/◌, ◌%◌, ◌^◌, List, length, map, slice_index, bit_xor}
use Rattle.std.specs.List.{range_with_len}
use Rattle.md5.specs.Md5.{md5}
use Rattle.hex.specs.Hex.{encode_lower}

-- byte i: the password's byte, or 0 behind its end; the id's byte, which begins again behind its end; and the low byte
-- of the seed shifted right by i
abbrev pub salted_byte : List ℕ → List ℕ → ℕ → ℕ → ℕ
salted_byte password id seed i = bit_xor (bit_xor (slice_index password i) (slice_index id (i % length id))) (seed / 2 ^ i % 256)

-- the salted password: 32 bytes
abbrev pub salted : List ℕ → List ℕ → ℕ → List ℕ
salted password id seed = map (salted_byte password id seed) (range_with_len 0 32)

-- the MD5 of the salted password, in lower-case digits
abbrev pub password_digest : List ℕ → List ℕ → ℕ → List ℕ
password_digest password id seed = encode_lower (md5 (salted password id seed))
