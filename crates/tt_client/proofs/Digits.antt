-- The digest of a password has 32 lower-case hexadecimal digits.
use Rattle.std.proofs.Common.{◌≡◌, ℕ, zero, suc, ◌<◌, ◌/◌, ◌%◌, true, List, [], ◌∷◌, ◌++◌, length, refl, arith}
use Rattle.std.specs.Prelude.{slice_index}
use Rattle.std.specs.List.{AllByRecursion, list_all}
use Rattle.std.specs.Int.{w32, to_le_bytes}
use Rattle.hex.specs.Hex.{encode_with, lower_digits}
use Rattle.hex.proofs.HexLemmas.{length-encode_with}
use Rattle.md5.specs.Md5.{digest_bytes, md5}
use Rattle.md5.proofs.StandardFacts.{length-md5}
use Rattle.tt_frame.specs.Text.{is_digest, is_hex_digit}
use Rattle.tt_rules.specs.Digest.{password_digest, salted}

hex_digit : (n : ℕ) → n < 16 → is_hex_digit (slice_index lower_digits n) ≡ true
hex_digit zero low = refl
hex_digit (suc zero) low = refl
hex_digit (suc (suc zero)) low = refl
hex_digit (suc (suc (suc zero))) low = refl
hex_digit (suc (suc (suc (suc zero)))) low = refl
hex_digit (suc (suc (suc (suc (suc zero))))) low = refl
hex_digit (suc (suc (suc (suc (suc (suc zero)))))) low = refl
hex_digit (suc (suc (suc (suc (suc (suc (suc zero))))))) low = refl
hex_digit (suc (suc (suc (suc (suc (suc (suc (suc zero)))))))) low = refl
hex_digit (suc (suc (suc (suc (suc (suc (suc (suc (suc zero))))))))) low = refl
hex_digit (suc (suc (suc (suc (suc (suc (suc (suc (suc (suc zero)))))))))) low = refl
hex_digit (suc (suc (suc (suc (suc (suc (suc (suc (suc (suc (suc zero))))))))))) low = refl
hex_digit (suc (suc (suc (suc (suc (suc (suc (suc (suc (suc (suc (suc zero)))))))))))) low = refl
hex_digit (suc (suc (suc (suc (suc (suc (suc (suc (suc (suc (suc (suc (suc zero))))))))))))) low = refl
hex_digit (suc (suc (suc (suc (suc (suc (suc (suc (suc (suc (suc (suc (suc (suc zero)))))))))))))) low = refl
hex_digit (suc (suc (suc (suc (suc (suc (suc (suc (suc (suc (suc (suc (suc (suc (suc zero))))))))))))))) low = refl
hex_digit (suc (suc (suc (suc (suc (suc (suc (suc (suc (suc (suc (suc (suc (suc (suc (suc n)))))))))))))))) low = absurd (omega (
  arith,
  low,
))

abbrev AreBytes : List ℕ → Type 0
AreBytes xs = AllByRecursion (λ b. b < 256) xs

hex_all : (xs : List ℕ) → AreBytes xs → list_all is_hex_digit (encode_with lower_digits xs) ≡ true
unfolding encode_with
hex_all [] all = refl
hex_all (b ∷ bs) all =
    let high : b / 16 < 16 = omega (arith, all.0) in
    let low : b % 16 < 16 = omega arith in
    rw (hex_digit (b / 16) high, hex_digit (b % 16) low) (hex_all bs all.1)

all_append : (xs ys : List ℕ) → AreBytes xs → AreBytes ys → AreBytes (xs ++ ys)
all_append [] ys a b = b
all_append (x ∷ xs) ys a b = (a.0, all_append xs ys a.1 b)

word_bytes : (n : ℕ) → AreBytes (to_le_bytes w32 n)
word_bytes n = (omega arith, (omega arith, (omega arith, (omega arith, tt))))

digest_are_bytes : (h : List ℕ) (n : ℕ) → AreBytes (digest_bytes h n)
unfolding digest_bytes
digest_are_bytes h zero = tt
digest_are_bytes h (suc n) = all_append (digest_bytes h n) (to_le_bytes w32 (slice_index h n)) (digest_are_bytes h n) (word_bytes
    (slice_index h n))

md5_are_bytes : (m : List ℕ) → AreBytes (md5 m)
unfolding md5
md5_are_bytes m = digest_are_bytes _ 4

pub is_password_digest : (password id : List ℕ) (seed : ℕ) → is_digest (password_digest password id seed) ≡ true
unfolding is_digest
is_password_digest password id seed =
    let hash = md5 (salted password id seed) in
    let size : length (encode_with lower_digits hash) ≡ 32 = omega (
      arith,
      length-encode_with lower_digits hash,
      length-md5 (salted
          password id seed),
    ) in
    rw (size, hex_all hash (md5_are_bytes (salted password id seed))) refl
