-- The random generator, on two numbers below 2 ^ 32.
use Rattle.std.specs.Prelude.{ℕ, ◌+◌, ◌-◌, ◌*◌, ◌/◌, ◌%◌, ◌^◌, bit_xor}
use Rattle.std.specs.Int.{w32, rotate_right}

-- The words behind the next draw. The first is the sum of the old first word, of the old second word changed and
-- turned, and of one; the second, which is also the word drawn, is the old first word turned, less one.
abbrev pub next_random : ℕ × ℕ → ℕ × ℕ
next_random words =
    ((words.0 + rotate_right w32 (bit_xor words.1 0x1234567F) 7 + 1) % 2 ^ 32, (rotate_right w32 words.0 3 + (2 ^ 32 - 1)) % 2 ^ 32)

-- The number below a limit that the word drawn last stands for: the upper half of their product.
abbrev pub below : ℕ × ℕ → ℕ → ℕ
below words limit = words.1 * limit / 2 ^ 32
