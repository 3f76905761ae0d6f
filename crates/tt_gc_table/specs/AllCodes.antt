-- How many codes there are.
use Rattle.std.specs.Prelude.{ℕ}

-- six characters, each one of thirty-two
abbrev pub all_codes : ℕ
all_codes = 1073741824
