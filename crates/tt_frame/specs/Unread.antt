-- What a reader of a body has before it: the place in the body, and the bytes from there on.
use Rattle.std.specs.Prelude.{◌≡◌, ℕ, ◌+◌, List, ◌++◌, length, drop, refl}
use Rattle.std.specs.Coded.{Coded, code_by, coded×, coded_ℕ, coded_list}

pub record Unread : Type 0 where
  pub at : ℕ
  pub rest : List ℕ

-- how the record is told as plain data, which a type with a model and a loan in it wants
abbrev pub unread_code : Coded Unread
unread_code =
    code_by (ℕ × List ℕ) (coded× coded_ℕ (coded_list coded_ℕ)) (λ s. (s.at, s.rest)) (λ p. record { at = p.0; rest = p.1 }) (λ _. refl)

-- the whole of a body
abbrev pub whole : List ℕ → Unread
whole body = record { at = 0; rest = body }

-- n bytes further on
abbrev pub skip : ℕ → Unread → Unread
skip n s = record { at = s.at + n; rest = drop n s.rest }

-- these bytes stand at s, and t is right behind them
pub record GoesOver (s : Unread) (bytes : List ℕ) (t : Unread) : Type 0 where
  pub parts : s.rest ≡ bytes ++ t.rest
  pub place : t.at ≡ s.at + length bytes
