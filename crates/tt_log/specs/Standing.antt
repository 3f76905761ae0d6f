-- What a reader of a script keeps.
use Rattle.std.specs.Prelude.{ℕ, List, refl}
use Rattle.std.specs.Coded.{Coded, code_by, coded×, coded_ℕ, coded_list}

pub record Standing : Type 0 where
  -- the bytes that were not read yet
  pub rest : List ℕ
  -- how many lines were read
  pub count : ℕ
  -- the least place that a setting may still have
  pub place : ℕ
  -- how many connections were opened
  pub openings : ℕ

-- how the record is told as plain data, which a type with a model and a loan in it wants
abbrev pub standing_code : Coded Standing
standing_code =
    code_by ((List ℕ × ℕ) × (ℕ × ℕ)) (coded× (coded× (coded_list coded_ℕ) coded_ℕ) (coded× coded_ℕ coded_ℕ)) (λ s. (
      (s.rest, s.count),
      (s.place, s.openings),
    ))
    (λ p. record { rest = p.0.0; count = p.0.1; place = p.1.0; openings = p.1.1 }) (λ _. refl)
