-- Numbers that are spelled in digits.
use Rattle.std.proofs.Common.{◌≡◌, ◌≢◌, ℕ, zero, suc, ◌<◌, ◌^◌, List, get_or, Result, Ok, Err, refl, sym, ap, ◌∙◌, arith}
use Rattle.std.specs.Fmt.{decimal}
use Rattle.std.specs.Prelude.{IfSome, IfNone}
use Rattle.std.specs.Result.{result_ok}
use Rattle.std.specs.Str.{IsUtf8}
use Rattle.std.specs.Str.Parse.{AllDigits, ParsesUnsigned, digits_value}
use Rattle.std.proofs.lemmas.Fmt.{decimal_digit, decimal_nonempty, first_decimal, decimal-digits_value, parse-decimal, IsAscii-decimal}
use Rattle.std.proofs.lemmas.Str.{IsUtf8-from_ascii}
use Rattle.std.proofs.lemmas.Str.Parse.{IsNumeralModel, numerals_by_value, tells_digits, parse_plain}
use Rattle.tt_lines.specs.Digits.{StartsPlain}

pub own : IsNumeralModel (AllDigits 10) (digits_value 10)
own = numerals_by_value (AllDigits 10) tells_digits

-- a number's digits begin as they should
pub decimal_plain : (n : ℕ) → n < 2 ^ 32 → StartsPlain (decimal n)
decimal_plain zero lt = rw (decimal_digit 0 (omega arith)) (record { some = omega arith; sign = λ e. omega (arith, e); zero = λ e. refl })
decimal_plain (suc n) lt =
    let first : 48 < get_or (decimal (suc n)) 0 0 = first_decimal (suc n) (omega arith) (omega arith) in
    record {
      some = decimal_nonempty (suc n) (omega arith);
      sign = λ e. omega (arith, first, e);
      zero =
          λ e. absurd (omega (arith, first, e));
    }

-- what is parsed is the number that is spelled
pub parsed_some : {E : Type 0} (digits : List ℕ) (r : Result ℕ E) → StartsPlain digits → ParsesUnsigned 32 10 digits r
    → IfSome (result_ok r) (λ n. digits ≡ decimal n)
parsed_some {E = E} digits (Ok n) plain parses =
    let p = parse_plain own {E = E} 32 digits (Ok n) parses plain.sign in
    let back : decimal (digits_value 10 digits) ≡ digits =
    decimal-digits_value own digits p.0.0 plain.some plain.zero (omega (arith, p.0.2)) in
    sym back ∙ ap decimal (sym p.1)
parsed_some digits (Err x) plain parses = tt

-- what is not parsed is no number's spelling
pub parsed_none : {E : Type 0} (digits : List ℕ) (r : Result ℕ E) → ParsesUnsigned 32 10 digits r → IfNone (result_ok r) ((n : ℕ)
    → n < 2 ^ 32 → digits ≢ decimal n)
parsed_none digits (Ok n) parses = tt
parsed_none digits (Err x) parses = λ n lt is. let h = parse-decimal 32 n digits (Err x) lt (omega arith) is parses in absurd cc

-- a number's spelling is text
pub decimal_text : (digits : List ℕ) (n : ℕ) → n < 2 ^ 32 → digits ≡ decimal n → IsUtf8 digits
decimal_text digits n lt e = rw e (IsUtf8-from_ascii (decimal n) (IsAscii-decimal n (omega arith)))
