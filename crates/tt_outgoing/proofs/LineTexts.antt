-- The console's line on a company is a text of at most 899 bytes.
use Rattle.std.proofs.Common.{◌≡◌, ℕ, suc, ◌<◌, ◌≤◌, true, List, ◌++◌, refl, arith}
use Rattle.std.specs.Prelude.{◌^◌, codes, decimal, length, pos, negsuc, ℤ, neg_ℤ, ◌≤ℤ◌}
use Rattle.std.specs.Fmt.{signed_decimal}
use Rattle.std.proofs.lemmas.Int.{ints}
use Rattle.std.proofs.lemmas.Fmt.{length-decimal-le}
use Rattle.std.proofs.lemmas.List.{length-append}
use Rattle.tt_frame.specs.Text.{IsText, is_text}
use Rattle.tt_frame.proofs.TextLaws.{is_text-from_IsText, IsText-from_is_plain}
use Rattle.tt_world.specs.declared.company.Company.{Company}
use Rattle.tt_world.specs.Sound.{IsCompany, most_money}
use Rattle.tt_log.specs.Reports.{company_line}
use Rattle.tt_log.proofs.GivenNames.{decimal-text, text-append}

blank : IsText (codes " ")
blank = IsText-from_is_plain (codes " ") refl

money-text : (z : ℤ) → neg_ℤ (pos most_money) ≤ℤ z → z ≤ℤ pos most_money → IsText (signed_decimal z) × (length (signed_decimal z) ≤ 21)
money-text (pos n) low high =
    let l : n < 2 ^ 63 = omega (arith, ints) in
    let k = length-decimal-le 20 n (omega arith) (omega (arith, l)) (omega (arith, l)) in (
      decimal-text n (omega (arith, l)),
      omega
          (arith, k),
    )
money-text (negsuc n) low high =
    let l : suc n < 2 ^ 63 = omega (arith, ints) in
    let k = length-decimal-le 20 (suc n) (omega arith) (omega (arith, l)) (omega (arith, l)) in (
      text-append (codes "-") (decimal (suc n)) (IsText-from_is_plain (codes "-") refl) (decimal-text (suc n) (omega (arith, l))),
      omega (arith, k),
    )

pub line_fits : (number : ℕ) (company : Company) → number < 15 → IsCompany company → is_text 899 (company_line (number, company)) ≡ true
line_fits number company low c =
    let few : number < 2 ^ 8 = omega (arith, low) in
    let loan = c.loan in let most = c.most in
    let money = money-text company.money c.least_money c.most_money in
    let a : List ℕ = decimal number in
    let m : List ℕ = signed_decimal company.money in
    let b : List ℕ = decimal company.loan in
    let la = length-decimal-le 20 number (omega arith) (omega (arith, few)) (omega (arith, few)) in
    let lb = length-decimal-le 20 company.loan (omega arith) (omega (arith, loan, most)) (omega (arith, loan, most)) in
    let n1 = length-append a (codes " ") in
    let n2 = length-append (a ++ codes " ") m in
    let n3 = length-append (a ++ codes " " ++ m) (codes " ") in
    let n4 = length-append (a ++ codes " " ++ m ++ codes " ") b in
    let n5 = length-append (a ++ codes " " ++ m ++ codes " " ++ b) (codes " ") in
    let n6 = length-append (a ++ codes " " ++ m ++ codes " " ++ b ++ codes " ") company.name in
    let t1 : IsText (a ++ codes " ") = text-append a (codes " ") (decimal-text number (omega (arith, few))) blank in
    let t2 : IsText (a ++ codes " " ++ m) = text-append (a ++ codes " ") m t1 money.0 in
    let t3 : IsText (a ++ codes " " ++ m ++ codes " ") = text-append (a ++ codes " " ++ m) (codes " ") t2 blank in
    let t4 : IsText (a ++ codes " " ++ m ++ codes " " ++ b) = text-append (a ++ codes " " ++ m ++ codes " ") b t3
    (decimal-text company.loan (omega (arith, loan, most))) in
    let t5 : IsText (a ++ codes " " ++ m ++ codes " " ++ b ++ codes " ") =
    text-append (a ++ codes " " ++ m ++ codes " " ++ b) (codes " ") t4 blank in
    let t6 : IsText (company_line (number, company)) = text-append (a ++ codes " " ++ m ++ codes " " ++ b ++ codes " ") company.name t5
    c.name.text in
    let short = c.name.fits in let lm = money.1 in
    is_text-from_IsText 899 (company_line (number, company)) t6 (omega (arith, la, lm, lb, n1, n2, n3, n4, n5, n6, short))
