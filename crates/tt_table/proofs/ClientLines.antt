-- The console's line on a client is a text of at most 899 bytes.
use Rattle.std.proofs.Common.{◌≡◌, ℕ, ◌<◌, ◌≤◌, true, List, ◌++◌, refl, arith}
use Rattle.std.specs.Prelude.{◌^◌, codes, decimal, length}
use Rattle.std.proofs.lemmas.Fmt.{length-decimal-le}
use Rattle.std.proofs.lemmas.List.{length-append}
use Rattle.tt_frame.specs.Text.{IsText, is_plain, is_text}
use Rattle.tt_frame.proofs.TextLaws.{IsText-from_is_plain, IsText-from_is_text, is_text-from_IsText, length_of_text}
use Rattle.tt_log.proofs.GivenNames.{decimal-text, text-append}

blank : IsText (codes " ")
blank = IsText-from_is_plain (codes " ") refl

pub plain_fits : (most : ℕ) (text : List ℕ) → is_plain text ≡ true → length text ≤ most → is_text most text ≡ true
plain_fits most text plain few = is_text-from_IsText most text (IsText-from_is_plain text plain) few

pub client_fits : (client company : ℕ) (name : List ℕ) → client < 2 ^ 32 → company < 2 ^ 8 → is_text 24 name ≡ true
    → is_text 899 (decimal client ++ codes " " ++ decimal company ++ codes " " ++ name) ≡ true
client_fits client company name small low is =
    let a : List ℕ = decimal client in
    let b : List ℕ = decimal company in
    let la = length-decimal-le 20 client (omega arith) (omega (arith, small)) (omega (arith, small)) in
    let lb = length-decimal-le 20 company (omega arith) (omega (arith, low)) (omega (arith, low)) in
    let ln : length name ≤ 24 = length_of_text 24 name is in
    let n1 = length-append a (codes " ") in
    let n2 = length-append (a ++ codes " ") b in
    let n3 = length-append (a ++ codes " " ++ b) (codes " ") in
    let n4 = length-append (a ++ codes " " ++ b ++ codes " ") name in
    let t1 : IsText (a ++ codes " ") = text-append a (codes " ") (decimal-text client (omega (arith, small))) blank in
    let t2 : IsText (a ++ codes " " ++ b) = text-append (a ++ codes " ") b t1 (decimal-text company (omega (arith, low))) in
    let t3 : IsText (a ++ codes " " ++ b ++ codes " ") = text-append (a ++ codes " " ++ b) (codes " ") t2 blank in
    let t4 : IsText (a ++ codes " " ++ b ++ codes " " ++ name) =
    text-append (a ++ codes " " ++ b ++ codes " ") name t3 (IsText-from_is_text 24 name is) in
    is_text-from_IsText 899 (a ++ codes " " ++ b ++ codes " " ++ name) t4 (omega (arith, la, lb, ln, n1, n2, n3, n4))
