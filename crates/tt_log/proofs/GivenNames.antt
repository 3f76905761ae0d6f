-- The name that a member gets is a text, of at most 24 bytes where it is not refused, and no other named member has it.
use Rattle.std.proofs.Common.{◌≡◌, ℕ, zero, suc, ◌+◌, ◌<◌, ◌≤◌, Bool, true, false, List, [], ◌∷◌, ◌++◌, length, get_or, refl, arith}
use Rattle.std.specs.Prelude.{◌^◌, not, nat_le, codes, decimal}
use Rattle.std.specs.List.{AllByRecursion}
use Rattle.std.proofs.lemmas.Bool.{leb-true}
use Rattle.std.proofs.lemmas.List.{length-append}
use Rattle.std.proofs.lemmas.Str.{IsUtf8-append, IsUtf8-from_ascii}
use Rattle.std.proofs.lemmas.List.Elements.{All-append, All-from_recursion}
use Rattle.std.proofs.lemmas.Fmt.{IsAscii-decimal, digits_decimal}
use Rattle.std.proofs.lemmas.Str.Parse.{digit_at}
use Rattle.tt_lines.proofs.Decimals.{own}
use Rattle.tt_frame.specs.Text.{IsText, is_text}
use Rattle.tt_frame.proofs.TextLaws.{IsText-from_is_text, is_text-from_IsText, IsText-from_is_plain}
use Rattle.tt_log.specs.Table.{Table}
use Rattle.tt_log.specs.Names.{is_taken, numbered, first_free_name, given_name, is_too_long}

-- two texts are one
pub text-append : (xs ys : List ℕ) → IsText xs → IsText ys → IsText (xs ++ ys)
text-append xs ys a b = record {
  utf8 = IsUtf8-append xs ys a.utf8 b.utf8;
  shown = All-append (λ byte. 32 ≤ byte) xs ys a.shown b.shown;
}

space-text : IsText (codes " #")
space-text = IsText-from_is_plain (codes " #") refl

each-byte : (xs : List ℕ) → ((i : ℕ) → i < length xs → 32 ≤ get_or xs i 0) → AllByRecursion (λ byte. 32 ≤ byte) xs
each-byte [] h = tt
each-byte (x ∷ xs) h = (h 0 (omega arith), each-byte xs (λ i l. h (suc i) (omega (arith, l))))

pub decimal-text : (i : ℕ) → i < 2 ^ 64 → IsText (decimal i)
decimal-text i l =
    record {
      utf8 = IsUtf8-from_ascii (decimal i) (IsAscii-decimal i l);
      shown = All-from_recursion (λ byte. 32 ≤ byte) (decimal i) (each-byte (decimal i) (λ k within.
          let range = digit_at (decimal i) k (digits_decimal own i l) within in omega (arith, range)));
    }

numbered-text : (name : List ℕ) (i : ℕ) → i < 2 ^ 64 → IsText name → IsText (numbered name i)
numbered-text name i l h = text-append (name ++ codes " #") (decimal i) (text-append name (codes " #") h space-text) (decimal-text i l)

free-text : (t : Table) (conn : ℕ) (name : List ℕ) (i n : ℕ) → i + n < 2 ^ 64 → IsText name → IsText (first_free_name t conn name i n)
free-text t conn name i zero l h = numbered-text name i (omega (arith, l)) h
free-text t conn name i (suc n) l h =
    elim (is_taken t conn (numbered name i)) as (λ b. IsText (elim b [
      | true ↦ first_free_name t conn name (i + 1) n
      | false ↦ numbered name i
    ])) [ true ↦ free-text t conn name (i + 1) n (omega (arith, l)) h | false ↦ numbered-text name i (omega (arith, l)) h ]

given-text : (t : Table) (conn : ℕ) (name : List ℕ) → length t.members ≤ 255 → IsText name → IsText (given_name t conn name)
given-text t conn name l h =
    elim (is_taken t conn name) as (λ b. IsText (elim b [
      | true ↦ first_free_name t conn name 1 (length t.members)
      | false ↦ name
    ])) [ true ↦ free-text t conn name 1 (length t.members) (omega (arith, l)) h | false ↦ h ]

not-long : (b : Bool) → not b ≡ false → b ≡ true
not-long true is = refl
not-long false is = absurd cc

pub given-fits : (t : Table) (conn : ℕ) (name : List ℕ) → length t.members ≤ 255 → is_text 24 name ≡ true
    → is_too_long (given_name t conn name) ≡ false → is_text 24 (given_name t conn name) ≡ true
given-fits t conn name l h short =
    is_text-from_IsText 24 (given_name t conn name) (given-text t conn name l (IsText-from_is_text 24 name h))
    (leb-true (length (given_name t conn name)) 24 (not-long (nat_le (length (given_name t conn name)) 24) short))

-- a name that some byte stands in
numbered-some : (name : List ℕ) (i : ℕ) → 1 ≤ length name → 1 ≤ length (numbered name i)
numbered-some name i l = let a = length-append (name ++ codes " #") (decimal i) in let b = length-append name (codes " #") in
    omega (arith, a, b, l)

free-some : (t : Table) (conn : ℕ) (name : List ℕ) (i n : ℕ) → 1 ≤ length name → 1 ≤ length (first_free_name t conn name i n)
free-some t conn name i zero l = numbered-some name i l
free-some t conn name i (suc n) l =
    elim (is_taken t conn (numbered name i)) as (λ b. 1 ≤ length {A = ℕ} (elim b [
      | true ↦ first_free_name t conn name (i + 1) n
      | false ↦ numbered name i
    ])) [ true ↦ free-some t conn name (i + 1) n l | false ↦ numbered-some name i l ]

pub given-some : (t : Table) (conn : ℕ) (name : List ℕ) → 1 ≤ length name → 1 ≤ length (given_name t conn name)
given-some t conn name l =
    elim (is_taken t conn name) as (λ b. 1 ≤ length {A = ℕ} (elim b [
      | true ↦ first_free_name t conn name 1 (length t.members)
      | false ↦ name
    ])) [ true ↦ free-some t conn name 1 (length t.members) l | false ↦ l ]
