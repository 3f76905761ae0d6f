-- The laws of a family of messages, from three facts that its table computes to: a message taken apart and made again is
-- itself; what a line makes, taken apart, is that line's values; and no body is longer than a packet has room for.
use Rattle.std.proofs.Common.{◌≡◌, ℕ, ◌+◌, ◌≤◌, List, ◌∷◌, ◌++◌, length, take, true, Result, Ok, Err, OnOk, OnErr, refl, sym, ap, subst}
use Rattle.std.proofs.Common.{◌∙◌, arith}
use Rattle.std.proofs.lemmas.List.{length-append}
use Rattle.std.proofs.lemmas.Result.{on_ok_weaker}
use Rattle.tt_frame.specs.Packet.{packet, largest_packet}
use Rattle.tt_frame.specs.declared.memory.OutOfMemory.{OutOfMemory}
use Rattle.tt_frame.specs.Tables.{rule_of, SpelledBy}
use Rattle.tt_frame.specs.Apart.{PartedFits, made_of}
use Rattle.tt_frame.specs.Said.{Said, each_said, said_bytes}
use Rattle.tt_frame.specs.Families.{Family, family_kind, family_body, family_said, if_done, Tells, TellsThese}
use Rattle.tt_frame.proofs.ApartLaws.{AllApart, values_spell, one_spelling}
use Rattle.tt_frame.proofs.SizeLaws.{is_short, body_size}
use Rattle.tt_frame.proofs.SaidLaws.{row_bytes}
use Rattle.tt_frame.proofs.PartLaws.{sealed_is}
use Rattle.tt_frame.specs.Parts.{sealed}

-- made again by its line
abbrev pub remade : {M : Type 0} → Family M → M → M
remade family m = let l = rule_of family.table (family.apart m).kind in made_of l.fields l.make (family.apart m).values

abbrev pub spelling : {M : Type 0} → Family M → M → ℕ × List ℕ
spelling family m = (family_kind family m, family_body family m)

pub record Lawful {M : Type 0} (family : Family M) : Type 0 where
  pub same : (m : M) → remade family m ≡ m
  pub apart : AllApart (spelling family) family.table
  pub short : is_short 32764 family.table ≡ true

family_spells : (M : Type 0) (family : Family M) → Lawful family → (m : M) → PartedFits family.table (family.apart m)
    → SpelledBy family.table m (family_kind family m) (family_body family m)
family_spells M family lawful m fits =
    let l = rule_of family.table (family_kind family m) in
    subst (λ (n : M). SpelledBy family.table n (family_kind family m) (family_body family m)) (lawful.same m) (values_spell M l.fields
    l.make (family.apart m).values fits)

pub spelled_size : (M : Type 0) (family : Family M) → Lawful family → (m : M) (kind : ℕ) (body : List ℕ)
    → SpelledBy family.table m kind body → length body + 3 ≤ largest_packet
spelled_size M family lawful m kind body spelled = omega (arith, body_size M 32764 family.table m kind body lawful.short spelled)

pub same_spelling : (M : Type 0) (family : Family M) → Lawful family → (m : M) (kind other : ℕ) (body bytes : List ℕ)
    → SpelledBy family.table m kind body → SpelledBy family.table m other bytes → (kind ≡ other) × (body ≡ bytes)
same_spelling M family lawful m kind other body bytes one two =
    let a = one_spelling M (spelling family) family.table m kind body lawful.apart one in
    let b = one_spelling M (spelling family) family.table m other bytes lawful.apart two in
    let same : (kind, body) ≡ (other, bytes) = sym a ∙ b in
    (ap (λ (p : ℕ × List ℕ). p.0) same, ap (λ (p : ℕ × List ℕ). p.1) same)

-- what a message tells, as bytes
pub family_bytes : (M : Type 0) (family : Family M) (m : M) → each_said said_bytes (family_said family m) ≡ 0 ∷ 0 ∷ family_kind family m ∷
    family_body family m
family_bytes M family m = ap (λ (s : List ℕ). 0 ∷ 0 ∷ family_kind family m ∷ s)
    (row_bytes (rule_of family.table (family.apart m).kind).fields (family.apart m).values)

-- the parts of what stays shut
told_fits : (M : Type 0) (family : Family M) (word : Said → List ℕ) (m : M) (r : Result (Unit {0}) OutOfMemory) (before after : List ℕ)
    → Tells family word m r before after → PartedFits family.table (family.apart m)
unfolding Tells
told_fits M family word m r before after told = told.0

pub told_spells : (M : Type 0) (family : Family M) → Lawful family → (m : M) (r : Result (Unit {0}) OutOfMemory) (before after : List ℕ)
    → Tells family said_bytes m r before after → SpelledBy family.table m (family_kind family m) (family_body family m)
told_spells M family lawful m r before after told =
    family_spells M family lawful m (told_fits M family said_bytes m r before after told)

pub told_size : (M : Type 0) (family : Family M) → Lawful family → (m : M) (r : Result (Unit {0}) OutOfMemory) (before after : List ℕ)
    → Tells family said_bytes m r before after → length (family_body family m) + 3 ≤ largest_packet
told_size M family lawful m r before after told =
    spelled_size M family lawful m (family_kind family m) (family_body family m) (told_spells M family lawful m r before after told)

pub if_done_is : (r : Result (Unit {0}) OutOfMemory) (x y : List ℕ) → OnOk r (x ≡ y) → x ≡ if_done r y x
unfolding if_done
if_done_is (Ok done) x y is = is
if_done_is (Err e) x y is = refl

pub is_if_done : (r : Result (Unit {0}) OutOfMemory) (x y : List ℕ) → x ≡ if_done r y x → OnOk r (x ≡ y)
unfolding if_done
is_if_done (Ok done) x y is = is
is_if_done (Err e) x y is = tt

pub told_ok : (M : Type 0) (family : Family M) (word : Said → List ℕ) (m : M) (r : Result (Unit {0}) OutOfMemory) (before after : List ℕ)
    → Tells family word m r before after → OnOk r (after ≡ before ++ each_said word (family_said family m))
unfolding Tells
told_ok M family word m r before after told = is_if_done r after (before ++ each_said word (family_said family m)) told.1

pub told_err : (M : Type 0) (family : Family M) (word : Said → List ℕ) (m : M) (r : Result (Unit {0}) OutOfMemory) (before after : List ℕ)
    → Tells family word m r before after → OnErr r (take (length before) after ≡ before)
unfolding Tells
told_err M family word m r before after told = told.2

-- the bytes that were written, with zeros for the size
pub told_bytes : (M : Type 0) (family : Family M) (m : M) (r : Result (Unit {0}) OutOfMemory) (before after : List ℕ)
    → Tells family said_bytes m r before after → OnOk r (after ≡ before ++ 0 ∷ 0 ∷ family_kind family m ∷ family_body family m)
told_bytes M family m r before after told = on_ok_weaker r (λ is. is ∙ ap (λ (s : List ℕ). before ++ s) (family_bytes M family m))
    (told_ok M family said_bytes m r before after told)

-- so they are no less than a packet's head, and no more than a packet has room for
room : (M : Type 0) (family : Family M) → Lawful family → (m : M) (r : Result (Unit {0}) OutOfMemory) (before after : List ℕ)
    → Tells family said_bytes m r before after
    → OnOk r ((length before + 3 ≤ length after) × (length after ≤ length before + largest_packet))
room M family lawful m r before after told =
    let size = told_size M family lawful m r before after told in
    on_ok_weaker r
    (λ is. let n : length after ≡ length before + (length (family_body family m) + 3) = omega (
      arith,
      ap length is,
      length-append before (0 ∷ 0 ∷ family_kind family m ∷ family_body family m),
    ) in (omega arith, omega arith))
    (told_bytes M family m r before after told)

-- the same of vectors whose lengths are start and n
pub head_stands : (M : Type 0) (family : Family M) → Lawful family → (m : M) (r : Result (Unit {0}) OutOfMemory) (before after : List ℕ)
    {start n : ℕ} → start ≡ length before → n ≡ length after → Tells family said_bytes m r before after → OnOk r (start + 3 ≤ n)
head_stands M family lawful m r before after here there told =
    on_ok_weaker r (λ size. omega (arith, here, there, size.0)) (room M family lawful m r before after told)

pub has_room : (M : Type 0) (family : Family M) → Lawful family → (m : M) (r : Result (Unit {0}) OutOfMemory) (before after : List ℕ)
    {start n : ℕ} → start ≡ length before → n ≡ length after → Tells family said_bytes m r before after
    → OnOk r (n ≤ start + largest_packet)
has_room M family lawful m r before after here there told =
    on_ok_weaker r (λ size. omega (arith, here, there, size.1)) (room M family lawful m r before after told)

-- ---- the size is written last

-- where all was written, the packet stands behind what stood before
pub sealed_ok : (M : Type 0) (family : Family M) (m : M) (r q : Result (Unit {0}) OutOfMemory) (start : ℕ) (before written after : List ℕ)
    → start ≡ length before → q ≡ r → Tells family said_bytes m r before written → OnOk q (after ≡ sealed start written)
    → OnOk q (after ≡ before ++ packet (family_kind family m) (family_body family m))
sealed_ok M family m r q start before written after here same told sealing =
    both q (subst (λ (p : Result (Unit {0}) OutOfMemory). OnOk p (written ≡ before ++ 0 ∷ 0 ∷ family_kind family m ∷ family_body family m))
    (sym same) (told_bytes M family m r before written told)) sealing
  where
    both : (p : Result (Unit {0}) OutOfMemory) → OnOk p (written ≡ before ++ 0 ∷ 0 ∷ family_kind family m ∷ family_body family m)
        → OnOk p (after ≡ sealed start written) → OnOk p (after ≡ before ++ packet (family_kind family m) (family_body family m))
    both (Ok done) is end =
        end ∙ ap (λ (n : ℕ). sealed n written) here ∙ sealed_is before (family_kind family m) (family_body family m) written is
    both (Err e) is end = tt

-- where memory ran out, all that was written is gone
pub sealed_err : (M : Type 0) (family : Family M) (m : M) (r q : Result (Unit {0}) OutOfMemory) (start : ℕ) (before written after : List ℕ)
    → start ≡ length before → q ≡ r → Tells family said_bytes m r before written → OnErr q (after ≡ take start written)
    → OnErr q (after ≡ before)
sealed_err M family m r q start before written after here same told cut =
    both q (subst (λ (p : Result (Unit {0}) OutOfMemory). OnErr p (take (length before) written ≡ before)) (sym same)
    (told_err M family said_bytes m r before written told)) cut
  where
    both : (p : Result (Unit {0}) OutOfMemory) → OnErr p (take (length before) written ≡ before) → OnErr p (after ≡ take start written)
        → OnErr p (after ≡ before)
    both (Ok done) kept end = tt
    both (Err e) kept end = end ∙ ap (λ (n : ℕ). take n written) here ∙ kept

-- the number under which a message is spelled is its number
pub kind_is : (M : Type 0) (family : Family M) → Lawful family → (m : M) (kind : ℕ) (body : List ℕ) → SpelledBy family.table m kind body
    → family_kind family m ≡ kind
kind_is M family lawful m kind body spelled =
    ap (λ (p : ℕ × List ℕ). p.0) (one_spelling M (spelling family) family.table m kind body lawful.apart spelled)

-- whoever told a message's parts has told the message
pub tells_these : (M : Type 0) (family : Family M) (word : Said → List ℕ) (said : List Said) (r : Result (Unit {0}) OutOfMemory)
    (before after : List ℕ) → after ≡ if_done r (before ++ each_said word said) after → OnErr r (take (length before) after ≡ before)
    → TellsThese family word said r before after
unfolding Tells
tells_these M family word said r before after told kept m v same parts fits =
    subst (λ (n : M). Tells family word n r before after) (sym same)
    (fits, told ∙ ap (λ (s : List Said). if_done r (before ++ each_said word s) after) (sym parts), kept)
