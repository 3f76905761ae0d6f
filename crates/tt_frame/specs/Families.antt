-- A family of messages: its table, and each message taken apart. From these come the number of a message, its body, and
-- what it tells.
use Rattle.std.specs.Prelude.{◌≡◌, ℕ, List, ◌∷◌, ◌++◌, length, take, Result, Ok, Err, OnErr}
use Rattle.tt_frame.specs.Tables.{Rule, rule_of}
use Rattle.tt_frame.specs.Apart.{Parted, PartedFits, parted_body}
use Rattle.tt_frame.specs.Said.{Said, head, row_said, each_said}
use Rattle.tt_frame.specs.declared.memory.OutOfMemory.{OutOfMemory}

pub record Family (M : Type 0) : Type 0 where
  pub table : List (Rule M)
  pub apart : M → Parted table

-- the number of a message
abbrev pub family_kind : {M : Type 0} → Family M → M → ℕ
family_kind family m = (family.apart m).kind

-- the body of its packet
abbrev pub family_body : {M : Type 0} → Family M → M → List ℕ
family_body family m = parted_body family.table (family.apart m)

-- what it tells
abbrev pub family_said : {M : Type 0} → Family M → M → List Said
family_said family m =
    let p = family.apart m in head p.kind ∷ row_said (rule_of family.table p.kind).fields p.values

-- the first where a call was done, the second where memory ran out; this stays shut too
unfoldable pub if_done : {A : Type 0} → Result (Unit {0}) OutOfMemory → A → A → A
if_done (Ok done) x y = x
if_done (Err e) x y = y

-- The values of the message are in their ranges, and what is written for it stands behind what stood before; or memory ran
-- out, and what stood before still does. This stays shut, so that what is said of a variant is said of the message.
unfoldable pub Tells : {M : Type 0} → Family M → (Said → List ℕ) → M → Result (Unit {0}) OutOfMemory → List ℕ → List ℕ → Type 0
Tells family word m result before after =
    PartedFits family.table (family.apart m)
    × (after ≡ if_done result (before ++ each_said word (family_said family m)) after)
    × OnErr result (take (length before) after ≡ before)

-- What a call told that told these parts: it holds of whatever message they are the parts of, by the name v of a variant.
abbrev pub TellsThese : {M : Type 0} → Family M → (Said → List ℕ) → List Said → Result (Unit {0}) OutOfMemory → List ℕ → List ℕ → Type 0
TellsThese {M} family word said result before after =
    (m v : M) → m ≡ v → family_said family v ≡ said → PartedFits family.table (family.apart v) → Tells family word m result before after
