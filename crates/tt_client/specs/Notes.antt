-- What is noted of the words that were told of frames to come.
use Rattle.std.specs.Prelude.{◌≡◌, ℕ, ◌≤◌, ◌==◌, Bool, true, false, List, Option, Some, None}
use Rattle.std.specs.List.{AllByRecursion}
use Rattle.std.specs.Ordering.{nat_cmp}
use Rattle.std.specs.BTreeMap.{BTreeMap, get}
use Rattle.tt_lockstep.specs.Shown.{SyncPoint}
use Rattle.tt_client.specs.declared.noted.Noted.{Noted}
use Rattle.tt_client.specs.declared.noted.Noted.TheVariants.{One, Several}

-- what is noted, by frame
abbrev pub Notes : Type 0
Notes = BTreeMap ℕ Noted

-- a word is among those that were told of a frame, by what is noted of it
abbrev pub is_among : Option Noted → ℕ → Bool
is_among None word = false
is_among (Some (One first)) word = first == word
is_among (Some Several) word = true

-- no other word than this was told
abbrev pub is_alone : Option Noted → ℕ → Bool
is_alone None word = true
is_alone (Some (One first)) word = first == word
is_alone (Some Several) word = false

-- the words that were told of frames from one on are noted
abbrev pub IsNoted : ℕ → Notes → SyncPoint → Type 0
IsNoted start noted sync = start ≤ sync.frame → is_among (get nat_cmp noted sync.frame) sync.word ≡ true

abbrev pub AreNoted : ℕ → Notes → List SyncPoint → Type 0
AreNoted start noted syncs = AllByRecursion (λ s. IsNoted start noted s) syncs

-- what was noted stays noted
abbrev pub KeepsNotes : Notes → Notes → Type 0
KeepsNotes old new = (frame word : ℕ) → is_among (get nat_cmp old frame) word ≡ true → is_among (get nat_cmp new frame) word ≡ true
