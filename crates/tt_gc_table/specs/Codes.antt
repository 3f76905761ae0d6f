-- How codes, secrets and tokens are drawn.
use Rattle.std.specs.Prelude.{ℕ, zero, suc, ◌+◌, List, [], ◌∷◌, ◌++◌, ◌==◌, length, drop, reverse, Option, Some, None, is_some}
use Rattle.std.specs.Prelude.{if◌then◌else◌}
use Rattle.std.specs.Fmt.{decimal}
use Rattle.std.specs.Prelude.{◌≡◌, false}
use Rattle.tt_attempts.specs.Codes.{alphabet, words_behind, drawn_characters, drawn_code}
use Rattle.tt_gc_table.specs.Table.{Table, Drawn, drawn_by, server_by}

-- the character after this one in the alphabet; none after the last one
abbrev pub follower : List ℕ → ℕ → Option ℕ
follower [] c = None
follower (x ∷ []) c = None
follower (x ∷ y ∷ more) c = if x == c then Some y else follower (y ∷ more) c

-- A code counted on by one, its last character first: where that was the last one of the alphabet it becomes the first one,
-- and the next one is counted on.
abbrev pub carried : Option ℕ → List ℕ → List ℕ → List ℕ
carried (Some next) cs more = next ∷ cs
carried None cs more = 65 ∷ more

abbrev pub counted_on : List ℕ → List ℕ
counted_on [] = []
counted_on (c ∷ cs) = carried (follower alphabet c) cs (counted_on cs)

-- the next code in counting order
abbrev pub next_code : List ℕ → List ℕ
next_code code = 43 ∷ reverse (counted_on (reverse (drop 1 code)))

-- the code, or else the first one after it that was not drawn before, within so many steps
abbrev pub undrawn : ℕ → Table → List ℕ → List ℕ
undrawn zero t code = code
undrawn (suc n) t code = if is_some (drawn_by t code) then undrawn n t (next_code code) else code

-- a new code; as many steps as there are drawn ones pass them all
abbrev pub new_code : Table → List ℕ
new_code t = undrawn (length t.drawn) t (drawn_code t.words)

-- its secret, drawn after it
abbrev pub new_secret : Table → List ℕ
new_secret t = drawn_characters 32 (words_behind 6 t.words)

abbrev pub behind_code : Table → Table
behind_code t = record t { words = words_behind 38 t.words }

-- the next attempt's token: eight characters, and its number in decimal
abbrev pub new_token : Table → List ℕ
new_token t = drawn_characters 8 t.words ++ decimal (t.attempts + 1)

abbrev pub behind_token : Table → Table
behind_token t = record t { words = words_behind 8 t.words; attempts = t.attempts + 1 }

-- this code was drawn with this secret, and no server has it
pub record IsOwners (t : Table) (code secret : List ℕ) : Type 0 where
  pub kept : Drawn
  pub drawn : drawn_by t code ≡ Some kept
  pub same : kept.secret ≡ secret
  pub free : is_some (server_by t code) ≡ false
