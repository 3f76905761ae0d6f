-- What is kept of the bytes that came, and that it is enough for what comes behind them.
use Rattle.std.specs.Prelude.{◌≡◌, ℕ, ◌≤◌, ◌||◌, Bool, false, List, [], ◌++◌, length, drop, if◌then◌else◌}
use Rattle.tt_frame.specs.Packet.{IsBytes}
use Rattle.tt_admin_run.specs.declared.hearing.Notes.{Notes}
use Rattle.tt_admin_run.specs.Telling.{told_at, told, comes, is_welcome, is_refusal, is_shutdown}

-- the text of bytes behind what was noted: none behind bytes that are bad
abbrev pub told_behind : Notes → List ℕ → List ℕ
told_behind n bytes = if n.broken then [] else told_at n.place bytes

-- whether such a packet stands in bytes behind what was noted
abbrev pub comes_behind : (ℕ → Bool) → Notes → List ℕ → Bool
comes_behind is n bytes = if n.broken then false else comes is bytes

-- Some bytes were passed, and their text was told: with any bytes behind them, what was noted then and the rest tell the same as
-- what was noted before and all of them.
pub record Passes (n n' : Notes) (bytes rest text : List ℕ) : Type 0 where
  pub told : (more : List ℕ) → IsBytes more → told_behind n (bytes ++ more) ≡ text ++ told_behind n' (rest ++ more)
  pub welcome : (more : List ℕ) → IsBytes more
      → (n.welcome || comes_behind is_welcome n (bytes ++ more)) ≡ (n'.welcome || comes_behind is_welcome n' (rest ++ more))
  pub refused : (more : List ℕ) → IsBytes more
      → (n.refused || comes_behind is_refusal n (bytes ++ more)) ≡ (n'.refused || comes_behind is_refusal n' (rest ++ more))
  pub shutdown : (more : List ℕ) → IsBytes more
      → (n.shutdown || comes_behind is_shutdown n (bytes ++ more)) ≡ (n'.shutdown || comes_behind is_shutdown n' (rest ++ more))

-- nothing that is whole is left
pub record IsSettled (n : Notes) (rest : List ℕ) : Type 0 where
  pub told : told_behind n rest ≡ []
  pub none : (is : ℕ → Bool) → comes_behind is n rest ≡ false

-- all that is whole was passed: so many bytes of the front
pub record Hears (n n' : Notes) (bytes text : List ℕ) (taken : ℕ) : Type 0 where
  pub within : taken ≤ length bytes
  pub passes : Passes n n' bytes (drop taken bytes) text
  pub settled : IsSettled n' (drop taken bytes)

-- all bytes of a link so far, what was told of them, what was noted, and what is left
pub record Heard (read text : List ℕ) (n : Notes) (rest : List ℕ) : Type 0 where
  pub told : (more : List ℕ) → IsBytes more → told (read ++ more) ≡ text ++ told_behind n (rest ++ more)
  pub welcome : (more : List ℕ) → IsBytes more → comes is_welcome (read ++ more) ≡ (n.welcome || comes_behind is_welcome n (rest ++ more))
  pub refused : (more : List ℕ) → IsBytes more → comes is_refusal (read ++ more) ≡ (n.refused || comes_behind is_refusal n (rest ++ more))
  pub shutdown : (more : List ℕ) → IsBytes more
      → comes is_shutdown (read ++ more) ≡ (n.shutdown || comes_behind is_shutdown n (rest ++ more))
  pub settled : IsSettled n rest
