-- The ways that are told for a token, and what its attempt hears.
use Rattle.std.specs.Prelude.{◌≡◌, ◌⊎◌, ℕ, Bool, true, nat_lt, List, [], ◌∷◌, ◌++◌, cond, filter}
use Rattle.std.specs.Str.{bytes_eq}
use Rattle.tt_edge.specs.declared.event.Event.{Event}
use Rattle.tt_coord.specs.declared.coord.CoordMsg.{CoordMsg}
use Rattle.tt_coord.specs.declared.coord.CoordMsg.TheVariants.{GcConnectFailed, GcDirectConnect, GcStunRequest, GcTurnConnect}
use Rattle.tt_attempts.specs.declared.attempt.Ways.{Ways}
use Rattle.tt_attempts.specs.declared.attempt.Heard.{Heard}
use Rattle.tt_attempts.specs.declared.attempt.Heard.TheVariants.{ServerGone}
use Rattle.tt_attempts.specs.Runs.{told_in, last_word, fails}
use Rattle.tt_attempts.specs.declared.attempt.Told as word
use Rattle.tt_attempts.specs.declared.attempt.Told.TheVariants.{Nothing, Direct, AskStun, Stun, Turn, AllFailed}
use Rattle.tt_gc_table.specs.declared.setup.GcSetup.{GcSetup}
use Rattle.tt_gc_table.specs.Table.{Table, first}
use Rattle.tt_gc_table.specs.Deed.{What, Step, msg, end, begins, hears}
use Rattle.tt_gc_table.specs.Events.{deed, stepped}

-- What a message tells for this token: a way, by its tracking number, or 4, that the attempt failed. STUN is told by its request,
-- and a step that tells both tells one way.
abbrev pub word_in : List ℕ → CoordMsg → List ℕ
word_in token (GcDirectConnect named tracking host port) = cond (bytes_eq token named) (1 ∷ []) []
word_in token (GcStunRequest named) = cond (bytes_eq token named) (2 ∷ []) []
word_in token (GcTurnConnect named tracking ticket host) = cond (bytes_eq token named) (3 ∷ []) []
word_in token (GcConnectFailed named) = cond (bytes_eq token named) (4 ∷ []) []
word_in token other = []

abbrev pub word_of : List ℕ → What → List ℕ
word_of token (msg m) = word_in token m
word_of token end = []
word_of token (begins named) = []
word_of token (hears named h) = []

-- what the attempt with this token hears
abbrev pub hears_of : List ℕ → What → List Heard
hears_of token (msg m) = []
hears_of token end = []
hears_of token (begins named) = []
hears_of token (hears named h) = cond (bytes_eq token named) (h ∷ []) []

-- how often an attempt begins with this token
abbrev pub begins_of : List ℕ → What → List ℕ
begins_of token (msg m) = []
begins_of token end = []
begins_of token (begins named) = cond (bytes_eq token named) (1 ∷ []) []
begins_of token (hears named h) = []

-- what of each step of these
abbrev pub of_steps : {A : Type 0} → (What → List A) → List Step → List A
of_steps f [] = []
of_steps f (step ∷ steps) = f step.what ++ of_steps f steps

-- all steps of events, from a table on
abbrev pub steps_from : GcSetup → Table → List Event → List Step
steps_from s t [] = []
steps_from s t (e ∷ es) = (deed s e t).told ++ steps_from s (stepped s t e) es

abbrev pub steps_of : GcSetup → List Event → List Step
steps_of s es = steps_from s (first s) es

-- what is told for a token, in order
abbrev pub words_for : GcSetup → List Event → List ℕ → List ℕ
words_for s es token = of_steps (word_of token) (steps_of s es)

-- the ways among that, by their tracking numbers
abbrev pub is_way : ℕ → Bool
is_way word = nat_lt word 4

abbrev pub ways : GcSetup → List Event → List ℕ → List ℕ
ways s es token = filter is_way (words_for s es token)

abbrev pub hearings : GcSetup → List Event → List ℕ → List Heard
hearings s es token = of_steps (hears_of token) (steps_of s es)

abbrev pub beginnings : GcSetup → List Event → List ℕ → List ℕ
beginnings s es token = of_steps (begins_of token) (steps_of s es)

-- ---- the words of an attempt, by numbers

-- what a word tells: a way, by its tracking number, or 4, that all failed
abbrev pub numbered : word.Told → List ℕ
numbered Nothing = []
numbered Direct = 1 ∷ []
numbered AskStun = 2 ∷ []
numbered Stun = []
numbered Turn = 3 ∷ []
numbered AllFailed = 4 ∷ []

abbrev pub numbers : List word.Told → List ℕ
numbers [] = []
numbers (w ∷ ws) = numbered w ++ numbers ws

-- ---- why something is told

-- What is told after the first words has a cause: among what the attempt heard is the failure of the way that was told last, by
-- that way's rule, or, for the end alone, that its server has gone.
pub record IsCaused (applying : Ways) (heard : List Heard) (before : List ℕ) (word : ℕ) : Type 0 where
  pub early : List Heard
  pub cause : Heard
  pub late : List Heard
  pub parts : heard ≡ early ++ cause ∷ late
  pub told : before ≡ numbers (told_in applying early)
  pub rule : (fails (last_word applying early) cause ≡ true) ⊎ ((word ≡ 4) × (cause ≡ ServerGone))
