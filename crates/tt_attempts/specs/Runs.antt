-- Whole runs of an attempt: what it tells for the events that it hears, in order.
use Rattle.std.specs.Prelude.{◌≡◌, Bool, true, false, not, List, [], ◌∷◌, ◌++◌, ◌==◌, nat_lt, if◌then◌else◌}
use Rattle.std.specs.List.{Contains}
use Rattle.tt_attempts.specs.declared.attempt.Ways.{Ways}
use Rattle.tt_attempts.specs.declared.attempt.Stage.{Stage}
use Rattle.tt_attempts.specs.declared.attempt.Heard.{Heard}
use Rattle.tt_attempts.specs.declared.attempt.Heard.TheVariants.{Failed, StunResult, Connected, ServerGone}
use Rattle.tt_attempts.specs.declared.attempt.Told.{Told}
use Rattle.tt_attempts.specs.declared.attempt.Told.TheVariants.{Nothing, Direct, AskStun, Stun, Turn, AllFailed}
use Rattle.tt_attempts.specs.Attempts.{from_direct, stepped}

-- what the events are answered from a stage on, one answer each
abbrev pub answers : Ways → Stage → List Heard → List Told
answers ways stage [] = []
answers ways stage (h ∷ hs) = (stepped ways stage h).told ∷ answers ways (stepped ways stage h).stage hs

-- all that an attempt tells: its first word, and an answer to each event
abbrev pub told_in : Ways → List Heard → List Told
told_in ways heard = (from_direct ways).told ∷ answers ways (from_direct ways).stage heard

-- the ways among what is told
abbrev pub ways_in : List Told → List Told
ways_in [] = []
ways_in (Direct ∷ ts) = Direct ∷ ways_in ts
ways_in (AskStun ∷ ts) = AskStun ∷ ways_in ts
ways_in (Turn ∷ ts) = Turn ∷ ways_in ts
ways_in (Nothing ∷ ts) = ways_in ts
ways_in (Stun ∷ ts) = ways_in ts
ways_in (AllFailed ∷ ts) = ways_in ts

-- the ways that apply, in the order in which they are tried
abbrev pub turn_applies : Ways → List Told
turn_applies ways = if ways.turn then Turn ∷ [] else []

abbrev pub stun_applies : Ways → List Told
stun_applies ways = if ways.stun then AskStun ∷ turn_applies ways else turn_applies ways

abbrev pub applying : Ways → List Told
applying ways = if ways.direct then Direct ∷ stun_applies ways else stun_applies ways

-- the last word before this, where w is the last one before these
abbrev pub word_after : Told → List Told → Told
word_after w [] = w
word_after w (Nothing ∷ ts) = word_after w ts
word_after w (Direct ∷ ts) = word_after Direct ts
word_after w (AskStun ∷ ts) = word_after AskStun ts
word_after w (Stun ∷ ts) = word_after Stun ts
word_after w (Turn ∷ ts) = word_after Turn ts
word_after w (AllFailed ∷ ts) = word_after AllFailed ts

-- the last word of an attempt, after these events: the way that is tried, or AllFailed
abbrev pub last_word : Ways → List Heard → Told
last_word ways heard = word_after Nothing (told_in ways heard)

-- The event is the failure of the way that this word told: of each way its own, and of STUN another one once both sides
-- know where to connect.
abbrev pub fails : Told → Heard → Bool
fails Direct (Failed tracking) = tracking == 1
fails AskStun (StunResult side false) = nat_lt side 2
fails Stun (Failed tracking) = tracking == 2
fails Turn (Failed tracking) = tracking == 3
fails w h = false

-- a way, and not the second half of STUN
abbrev pub IsNewWay : Told → Type 0
IsNewWay Direct = Unit {0}
IsNewWay AskStun = Unit {0}
IsNewWay Turn = Unit {0}
IsNewWay Nothing = ⊥
IsNewWay Stun = ⊥
IsNewWay AllFailed = ⊥

-- the first of these ways, or that all failed
abbrev pub first_of : List Told → Told
first_of [] = AllFailed
first_of (t ∷ ts) = t

-- the word behind the failure of this one's way: the next way that applies
abbrev pub next_way : Ways → Told → Told
next_way ways Direct = first_of (stun_applies ways)
next_way ways AskStun = first_of (turn_applies ways)
next_way ways Stun = first_of (turn_applies ways)
next_way ways Turn = AllFailed
next_way ways Nothing = Nothing
next_way ways AllFailed = Nothing

-- The event doesn't speak of what is tried: a failure that isn't this word's, or a result that no side was asked for.
abbrev pub is_foreign : Told → Heard → Bool
is_foreign w (Failed tracking) = not (fails w (Failed tracking))
is_foreign AskStun (StunResult side ok) = not (nat_lt side 2)
is_foreign w (StunResult side ok) = true
is_foreign w Connected = false
is_foreign w ServerGone = false

-- an event that is heard behind the first ones and before the others is answered by nothing, and the others as without it
abbrev pub ChangesNothing : Ways → List Heard → Heard → List Heard → Type 0
ChangesNothing ways before h after =
    (later : List Told) → told_in ways (before ++ after) ≡ told_in ways before ++ later → told_in ways (before ++ h ∷ after) ≡ told_in ways
    before ++ Nothing ∷ later

-- Behind the word that asked for results, these events say that both sides are ok.
pub record BothOk (ways : Ways) (heard : List Heard) : Type 0 where
  pub early : List Heard
  pub late : List Heard
  pub parts : heard ≡ early ++ late
  pub asked : last_word ways early ≡ AskStun
  pub server : Contains late (StunResult 0 true)
  pub client : Contains late (StunResult 1 true)
