-- An admin: a connection that came in by the side door and has not ended; and what an admin may ask to be told.
use Rattle.std.specs.Prelude.{ℕ, ◌%◌, Bool, false, not, ◌&&◌, ◌==◌, nat_lt, List, [], ◌∷◌, replicate, slice_index, bit_and}
use Rattle.std.specs.List.{list_any}

pub record Admin : Type 0 where
  pub conn : ℕ
  -- the frame of its opening
  pub since : ℕ
  -- whether its JOIN was allowed
  pub joined : Bool
  -- of each type of updates, by its number, the bits that are set
  pub bits : List ℕ

-- a connection that was just opened: no bit is set
abbrev pub new_admin : ℕ → ℕ → Admin
new_admin conn frame = record { conn = conn; since = frame; joined = false; bits = replicate 10 0 }

-- ---- the ten types of updates, by their numbers

-- the day
abbrev pub date_updates : ℕ
date_updates = 0

-- clients: they come, change and go
abbrev pub client_updates : ℕ
client_updates = 1

-- companies: they are founded and renamed
abbrev pub company_updates : ℕ
company_updates = 2

-- companies' money and loans
abbrev pub economy_updates : ℕ
economy_updates = 3

-- how many signs companies own
abbrev pub stats_updates : ℕ
stats_updates = 4

abbrev pub chat_updates : ℕ
chat_updates = 5

abbrev pub console_updates : ℕ
console_updates = 6

-- the names of the commands
abbrev pub name_updates : ℕ
name_updates = 7

-- the commands that are stamped
abbrev pub command_updates : ℕ
command_updates = 8

-- what a script of the game says; no game of these has one
abbrev pub script_updates : ℕ
script_updates = 9

-- ---- when a type is told, by bits

-- when it is asked for
abbrev pub polled_bit : ℕ
polled_bit = 1

-- at once with an event
abbrev pub automatic_bit : ℕ
automatic_bit = 64

-- the bits of the periods, each with its days: daily, weekly, monthly, quarterly and annually
abbrev pub periods : List (ℕ × ℕ)
periods = (2, 1) ∷ (4, 7) ∷ (8, 30) ∷ (16, 90) ∷ (32, 360) ∷ []

abbrev pub has_bit : ℕ → ℕ → Bool
has_bit bit bits = not (bit_and bits bit == 0)

-- the bits that may be set of each type, by its number
abbrev pub allowed_bits : List ℕ
allowed_bits = 63 ∷ 65 ∷ 65 ∷ 61 ∷ 61 ∷ 64 ∷ 64 ∷ 1 ∷ 64 ∷ 64 ∷ []

-- the bits that may be set of a type; none of a number that no type has
abbrev pub allowed_of : ℕ → ℕ
allowed_of kind = slice_index allowed_bits kind

-- a type has this number, and these are bits of those that may be set
abbrev pub may_be_told : ℕ → ℕ → Bool
may_be_told kind bits = nat_lt kind 10 && (bit_and bits (allowed_of kind) == bits)

-- a type may be asked for
abbrev pub may_be_polled : ℕ → Bool
may_be_polled kind = has_bit polled_bit (allowed_of kind)

-- ---- when an admin is told

-- it is told of a type at once
abbrev pub is_automatic : ℕ → Admin → Bool
is_automatic kind a = a.joined && has_bit automatic_bit (slice_index a.bits kind)

-- a bit is set whose period divides the day
abbrev pub is_due : ℕ → ℕ → Bool
is_due day bits = list_any (λ (p : ℕ × ℕ). has_bit p.0 bits && (day % p.1 == 0)) periods
