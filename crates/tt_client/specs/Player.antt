-- A client over its calls, whatever it is that it runs by: from scratch this is all that it was told, in the code one world.
use Rattle.std.specs.Prelude.{ℕ, ◌+◌, Bool, true, false, ◌&&◌, not, nat_lt, nat_le, if◌then◌else◌, min, List, [], ◌∷◌}
use Rattle.std.specs.Prelude.{Option, Some, None}
use Rattle.tt_lockstep.specs.Told.{Told}
use Rattle.tt_game.specs.declared.message.GameMsg.{GameMsg}
use Rattle.tt_game.specs.declared.message.GameMsg.TheVariants.{ServerFrame}
use Rattle.tt_world.specs.declared.command.Entry.{Entry}
use Rattle.tt_world.specs.World.{WorldState}
use Rattle.tt_log.specs.Shown.{Place, Asking, Parted, Phase, Joining, Loaded, WrongAt, Item, Shown}
use Rattle.tt_log.specs.Shown.{item_told, place_then, goes_on, end_by, learns, nothing_shown}
use Rattle.tt_client.specs.declared.login.Login.{Login}
use Rattle.tt_client.specs.Saying.{Saying, with_bytes, with_ack, with_token, taken}
use Rattle.tt_client.specs.Answers.{joining, answer, command_bytes}
use Rattle.tt_client.specs.Calls.{Step, Hear, Run, Say, Give}

-- how it stands with what runs
pub data Mark : Type 0 where
  -- it has no map yet
  Joins : Mark
  Plays : Mark
  -- it was told its end; what is not permitted
  Ends : Mark
  Strays : Mark
  -- it is out of step: the frame, its own word, and the one that was told
  Off : (frame mine theirs : ℕ) → Mark

-- the greatest number of 64 bits
abbrev pub last_place : ℕ
last_place = 18446744073709551615

-- what a client runs by
pub record Rules (R : Type 0) : Type 0 where
  pub first : R
  pub hears : R → Told WorldState Entry → R
  pub advanced : ℕ → R → R
  pub mark : R → Mark
  -- the frame and the permitted frame, 0 before the map
  pub frame : R → ℕ
  pub permitted : R → ℕ

pub record Player (R : Type 0) : Type 0 where
  -- the place of the dialogue, and how it was ended, if it was
  pub place : Place
  pub phase : Phase
  -- its client number, and its company
  pub number : ℕ
  pub company : ℕ
  pub runs : R
  -- what waits to be said, and the frame of the last acknowledgement
  pub saying : Saying
  pub acked : Option ℕ

-- a place as it is told: one that 64 bits can't hold is told as the last one that they can
abbrev pub told_place : ℕ → ℕ
told_place at = min at last_place

-- how it stands behind an item, by how it stands with what runs then
abbrev pub phase_by : Mark → Item → Phase
phase_by Joins i = Joining
phase_by Plays i = Loaded
phase_by Ends i = end_by i.msg
phase_by Strays i = WrongAt (told_place i.at)
phase_by (Off frame mine theirs) i = Loaded

abbrev pub is_off : Mark → Bool
is_off (Off frame mine theirs) = true
is_off other = false

-- its number and its company behind a message, by what any client learns
abbrev pub learnt : Option GameMsg → ℕ → ℕ → Shown
learnt msg number company = learns msg (record nothing_shown { client = number; company = company })

-- the token that comes with a message, 0 for none
abbrev pub token_in : Option GameMsg → ℕ
token_in (Some (ServerFrame frame max token)) = token
token_in other = 0

-- what waits to be said behind a message: its answer, and the token that it brought
abbrev pub said_behind : Login → Place → Option GameMsg → Saying → Saying
said_behind login place msg s = with_token (token_in msg) (with_bytes (answer login place msg) s)

-- an acknowledgement is due: the first where the frame stands at the permitted one, a later one 74 frames above the last
abbrev pub is_due : Option ℕ → ℕ → ℕ → Bool
is_due None permitted frame = nat_le permitted frame
is_due (Some last) permitted frame = nat_le (last + 74) frame

abbrev pub acks : {R : Type 0} → Bool → ℕ → Player R → Player R
acks true frame p = record p { saying = with_ack frame p.saying; acked = Some frame }
acks false frame p = p

-- the map is there, and nothing has ended it
abbrev pub plays : Mark → Bool
plays Plays = true
plays other = false

-- what it makes of an item, by what runs then and how that stands
abbrev pub heard_as : {R : Type 0} → Login → Item → Mark → R → Player R → Player R
heard_as login i mark runs p =
    let phase = phase_by mark i in
    let on = goes_on phase && not (is_off mark) in
    record {
      place = if goes_on phase then place_then p.place i.msg else Parted;
      phase = phase;
      number = if on then (learnt i.msg p.number p.company).client else p.number;
      company = if on then (learnt i.msg p.number p.company).company else p.company;
      runs = runs;
      saying = if on then said_behind login p.place i.msg p.saying else p.saying;
      acked = p.acked;
    }

abbrev pub run_as : {R : Type 0} → ℕ → ℕ → ℕ → R → Player R → Player R
run_as old frame permitted runs p = acks (nat_lt old frame && is_due p.acked permitted frame) frame (record p { runs = runs })

module _ {R : Type 0} (rules : Rules R) (login : Login) where
  -- it joins
  abbrev pub joined : Player R
  joined = record {
    place = Asking;
    phase = Joining;
    number = 0;
    company = 255;
    runs = rules.first;
    saying = record { begun = []; before = joining login; ack = None; behind = []; owed = 0 };
    acked = None;
  }

  -- it was neither ended, nor told what is not permitted, nor is it out of step
  abbrev pub is_on : Player R → Bool
  is_on p = goes_on p.phase && not (is_off (rules.mark p.runs))

  abbrev pub heard : Item → Player R → Player R
  heard i p = let runs = rules.hears p.runs (item_told p.place i.msg) in if is_on p then heard_as login i (rules.mark runs) runs p else p

  abbrev pub advanced : ℕ → Player R → Player R
  advanced n p = let runs = rules.advanced n p.runs in if is_on p then run_as (rules.frame p.runs) (rules.frame runs) (rules.permitted
      runs) runs p else p

  abbrev pub stepped : Player R → Step → Player R
  stepped p (Hear i) = heard i p
  stepped p (Run n) = advanced n p
  stepped p (Say company command) = if is_on p && plays (rules.mark p.runs) then record p {
    saying = with_bytes (command_bytes company
        command) p.saying;
  } else p
  stepped p (Give room) = record p { saying = taken room p.saying }

  abbrev pub after : Player R → List Step → Player R
  after p [] = p
  after p (s ∷ steps) = after (stepped p s) steps

  -- and behind items, one behind the other
  abbrev pub heard_all : List Item → Player R → Player R
  heard_all [] p = p
  heard_all (i ∷ items) p = heard_all items (heard i p)
