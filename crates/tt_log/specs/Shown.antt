-- What a stream shows a client: which message it permits where, and what is made of it. Both ends stand on this one table.
use Rattle.std.specs.Prelude.{ℕ, ◌+◌, Bool, true, false, not, ◌==◌, nat_le, cond, if◌then◌else◌, List, [], ◌∷◌, ◌++◌, fold, length, Option}
use Rattle.std.specs.Prelude.{Some, None}
use Rattle.std.specs.Result.{result_ok}
use Rattle.tt_frame.specs.Packet.{Packet, size_of}
use Rattle.tt_frame.specs.Stream.{End, rest_of, bad_size}
use Rattle.tt_frame.specs.StreamReading.{reading}
use Rattle.tt_lockstep.specs.Told as told
use Rattle.tt_lockstep.specs.Told.{Told}
use Rattle.tt_lockstep.specs.Dialog.{Dialog}
use Rattle.tt_lockstep.specs.Shown as lockstep
use Rattle.tt_game.specs.declared.message.GameMsg.{GameMsg}
use Rattle.tt_game.specs.declared.message.GameMsg.TheVariants.{ServerFull, ServerBanned, ServerError, ServerGameInfo, ServerCheckNewgrfs}
use Rattle.tt_game.specs.declared.message.GameMsg.TheVariants.{ServerNeedGamePassword, ServerNeedCompanyPassword, ServerWelcome, ServerWait}
use Rattle.tt_game.specs.declared.message.GameMsg.TheVariants.{ServerMapBegin, ServerMapSize, ServerMapData, ServerMapDone, ServerJoin}
use Rattle.tt_game.specs.declared.message.GameMsg.TheVariants.{ServerFrame, ServerSync, ServerCommand, ServerChat, ServerClientInfo}
use Rattle.tt_game.specs.declared.message.GameMsg.TheVariants.{ServerMove, ServerErrorQuit, ServerQuit, ServerShutdown}
use Rattle.tt_world.specs.declared.command.Command.{Command}
use Rattle.tt_world.specs.declared.command.Entry.{Entry}
use Rattle.tt_world.specs.World.{WorldState}
use Rattle.tt_map.specs.Reading.{map_in}
use Rattle.tt_rules.specs.Codes.{kicked}
use Rattle.tt_rules.specs.Commands.{command_of}
use Rattle.tt_log.specs.Origin.{Origin, game_of}
use Rattle.tt_log.specs.Judged.{is_empty}
use Rattle.tt_log.specs.Events.{read_msg}

-- ---- the places of a dialogue

-- how far a client has come by what it was told
pub data Place : Type 0 where
  -- it has asked to join
  Asking : Place
  -- it is welcome
  Greeted : Place
  -- a map of this frame begins
  Begun : (frame : ℕ) → Place
  -- its map has so many bytes, and these have come
  Fetching : (frame size : ℕ) → (come : List ℕ) → Place
  -- it has its map, and plays
  InPlay : Place
  -- it was told its end
  Parted : Place

-- ---- what each message tells at its place

-- at most so many bytes has a map
abbrev pub most_map : ℕ
most_map = 65536

-- something that changes nothing here, where a test holds; else what is not permitted
abbrev pub other_if : Bool → Told WorldState Entry
other_if true = told.Other
other_if false = told.Stray

-- the map, where the bytes are one
abbrev pub map_told : ℕ → Option WorldState → Told WorldState Entry
map_told frame (Some w) = told.Map frame w
map_told frame None = told.Stray

-- a whole map, where as many bytes have come as were said
abbrev pub whole_map : Bool → ℕ → List ℕ → Told WorldState Entry
whole_map true frame come = map_told frame (result_ok (map_in come))
whole_map false frame come = told.Stray

-- an entry, where its code is known
abbrev pub entry_told : Option Command → ℕ → ℕ → ℕ → Told WorldState Entry
entry_told (Some command) company frame sender = told.Command (record {
  frame = frame;
  sender = sender;
  company = company;
  command =
      command;
})
entry_told None company frame sender = told.Stray

-- before the welcome
abbrev pub told_asking : GameMsg → Told WorldState Entry
told_asking ServerFull = told.End
told_asking ServerBanned = told.End
told_asking (ServerError code) = told.End
told_asking (ServerGameInfo name frame clients companies max password) = told.Other
told_asking (ServerCheckNewgrfs items) = other_if (length items == 0)
told_asking (ServerNeedGamePassword seed id) = other_if (not (is_empty id))
told_asking (ServerNeedCompanyPassword seed id) = other_if (not (is_empty id))
told_asking (ServerWelcome client seed id) = told.Other
told_asking ServerShutdown = told.End
told_asking other = told.Stray

-- after the welcome
abbrev pub told_greeted : GameMsg → Told WorldState Entry
told_greeted (ServerWait number) = told.Other
told_greeted (ServerMapBegin frame) = told.Other
told_greeted (ServerError code) = told.End
told_greeted ServerShutdown = told.End
told_greeted other = told.Stray

-- after the begin of the map, which is of this frame
abbrev pub told_begun : GameMsg → Told WorldState Entry
told_begun (ServerMapSize size) = other_if (nat_le size most_map)
told_begun (ServerError code) = told.End
told_begun ServerShutdown = told.End
told_begun other = told.Stray

-- while the map comes: no byte past its size, and the end exactly at its size
abbrev pub told_fetching : ℕ → ℕ → List ℕ → GameMsg → Told WorldState Entry
told_fetching frame size come (ServerMapData rest) = other_if (nat_le (length come + length rest) size)
told_fetching frame size come ServerMapDone = whole_map (length come == size) frame come
told_fetching frame size come (ServerError code) = told.End
told_fetching frame size come ServerShutdown = told.End
told_fetching frame size come other = told.Stray

-- in the game. That a frame is not above the permitted one, that this does not fall, and that an entry lies above it and not
-- below the last one, is lockstep's
abbrev pub told_in_play : GameMsg → Told WorldState Entry
told_in_play (ServerClientInfo client company name) = told.Other
told_in_play (ServerJoin client) = told.Other
told_in_play (ServerFrame frame max token) = told.Frame frame max
told_in_play (ServerSync frame word) = told.Sync frame word
told_in_play (ServerCommand company code number to text frame sender) = entry_told (command_of code number to text) company frame sender
told_in_play (ServerChat client scope text) = told.Other
told_in_play (ServerMove client company) = told.Other
told_in_play (ServerError code) = told.End
told_in_play (ServerErrorQuit client code) = told.Other
told_in_play (ServerQuit client) = told.Other
told_in_play ServerShutdown = told.End
told_in_play other = told.Stray

abbrev pub told_at : Place → GameMsg → Told WorldState Entry
told_at Asking msg = told_asking msg
told_at Greeted msg = told_greeted msg
told_at (Begun frame) msg = told_begun msg
told_at (Fetching frame size come) msg = told_fetching frame size come msg
told_at InPlay msg = told_in_play msg
told_at Parted msg = told.Stray

-- ---- the place behind each message

-- the messages that move a client on
abbrev pub moves_on : Place → GameMsg → Place
moves_on Asking (ServerWelcome client seed id) = Greeted
moves_on Greeted (ServerMapBegin frame) = Begun frame
moves_on (Begun frame) (ServerMapSize size) = Fetching frame size []
moves_on (Fetching frame size come) (ServerMapData rest) = Fetching frame size (come ++ rest)
moves_on (Fetching frame size come) ServerMapDone = InPlay
moves_on place other = place

-- what was told is the end, or not permitted: behind it nothing counts
abbrev pub unless_parted : Told WorldState Entry → Place → Place
unless_parted told.End place = Parted
unless_parted told.Stray place = Parted
unless_parted _ place = place

abbrev pub place_behind : Place → GameMsg → Place
place_behind place msg = unless_parted (told_at place msg) (moves_on place msg)

-- a client's dialogue with a server, from messages to things told
abbrev pub dialog : Dialog Place GameMsg WorldState Entry
dialog = record { first = Asking; next = place_behind; thing = told_at }

-- ---- what stands in a stream

-- what begins at a byte of a stream: a packet, with the message that it spells if it spells one, or a bad size
pub record Item : Type 0 where
  pub at : ℕ
  pub msg : Option GameMsg

-- packets from a byte on, one behind the other, and a bad size where one stands behind them
abbrev pub items_from : ℕ → List Packet → End → List Item
items_from at [] (rest_of rest) = []
items_from at [] (bad_size n) = record { at = at; msg = None } ∷ []
items_from at (p ∷ packets) end = record { at = at; msg = read_msg p.kind p.body } ∷ items_from (at + size_of p) packets end

abbrev pub items_in : List ℕ → List Item
items_in bytes = let read = reading 32767 bytes in items_from 0 read.0 read.1

-- what an item tells at a place of the dialogue: one without a message tells what is not permitted
abbrev pub item_told : Place → Option GameMsg → Told WorldState Entry
item_told place None = told.Stray
item_told place (Some msg) = told_at place msg

abbrev pub place_then : Place → Option GameMsg → Place
place_then place None = Parted
place_then place (Some msg) = place_behind place msg

-- the things that items tell, one behind the other
abbrev pub things_of : Place → List Item → List (Told WorldState Entry)
things_of place [] = []
things_of place (i ∷ items) = item_told place i.msg ∷ things_of (place_then place i.msg) items

-- the things that a stream tells, from its beginning
abbrev pub things_in : List ℕ → List (Told WorldState Entry)
things_in bytes = things_of Asking (items_in bytes)

-- ---- what a stream shows

-- how a client stands by what it was told
pub data Phase : Type 0 where
  -- it has no map yet
  Joining : Phase
  -- it has its map, and plays
  Loaded : Phase
  -- it was ended with a code
  EndedWith : (code : ℕ) → Phase
  -- the game was over
  ShutDown : Phase
  -- what begins at this byte of its stream is not permitted there
  WrongAt : (at : ℕ) → Phase

-- what a client was shown
pub record Shown : Type 0 where
  pub phase : Phase
  -- where the dialogue stands
  pub place : Place
  -- once it has its map: the map's world and frame, the permitted frame, the commands, and the words to compare
  pub seen : lockstep.Shown WorldState Entry
  -- its client number, 0 before the welcome
  pub client : ℕ
  -- its own company, 255 before one is named
  pub company : ℕ

-- before the first item
abbrev pub nothing_shown : Shown
nothing_shown = record { phase = Joining; place = Asking; seen = lockstep.Joining; client = 0; company = 255 }

-- it was not ended, nor told what is not permitted
abbrev pub goes_on : Phase → Bool
goes_on Joining = true
goes_on Loaded = true
goes_on _ = false

-- the code of a server that is full
abbrev pub server_full : ℕ
server_full = 14

-- a client learns its number by its welcome, and its company wherever this number is named with one
abbrev pub learns : Option GameMsg → Shown → Shown
learns (Some (ServerWelcome client seed id)) s = record s { client = client }
learns (Some (ServerClientInfo client company name)) s = record s { company = cond (client == s.client) company s.company }
learns (Some (ServerMove client company)) s = record s { company = cond (client == s.client) company s.company }
learns _ s = s

-- how a client ends by a message that tells its end: by a code, or because the game is over
abbrev pub end_by : Option GameMsg → Phase
end_by (Some ServerFull) = EndedWith server_full
end_by (Some ServerBanned) = EndedWith kicked
end_by (Some (ServerError code)) = EndedWith code
end_by _ = ShutDown

-- the phase behind an item, by what lockstep sees then
abbrev pub phase_by : lockstep.Shown WorldState Entry → Item → Phase
phase_by lockstep.Joining i = Joining
phase_by (lockstep.Running view) i = Loaded
phase_by lockstep.EndedJoining i = end_by i.msg
phase_by (lockstep.Ended view) i = end_by i.msg
phase_by lockstep.WrongJoining i = WrongAt i.at
phase_by (lockstep.Wrong view) i = WrongAt i.at

-- an item more: what it tells is seen
abbrev pub with_item : Origin → Shown → Item → Shown
with_item o s i =
    let seen = lockstep.seen (game_of o) s.seen (item_told s.place i.msg) in
    record s { phase = phase_by seen i; place = place_then s.place i.msg; seen = seen }

-- and it is learnt from, where the client goes on by it
abbrev pub behind : Origin → Shown → Item → Shown
behind o s i = let next = with_item o s i in if goes_on next.phase then learns i.msg next else next

-- the first item that ends the client is the last one that counts
abbrev pub unless_over : Origin → Shown → Item → Shown
unless_over o s i = if goes_on s.phase then behind o s i else s

-- what a front of a stream shows its client
abbrev pub shown : Origin → List ℕ → Shown
shown o bytes = fold (unless_over o) nothing_shown (items_in bytes)
