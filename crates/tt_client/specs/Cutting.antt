-- What is left of bytes that were fed, and what a piece adds.
use Rattle.std.specs.Prelude.{ℕ, ◌+◌, List, [], ◌∷◌, ◌++◌, None}
use Rattle.tt_frame.specs.Packet.{Packet, size_of}
use Rattle.tt_frame.specs.Stream.{End, rest_of, bad_size}
use Rattle.tt_frame.specs.StreamReading.{reading}
use Rattle.tt_log.specs.Events.{read_msg}
use Rattle.tt_log.specs.Shown.{Item, items_from}
use Rattle.tt_client.specs.Player.{told_place}

-- ---- by exact places

-- the place behind packets
abbrev pub behind : ℕ → List Packet → ℕ
behind at [] = at
behind at (p ∷ ps) = behind (at + size_of p) ps

-- how many bytes were cut off
abbrev pub cut_off : List ℕ → ℕ
cut_off bytes = behind 0 (reading 32767 bytes).0

-- what a piece adds, of the unread rest and its place alone
abbrev pub items_on : ℕ → List ℕ → List ℕ → List Item
items_on at rest piece = items_from at (reading 32767 (rest ++ piece)).0 (reading 32767 (rest ++ piece)).1

-- ---- where places are counted only as far as they are told

abbrev pub told_behind : ℕ → List Packet → ℕ
told_behind at [] = at
told_behind at (p ∷ ps) = told_behind (told_place (at + size_of p)) ps

abbrev pub told_items : ℕ → List Packet → End → List Item
told_items at [] (rest_of rest) = []
told_items at [] (bad_size n) = record { at = at; msg = None } ∷ []
told_items at (p ∷ packets) end = record { at = at; msg = read_msg p.kind p.body } ∷ told_items (told_place (at + size_of p)) packets end

-- what is unread behind all packets; behind a bad size nothing counts
abbrev pub unread : End → List ℕ
unread (rest_of rest) = rest
unread (bad_size n) = []

-- bytes that begin at a place, cut: their items, what is unread behind them, and the place at which that begins
pub record Cut : Type 0 where
  pub items : List Item
  pub rest : List ℕ
  pub at : ℕ

abbrev pub cut_at : ℕ → List ℕ → Cut
cut_at at bytes =
    let read = reading 32767 bytes in record { items = told_items at read.0 read.1; rest = unread read.1; at = told_behind at read.0 }

-- items before those of a cut
abbrev pub with_items : List Item → Cut → Cut
with_items items cut = record cut { items = items ++ cut.items }
