-- A map in pieces: each piece by its place, and what stands from a place on.
use Rattle.std.specs.Prelude.{◌≡◌, ℕ, ◌+◌, ◌≤◌, List, [], ◌∷◌, ◌++◌, length, take, drop, min, nat_lt, if◌then◌else◌}
use Rattle.std.specs.List.{flat_map}
use Rattle.tt_world.specs.World.{WorldState, company_at}
use Rattle.tt_map.specs.declared.place.Place.{Place}
use Rattle.tt_map.specs.declared.place.Place.TheVariants.{Front, CompanyAt, Between, SignAt, Back, Over}
use Rattle.tt_map.specs.declared.version.Version.TheVariants.{Second}
use Rattle.tt_map.specs.Layout.{
  u16,
  u32,
  live_from,
  company_bytes,
  sign_bytes,
  GAME,
  RAND,
  CMPY,
  SIGN,
  ENDC,
  tag_of,
  body_of,
  part_of,
  chunk,
  head,
  map_of,
}

-- the map's bytes from the signs on, and from a place on
abbrev pub signs_on : WorldState → List ℕ
signs_on w = chunk Second SIGN w.signs ++ chunk Second ENDC tt

abbrev pub from : WorldState → Place → List ℕ
from w Front = map_of w
from w (CompanyAt n) = flat_map (company_bytes Second) (live_from n (drop n w.companies)) ++ signs_on w
from w Between = signs_on w
from w (SignAt i) = flat_map sign_bytes (drop i w.signs) ++ chunk Second ENDC tt
from w Back = chunk Second ENDC tt
from w Over = []

-- the piece at a place
abbrev pub piece_at : WorldState → Place → List ℕ
piece_at w Front =
    head Second
    ++ chunk Second GAME (part_of GAME w)
    ++ chunk Second RAND (part_of RAND w)
    ++ tag_of CMPY
    ++ u32 (length (body_of Second CMPY w.companies))
    ++ length (live_from 0 w.companies)
    ∷ []
piece_at w (CompanyAt n) = flat_map (company_bytes Second) (live_from n (company_at w.companies n ∷ []))
piece_at w Between = tag_of SIGN ++ u32 (length (body_of Second SIGN w.signs)) ++ u16 (length w.signs)
piece_at w (SignAt i) = flat_map sign_bytes (take 1 (drop i w.signs))
piece_at w Back = chunk Second ENDC tt
piece_at w Over = []

-- the place behind a place
abbrev pub next : WorldState → Place → Place
next w Front = CompanyAt 0
next w (CompanyAt n) = if nat_lt n 15 then CompanyAt (n + 1) else Between
next w Between = SignAt 0
next w (SignAt i) = if nat_lt i (length w.signs) then SignAt (i + 1) else Back
next w Back = Over
next w Over = Over

-- a world, and how many bytes of its map are written
pub record Writing : Type 0 where
  pub world : WorldState
  pub written : ℕ

-- the bytes that are not written yet
abbrev pub unwritten : Writing → List ℕ
unwritten writing = drop writing.written (map_of writing.world)

-- the writing of a map, of which nothing is written yet
abbrev pub begun : WorldState → Writing
begun w = record { world = w; written = 0 }

-- how many bytes a write into so much room gives: as many as there is room for, or are left
abbrev pub size_given : ℕ → Writing → ℕ
size_given room writing = min room (length (unwritten writing))

-- the bytes that it gives
abbrev pub given : ℕ → Writing → List ℕ
given room writing = take (size_given room writing) (unwritten writing)

-- the writing behind it
abbrev pub wrote : ℕ → Writing → Writing
wrote room writing = record writing { written = writing.written + size_given room writing }

-- the bytes that writes into these rooms give, one after another
abbrev pub all_given : List ℕ → Writing → List ℕ
all_given [] writing = []
all_given (room ∷ rooms) writing = given room writing ++ all_given rooms (wrote room writing)

-- the writing behind them
abbrev pub after_all : List ℕ → Writing → Writing
after_all [] writing = writing
after_all (room ∷ rooms) writing = after_all rooms (wrote room writing)

-- where the writing of a map stands: so many bytes of the piece at a place are written, and all before it
pub record IsAt (w : WorldState) (written : ℕ) (place : Place) (within : ℕ) : Type 0 where
  pub inside : within ≤ length (piece_at w place)
  pub few : written ≤ length (map_of w)
  pub rest : drop within (from w place) ≡ drop written (map_of w)
