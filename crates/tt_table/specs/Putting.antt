-- What putting a change in force makes of what a game holds, part by part.
use Rattle.std.specs.Prelude.{◌≡◌, ℕ, ◌+◌, Bool, true, false, cond, nat_lt, List, [], drop, filter, map, not, ◌==◌, Option, Some, None}
use Rattle.std.specs.List.{list_any}
use Rattle.tt_world.specs.declared.command.Entry.{Entry}
use Rattle.tt_world.specs.World.{WorldState}
use Rattle.tt_world.specs.Economy.{framed}
use Rattle.tt_lockstep.specs.Journal.{applied_all}
use Rattle.tt_log.specs.Admin.{Admin}
use Rattle.tt_log.specs.Origin.{Origin, game_of}
use Rattle.tt_outgoing.specs.Sources.{four_pieces}
use Rattle.tt_admin_desk.specs.Seats.{is_full}
use Rattle.tt_table.specs.declared.change.Seating.{Seating}
use Rattle.tt_table.specs.declared.change.Seating.TheVariants.{Arrive}

-- there is a seat for the admin that comes in
abbrev pub HasSeat : Seating → List Admin → Type 0
HasSeat Arrive admins = is_full admins ≡ false
HasSeat other admins = Unit {0}

-- the admins that are left where those on some connections go
abbrev pub left_by : List ℕ → List Admin → List Admin
left_by conns admins = filter (λ (a : Admin). not (list_any (λ c. c == a.conn) conns)) admins

-- a world behind an event: at a tick the entries are carried out, and a frame is run
abbrev pub ran_where : Bool → Origin → WorldState → List Entry → WorldState
ran_where true o w entries = framed (applied_all (game_of o) w entries)
ran_where false o w entries = w

-- one more at a tick
abbrev pub one_more : Bool → ℕ → ℕ
one_more true n = n + 1
one_more false n = n

-- the greatest permitted frame behind an event: it is raised where a tick passes it
abbrev pub raised : Bool → ℕ → ℕ → ℕ → ℕ
raised true freq frame top = cond (nat_lt top (frame + 1)) (frame + 1 + freq) top
raised false freq frame top = top

-- what is left of the running download: a tick tells four pieces of it
abbrev pub told_on : Bool → List ℕ → List ℕ
told_on true left = drop four_pieces left
told_on false left = left

-- and where nobody downloads any more, nothing
abbrev pub left_for : Bool → Bool → List ℕ → List ℕ
left_for true beats left = told_on beats left
left_for false beats left = []

-- where a map begins, all of it is left
abbrev pub carried_on : Option (List ℕ) → Bool → Bool → List ℕ → List ℕ
carried_on None downloads beats left = left_for downloads beats left
carried_on (Some bytes) downloads beats left = bytes

-- where the game is over the connections of these are told so
abbrev pub conns_where : {A : Type 0} → Bool → (A → ℕ) → List A → List ℕ
conns_where true conn xs = map conn xs
conns_where false conn xs = []
