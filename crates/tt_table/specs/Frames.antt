-- Which entries a frame carries out, and what it makes of a world.
use Rattle.std.specs.Prelude.{ℕ, List, [], ◌∷◌, ◌==◌, filter, nat_lt, if◌then◌else◌}
use Rattle.tt_lockstep.specs.Journal.{applied_all}
use Rattle.tt_world.specs.declared.command.Entry.{Entry}
use Rattle.tt_world.specs.Economy.{framed}
use Rattle.tt_world.specs.World.{WorldState}
use Rattle.tt_log.specs.Origin.{Origin, game_of}

-- the entries of a frame
abbrev pub for_frame : ℕ → List Entry → List Entry
for_frame frame entries = filter (λ (e : Entry). e.frame == frame) entries

-- entries up to the first one that is for a later frame
abbrev pub front : ℕ → List Entry → List Entry
front frame [] = []
front frame (e ∷ es) = if nat_lt frame e.frame then [] else e ∷ front frame es

-- a world in which entries were carried out, and then a frame was run
abbrev pub ran : Origin → WorldState → List Entry → WorldState
ran o w entries = framed (applied_all (game_of o) w entries)
