-- The admins of a table, and what becomes of them.
use Rattle.std.specs.Prelude.{ℕ, Bool, true, false, ◌&&◌, ◌==◌, cond, nat_le, List, length, map, Option, Some, None, slice_index, slice_set}
use Rattle.tt_log.specs.Admin.{Admin, is_due}
use Rattle.tt_log.specs.Desk.{most_admins}
use Rattle.tt_log.specs.Table.{Table, with_admin}
use Rattle.tt_admin_desk.specs.declared.heard.Heard.{Heard}
use Rattle.tt_admin_desk.specs.declared.heard.Heard.TheVariants.{Joined, Bits, Leave, Ends}

-- the table whose admins are these
abbrev pub seats : List Admin → Table → Table
seats admins t = record t { admins = admins }

-- the table as a connection comes in at a frame, which is counted
abbrev pub opening : ℕ → ℕ → Table → Table
opening conn frame t = record t { openings = conn; frame = frame }

-- there is no room for another one
abbrev pub is_full : List Admin → Bool
is_full admins = nat_le most_admins (length admins)

-- an admin in the place of the one on its connection
abbrev pub placed : Admin → List Admin → List Admin
placed a admins = map (λ b. cond (b.conn == a.conn) a b) admins

-- ---- what was heard is put in force

-- what was heard of an admin leaves it there
abbrev pub stays : Heard → Bool
stays Leave = false
stays (Ends code) = false
stays other = true

-- the table behind what was heard of an admin that stays: it has joined, or its bits of a type are these
abbrev pub committed : Heard → Admin → Table → Table
committed Joined a t = with_admin (record a { joined = true }) t
committed (Bits kind bits) a t = with_admin (record a { bits = slice_set a.bits kind bits }) t
committed other a t = t

-- ---- what is told by periods

-- whether the admin on a connection, if there is one, is told of a type on a day
abbrev pub told_on : ℕ → ℕ → Option Admin → Bool
told_on day kind None = false
told_on day kind (Some a) = a.joined && is_due day (slice_index a.bits kind)
