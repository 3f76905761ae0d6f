-- What the console does leaves the admins as they are.
use Rattle.std.proofs.Common.{◌≡◌, ℕ, zero, suc, ◌+◌, Bool, true, false, List, [], ◌∷◌, ◌++◌, take, drop, refl, ◌∙◌, Option, Some, None}
use Rattle.std.specs.Prelude.{◌==◌, position}
use Rattle.tt_rules.specs.Codes.{kicked}
use Rattle.tt_log.specs.Console.{ConsoleCommand, pauses, kicks, announces, clients, companies, quits, unknown, console_does, kicks_out}
use Rattle.tt_log.specs.Deed.{where_, where_some}
use Rattle.tt_log.specs.Ending.{Failing, ends, tells_farewell}
use Rattle.tt_log.specs.Member.{Member, is_in, is_welcomed}
use Rattle.tt_log.specs.Queue.{begins, begins_for, begins_where, left_place, moved_up, waits}
use Rattle.tt_log.specs.Table.{Table, member_of, member_with, without_member}
use Rattle.tt_rules.specs.declared.status.Status.TheVariants.{MapWait}

begun-kept : (b : Bool) (m : Member) (t : Table) → (where_ b (begins_for m) t).table.admins ≡ t.admins
begun-kept true m t = refl
begun-kept false m t = refl

begins-kept : (x : Option Member) (t : Table) → (where_some x begins_where t).table.admins ≡ t.admins
begins-kept None t = refl
begins-kept (Some m) t = begun-kept (is_in MapWait m) m t

moved-kept : (place : ℕ) (xs : List ℕ) (t : Table) → (moved_up place xs t).table.admins ≡ t.admins
moved-kept place [] t = refl
moved-kept zero (x ∷ xs) t = moved-kept 1 xs (begins x t).table ∙ begins-kept (member_of t x) t
moved-kept (suc place) (x ∷ xs) t = moved-kept (suc (suc place)) xs t

left-kept : (x : Option ℕ) (t : Table) → (where_some x left_place t).table.admins ≡ t.admins
left-kept None t = refl
left-kept (Some place) t =
    moved-kept place (drop (place + 1) t.queue) (record t { queue = take place t.queue ++ drop (place + 1) t.queue })

farewell-kept : (b : Bool) (m : Member) (code : ℕ) (t : Table) → (where_ b (tells_farewell (Failing code) m) t).table.admins ≡ t.admins
farewell-kept true m code t = refl
farewell-kept false m code t = refl

ends-kept : (m : Member) (code : ℕ) (t : Table) → (ends m code t).table.admins ≡ t.admins
ends-kept m code t =
    let u : Table = (where_ (is_welcomed m) (tells_farewell (Failing code) m) (without_member m.conn t)).table in
    left-kept (position (λ c. c == m.conn) u.queue) u ∙ farewell-kept (is_welcomed m) m code (without_member m.conn t)

kicks-kept : (x : Option Member) (t : Table) → (where_some x kicks_out t).table.admins ≡ t.admins
kicks-kept None t = refl
kicks-kept (Some m) t = ends-kept m kicked t

pub console-kept : (command : ConsoleCommand) (t : Table) → (console_does command t).table.admins ≡ t.admins
console-kept (pauses paused) t = refl
console-kept (kicks client) t = kicks-kept (member_with client t) t
console-kept (announces text) t = refl
console-kept clients t = refl
console-kept companies t = refl
console-kept quits t = refl
console-kept unknown t = refl
