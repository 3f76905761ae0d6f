-- Downloads: one member at a time is given the map, the others wait in order.
use Rattle.std.specs.Prelude.{ℕ, zero, suc, ◌+◌, min, ◌==◌, List, [], ◌∷◌, ◌++◌, length, drop, take, position}
use Rattle.tt_game.specs.declared.message.GameMsg.TheVariants.{ServerWait}
use Rattle.tt_rules.specs.declared.status.Status.TheVariants.{MapWait, Map}
use Rattle.tt_log.specs.declared.deed.What.TheVariants.{MapBegin}
use Rattle.tt_log.specs.Member.{Member, is_in}
use Rattle.tt_log.specs.Table.{Table, member_of, with_member, now_in}
use Rattle.tt_log.specs.Deed.{tells_what, Deed, ◌▹◌, becomes, where_, where_some, tells}

-- the member's map is that of this frame, and no piece of it was told
abbrev pub downloading : Table → Member → Member
downloading t m = record (now_in Map t m) { map_frame = t.frame; pieces = 0 }

-- its download begins
abbrev pub begins_for : Member → Table → Deed
begins_for m t = tells_what (m.conn ∷ []) MapBegin (with_member (downloading t m) t)

-- where it waits
abbrev pub begins_where : Member → Table → Deed
begins_where m t = where_ (is_in MapWait m) (begins_for m) t

abbrev pub begins : ℕ → Table → Deed
begins conn t = where_some (member_of t conn) begins_where t

-- it waits behind so many
abbrev pub waits : ℕ → ℕ → Table → Deed
waits conn before t = tells (conn ∷ []) (ServerWait (min before 255)) t

-- those that stand from a place on are told what they have become: the one at place 0 downloads, each other one waits
abbrev pub moved_up : ℕ → List ℕ → Table → Deed
moved_up place [] t = becomes t
moved_up zero (conn ∷ conns) t = begins conn t ▹ moved_up 1 conns
moved_up (suc place) (conn ∷ conns) t = waits conn (suc place) t ▹ moved_up (suc (suc place)) conns

-- a member asks for the map: it stands last
abbrev pub asks : Member → Table → Deed
asks m t = moved_up (length t.queue) (m.conn ∷ []) (record (with_member (now_in MapWait t m) t) { queue = t.queue ++ m.conn ∷ [] })

-- a place is free, and those behind it move up
abbrev pub left_place : ℕ → Table → Deed
left_place place t = let behind = drop (place + 1) t.queue in moved_up place behind (record t { queue = take place t.queue ++ behind })

-- a connection stands in the queue no longer
abbrev pub leaves_queue : ℕ → Table → Deed
leaves_queue conn t = where_some (position (λ c. c == conn) t.queue) left_place t
