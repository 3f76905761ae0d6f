-- Changes of the members, one after another.
use Rattle.std.specs.Prelude.{ℕ, ◌+◌, ◌==◌, Bool, true, false, not, ◌&&◌, cond, List, [], ◌∷◌, ◌++◌, map, filter, take, drop, Option, Some}
use Rattle.std.specs.Prelude.{None}
use Rattle.std.specs.Prelude.{position}
use Rattle.tt_world.specs.Random.{next_random}
use Rattle.tt_rules.specs.declared.status.Status.{Status}
use Rattle.tt_rules.specs.declared.status.Status.TheVariants.{Map}
use Rattle.tt_log.specs.Member.{Member, is_playing}
use Rattle.tt_log.specs.Table.{is_on}
use Rattle.tt_log.specs.Frames.{fresh_token}
use Rattle.tt_log.specs.Tick.{drawn}
use Rattle.tt_members.specs.declared.marks.Marks.{Marks}
use Rattle.tt_members.specs.declared.edit.Edit.{Edit}
use Rattle.tt_members.specs.declared.edit.Edit.TheVariants.{Mark, Begin, Draw, Permit, Move, Load, Leave, Unask}

-- ---- a member

-- the marks of a member, and a member with other marks
abbrev pub marks_of : Member → Marks
marks_of m = record {
  status = m.status;
  since = m.since;
  asked = m.asked;
  company = m.company;
  acked = m.acked;
  told = m.told;
  token = m.token;
  token_frame = m.token_frame;
  map_frame = m.map_frame;
  pieces = m.pieces;
}

abbrev pub marked : Marks → Member → Member
marked k m = record m {
  status = k.status;
  since = k.since;
  asked = k.asked;
  company = k.company;
  acked = k.acked;
  told = k.told;
  token = k.token;
  token_frame = k.token_frame;
  map_frame = k.map_frame;
  pieces = k.pieces;
}

-- its download begins at this frame
abbrev pub loading : ℕ → Member → Member
loading frame m = record m { status = Map; since = frame; map_frame = frame; pieces = 0 }

-- it is told how far it may run, with a fresh token where none is open
abbrev pub permitted_by : Bool → ℕ → ℕ → ℕ × ℕ → Member → Member
permitted_by true frame top words m = record m { told = top; token = fresh_token words; token_frame = frame }
permitted_by false frame top words m = record m { told = top }

-- it has another company
abbrev pub moved : ℕ → Member → Member
moved company m = record m { company = company }

-- so many pieces of its map were told, and it has this status
abbrev pub loaded : ℕ → Status → Member → Member
loaded pieces status m = record m { status = status; pieces = pieces }

-- ---- members and the queue

-- the members on a connection, changed
abbrev pub on : ℕ → (Member → Member) → List Member → List Member
on conn change ms = map (λ n. cond (is_on conn n) (change n) n) ms

-- whether a member is told a fresh token
abbrev pub gets_token : Member → Bool
gets_token m = is_playing m && (m.token == 0)

-- the random words behind a member that is told how far it may run
abbrev pub words_by : Member → ℕ × ℕ → ℕ × ℕ
words_by m words = cond (gets_token m) (next_random words) words

-- those that play are told how far they may run, in order of arrival
abbrev pub permitted : ℕ → ℕ → ℕ × ℕ → List Member → List Member
permitted frame top words [] = []
permitted frame top words (m ∷ ms) = cond (is_playing m) (permitted_by (m.token == 0) frame top words m) m
    ∷ permitted frame top (words_by m words) ms

-- the random words behind them all
abbrev pub words_after : List Member → ℕ × ℕ → ℕ × ℕ
words_after [] words = words
words_after (m ∷ ms) words = words_after ms (words_by m words)

-- what a change makes of the member on its connection
abbrev pub turned : Edit → Member → Member
turned (Mark conn marks) m = marked marks m
turned (Begin conn frame) m = loading frame m
turned (Move conn company) m = moved company m
turned (Load conn pieces status) m = loaded pieces status m
turned other m = m

abbrev pub members_by : Edit → List Member → List Member
members_by (Mark conn marks) ms = on conn (marked marks) ms
members_by (Begin conn frame) ms = on conn (loading frame) ms
members_by Draw ms = map drawn ms
members_by (Permit frame top words) ms = permitted frame top words ms
members_by (Move conn company) ms = on conn (moved company) ms
members_by (Load conn pieces status) ms = on conn (loaded pieces status) ms
members_by (Leave conn) ms = filter (λ n. not (is_on conn n)) ms
members_by (Unask conn) ms = ms

-- the queue without what stands at a place
abbrev pub without_place : Option ℕ → List ℕ → List ℕ
without_place None queue = queue
without_place (Some place) queue = take place queue ++ drop (place + 1) queue

-- the place of a connection
abbrev pub place_of : ℕ → List ℕ → Option ℕ
place_of conn queue = position (λ c. c == conn) queue

abbrev pub queue_by : Edit → List ℕ → List ℕ
queue_by (Unask conn) queue = without_place (place_of conn queue) queue
queue_by other queue = queue

-- all changes of a list, in order
abbrev pub members_after : List Edit → List Member → List Member
members_after [] ms = ms
members_after (e ∷ es) ms = members_after es (members_by e ms)

abbrev pub queue_after : List Edit → List ℕ → List ℕ
queue_after [] queue = queue
queue_after (e ∷ es) queue = queue_after es (queue_by e queue)
