-- Which tokens a connection was told, which it gave back, and which one is open.
use Rattle.std.specs.Prelude.{ℕ, Bool, true, false, cond, ◌&&◌, ◌==◌, List, [], ◌∷◌, ◌++◌, flat_map, Option, Some, None}
use Rattle.tt_edge.specs.declared.event.Event.{Event}
use Rattle.tt_edge.specs.declared.event.Event.TheVariants.{Packet}
use Rattle.tt_game.specs.declared.message.GameMsg.{GameMsg}
use Rattle.tt_game.specs.declared.message.GameMsg.TheVariants.{ClientAck, ServerFrame}
use Rattle.tt_rules.specs.declared.status.Verdict.{Verdict}
use Rattle.tt_rules.specs.declared.status.Verdict.TheVariants.{Allowed, Ends}
use Rattle.tt_log.specs.Member.{Member}
use Rattle.tt_log.specs.Origin.{Origin}
use Rattle.tt_log.specs.Table.{Table, first, member_of}
use Rattle.tt_log.specs.Deed.{Said, game}
use Rattle.tt_log.specs.Judged.{judged}
use Rattle.tt_log.specs.Events.{read_msg, takes, stepped}
use Rattle.tt_log.specs.Told.{heard}

-- a token, or none: 0 is none
abbrev pub some_token : ℕ → List ℕ
some_token token = cond (token == 0) [] (token ∷ [])

-- the open token of a member, if one is open
abbrev pub open_token : Member → List ℕ
open_token m = some_token m.token

-- ---- the tokens that a connection was told

-- FRAME alone tells one
abbrev pub token_of : Said → List ℕ
token_of (game (ServerFrame frame top token)) = some_token token
token_of other = []

-- all that it was told, in order
abbrev pub tokens_told : Origin → List Event → ℕ → List ℕ
tokens_told o events conn = flat_map token_of (heard o events conn)

-- ---- the tokens that it gave back

-- ACK alone gives one back
abbrev pub answer_in : Option GameMsg → List ℕ
answer_in (Some (ClientAck frame token)) = some_token token
answer_in other = []

abbrev pub if_allowed : Verdict → List ℕ → List ℕ
if_allowed Allowed tokens = tokens
if_allowed (Ends code) tokens = []

-- that of a packet of a member that is allowed
abbrev pub answered_of : Origin → Table → Option Member → Option GameMsg → List ℕ
answered_of o t None said = []
answered_of o t (Some m) said = if_allowed (judged o t m said) (answer_in said)

-- only where a test holds
abbrev pub if_so : Bool → List ℕ → List ℕ
if_so true tokens = tokens
if_so false tokens = []

-- the token of a connection that an event brings back: the event is a packet of this connection that is taken
abbrev pub answered_by : Origin → Table → Event → ℕ → List ℕ
answered_by o t (Packet sender kind body) conn = if_so ((sender == conn) && takes t (Packet sender kind body))
    (answered_of o t (member_of t sender) (read_msg kind body))
answered_by o t other conn = []

abbrev pub answered_from : Origin → Table → List Event → ℕ → List ℕ
answered_from o t [] conn = []
answered_from o t (e ∷ events) conn = answered_by o t e conn ++ answered_from o (stepped o t e) events conn

-- all that it gave back, in order
abbrev pub tokens_answered : Origin → List Event → ℕ → List ℕ
tokens_answered o events conn = answered_from o (first o) events conn
