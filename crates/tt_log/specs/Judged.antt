-- What a packet of a member is judged, by the whole table: one that spells nothing is illegal; a message is judged first by
-- the member's standing, which the rules' crate judges, and then by each packet's further refusals in their order.
--
-- A row of the table of packets stands in four places: the statuses that permit it and the refusals by the member's standing
-- (`permits` and `refusal` of tt_rules), the refusals that need the table (`refused` below), and what it does (`does` of
-- PacketRules).
use Rattle.std.specs.Prelude.{ℕ, Bool, true, false, not, ◌&&◌, ◌||◌, ◌==◌, List, [], ◌∷◌, Option, Some, None, bytes_eq}
use Rattle.std.specs.List.{list_any}
use Rattle.tt_game.specs.declared.message.GameMsg.{GameMsg}
use Rattle.tt_game.specs.declared.message.GameMsg.TheVariants.{ClientJoin, ClientGamePassword, ClientCompanyPassword, ClientSetName}
use Rattle.tt_game.specs.declared.message.GameMsg.TheVariants.{ClientMove}
use Rattle.tt_rules.specs.declared.status.Verdict.{Verdict}
use Rattle.tt_rules.specs.declared.status.Verdict.TheVariants.{Allowed, Ends}
use Rattle.tt_rules.specs.Codes.{illegal_packet, wrong_revision, name_in_use, wrong_password, company_mismatch, invalid_client_name}
use Rattle.tt_rules.specs.Reasons.{◌⇒◌, ◌or_else◌}
use Rattle.tt_rules.specs.Companies.{is_living}
use Rattle.tt_rules.specs.Verdict.{spectator, verdict_of, verdict}
use Rattle.tt_rules.specs.Digest.{password_digest}
use Rattle.tt_log.specs.Origin.{Origin}
use Rattle.tt_log.specs.Member.{Member, standing_of}
use Rattle.tt_log.specs.Table.{Table, living_in, digest_of}
use Rattle.tt_log.specs.Names.{given_name, is_too_long}

-- ---- words of the refusals

-- no bytes
abbrev pub is_empty : List ℕ → Bool
is_empty [] = true
is_empty (b ∷ bytes) = false

-- a number is free for a new company
abbrev pub has_room : List Bool → Bool
has_room live = list_any not live

-- the company that a founder asks for: a new one
abbrev pub founder : ℕ
founder = 254

-- the companies that a client may ask for: none, a live one, or a new one where there is room
abbrev pub may_ask_for : List Bool → ℕ → Bool
may_ask_for live company = (company == spectator) || is_living live company || ((company == founder) && has_room live)

-- the NewGRF version number that goes with the revision
abbrev pub grf_version : ℕ
grf_version = 13

abbrev pub is_same_game : Origin → List ℕ → ℕ → Bool
is_same_game o revision grf = bytes_eq revision o.setup.revision && (grf == grf_version)

-- whether there is a digest, and it is the same as this one
abbrev pub is_same_digest : Option (List ℕ) → List ℕ → Bool
is_same_digest None digest = false
is_same_digest (Some one) digest = bytes_eq one digest

-- whether what is given opens a company: one without a password, or by its digest
abbrev pub opens : Option (List ℕ) → Option (List ℕ) → Bool
opens None given = true
opens (Some digest) given = is_same_digest given digest

-- ---- the refusals of each packet that its status permits, in their order

abbrev pub join_refused : Origin → List Bool → Table → Member → List ℕ → ℕ → List ℕ → ℕ → Option ℕ
join_refused o live t m revision grf name company =
    not (is_same_game o revision grf) ⇒ wrong_revision
    or_else is_empty name ⇒ invalid_client_name
    or_else not (may_ask_for live company) ⇒ company_mismatch
    or_else is_too_long (given_name t m.conn name) ⇒ name_in_use

abbrev pub game_password_refused : Origin → List ℕ → Option ℕ
game_password_refused o digest = not (bytes_eq digest (password_digest o.setup.password o.setup.id o.setup.seed)) ⇒ wrong_password

abbrev pub company_password_refused : Table → Member → List ℕ → Option ℕ
company_password_refused t m digest = not (is_same_digest (digest_of t m.asked) digest) ⇒ wrong_password

abbrev pub name_refused : Table → Member → List ℕ → Option ℕ
name_refused t m name = is_empty name ⇒ invalid_client_name or_else is_too_long (given_name t m.conn name) ⇒ name_in_use

-- a company's password is not opened
abbrev pub move_refused : Table → ℕ → Option (List ℕ) → Option ℕ
move_refused t company digest = not (opens (digest_of t company) digest) ⇒ wrong_password

-- the refusals that need more than the member alone, the live companies at hand
abbrev pub refused : Origin → List Bool → Table → Member → GameMsg → Option ℕ
refused o live t m (ClientJoin revision grf name company) = join_refused o live t m revision grf name company
refused o live t m (ClientGamePassword digest) = game_password_refused o digest
refused o live t m (ClientCompanyPassword digest) = company_password_refused t m digest
refused o live t m (ClientSetName name) = name_refused t m name
refused o live t m (ClientMove company digest) = move_refused t company digest
refused o live t m other = None

-- ---- the verdict

-- what its member's standing allows may be refused for another reason
abbrev pub unless : Verdict → Option ℕ → Verdict
unless (Ends code) refused = Ends code
unless Allowed refused = verdict_of refused

-- what a message of a member is judged where these companies live: first by its standing, and then by all else
abbrev pub judged_by : List Bool → Origin → Table → Member → GameMsg → Verdict
judged_by live o t m msg = unless (verdict (standing_of m) live msg) (refused o live t m msg)

-- what a packet of a member is judged, by the message that it spells, if it spells one
abbrev pub judged : Origin → Table → Member → Option GameMsg → Verdict
judged o t m None = Ends illegal_packet
judged o t m (Some msg) = judged_by (living_in o t) o t m msg
