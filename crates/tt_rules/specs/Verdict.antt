-- What a packet is judged by what is known of its member alone.
use Rattle.std.specs.Prelude.{ℕ, Bool, true, false, not, ◌||◌, ◌==◌, nat_lt, nat_le, List, Option, Some, None}
use Rattle.tt_game.specs.declared.message.GameMsg.{GameMsg}
use Rattle.tt_game.specs.declared.message.GameMsg.TheVariants.{
  ClientJoin,
  ClientGameInfo,
  ClientNewgrfsChecked,
  ClientGamePassword,
  ClientCompanyPassword,
  ClientGetmap,
  ClientMapOk,
  ClientAck,
  ClientCommand,
  ClientChat,
  ClientSetName,
  ClientSetPassword,
  ClientMove,
  ClientError,
  ClientQuit,
}
use Rattle.tt_rules.specs.declared.status.Status.{Status}
use Rattle.tt_rules.specs.declared.status.Status.TheVariants.{Inactive, NewgrfsCheck, AuthGame, AuthCompany, Authorized, DoneMap, Active}
use Rattle.tt_rules.specs.declared.status.Standing.{Standing}
use Rattle.tt_rules.specs.declared.status.Verdict.{Verdict}
use Rattle.tt_rules.specs.declared.status.Verdict.TheVariants.{Allowed, Ends}
use Rattle.tt_rules.specs.Codes.{not_expected, company_mismatch, kicked, too_many_commands}
use Rattle.tt_rules.specs.Reasons.{◌⇒◌, ◌or_else◌}
use Rattle.tt_rules.specs.Statuses.{is_at, is_playing}
use Rattle.tt_rules.specs.Companies.{is_living}
use Rattle.tt_rules.specs.Commands.{is_own_code}

-- ---- the statuses

-- the statuses in which a packet is permitted; a server's packet is permitted in none
abbrev pub permits : GameMsg → Status → Bool
permits (ClientJoin revision grf name company) status = is_at Inactive status
permits ClientGameInfo status = is_at Inactive status
permits ClientNewgrfsChecked status = is_at NewgrfsCheck status
permits (ClientGamePassword digest) status = is_at AuthGame status
permits (ClientCompanyPassword digest) status = is_at AuthCompany status
permits ClientGetmap status = is_at Authorized status
permits ClientMapOk status = is_at DoneMap status
permits (ClientAck frame token) status = is_playing status
permits (ClientCommand company code number to text) status = is_playing status
permits (ClientChat scope to text) status = is_at Active status
permits (ClientSetName name) status = is_at Active status
permits (ClientSetPassword digest) status = is_at Active status
permits (ClientMove company digest) status = is_at Active status
permits (ClientError code) status = true
permits ClientQuit status = true
permits other status = false

-- ---- the refusals of a packet that its status permits, in their order

-- no company: a spectator's
abbrev pub spectator : ℕ
spectator = 255

-- an acknowledgement below the last one, or above the greatest permitted frame told, and then a token that is neither 0
-- nor the open one
abbrev pub ack_refusal : Standing → ℕ → ℕ → Option ℕ
ack_refusal s frame token =
    nat_lt frame s.acked || nat_lt s.told frame ⇒ not_expected or_else not ((token == 0) || (token == s.token)) ⇒ not_expected

abbrev pub command_refusal : Standing → List Bool → ℕ → ℕ → Option ℕ
command_refusal s live company code =
    nat_le 16 s.waiting ⇒ too_many_commands
    or_else nat_lt 8 code ⇒ not_expected
    or_else is_own_code code ⇒ kicked
    or_else not (is_living live company) ⇒ kicked
    or_else not (company == s.company) ⇒ company_mismatch

-- the password of no company
abbrev pub set_password_refusal : Standing → Option ℕ
set_password_refusal s = nat_lt 14 s.company ⇒ company_mismatch

-- into no company that lives, and not out of companies
abbrev pub move_refusal : List Bool → ℕ → Option ℕ
move_refusal live company = not ((company == spectator) || is_living live company) ⇒ company_mismatch

abbrev pub refusal : Standing → List Bool → GameMsg → Option ℕ
refusal s live (ClientAck frame token) = ack_refusal s frame token
refusal s live (ClientCommand company code number to text) = command_refusal s live company code
refusal s live (ClientSetPassword digest) = set_password_refusal s
refusal s live (ClientMove company digest) = move_refusal live company
refusal s live other = None

-- ---- the verdict

-- allowed, where there is no reason against it
abbrev pub verdict_of : Option ℕ → Verdict
verdict_of None = Allowed
verdict_of (Some code) = Ends code

-- first the status is looked at
abbrev pub first_reason : Bool → Option ℕ → Option ℕ
first_reason true refused = refused
first_reason false refused = Some not_expected

abbrev pub verdict : Standing → List Bool → GameMsg → Verdict
verdict s live msg = verdict_of (first_reason (permits msg s.status) (refusal s live msg))
