-- What comes to the members, planned: one plan for each.
use Rattle.std.specs.Prelude.{◌≤◌, Bool, List}
use Rattle.tt_world.specs.declared.setup.Setup.{Setup}
use Rattle.tt_game.specs.declared.message.GameMsg.{GameMsg}
use Rattle.tt_game.specs.declared.message.GameMsg.TheVariants.{ClientJoin, ClientGameInfo, ClientGamePassword, ClientCompanyPassword}
use Rattle.tt_game.specs.declared.message.GameMsg.TheVariants.{ClientGetmap, ClientMapOk, ClientAck, ClientCommand, ClientChat}
use Rattle.tt_game.specs.declared.message.GameMsg.TheVariants.{ClientSetName, ClientSetPassword, ClientMove, ClientError, ClientQuit}
use Rattle.tt_rules.specs.Commands.{command_of}
use Rattle.tt_rules.specs.declared.status.Verdict.{Verdict}
use Rattle.tt_rules.specs.declared.status.Verdict.TheVariants.{Allowed, Ends}
use Rattle.tt_log.specs.Ending.{Quitting, Failing}
use Rattle.tt_log.specs.Judged.{judged_by}
use Rattle.tt_log.specs.Member.{Member}
use Rattle.tt_log.specs.Origin.{origin_of}
use Rattle.tt_members.specs.Crew.{Crew}
use Rattle.tt_members.specs.Planned.{Planned, nothing}
use Rattle.tt_join.specs.declared.input.Now.{Now}
use Rattle.tt_join.specs.Entering.{acknowledging, asking, ending_plan, entered, leaving_plan}
use Rattle.tt_join.specs.Joining.{bare, game_told, guest_of, joining, name_in, renaming, to_company, welcoming, with_crew}
use Rattle.tt_join.specs.Playing.{chatting, locking, moving_to, waiting}

-- a message that is allowed
abbrev pub allowed_plan : Setup → Crew → Now → Member → GameMsg → Planned
allowed_plan setup crew now m (ClientJoin revision grf name company) =
    joining setup now.frame crew.members crew.digests m (name_in crew.members m.conn name) company
allowed_plan setup crew now m ClientGameInfo = game_told setup now.frame now.live crew.members m
allowed_plan setup crew now m (ClientGamePassword digest) = to_company setup now.frame crew.members crew.digests (guest_of m)
allowed_plan setup crew now m (ClientCompanyPassword digest) = welcoming setup now.frame crew.members (guest_of m)
allowed_plan setup crew now m ClientGetmap = asking crew.queue now.frame m
allowed_plan setup crew now m ClientMapOk = entered now.frame now.top crew.tokens crew.members crew.queue m
allowed_plan setup crew now m (ClientAck frame token) = acknowledging now.frame frame token crew.members m
allowed_plan setup crew now m (ClientCommand company code number to text) = waiting m company (command_of code number to text)
allowed_plan setup crew now m (ClientChat scope to text) = chatting m.client scope to text crew.members
allowed_plan setup crew now m (ClientSetName name) = renaming crew.members m (name_in crew.members m.conn name)
allowed_plan setup crew now m (ClientSetPassword digest) = locking m digest
allowed_plan setup crew now m (ClientMove company digest) = moving_to company crew.members m
allowed_plan setup crew now m (ClientError code) = leaving_plan (Failing code) now.frame crew.members crew.queue m
allowed_plan setup crew now m ClientQuit = leaving_plan Quitting now.frame crew.members crew.queue m
allowed_plan setup crew now m other = nothing

-- what a message is judged by the members alone: the rest of the game doesn't matter
abbrev pub judged_here : Setup → Crew → List Bool → Member → GameMsg → Verdict
judged_here setup crew live m said = judged_by live (origin_of setup) (with_crew crew.members crew.digests (bare crew.members)) m said

-- a message by its verdict
abbrev pub heard_plan : Verdict → Setup → Crew → Now → Member → GameMsg → Planned
heard_plan Allowed setup crew now m said = allowed_plan setup crew now m said
heard_plan (Ends code) setup crew now m said = ending_plan code now.frame crew.members crew.queue m

-- a verdict's code is that of a reason
abbrev pub IsCode : Verdict → Type 0
IsCode Allowed = Unit {0}
IsCode (Ends code) = code ≤ 20
