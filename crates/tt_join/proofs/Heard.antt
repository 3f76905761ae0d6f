-- A message that is allowed, and one by its verdict: their plans do what the book's rules do.
use Rattle.std.proofs.Common.{◌≡◌, ℕ, List, refl, sym, ap, ◌∙◌, Option, Some, None}
use Rattle.std.proofs.Common.{append-nil}
use Rattle.std.specs.Prelude.{length, find}
use Rattle.tt_world.specs.declared.command.Entry.{Entry}
use Rattle.tt_world.specs.declared.setup.Setup.{Setup}
use Rattle.tt_game.specs.declared.message.GameMsg.{GameMsg}
use Rattle.tt_game.specs.declared.message.GameMsg.TheVariants.{ClientJoin, ClientGameInfo, ClientGamePassword, ClientCompanyPassword}
use Rattle.tt_game.specs.declared.message.GameMsg.TheVariants.{ClientGetmap, ClientMapOk, ClientAck, ClientCommand, ClientChat}
use Rattle.tt_game.specs.declared.message.GameMsg.TheVariants.{ClientSetName, ClientSetPassword, ClientMove, ClientError, ClientQuit}
use Rattle.tt_rules.specs.Commands.{command_of}
use Rattle.tt_rules.specs.declared.status.Verdict.{Verdict}
use Rattle.tt_rules.specs.declared.status.Verdict.TheVariants.{Allowed, Ends}
use Rattle.tt_log.specs.Deed.{Deed, becomes, where_some}
use Rattle.tt_log.specs.Downloads.{IsQueue}
use Rattle.tt_log.specs.Ending.{Quitting, Failing}
use Rattle.tt_log.specs.Events.{by_verdict, heard}
use Rattle.tt_log.specs.Judged.{judged, judged_by}
use Rattle.tt_log.specs.Member.{Member}
use Rattle.tt_log.specs.Origin.{Origin}
use Rattle.tt_log.specs.PacketRules.{does}
use Rattle.tt_log.specs.Table.{Table, is_on, living_in}
use Rattle.tt_members.specs.Crew.{Crew, Rest, origin_at, table_at}
use Rattle.tt_members.specs.Done.{Does}
use Rattle.tt_members.specs.Planned.{Planned, nothing}
use Rattle.tt_members.specs.Rules.{Rise}
use Rattle.tt_join.specs.declared.input.Now.{Now}
use Rattle.tt_join.specs.Planning.{allowed_plan, heard_plan}
use Rattle.tt_join.proofs.Enters.{ask_does, enter_does, ack_does, leave_does, end_does}
use Rattle.tt_join.proofs.Played.{command_does, chat_does, set_password_does, move_does}
use Rattle.tt_join.proofs.Welcomes.{join_does, game_info_does, game_password_does, company_password_does, rename_does}

-- nothing is done
pub idle_does : (setup : Setup) (crew : Crew) (frame top : ℕ) (r : Rest) → Does setup crew frame top r (λ o t. becomes t) nothing
idle_does setup crew frame top r = record {
  told = refl;
  table = ap (λ (es : List Entry). record (table_at crew frame top r) { journal = es }) (append-nil r.journal);
}

-- a message that is allowed
pub allowed_does : (said : GameMsg) (setup : Setup) (crew : Crew) (now : Now) (r : Rest) (m : Member) → Rise crew.members
    → find (is_on m.conn) crew.members ≡ Some m → IsQueue (table_at crew now.frame now.top r) crew.queue
    → living_in (origin_at setup r) (table_at crew now.frame now.top r) ≡ now.live → length now.live ≡ 15
    → Does setup crew now.frame now.top r (λ o t. does o m said t) (allowed_plan setup crew now m said)
allowed_does (ClientJoin revision grf name company) setup crew now r m rise is queued lives many =
    join_does setup crew now.frame now.top r m name company rise is
allowed_does ClientGameInfo setup crew now r m rise is queued lives many = game_info_does setup crew now.frame now.top r now.live m lives
    many
allowed_does (ClientGamePassword digest) setup crew now r m rise is queued lives many = game_password_does setup crew now.frame now.top r m
    rise is
allowed_does (ClientCompanyPassword digest) setup crew now r m rise is queued lives many = company_password_does setup crew now.frame
    now.top r m rise is
allowed_does ClientGetmap setup crew now r m rise is queued lives many = ask_does setup crew now.frame now.top r m rise is
allowed_does ClientMapOk setup crew now r m rise is queued lives many = enter_does setup crew now.frame now.top r m rise is queued
allowed_does (ClientAck frame token) setup crew now r m rise is queued lives many = ack_does setup crew now.frame now.top r m frame token
    rise is
allowed_does (ClientCommand company code number to text) setup crew now r m rise is queued lives many =
    command_does setup crew now.frame now.top r m company (command_of code number to text) rise is
allowed_does (ClientChat scope to text) setup crew now r m rise is queued lives many = chat_does setup crew now.frame now.top r m.client
    scope to text
allowed_does (ClientSetName name) setup crew now r m rise is queued lives many = rename_does setup crew now.frame now.top r m name rise is
allowed_does (ClientSetPassword digest) setup crew now r m rise is queued lives many = set_password_does setup crew now.frame now.top r m
    digest
allowed_does (ClientMove company digest) setup crew now r m rise is queued lives many = move_does setup crew now.frame now.top r m company
    rise is
allowed_does (ClientError code) setup crew now r m rise is queued lives many = leave_does setup crew now.frame now.top r m (Failing code)
    rise queued
allowed_does ClientQuit setup crew now r m rise is queued lives many = leave_does setup crew now.frame now.top r m Quitting rise queued
allowed_does other setup crew now r m rise is queued lives many = idle_does setup crew now.frame now.top r

by_verdict_does : (v : Verdict) (said : GameMsg) (setup : Setup) (crew : Crew) (now : Now) (r : Rest) (m : Member) → Rise crew.members
    → find (is_on m.conn) crew.members ≡ Some m → IsQueue (table_at crew now.frame now.top r) crew.queue
    → living_in (origin_at setup r) (table_at crew now.frame now.top r) ≡ now.live → length now.live ≡ 15
    → Does setup crew now.frame now.top r (λ o t. by_verdict v o m (Some said) t) (heard_plan v setup crew now m said)
by_verdict_does Allowed said setup crew now r m rise is queued lives many = allowed_does said setup crew now r m rise is queued lives many
by_verdict_does (Ends code) said setup crew now r m rise is queued lives many = end_does setup crew now.frame now.top r m code rise queued

-- a message by its verdict
pub heard_does : (v : Verdict) (said : GameMsg) (setup : Setup) (crew : Crew) (now : Now) (r : Rest) (m : Member) → Rise crew.members
    → find (is_on m.conn) crew.members ≡ Some m → IsQueue (table_at crew now.frame now.top r) crew.queue
    → living_in (origin_at setup r) (table_at crew now.frame now.top r) ≡ now.live → length now.live ≡ 15
    → v ≡ judged_by now.live (origin_at setup r) (table_at crew now.frame now.top r) m said
    → Does setup crew now.frame now.top r (λ o t. heard o (Some said) m t) (heard_plan v setup crew now m said)
heard_does v said setup crew now r m rise is queued lives many judging =
    let o : Origin = origin_at setup r in
    let t : Table = table_at crew now.frame now.top r in
    let same : v ≡ judged o t m (Some said) = judging ∙ ap (λ l. judged_by l o t m said) (sym lives) in
    let d = by_verdict_does v said setup crew now r m rise is queued lives many in
    record {
      told = d.told ∙ ap (λ w. (by_verdict w o m (Some said) t).told) same;
      table = d.table ∙ ap (λ w. (by_verdict w o m (Some said) t).table) same;
    }

-- what spells nothing
pub bad_does : (setup : Setup) (crew : Crew) (now : Now) (r : Rest) (m : Member) → Rise crew.members
    → IsQueue (table_at crew now.frame now.top r) crew.queue
    → Does setup crew now.frame now.top r (λ o t. heard o None m t) (heard_plan (Ends 4) setup crew now m ClientQuit)
bad_does setup crew now r m rise queued =
    let d = end_does setup crew now.frame now.top r m 4 rise queued in
    record { told = d.told; table = d.table }

-- ---- one that is named

-- what is done to the member that is found
pub to_found : (setup : Setup) (crew : Crew) (frame top : ℕ) (r : Rest) (find_in : Table → Option Member) (m : Member)
    (rule : Origin → Member → Table → Deed) (p : Planned) → find_in (table_at crew frame top r) ≡ Some m
    → Does setup crew frame top r (λ o t. rule o m t) p → Does setup crew frame top r (λ o t. where_some (find_in t) (rule o) t) p
to_found setup crew frame top r find_in m rule p is d =
    let o : Origin = origin_at setup r in
    let t : Table = table_at crew frame top r in
    record {
      told = d.told ∙ sym (ap (λ x. (where_some x (rule o) t).told) is);
      table = d.table ∙ sym (ap (λ x. (where_some x (rule o) t).table) is);
    }

-- where none is found nothing is done
pub to_nobody : (setup : Setup) (crew : Crew) (frame top : ℕ) (r : Rest) (find_in : Table → Option Member)
    (rule : Origin → Member → Table → Deed) → find_in (table_at crew frame top r) ≡ None
    → Does setup crew frame top r (λ o t. where_some (find_in t) (rule o) t) nothing
to_nobody setup crew frame top r find_in rule is =
    let o : Origin = origin_at setup r in
    let t : Table = table_at crew frame top r in
    let d = idle_does setup crew frame top r in
    record {
      told = d.told ∙ sym (ap (λ x. (where_some x (rule o) t).told) is);
      table = d.table ∙ sym (ap (λ x. (where_some x (rule o) t).table) is);
    }
