-- What a message of an admin says: whether the game is over by it, and that its numbers are in their ranges.
use Rattle.std.proofs.Common.{◌≡◌, ℕ, List, Option, Some, true, false, refl, ap, sym, subst, ◌∙◌}
use Rattle.std.specs.Prelude.{find}
use Rattle.tt_admin.specs.declared.message.AdminMsg.{AdminMsg}
use Rattle.tt_admin.specs.declared.message.AdminMsg.TheVariants.{AdminJoin, AdminQuit, AdminUpdateFrequency, AdminPoll, AdminChat}
use Rattle.tt_admin.specs.declared.message.AdminMsg.TheVariants.{AdminRcon, AdminGamescript, AdminPing, AdminExternalChat, ServerFull}
use Rattle.tt_admin.specs.declared.message.AdminMsg.TheVariants.{ServerBanned, ServerError, ServerProtocol, ServerWelcome}
use Rattle.tt_admin.specs.declared.message.AdminMsg.TheVariants.{ServerNewgame, ServerShutdown, ServerDate, ServerClientJoin}
use Rattle.tt_admin.specs.declared.message.AdminMsg.TheVariants.{ServerClientInfo, ServerClientUpdate, ServerClientQuit}
use Rattle.tt_admin.specs.declared.message.AdminMsg.TheVariants.{ServerClientError, ServerCompanyNew, ServerCompanyInfo}
use Rattle.tt_admin.specs.declared.message.AdminMsg.TheVariants.{ServerCompanyUpdate, ServerCompanyRemove, ServerCompanyEconomy}
use Rattle.tt_admin.specs.declared.message.AdminMsg.TheVariants.{ServerCompanyStats, ServerChat, ServerRcon, ServerConsole}
use Rattle.tt_admin.specs.declared.message.AdminMsg.TheVariants.{ServerCmdNames, ServerCmdLoggingOld, ServerGamescript, ServerRconEnd}
use Rattle.tt_admin.specs.declared.message.AdminMsg.TheVariants.{ServerPong, ServerCmdLogging}
use Rattle.tt_rules.specs.declared.status.Verdict.{Verdict}
use Rattle.tt_rules.specs.declared.status.Verdict.TheVariants as verdicts
use Rattle.tt_world.specs.declared.setup.Setup.{Setup}
use Rattle.tt_world.specs.World.{WorldState}
use Rattle.tt_log.specs.Admin.{Admin}
use Rattle.tt_log.specs.Console.{ConsoleCommand, command_in, is_quit_line, pauses, kicks, announces, clients, companies, quits, unknown}
use Rattle.tt_log.specs.Desk.{admin_judged, quits_by, says_quit}
use Rattle.tt_log.specs.Table.{admin_of, is_admin_on}
use Rattle.tt_log.proofs.Codes.{IsCodeOf, admin-judged-code}
use Rattle.tt_admin_desk.specs.declared.heard.Heard.{Heard}
use Rattle.tt_admin_desk.specs.Asked.{asked, meant}
use Rattle.tt_admin_desk.specs.Hearing.{begun, by_verdict, hears, says}
use Rattle.tt_table.specs.Coming.{HasScope, IsFit, quits_in}
use Rattle.tt_table.specs.Held.{Held, Played, table}
use Rattle.tt_table.proofs.Playing.{IsSeen}

asked_back : (command : ConsoleCommand) → meant (asked command) ≡ command
asked_back (pauses true) = refl
asked_back (pauses false) = refl
asked_back (kicks client) = refl
asked_back (announces text) = refl
asked_back clients = refl
asked_back companies = refl
asked_back quits = refl
asked_back unknown = refl

says_quits : (m : AdminMsg) → says_quit m ≡ quits_in (says m)
says_quits (AdminJoin p q r) = refl
says_quits AdminQuit = refl
says_quits (AdminUpdateFrequency p q) = refl
says_quits (AdminPoll p q) = refl
says_quits (AdminChat p q r) = refl
says_quits (AdminRcon text) = sym (ap is_quit_line (asked_back (command_in text)))
says_quits (AdminGamescript p) = refl
says_quits (AdminPing p) = refl
says_quits (AdminExternalChat p q r s) = refl
says_quits ServerFull = refl
says_quits ServerBanned = refl
says_quits (ServerError p) = refl
says_quits (ServerProtocol p q) = refl
says_quits (ServerWelcome p q r s u v w x y) = refl
says_quits ServerNewgame = refl
says_quits ServerShutdown = refl
says_quits (ServerDate p) = refl
says_quits (ServerClientJoin p) = refl
says_quits (ServerClientInfo p q r) = refl
says_quits (ServerClientUpdate p q r) = refl
says_quits (ServerClientQuit p) = refl
says_quits (ServerClientError p q) = refl
says_quits (ServerCompanyNew p) = refl
says_quits (ServerCompanyInfo p q r s) = refl
says_quits (ServerCompanyUpdate p q r s) = refl
says_quits (ServerCompanyRemove p q) = refl
says_quits (ServerCompanyEconomy p q r) = refl
says_quits (ServerCompanyStats p q) = refl
says_quits (ServerChat p q r) = refl
says_quits (ServerRcon p q) = refl
says_quits (ServerConsole p q) = refl
says_quits (ServerCmdNames p) = refl
says_quits ServerCmdLoggingOld = refl
says_quits (ServerGamescript p) = refl
says_quits (ServerRconEnd p) = refl
says_quits (ServerPong p) = refl
says_quits (ServerCmdLogging p q r s) = refl

quits_heard : (v : Verdict) (m : AdminMsg) → quits_by v (Some m) ≡ quits_in (by_verdict v m)
quits_heard verdicts.Allowed m = says_quits m
quits_heard (verdicts.Ends code) m = refl

says_fit : (m : AdminMsg) → HasScope m → IsFit (says m)
says_fit (AdminJoin p q r) scope = tt
says_fit AdminQuit scope = tt
says_fit (AdminUpdateFrequency p q) scope = tt
says_fit (AdminPoll p q) scope = tt
says_fit (AdminChat p q r) scope = scope
says_fit (AdminRcon p) scope = tt
says_fit (AdminGamescript p) scope = tt
says_fit (AdminPing p) scope = tt
says_fit (AdminExternalChat p q r s) scope = tt
says_fit ServerFull scope = tt
says_fit ServerBanned scope = tt
says_fit (ServerError p) scope = tt
says_fit (ServerProtocol p q) scope = tt
says_fit (ServerWelcome p q r s u v w x y) scope = tt
says_fit ServerNewgame scope = tt
says_fit ServerShutdown scope = tt
says_fit (ServerDate p) scope = tt
says_fit (ServerClientJoin p) scope = tt
says_fit (ServerClientInfo p q r) scope = tt
says_fit (ServerClientUpdate p q r) scope = tt
says_fit (ServerClientQuit p) scope = tt
says_fit (ServerClientError p q) scope = tt
says_fit (ServerCompanyNew p) scope = tt
says_fit (ServerCompanyInfo p q r s) scope = tt
says_fit (ServerCompanyUpdate p q r s) scope = tt
says_fit (ServerCompanyRemove p q) scope = tt
says_fit (ServerCompanyEconomy p q r) scope = tt
says_fit (ServerCompanyStats p q) scope = tt
says_fit (ServerChat p q r) scope = tt
says_fit (ServerRcon p q) scope = tt
says_fit (ServerConsole p q) scope = tt
says_fit (ServerCmdNames p) scope = tt
says_fit ServerCmdLoggingOld scope = tt
says_fit (ServerGamescript p) scope = tt
says_fit (ServerRconEnd p) scope = tt
says_fit (ServerPong p) scope = tt
says_fit (ServerCmdLogging p q r s) scope = tt

fit_heard : (v : Verdict) (m : AdminMsg) → IsCodeOf v → HasScope m → IsFit (by_verdict v m)
fit_heard verdicts.Allowed m code scope = says_fit m scope
fit_heard (verdicts.Ends code) m low scope = low

-- ---- what the desk hears of the admin on a connection

-- what is heard in a game of the setup is heard in the game
heard_here : (g : Played) (h : Held) (setup : Setup) (conn : ℕ) (m : AdminMsg) (heard : Heard) → IsSeen g h → (table g).over ≡ false
    → setup ≡ g.origin.setup
    → ((start : WorldState) (a : Admin) → find (is_admin_on conn) h.admins ≡ Some a → heard ≡ hears (begun setup start) a m)
    → (a : Admin) → admin_of (table g) conn ≡ Some a → heard ≡ hears g.origin a m
heard_here g h setup conn m heard s going same hearing a is =
    hearing g.origin.start a (ap (λ (admins : List Admin). find (is_admin_on conn) admins) (s.game.held.alive going).admins ∙ is)
    ∙ ap (λ (x : Setup). hears (begun x g.origin.start) a m) same

pub hears_quits : (g : Played) (h : Held) (setup : Setup) (conn : ℕ) (said : Option AdminMsg) (m : AdminMsg) (heard : Heard) → IsSeen g h
    → (table g).over ≡ false → setup ≡ g.origin.setup
    → ((start : WorldState) (a : Admin) → find (is_admin_on conn) h.admins ≡ Some a → heard ≡ hears (begun setup start) a m)
    → said ≡ Some m → (a : Admin) → admin_of (table g) conn ≡ Some a → quits_by (admin_judged g.origin a said) said ≡ quits_in heard
hears_quits g h setup conn said m heard s going same hearing read a is =
    ap (λ (x : Option AdminMsg). quits_by (admin_judged g.origin a x) x) read
    ∙ quits_heard (admin_judged g.origin a (Some m)) m
    ∙ sym (ap quits_in (heard_here g h setup conn m heard s going same hearing a is))

pub hears_fit : (g : Played) (h : Held) (setup : Setup) (conn : ℕ) (m : AdminMsg) (heard : Heard) → IsSeen g h → (table g).over ≡ false
    → setup ≡ g.origin.setup
    → ((start : WorldState) (a : Admin) → find (is_admin_on conn) h.admins ≡ Some a → heard ≡ hears (begun setup start) a m)
    → HasScope m → (a : Admin) → admin_of (table g) conn ≡ Some a → IsFit heard
hears_fit g h setup conn m heard s going same hearing scope a is =
    subst IsFit (sym (heard_here g h setup conn m heard s going same hearing a is))
    (fit_heard (admin_judged g.origin a (Some m)) m (admin-judged-code g.origin a (Some m)) scope)
