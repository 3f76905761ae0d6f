-- The codes for which the rules end a member are codes: at most 20.
use Rattle.std.proofs.Common.{ℕ, ◌≤◌, Bool, true, false, List, Option, Some, None, arith}
use Rattle.std.specs.Prelude.{◌||◌, ◌==◌, ◌-◌, not, nat_le, nat_lt, bytes_eq}
use Rattle.tt_game.specs.declared.message.GameMsg.{GameMsg}
use Rattle.tt_game.specs.declared.message.GameMsg.TheVariants.{ClientJoin, ClientGamePassword, ClientCompanyPassword, ClientSetName}
use Rattle.tt_game.specs.declared.message.GameMsg.TheVariants.{ClientMove, ClientAck, ClientCommand, ClientSetPassword}
use Rattle.tt_admin.specs.declared.message.AdminMsg.{AdminMsg}
use Rattle.tt_admin.specs.declared.message.AdminMsg.TheVariants.{AdminJoin, AdminQuit, AdminUpdateFrequency, AdminPoll, AdminChat}
use Rattle.tt_admin.specs.declared.message.AdminMsg.TheVariants.{AdminRcon, AdminGamescript, AdminPing, AdminExternalChat}
use Rattle.tt_world.specs.declared.setup.Setup.{Setup}
use Rattle.tt_rules.specs.Reasons.{◌⇒◌, ◌or_else◌}
use Rattle.tt_rules.specs.Commands.{is_own_code}
use Rattle.tt_rules.specs.Companies.{is_living}
use Rattle.tt_rules.specs.Digest.{password_digest}
use Rattle.tt_rules.specs.Verdict.{permits, refusal, first_reason, verdict_of, verdict}
use Rattle.tt_rules.specs.declared.status.Standing.{Standing}
use Rattle.tt_rules.specs.declared.status.Status.{Status}
use Rattle.tt_rules.specs.declared.status.Status.TheVariants.{Inactive, NewgrfsCheck, AuthGame, AuthCompany, Authorized, MapWait, Map}
use Rattle.tt_rules.specs.declared.status.Status.TheVariants.{DoneMap, PreActive, Active}
use Rattle.tt_rules.specs.declared.status.Verdict.{Verdict}
use Rattle.tt_rules.specs.declared.status.Verdict.TheVariants.{Allowed, Ends}
use Rattle.tt_log.specs.Origin.{Origin}
use Rattle.tt_log.specs.Member.{Member, standing_of}
use Rattle.tt_log.specs.Admin.{Admin, may_be_told, may_be_polled}
use Rattle.tt_log.specs.Desk.{admin_judged, admin_refused}
use Rattle.tt_log.specs.Table.{Table, living_in, digest_of}
use Rattle.tt_log.specs.Names.{given_name, is_too_long}
use Rattle.tt_log.specs.Judged.{is_same_game, is_empty, may_ask_for, is_same_digest, opens, refused, unless, judged}
use Rattle.tt_log.specs.Tick.{keeps_token, late, late_in}

abbrev pub IsCode : Option ℕ → Type 0
IsCode None = Unit
IsCode (Some code) = code ≤ 20

abbrev pub IsCodeOf : Verdict → Type 0
IsCodeOf Allowed = Unit
IsCodeOf (Ends code) = code ≤ 20

code-if : (b : Bool) (code : ℕ) → code ≤ 20 → IsCode (b ⇒ code)
code-if true code l = l
code-if false code l = tt

-- a reason, and then others
code-then : (b : Bool) (code : ℕ) (later : Option ℕ) → code ≤ 20 → IsCode later → IsCode (b ⇒ code or_else later)
code-then true code later l a = l
code-then false code later l a = a

verdict-code : (r : Option ℕ) → IsCode r → IsCodeOf (verdict_of r)
verdict-code None a = tt
verdict-code (Some code) a = a

first-code : (b : Bool) (r : Option ℕ) → IsCode r → IsCode (first_reason b r)
first-code true r a = a
first-code false r a = omega arith

unless-code : (v : Verdict) (r : Option ℕ) → IsCodeOf v → IsCode r → IsCodeOf (unless v r)
unless-code Allowed r a b = verdict-code r b
unless-code (Ends code) r a b = a

refusal-code : (s : Standing) (live : List Bool) (m : GameMsg) → IsCode (refusal s live m)
refusal-code s live (ClientAck frame token) =
    code-then (nat_lt frame s.acked || nat_lt s.told frame) 7 _ (omega arith)
    (code-if (not ((token == 0) || (token == s.token))) 7 (omega arith))
refusal-code s live (ClientCommand company code number to text) =
    code-then (nat_le 16 s.waiting) 15 _ (omega arith) (code-then (nat_lt 8 code) 7 _ (omega arith)
    (code-then (is_own_code code) 12 _ (omega arith) (code-then (not (is_living live company)) 12 _ (omega arith)
    (code-if (not (company == s.company)) 11 (omega arith)))))
refusal-code s live (ClientSetPassword digest) = code-if (nat_lt 14 s.company) 11 (omega arith)
refusal-code s live (ClientMove company digest) = code-if (not ((company == 255) || is_living live company)) 11 (omega arith)
refusal-code s live other = tt

refused-code : (o : Origin) (live : List Bool) (t : Table) (m : Member) (msg : GameMsg) → IsCode (refused o live t m msg)
refused-code o live t m (ClientJoin revision grf name company) =
    code-then (not (is_same_game o revision grf)) 8 _ (omega arith) (code-then (is_empty name) 20 _ (omega arith)
    (code-then (not (may_ask_for live company)) 11 _ (omega arith) (code-if (is_too_long (given_name t m.conn name)) 9 (omega arith))))
refused-code o live t m (ClientGamePassword digest) =
    code-if (not (bytes_eq digest (password_digest o.setup.password o.setup.id o.setup.seed))) 10 (omega arith)
refused-code o live t m (ClientCompanyPassword digest) = code-if (not (is_same_digest (digest_of t m.asked) digest)) 10 (omega arith)
refused-code o live t m (ClientSetName name) =
    code-then (is_empty name) 20 _ (omega arith) (code-if (is_too_long (given_name t m.conn name)) 9 (omega arith))
refused-code o live t m (ClientMove company digest) = code-if (not (opens (digest_of t company) digest)) 10 (omega arith)
refused-code o live t m other = tt

-- what a packet is judged
pub judged-code : (o : Origin) (t : Table) (m : Member) (said : Option GameMsg) → IsCodeOf (judged o t m said)
judged-code o t m None = omega arith
judged-code o t m (Some msg) =
    let s : Standing = standing_of m in
    let live : List Bool = living_in o t in
    unless-code (verdict s live msg) (refused o live t m msg) (verdict-code (first_reason (permits msg s.status) (refusal s live msg))
    (first-code (permits msg s.status) (refusal s live msg) (refusal-code s live msg))) (refused-code o live t m msg)

-- and of an admin
admin-refused-code : (o : Origin) (a : Admin) (msg : AdminMsg) → IsCode (admin_refused o a msg)
admin-refused-code o a (AdminJoin password application version) =
    code-then a.joined 7 _ (omega arith) (code-then (is_empty application || is_empty version) 4 _ (omega arith)
    (code-if (is_empty o.setup.admin_password || not (bytes_eq password o.setup.admin_password)) 10 (omega arith)))
admin-refused-code o a AdminQuit = tt
admin-refused-code o a (AdminUpdateFrequency kind bits) =
    code-then (not a.joined) 7 _ (omega arith) (code-if (not (may_be_told kind bits)) 4 (omega arith))
admin-refused-code o a (AdminPoll kind id) =
    code-then (not a.joined) 7 _ (omega arith) (code-if (not (may_be_polled kind)) 4 (omega arith))
admin-refused-code o a (AdminChat scope to text) = code-then (not a.joined) 7 None (omega arith) tt
admin-refused-code o a (AdminRcon text) = code-then (not a.joined) 7 None (omega arith) tt
admin-refused-code o a (AdminGamescript text) = code-then (not a.joined) 7 None (omega arith) tt
admin-refused-code o a (AdminPing id) = code-then (not a.joined) 7 None (omega arith) tt
admin-refused-code o a (AdminExternalChat source colour user text) = code-then (not a.joined) 7 None (omega arith) tt
admin-refused-code o a other = omega arith

pub admin-judged-code : (o : Origin) (a : Admin) (said : Option AdminMsg) → IsCodeOf (admin_judged o a said)
admin-judged-code o a None = omega arith
admin-judged-code o a (Some msg) = verdict-code (admin_refused o a msg) (admin-refused-code o a msg)

-- and the limits of each status
late-in-code : (s : Status) (setup : Setup) (f : ℕ) (m : Member) → IsCode (late_in s setup f m)
late-in-code Inactive setup f m = code-if (nat_lt setup.init (f - m.since)) 17 (omega arith)
late-in-code NewgrfsCheck setup f m = tt
late-in-code AuthGame setup f m = code-if (nat_lt setup.pass_limit (f - m.since)) 16 (omega arith)
late-in-code AuthCompany setup f m = code-if (nat_lt setup.pass_limit (f - m.since)) 16 (omega arith)
late-in-code Authorized setup f m = code-if (nat_lt setup.init (f - m.since)) 17 (omega arith)
late-in-code MapWait setup f m = tt
late-in-code Map setup f m = code-if (nat_lt setup.download (f - m.since)) 18 (omega arith)
late-in-code DoneMap setup f m = code-if (nat_lt setup.download (f - m.since)) 18 (omega arith)
late-in-code PreActive setup f m = code-if (nat_lt setup.join (f - m.since)) 19 (omega arith)
late-in-code Active setup f m = code-if (nat_lt setup.lag (f - m.acked) || keeps_token setup f m) 17 (omega arith)

pub late-code : (setup : Setup) (f : ℕ) (m : Member) → IsCode (late setup f m)
late-code setup f m = late-in-code m.status setup f m
