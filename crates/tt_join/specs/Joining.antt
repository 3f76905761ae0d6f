-- From the opening to the welcome, and names: what each packet changes and tells.
use Rattle.std.specs.Prelude.{ℕ, min, Bool, false, not, ◌==◌, List, [], ◌∷◌, filter, find, length, take, Option, Some, None, option_map}
use Rattle.tt_game.specs.declared.message.GameMsg.TheVariants.{ServerGameInfo, ServerNeedGamePassword, ServerNeedCompanyPassword}
use Rattle.tt_game.specs.declared.message.GameMsg.TheVariants.{ServerWelcome}
use Rattle.tt_game.specs.declared.message.GameMsg.TheVariants as game
use Rattle.tt_admin.specs.declared.message.AdminMsg.TheVariants.{ServerClientInfo, ServerClientUpdate}
use Rattle.tt_world.specs.declared.setup.Setup.{Setup}
use Rattle.tt_rules.specs.declared.status.Status.{Status}
use Rattle.tt_rules.specs.declared.status.Status.TheVariants.{AuthGame, AuthCompany, Authorized}
use Rattle.tt_log.specs.Admin.{client_updates}
use Rattle.tt_log.specs.Judged.{is_empty}
use Rattle.tt_log.specs.Member.{Member, is_welcomed}
use Rattle.tt_log.specs.Origin.{Origin}
use Rattle.tt_log.specs.Names.{given_name}
use Rattle.tt_log.specs.PacketRules.{first_company}
use Rattle.tt_log.specs.Table.{Table, count_living}
use Rattle.tt_members.specs.declared.edit.Edit.TheVariants.{Mark}
use Rattle.tt_members.specs.declared.marks.Marks.{Marks}
use Rattle.tt_members.specs.Edits.{marks_of}
use Rattle.tt_members.specs.Leaving.{others, playing_in}
use Rattle.tt_members.specs.Planned.{Planned, nothing}
use Rattle.tt_members.specs.Steps.{says_one, says_several, shows}
use Rattle.tt_join.specs.declared.joining.Guest.{Guest}

-- ---- where the rules look

-- a game of this setup
abbrev pub made_from : Setup → Origin → Origin
made_from setup o = record o { setup = setup }

-- a table with these members and these company passwords
abbrev pub with_crew : List Member → List (ℕ × List ℕ) → Table → Table
with_crew ms digests t = record t { members = ms; digests = digests }

-- the digest of a company's password, where it has one
abbrev pub digest_in : List (ℕ × List ℕ) → ℕ → Option (List ℕ)
digest_in digests company = option_map (λ (d : ℕ × List ℕ). d.1) (find (λ (d : ℕ × List ℕ). d.0 == company) digests)

-- a table with members alone
abbrev pub bare : List Member → Table
bare ms = record {
  members = ms;
  admins = [];
  queue = [];
  digests = [];
  own = [];
  tokens = (0, 0);
  journal = [];
  frame = 0;
  top = 0;
  openings = 0;
  clients = 0;
  cost = 0;
  over = false;
}

-- the name that one gets among these members where it wants one
abbrev pub name_in : List Member → ℕ → List ℕ → List ℕ
name_in ms conn wanted = given_name (bare ms) conn wanted

-- ---- one that comes in

-- a member as one that comes in
abbrev pub guest_of : Member → Guest
guest_of m = record { conn = m.conn; client = m.client; marks = marks_of m; name = m.name }

-- with this name, and the company that it asks for
abbrev pub guest_named : Member → List ℕ → ℕ → Guest
guest_named m name company = record { conn = m.conn; client = m.client; marks = record (marks_of m) { asked = company }; name = name }

-- a status that begins at a frame
abbrev pub marks_in : Status → ℕ → Marks → Marks
marks_in status frame marks = record marks { status = status; since = frame }

-- that of one that is welcomed
abbrev pub welcomed_marks : ℕ → Marks → Marks
welcomed_marks frame marks = record (marks_in Authorized frame marks) { company = first_company marks.asked }

-- ---- from the opening to the welcome

-- the welcome: those that play are told of the member, and the admins that watch
abbrev pub welcoming : Setup → ℕ → List Member → Guest → Planned
welcoming setup frame ms g = let company = first_company g.marks.asked in record nothing {
  edits = Mark g.conn (welcomed_marks frame g.marks) ∷ [];
  steps = says_one g.conn (ServerWelcome g.client setup.seed setup.id) ∷ says_several (others g.conn ms) (game.ServerClientInfo g.client
      company g.name)
      ∷ shows client_updates (ServerClientInfo g.client g.name company) ∷ [];
}

-- the company step: a company with a password asks for it
abbrev pub to_company_by : Option (List ℕ) → Setup → ℕ → List Member → Guest → Planned
to_company_by None setup frame ms g = welcoming setup frame ms g
to_company_by (Some digest) setup frame ms g = record nothing {
  edits = Mark g.conn (marks_in AuthCompany frame g.marks) ∷ [];
  steps = says_one g.conn (ServerNeedCompanyPassword setup.seed setup.id) ∷ [];
}

abbrev pub to_company : Setup → ℕ → List Member → List (ℕ × List ℕ) → Guest → Planned
to_company setup frame ms digests g = to_company_by (digest_in digests g.marks.asked) setup frame ms g

-- the password step: a game with a password asks for it
abbrev pub to_password_by : List ℕ → Setup → ℕ → List Member → List (ℕ × List ℕ) → Guest → Planned
to_password_by [] setup frame ms digests g = to_company setup frame ms digests g
to_password_by (b ∷ bs) setup frame ms digests g = record nothing {
  edits = Mark g.conn (marks_in AuthGame frame g.marks) ∷ [];
  steps = says_one g.conn (ServerNeedGamePassword setup.seed setup.id) ∷ [];
}

-- JOIN: the member has a name, and then the password step
abbrev pub joining : Setup → ℕ → List Member → List (ℕ × List ℕ) → Member → List ℕ → ℕ → Planned
joining setup frame ms digests m name company =
    record (to_password_by setup.password setup frame ms digests (guest_named m name company)) { names = Some (m.conn, name) }

-- GAME_INFO: there are fifteen companies
abbrev pub game_told : Setup → ℕ → List Bool → List Member → Member → Planned
game_told setup frame live ms m = record nothing {
  steps = says_one m.conn (ServerGameInfo setup.name frame (min (length (filter is_welcomed ms)) 255) (count_living (take 15 live))
      setup.max_clients (not (is_empty setup.password))) ∷ [];
}

-- ---- another name

-- SET_NAME: all that play are told, and the admins that watch
abbrev pub renaming : List Member → Member → List ℕ → Planned
renaming ms m name = record nothing {
  names = Some (m.conn, name);
  steps = says_several (playing_in ms) (game.ServerClientInfo m.client m.company name)
      ∷ shows client_updates (ServerClientUpdate m.client name m.company) ∷ [];
}
