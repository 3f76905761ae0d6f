-- What admins are told of a company: a message of one of these topics.
use Rattle.std.specs.Prelude.{ℕ, Bool, true, false, List, map}
use Rattle.tt_admin.specs.declared.message.AdminMsg.{AdminMsg}
use Rattle.tt_admin.specs.declared.message.AdminMsg.TheVariants.{ServerCompanyStats, ServerRcon}
use Rattle.tt_world.specs.declared.company.Company.{Company}
use Rattle.tt_world.specs.declared.command.Code.{Code}
use Rattle.tt_world.specs.declared.command.Code.TheVariants.{RenameCompany, RenamePresident, NewCompany}
use Rattle.tt_world.specs.World.{WorldState}
use Rattle.tt_log.specs.Reports.{asked_companies, company_economy, company_info, company_line, company_update, signs_of}
use Rattle.tt_outgoing.specs.declared.companies.Topic.{Topic}
use Rattle.tt_outgoing.specs.declared.companies.Topic.TheVariants.{Info, Update, Economy, Stats, Line}
use Rattle.tt_outgoing.specs.Sources.{AreLocks}

-- the message on a company, with its number
abbrev pub company_message : Topic → List (ℕ × List ℕ) → WorldState → ℕ × Company → AdminMsg
company_message Info digests w live = company_info digests live
company_message Update digests w live = company_update digests live
company_message Economy digests w live = company_economy live
company_message Stats digests w live = ServerCompanyStats live.0 (signs_of w live.0)
company_message Line digests w live = ServerRcon 0 (company_line live)

-- those on the companies that are asked for, by rising numbers
abbrev pub company_messages : Topic → List (ℕ × List ℕ) → ℕ → WorldState → List AdminMsg
company_messages topic digests id w = map (company_message topic digests w) (asked_companies id w)

-- which companies have a password is known, where a message tells it
abbrev pub AreKnown : Topic → List Bool → List (ℕ × List ℕ) → Type 0
AreKnown Info locked digests = AreLocks locked digests
AreKnown Update locked digests = AreLocks locked digests
AreKnown Economy locked digests = Unit {0}
AreKnown Stats locked digests = Unit {0}
AreKnown Line locked digests = Unit {0}

-- a command of this code may be news of a company
abbrev pub has_news : Code → Bool
has_news NewCompany = true
has_news RenameCompany = true
has_news RenamePresident = true
has_news code = false
