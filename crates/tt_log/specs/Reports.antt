-- What reports to admins say, filled in from a world and from the companies with a password.
use Rattle.std.specs.Prelude.{ℕ, Bool, true, ◌==◌, List, [], ◌∷◌, ◌++◌, map, filter, length, option_map, codes, decimal}
use Rattle.std.specs.List.{list_any}
use Rattle.std.specs.Fmt.{signed_decimal}
use Rattle.std.specs.Int.{w64, cast_unsigned}
use Rattle.tt_admin.specs.declared.message.AdminMsg.{AdminMsg}
use Rattle.tt_admin.specs.declared.message.AdminMsg.TheVariants.{ServerWelcome, ServerDate, ServerRcon, ServerCompanyNew}
use Rattle.tt_admin.specs.declared.message.AdminMsg.TheVariants.{ServerCompanyInfo, ServerCompanyUpdate, ServerCompanyEconomy}
use Rattle.tt_admin.specs.declared.message.AdminMsg.TheVariants.{ServerCompanyStats}
use Rattle.tt_world.specs.declared.setup.Setup.{Setup}
use Rattle.tt_world.specs.declared.company.Company.{Company}
use Rattle.tt_world.specs.declared.command.Code.{Code}
use Rattle.tt_world.specs.declared.command.Code.TheVariants.{RenameCompany, RenamePresident, NewCompany}
use Rattle.tt_world.specs.declared.command.Entry.{Entry}
use Rattle.tt_world.specs.declared.effect.Effect.{Effect}
use Rattle.tt_world.specs.declared.effect.Effect.TheVariants.{Done}
use Rattle.tt_world.specs.World.{WorldState, company_of}
use Rattle.tt_world.specs.Commands.{applied, new_number}
use Rattle.tt_map.specs.Layout.{live_from}
use Rattle.tt_log.specs.Table.{option_list}
use Rattle.tt_log.specs.Polls.{is_asked}
use Rattle.tt_log.specs.Origin.{Origin, at_frame}
use Rattle.tt_log.specs.Filling.{Filling}
use Rattle.tt_log.specs.declared.report.Report.{Report}
use Rattle.tt_log.specs.declared.report.Report.TheVariants.{Message, Welcome, Date, CompanyInfo, CompanyEconomy, CompanyStats}
use Rattle.tt_log.specs.declared.report.Report.TheVariants.{CompanyLines, CompanyNews}

-- a dedicated server, and no map's name, on the first landscape, of 256 times 256 tiles
abbrev pub welcome : Setup → ℕ → AdminMsg
welcome setup day = ServerWelcome setup.name setup.revision true [] setup.seed 0 day 256 256

-- ---- companies that are asked for, each with its number, rising

abbrev pub live_companies : WorldState → List (ℕ × Company)
live_companies w = live_from 0 w.companies

abbrev pub asked_companies : ℕ → WorldState → List (ℕ × Company)
asked_companies id w = filter (λ (live : ℕ × Company). is_asked id live.0) (live_companies w)

-- a company has a password
abbrev pub is_locked : List (ℕ × List ℕ) → ℕ → Bool
is_locked digests number = list_any (λ (d : ℕ × List ℕ). d.0 == number) digests

abbrev pub company_info : List (ℕ × List ℕ) → ℕ × Company → AdminMsg
company_info digests live = ServerCompanyInfo live.0 live.1.name live.1.president (is_locked digests live.0)

abbrev pub company_infos : List (ℕ × List ℕ) → ℕ → WorldState → List AdminMsg
company_infos digests id w = map (company_info digests) (asked_companies id w)

-- money in two's complement of 64 bits
abbrev pub company_economy : ℕ × Company → AdminMsg
company_economy live = ServerCompanyEconomy live.0 (cast_unsigned w64 live.1.money) live.1.loan

abbrev pub company_economies : ℕ → WorldState → List AdminMsg
company_economies id w = map company_economy (asked_companies id w)

abbrev pub signs_of : WorldState → ℕ → ℕ
signs_of w number = length (filter (λ g. g.owner == number) w.signs)

abbrev pub company_stats : ℕ → WorldState → List AdminMsg
company_stats id w = map (λ (live : ℕ × Company). ServerCompanyStats live.0 (signs_of w live.0)) (asked_companies id w)

-- ---- the console's lines: a company's number, its money, its loan and its name

abbrev pub company_line : ℕ × Company → List ℕ
company_line live =
    decimal live.0 ++ codes " " ++ signed_decimal live.1.money ++ codes " " ++ decimal live.1.loan ++ codes " " ++ live.1.name

abbrev pub company_lines : WorldState → List AdminMsg
company_lines w = map (λ (live : ℕ × Company). ServerRcon 0 (company_line live)) (live_companies w)

-- ---- the news of a frame

abbrev pub company_update : List (ℕ × List ℕ) → ℕ × Company → AdminMsg
company_update digests live = ServerCompanyUpdate live.0 live.1.name live.1.president (is_locked digests live.0)

-- a message on a company of this number, where it lives
abbrev pub told_of : (ℕ × Company → AdminMsg) → ℕ → WorldState → List AdminMsg
told_of message number w = option_list (option_map (λ (c : Company). message (number, c)) (company_of w number))

-- what is told of an entry that is done, of the world right behind it: a new company has a number of its own, any other one is
-- the entry's company
abbrev pub news_of : Code → Effect → List (ℕ × List ℕ) → (new own : ℕ) → WorldState → List AdminMsg
news_of NewCompany Done digests new own w = ServerCompanyNew new ∷ told_of (company_info digests) new w
news_of RenameCompany Done digests new own w = told_of (company_update digests) own w
news_of RenamePresident Done digests new own w = told_of (company_update digests) own w
news_of code effect digests new own w = []

-- of entries in order, from the world before them
abbrev pub news_in : List (ℕ × List ℕ) → WorldState → List Entry → List AdminMsg
news_in digests w [] = []
news_in digests w (e ∷ es) = news_of e.command.code (applied w e).1 digests (new_number w.companies) e.company (applied w e).0
    ++ news_in digests (applied w e).0 es

-- ---- each report

-- the messages that a report is
abbrev pub reported : Origin → Filling → Report → List AdminMsg
reported o f (Message m) = m ∷ []
reported o f Welcome = welcome o.setup f.world.day ∷ []
reported o f Date = ServerDate f.world.day ∷ []
reported o f (CompanyInfo id) = company_infos f.digests id f.world
reported o f (CompanyEconomy id) = company_economies id f.world
reported o f (CompanyStats id) = company_stats id f.world
reported o f CompanyLines = company_lines f.world
reported o f CompanyNews = news_in f.digests f.before (at_frame o f.frame f.journal)
