-- What steps are filled in from, as the server core has it at hand.
use Rattle.std.specs.Prelude.{◌≡◌, ℕ, ◌*◌, ◌<◌, Bool, false, List, length, take, nat_lt, slice_index_or}
use Rattle.std.specs.List.{AllByRecursion}
use Rattle.tt_map.specs.Layout.{map_of}
use Rattle.tt_log.specs.declared.deed.What.{What}
use Rattle.tt_log.specs.declared.deed.What.TheVariants.{Msg, ToAdmin, MapBegin, MapPieces, Sync, Entries, Stamp, End}
use Rattle.tt_log.specs.declared.report.Report.{Report}
use Rattle.tt_log.specs.declared.report.Report.TheVariants.{Message, Welcome, Date, CompanyInfo, CompanyEconomy, CompanyStats}
use Rattle.tt_log.specs.declared.report.Report.TheVariants.{CompanyLines, CompanyNews}
use Rattle.tt_log.specs.Filling.{Filling}
use Rattle.tt_log.specs.Origin.{Origin, IsJournal, at_frame}
use Rattle.tt_log.specs.Reports.{is_locked}
use Rattle.tt_members.specs.declared.step.Step.{Step}
use Rattle.tt_outgoing.specs.declared.sources.Sources.{Sources}

-- the companies with a password, each by its number
abbrev pub AreLocks : List Bool → List (ℕ × List ℕ) → Type 0
AreLocks locked digests = (number : ℕ) → number < 15 → slice_index_or locked number false ≡ is_locked digests number

-- how many bytes of a map a tick tells: four pieces
abbrev pub four_pieces : ℕ
four_pieces = 4 * 1400

-- what is at hand is what a report is filled in from
abbrev pub IsAtHandFor : Origin → Filling → Sources → Report → Type 0
IsAtHandFor o f s (Message m) = Unit {0}
IsAtHandFor o f s Welcome = (s.setup.now ≡ o.setup) × (s.world.now ≡ f.world)
IsAtHandFor o f s Date = s.world.now ≡ f.world
IsAtHandFor o f s (CompanyInfo id) = (s.world.now ≡ f.world) × AreLocks s.locked.now f.digests
IsAtHandFor o f s (CompanyEconomy id) = s.world.now ≡ f.world
IsAtHandFor o f s (CompanyStats id) = s.world.now ≡ f.world
IsAtHandFor o f s CompanyLines = s.world.now ≡ f.world
IsAtHandFor o f s CompanyNews =
    (s.before.now ≡ f.before) × (s.entries.now ≡ at_frame o f.frame f.journal) × AreLocks s.locked.now f.digests

-- what is at hand is what a step is filled in from; what the step does not need may be anything
abbrev pub IsAtHand : Origin → Filling → Sources → What → Type 0
IsAtHand o f s (Msg m) = Unit {0}
IsAtHand o f s (ToAdmin r) = IsAtHandFor o f s r
IsAtHand o f s MapBegin = (s.frame ≡ f.frame) × (s.size ≡ length (map_of f.world))
IsAtHand o f s MapPieces = (s.next.now ≡ take four_pieces f.left) × (s.more ≡ nat_lt four_pieces (length f.left))
IsAtHand o f s Sync = (s.frame ≡ f.frame) × (s.word ≡ f.world.words.0)
IsAtHand o f s (Entries frame) = (s.journal.now ≡ f.journal) × IsJournal o f.journal
IsAtHand o f s (Stamp e) = Unit {0}
IsAtHand o f s End = Unit {0}

-- so it is of each of these steps
abbrev pub AreAtHand : Origin → Filling → Sources → List Step → Type 0
AreAtHand o f s steps = AllByRecursion (λ (step : Step). IsAtHand o f s step.what) steps
