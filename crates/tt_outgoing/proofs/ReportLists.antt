-- Messages on companies, one number after another; the news of entries, one after another; and reports as these.
use Rattle.std.proofs.Common.{◌≡◌, ℕ, ◌+◌, ◌<◌, Bool, true, false, cond, List, [], ◌∷◌, ◌++◌, Option, Some, None, drop, length, map, refl}
use Rattle.std.proofs.Common.{sym, ap, subst, ◌∙◌, append_assoc}
use Rattle.std.specs.Prelude.{◌||◌, filter, if◌then◌else◌, option_map}
use Rattle.std.specs.List.{list_any}
use Rattle.std.proofs.lemmas.List.{drop_more}
use Rattle.tt_admin.specs.declared.message.AdminMsg.{AdminMsg}
use Rattle.tt_admin.specs.declared.message.AdminMsg.TheVariants.{ServerCompanyNew}
use Rattle.tt_world.specs.declared.company.Company.{Company}
use Rattle.tt_world.specs.declared.command.Code.{Code}
use Rattle.tt_world.specs.declared.command.Code.TheVariants.{IncreaseLoan, DecreaseLoan, Give, PlaceSign, RenameSign, RenameCompany}
use Rattle.tt_world.specs.declared.command.Code.TheVariants.{RenamePresident, Pause, NewCompany}
use Rattle.tt_world.specs.declared.effect.Effect.{Effect}
use Rattle.tt_world.specs.declared.command.Entry.{Entry}
use Rattle.tt_world.specs.declared.effect.Effect.TheVariants.{Done}
use Rattle.tt_world.specs.World.{WorldState, company_at}
use Rattle.tt_world.specs.Commands.{applied, new_number}
use Rattle.tt_map.specs.Layout.{live_from}
use Rattle.tt_log.specs.declared.report.Report.{Report}
use Rattle.tt_log.specs.declared.report.Report.TheVariants.{CompanyEconomy, CompanyStats, CompanyLines}
use Rattle.tt_log.specs.Deed.{admin}
use Rattle.tt_log.specs.Filling.{Filling}
use Rattle.tt_log.specs.Origin.{Origin}
use Rattle.tt_log.specs.Polls.{everyone, is_asked}
use Rattle.tt_log.specs.Reports.{company_economies, company_info, company_lines, company_stats, news_in, news_of, reported, told_of}
use Rattle.tt_log.specs.Table.{option_list}
use Rattle.tt_outgoing.specs.declared.companies.Topic.TheVariants.{Economy, Stats, Line}
use Rattle.tt_outgoing.specs.declared.sources.Sources.{Sources}
use Rattle.tt_outgoing.specs.Companies.{company_message, company_messages, has_news}
use Rattle.tt_outgoing.specs.Sources.{IsAtHandFor}
use Rattle.tt_outgoing.specs.Staging.{Packet, packets_to}

-- ---- one number after another

abbrev asked : ℕ → ℕ × Company → Bool
asked id live = is_asked id live.0

-- the message on the company of a number, where it is asked for and lives
abbrev pub asked_of : Bool → (ℕ × Company → AdminMsg) → ℕ → Option Company → List AdminMsg
asked_of b f number place = if b then option_list (option_map (λ (c : Company). f (number, c)) place) else []

some_asked : (b : Bool) (f : ℕ × Company → AdminMsg) (n : ℕ) (c : Company) (rest : List (ℕ × Company))
    → map f (cond b ((n, c) ∷ rest) rest) ≡ asked_of b f n (Some c) ++ map f rest
some_asked true f n c rest = refl
some_asked false f n c rest = refl

none_asked : (b : Bool) (f : ℕ × Company → AdminMsg) (n : ℕ) (rest : List AdminMsg) → rest ≡ asked_of b f n None ++ rest
none_asked true f n rest = refl
none_asked false f n rest = refl

place_asked : (f : ℕ × Company → AdminMsg) (id n : ℕ) (place : Option Company) (places : List (Option Company))
    → map f (filter (asked id) (live_from n (place ∷ places)))
    ≡ asked_of (is_asked id n) f n place ++ map f (filter (asked id) (live_from (n + 1) places))
place_asked f id n None places = none_asked (is_asked id n) f n (map f (filter (asked id) (live_from (n + 1) places)))
place_asked f id n (Some c) places = some_asked (is_asked id n) f n c (filter (asked id) (live_from (n + 1) places))

pub asked_step : (f : ℕ × Company → AdminMsg) (id n : ℕ) (places : List (Option Company)) (all before after : List AdminMsg) → n < length
    places
    → all ≡ before ++ map f (filter (asked id) (live_from n (drop n places)))
    → after ≡ before ++ asked_of (is_asked id n) f n (company_at places n)
    → all ≡ after ++ map f (filter (asked id) (live_from (n + 1) (drop (n + 1) places)))
asked_step f id n places all before after lt was is =
    let rest : List AdminMsg = map f (filter (asked id) (live_from (n + 1) (drop (n + 1) places))) in
    let more : List AdminMsg = asked_of (is_asked id n) f n (company_at places n) in
    was ∙ ap (λ (l : List (Option Company)). before ++ map f (filter (asked id) (live_from n l))) (drop_more places n None lt)
    ∙ ap (λ (l : List AdminMsg). before ++ l) (place_asked f id n (company_at places n) (drop (n + 1) places))
    ∙ sym (append_assoc before more rest) ∙ ap (λ (l : List AdminMsg). l ++ rest) (sym is)

-- all are asked for
all_asked : (lives : List (ℕ × Company)) → filter (asked everyone) lives ≡ lives
all_asked [] = refl
all_asked (live ∷ lives) = ap (λ (l : List (ℕ × Company)). live ∷ l) (all_asked lives)

pub lines_all : (digests : List (ℕ × List ℕ)) (w : WorldState) → company_messages Line digests everyone w ≡ company_lines w
lines_all digests w = ap (λ (l : List (ℕ × Company)). map (company_message Line digests w) l) (all_asked (live_from 0 w.companies))

-- ---- one entry after another

pub news_step : (digests : List (ℕ × List ℕ)) (w after_w : WorldState) (all before after : List AdminMsg) (entries more : List Entry) (e :
    Entry)
    → entries ≡ e ∷ more → all ≡ before ++ news_in digests w entries → after_w ≡ (applied w e).0
    → after ≡ before ++ news_of e.command.code (applied w e).1 digests (new_number w.companies) e.company (applied w e).0
    → all ≡ after ++ news_in digests after_w more
news_step digests w after_w all before after entries more e first was w_is is =
    let news : List AdminMsg = news_of e.command.code (applied w e).1 digests (new_number w.companies) e.company (applied w e).0 in
    was ∙ ap (λ (l : List Entry). before ++ news_in digests w l) first
    ∙ sym (append_assoc before news (news_in digests (applied w e).0 more))
    ∙ ap (λ (l : List AdminMsg). l ++ news_in digests (applied w e).0 more) (sym is)
    ∙ ap (λ (v : WorldState). after ++ news_in digests v more) (sym w_is)

pub news_founded : (digests : List (ℕ × List ℕ)) (w : WorldState) (code : Code) (new own : ℕ) (before pushed after : List AdminMsg)
    → code ≡ NewCompany → pushed ≡ before ++ ServerCompanyNew new ∷ [] → after ≡ pushed ++ told_of (company_info digests) new w
    → after ≡ before ++ news_of code Done digests new own w
news_founded digests w code new own before pushed after is pushed_is after_is =
    let told : List AdminMsg = told_of (company_info digests) new w in
    after_is ∙ ap (λ (l : List AdminMsg). l ++ told) pushed_is ∙ append_assoc before (ServerCompanyNew new ∷ []) told
    ∙ ap (λ (d : Code). before ++ news_of d Done digests new own w) (sym is)

-- ---- reports

pub economies_said : (o : Origin) (f : Filling) (s : Sources) (to : List ℕ) (r : Report) (id : ℕ) (before after : List Packet)
    → r ≡ CompanyEconomy id → IsAtHandFor o f s r
    → after ≡ before ++ packets_to to (map admin (company_messages Economy f.digests id s.world.now))
    → after ≡ before ++ packets_to to (map admin (reported o f r))
economies_said o f s to r id before after is at after_is =
    let P : Report → Type 0 = λ x. IsAtHandFor o f s x in
    let world : s.world.now ≡ f.world = subst P is at in
    after_is ∙ ap (λ (w : WorldState). before ++ packets_to to (map admin (company_economies id w))) world
    ∙ ap (λ (x : Report). before ++ packets_to to (map admin (reported o f x))) (sym is)

pub stats_said : (o : Origin) (f : Filling) (s : Sources) (to : List ℕ) (r : Report) (id : ℕ) (before after : List Packet)
    → r ≡ CompanyStats id → IsAtHandFor o f s r
    → after ≡ before ++ packets_to to (map admin (company_messages Stats f.digests id s.world.now))
    → after ≡ before ++ packets_to to (map admin (reported o f r))
stats_said o f s to r id before after is at after_is =
    let P : Report → Type 0 = λ x. IsAtHandFor o f s x in
    let world : s.world.now ≡ f.world = subst P is at in
    after_is ∙ ap (λ (w : WorldState). before ++ packets_to to (map admin (company_stats id w))) world
    ∙ ap (λ (x : Report). before ++ packets_to to (map admin (reported o f x))) (sym is)

pub lines_said : (o : Origin) (f : Filling) (s : Sources) (to : List ℕ) (r : Report) (before after : List Packet)
    → r ≡ CompanyLines → IsAtHandFor o f s r
    → after ≡ before ++ packets_to to (map admin (company_messages Line f.digests everyone s.world.now))
    → after ≡ before ++ packets_to to (map admin (reported o f r))
lines_said o f s to r before after is at after_is =
    let P : Report → Type 0 = λ x. IsAtHandFor o f s x in
    let world : s.world.now ≡ f.world = subst P is at in
    after_is ∙ ap (λ (l : List AdminMsg). before ++ packets_to to (map admin l)) (lines_all f.digests s.world.now)
    ∙ ap (λ (w : WorldState). before ++ packets_to to (map admin (company_lines w))) world
    ∙ ap (λ (x : Report). before ++ packets_to to (map admin (reported o f x))) (sym is)

-- ---- no news

quiet : (code : Code) (effect : Effect) (digests : List (ℕ × List ℕ)) (new own : ℕ) (w : WorldState) → has_news code ≡ false
    → news_of code effect digests new own w ≡ []
quiet IncreaseLoan effect digests new own w none = refl
quiet DecreaseLoan effect digests new own w none = refl
quiet Give effect digests new own w none = refl
quiet PlaceSign effect digests new own w none = refl
quiet RenameSign effect digests new own w none = refl
quiet RenameCompany effect digests new own w none = absurd (cc none)
quiet RenamePresident effect digests new own w none = absurd (cc none)
quiet Pause effect digests new own w none = refl
quiet NewCompany effect digests new own w none = absurd (cc none)

first_none : (a b : Bool) → (a || b) ≡ false → a ≡ false
first_none true b e = e
first_none false b e = refl

others_none : (a b : Bool) → (a || b) ≡ false → b ≡ false
others_none true b e = absurd (cc e)
others_none false b e = e

pub no_news : (digests : List (ℕ × List ℕ)) (w : WorldState) (entries : List Entry)
    → list_any (λ (e : Entry). has_news e.command.code) entries ≡ false → news_in digests w entries ≡ []
no_news digests w [] none = refl
no_news digests w (e ∷ entries) none =
    let rest : Bool = list_any (λ (x : Entry). has_news x.command.code) entries in
    ap (λ (l : List AdminMsg). l ++ news_in digests (applied w e).0 entries)
    (quiet e.command.code (applied w e).1 digests (new_number w.companies) e.company (applied w e).0
    (first_none (has_news e.command.code) rest none))
    ∙ no_news digests (applied w e).0 entries (others_none (has_news e.command.code) rest none)
