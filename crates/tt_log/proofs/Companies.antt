-- What reports tell of companies is in range, where the world is sound.
use Rattle.std.proofs.Common.{◌≡◌, ℕ, suc, ◌+◌, ◌<◌, ◌≤◌, Bool, true, false, List, [], ◌∷◌, ◌++◌, Option, Some, None, refl, arith}
use Rattle.std.proofs.Common.{lit<}
use Rattle.std.specs.Prelude.{◌==◌, ◌^◌, codes, cond, decimal, filter, length, map, option_map, pos, negsuc, ℤ, neg_ℤ, ◌≤ℤ◌, FitsSigned}
use Rattle.std.specs.Prelude.{is_none, not}
use Rattle.std.specs.List.{AllByRecursion}
use Rattle.std.specs.Fmt.{signed_decimal}
use Rattle.std.specs.Int.{w64, cast_unsigned}
use Rattle.std.proofs.lemmas.Int.{ints}
use mir.Facts.{Fits-of_z}
use Rattle.std.proofs.lemmas.List.Sums.{prefix_len-le-length}
use Rattle.std.proofs.lemmas.Fmt.{length-decimal-le}
use Rattle.std.proofs.lemmas.List.{length-append}
use Rattle.std.proofs.lemmas.Str.{IsUtf8-nil}
use Rattle.std.proofs.lemmas.List.Elements.{All-nil}
use Rattle.tt_frame.specs.Text.{IsName, IsText, is_text}
use Rattle.tt_frame.proofs.TextLaws.{is_text-from_IsText, IsText-from_is_plain}
use Rattle.tt_admin.specs.declared.message.AdminMsg.{AdminMsg}
use Rattle.tt_admin.specs.declared.message.AdminMsg.TheVariants.{ServerWelcome, ServerRcon, ServerDate, ServerCompanyNew, ServerCompanyInfo}
use Rattle.tt_admin.specs.declared.message.AdminMsg.TheVariants.{ServerCompanyUpdate, ServerCompanyEconomy, ServerCompanyStats}
use Rattle.tt_world.specs.declared.setup.Setup.{Setup}
use Rattle.tt_world.specs.declared.company.Company.{Company}
use Rattle.tt_world.specs.declared.command.Code.{Code}
use Rattle.tt_world.specs.declared.command.Code.TheVariants.{RenameCompany, RenamePresident, NewCompany}
use Rattle.tt_world.specs.declared.command.Entry.{Entry}
use Rattle.tt_world.specs.declared.effect.Effect.{Effect}
use Rattle.tt_world.specs.declared.effect.Effect.TheVariants.{Done}
use Rattle.tt_world.specs.World.{WorldState, company_at, company_of}
use Rattle.tt_world.specs.Sound.{IsCompany, IsSound, most_money}
use Rattle.tt_world.specs.Commands.{applied, new_number}
use Rattle.tt_map.specs.Layout.{live_from}
use Rattle.tt_log.specs.Deed.{admin}
use Rattle.tt_log.specs.Table.{option_list}
use Rattle.tt_log.specs.Polls.{is_asked}
use Rattle.tt_log.specs.Reports.{asked_companies, company_economies, company_economy, company_info, company_infos, company_line}
use Rattle.tt_log.specs.Reports.{company_lines, company_stats, company_update, is_locked, live_companies, news_in, news_of, signs_of}
use Rattle.tt_log.specs.Reports.{told_of, welcome}
use Rattle.tt_log.proofs.Lists.{all-filter}
use Rattle.tt_log.proofs.GivenNames.{decimal-text, text-append}
use Rattle.tt_log.proofs.Worlds.{AreShort, IsGood, entry-good}
use Rattle.tt_log.proofs.Sending.{AreSent, IsSent, admin-spelled}

-- a company of a number
abbrev pub IsLive : ℕ × Company → Type 0
IsLive live = (live.0 < 2 ^ 8) × IsCompany live.1

pub name-text : (bytes : List ℕ) → IsName bytes → is_text 31 bytes ≡ true
name-text bytes h = is_text-from_IsText 31 bytes h.text h.fits

-- ---- the live companies

live-good : (n : ℕ) (places : List (Option Company)) → n + length places ≤ 15
    → ((k : ℕ) (c : Company) → company_at places k ≡ Some c → IsCompany c) → AllByRecursion IsLive (live_from n places)
live-good n [] few good = tt
live-good n (None ∷ places) few good = live-good (n + 1) places (omega (arith, few)) (λ k c is. good (suc k) c is)
live-good n (Some c ∷ places) few good =
    ((omega (arith, few), good 0 c refl), live-good (n + 1) places (omega (arith, few)) (λ k d is. good (suc k) d is))

all-live : (w : WorldState) → IsSound w → AllByRecursion IsLive (live_companies w)
all-live w h = let places = h.places in live-good 0 w.companies (omega (arith, places)) h.companies

asked-live : (id : ℕ) (w : WorldState) → IsSound w → AllByRecursion IsLive (asked_companies id w)
asked-live id w h = all-filter IsLive (λ (live : ℕ × Company). is_asked id live.0) (live_companies w) (all-live w h)

-- ---- each message

info-sent : (digests : List (ℕ × List ℕ)) (live : ℕ × Company) → IsLive live → IsSent (admin (company_info digests live))
info-sent digests live h = admin-spelled (ServerCompanyInfo live.0 live.1.name live.1.president (is_locked digests live.0)) refl
    (h.0, (name-text live.1.name h.1.name, (name-text live.1.president h.1.president, (tt, tt))))

update-sent : (digests : List (ℕ × List ℕ)) (live : ℕ × Company) → IsLive live → IsSent (admin (company_update digests live))
update-sent digests live h = admin-spelled (ServerCompanyUpdate live.0 live.1.name live.1.president (is_locked digests live.0)) refl
    (h.0, (name-text live.1.name h.1.name, (name-text live.1.president h.1.president, (tt, tt))))

money-signed : (z : ℤ) → neg_ℤ (pos most_money) ≤ℤ z → z ≤ℤ pos most_money → FitsSigned w64 z
money-signed (pos n) low high = omega (arith, ints)
money-signed (negsuc n) low high = omega (arith, ints)

unsigned-low : (z : ℤ) → FitsSigned w64 z → cast_unsigned w64 z < 2 ^ 64
unsigned-low z fits = let bound = Fits-of_z fits in omega arith

economy-sent : (live : ℕ × Company) → IsLive live → IsSent (admin (company_economy live))
economy-sent live h =
    let c : IsCompany live.1 = h.1 in
    let loan = c.loan in let most = c.most in
    admin-spelled (ServerCompanyEconomy live.0 (cast_unsigned w64 live.1.money) live.1.loan) refl
    (h.0, (unsigned-low live.1.money (money-signed live.1.money c.least_money c.most_money), (omega (arith, loan, most), tt)))

filter-step : {A : Type 0} (b : Bool) (x : A) (rest : List A) (n : ℕ) → length rest ≤ n → length (cond b (x ∷ rest) rest) ≤ suc n
filter-step true x rest n l = omega (arith, l)
filter-step false x rest n l = omega (arith, l)

pub filter-short : {A : Type 0} (p : A → Bool) (xs : List A) → length (filter p xs) ≤ length xs
filter-short p [] = omega arith
filter-short p (x ∷ xs) = filter-step (p x) x (filter p xs) (length xs) (filter-short p xs)

stats-sent : (w : WorldState) → IsSound w → (live : ℕ × Company) → IsLive live
    → IsSent (admin (ServerCompanyStats live.0 (signs_of w live.0)))
stats-sent w sound live h =
    let few = sound.few in
    let own = filter-short (λ g. g.owner == live.0) w.signs in
    admin-spelled (ServerCompanyStats live.0 (signs_of w live.0)) refl (h.0, (omega (arith, few, own), tt))

-- ---- the console's lines

blank : IsText (codes " ")
blank = IsText-from_is_plain (codes " ") refl

money-text : (z : ℤ) → neg_ℤ (pos most_money) ≤ℤ z → z ≤ℤ pos most_money → IsText (signed_decimal z) × (length (signed_decimal z) ≤ 21)
money-text (pos n) low high =
    let l : n < 2 ^ 63 = omega (arith, ints) in
    let k = length-decimal-le 20 n (omega arith) (omega (arith, l)) (omega (arith, l)) in (
      decimal-text n (omega (arith, l)),
      omega
          (arith, k),
    )
money-text (negsuc n) low high =
    let l : suc n < 2 ^ 63 = omega (arith, ints) in
    let k = length-decimal-le 20 (suc n) (omega arith) (omega (arith, l)) (omega (arith, l)) in (
      text-append (codes "-") (decimal (suc n)) (IsText-from_is_plain (codes "-") refl) (decimal-text (suc n) (omega (arith, l))),
      omega (arith, k),
    )

line-sent : (live : ℕ × Company) → IsLive live → IsSent (admin (ServerRcon 0 (company_line live)))
line-sent live h =
    let c : IsCompany live.1 = h.1 in
    let number : live.0 < 2 ^ 8 = h.0 in
    let loan = c.loan in let most = c.most in
    let money = money-text live.1.money c.least_money c.most_money in
    let a : List ℕ = decimal live.0 in
    let m : List ℕ = signed_decimal live.1.money in
    let b : List ℕ = decimal live.1.loan in
    let la = length-decimal-le 20 live.0 (omega arith) (omega (arith, number)) (omega (arith, number)) in
    let lb = length-decimal-le 20 live.1.loan (omega arith) (omega (arith, loan, most)) (omega (arith, loan, most)) in
    let n1 = length-append a (codes " ") in
    let n2 = length-append (a ++ codes " ") m in
    let n3 = length-append (a ++ codes " " ++ m) (codes " ") in
    let n4 = length-append (a ++ codes " " ++ m ++ codes " ") b in
    let n5 = length-append (a ++ codes " " ++ m ++ codes " " ++ b) (codes " ") in
    let n6 = length-append (a ++ codes " " ++ m ++ codes " " ++ b ++ codes " ") live.1.name in
    let t1 : IsText (a ++ codes " ") = text-append a (codes " ") (decimal-text live.0 (omega (arith, number))) blank in
    let t2 : IsText (a ++ codes " " ++ m) = text-append (a ++ codes " ") m t1 money.0 in
    let t3 : IsText (a ++ codes " " ++ m ++ codes " ") = text-append (a ++ codes " " ++ m) (codes " ") t2 blank in
    let t4 : IsText (a ++ codes " " ++ m ++ codes " " ++ b) = text-append (a ++ codes " " ++ m ++ codes " ") b t3
    (decimal-text live.1.loan (omega (arith, loan, most))) in
    let t5 : IsText (a ++ codes " " ++ m ++ codes " " ++ b ++ codes " ") =
    text-append (a ++ codes " " ++ m ++ codes " " ++ b) (codes " ") t4 blank in
    let t6 : IsText (company_line live) = text-append (a ++ codes " " ++ m ++ codes " " ++ b ++ codes " ") live.1.name t5 c.name.text in
    let short = c.name.fits in let lm = money.1 in
    admin-spelled (ServerRcon 0 (company_line live)) refl
    (lit< tt, (is_text-from_IsText 899 (company_line live) t6 (omega (arith, la, lm, lb, n1, n2, n3, n4, n5, n6, short)), tt))

-- ---- the news of a frame

of-sent : (message : ℕ × Company → AdminMsg) (number : ℕ) (w : WorldState)
    → ((live : ℕ × Company) → IsLive live → IsSent (admin (message live)))
    → number < 2 ^ 8 → IsSound w → AreSent (map admin (told_of message number w))
of-sent message number w each low sound = by (company_of w number) (λ c is. sound.companies number c is)
  where
    by : (x : Option Company) → ((c : Company) → x ≡ Some c → IsCompany c)
        → AreSent (map admin (option_list (option_map (λ (c : Company). message (number, c)) x)))
    by None good = tt
    by (Some c) good = (each (number, c) (low, good c refl), tt)

map-append : (xs ys : List AdminMsg) → AreSent (map admin xs) → AreSent (map admin ys) → AreSent (map admin (xs ++ ys))
map-append [] ys a b = b
map-append (x ∷ xs) ys a b = (a.0, map-append xs ys a.1 b)

entry-sent : (code : Code) (effect : Effect) (digests : List (ℕ × List ℕ)) (new own : ℕ) (w : WorldState) → new < 2 ^ 8 → own < 2 ^ 8
    → IsSound w → AreSent (map admin (news_of code effect digests new own w))
entry-sent NewCompany Done digests new own w low few sound =
    (admin-spelled (ServerCompanyNew new) refl (low, tt), of-sent (company_info digests) new w (info-sent digests) low sound)
entry-sent RenameCompany Done digests new own w low few sound = of-sent (company_update digests) own w (update-sent digests) few sound
entry-sent RenamePresident Done digests new own w low few sound = of-sent (company_update digests) own w (update-sent digests) few sound
entry-sent code effect digests new own w low few sound = tt

new-low : (w : WorldState) → IsSound w → new_number w.companies < 2 ^ 8
new-low w h = let l = prefix_len-le-length (λ (p : Option Company). not (is_none p)) w.companies in let places = h.places in omega
    (arith, l, places)

pub news-sent : (digests : List (ℕ × List ℕ)) (w : WorldState) (es : List Entry) → IsGood w → AreShort es
    → AllByRecursion (λ (e : Entry). e.company < 2 ^ 8) es → AreSent (map admin (news_in digests w es))
news-sent digests w [] good short low = tt
news-sent digests w (e ∷ es) good short low =
    let behind : IsGood (applied w e).0 = entry-good w e short.0 good in
    map-append (news_of e.command.code (applied w e).1 digests (new_number w.companies) e.company (applied w e).0)
    (news_in digests (applied w e).0 es)
    (entry-sent e.command.code (applied w e).1 digests (new_number w.companies) e.company (applied w e).0 (new-low w good.sound) low.0
    behind.sound) (news-sent digests (applied w e).0 es behind short.1 low.1)

-- ---- all companies that are asked for

each-sent : (message : ℕ × Company → AdminMsg) → ((live : ℕ × Company) → IsLive live → IsSent (admin (message live)))
    → (lives : List (ℕ × Company)) → AllByRecursion IsLive lives → AreSent (map admin (map message lives))
each-sent message each [] a = tt
each-sent message each (live ∷ lives) a = (each live a.0, each-sent message each lives a.1)

pub infos-sent : (digests : List (ℕ × List ℕ)) (id : ℕ) (w : WorldState) → IsSound w → AreSent (map admin (company_infos digests id w))
infos-sent digests id w h = each-sent (company_info digests) (info-sent digests) (asked_companies id w) (asked-live id w h)

pub economies-sent : (id : ℕ) (w : WorldState) → IsSound w → AreSent (map admin (company_economies id w))
economies-sent id w h = each-sent company_economy economy-sent (asked_companies id w) (asked-live id w h)

pub all-stats-sent : (id : ℕ) (w : WorldState) → IsSound w → AreSent (map admin (company_stats id w))
all-stats-sent id w h = each-sent _ (stats-sent w h) (asked_companies id w) (asked-live id w h)

pub lines-sent : (w : WorldState) → IsSound w → AreSent (map admin (company_lines w))
lines-sent w h = each-sent _ line-sent (live_companies w) (all-live w h)

-- ---- the game

pub empty-text : is_text 31 [] ≡ true
empty-text = is_text-from_IsText 31 [] (record { utf8 = IsUtf8-nil; shown = All-nil _ }) (omega arith)

pub welcome-sent : (setup : Setup) (day : ℕ) → IsName setup.name → IsName setup.revision → setup.seed < 2 ^ 32 → day < 2 ^ 32
    → IsSent (admin (welcome setup day))
welcome-sent setup day name revision seed low = admin-spelled
    (ServerWelcome setup.name setup.revision true [] setup.seed 0 day 256 256) refl
    (name-text setup.name name, (name-text setup.revision revision, (tt, (empty-text, (seed, (lit< tt, (low, (lit< tt, (lit< tt, tt)))))))))

pub date-sent : (day : ℕ) → day < 2 ^ 32 → IsSent (admin (ServerDate day))
date-sent day low = admin-spelled (ServerDate day) refl (low, tt)
