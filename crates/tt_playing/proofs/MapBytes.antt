-- The map of a sound world is bytes.
use Rattle.std.proofs.Common.{◌≡◌, ℕ, zero, suc, ◌+◌, ◌<◌, ◌≤◌, Bool, true, false, List, [], ◌∷◌, ◌++◌, length, Option, Some, None, refl}
use Rattle.std.proofs.Common.{arith, lit<}
use Rattle.std.specs.Prelude.{IfSome, IsSome, flat_map}
use Rattle.std.specs.List.{AllByRecursion}
use Rattle.std.specs.Int.{w16, w32, w64, cast_unsigned}
use Rattle.std.proofs.lemmas.Bool.{false≢true}
use Rattle.std.proofs.lemmas.List.Elements.{recursion_from_All}
use Rattle.tt_frame.specs.Text.{IsName}
use Rattle.tt_world.specs.World.{WorldState, company_at}
use Rattle.tt_world.specs.Sound.{IsCompany, IsSign, IsSound}
use Rattle.tt_world.specs.declared.company.Company.{Company}
use Rattle.tt_world.specs.declared.sign.Sign.{Sign}
use Rattle.tt_map.specs.Layout.{Chunk, CMPY, ENDC, GAME, RAND, SIGN, body_of, chunk, company_bytes, flag, head, live_from, map_of}
use Rattle.tt_map.specs.Layout.{map_tag, most_bytes, number_of, part_of, sign_bytes, spelled, tag_of, text_body, i64, u16, u32}
use Rattle.tt_map.specs.Reading.{version_with}
use Rattle.tt_playing.proofs.Bytes.{AreBytes, be-number, join, literal}
use Rattle.tt_playing.proofs.Spellings.{written-bytes}

text-bytes : (text : List ℕ) → IsName text → AreBytes (text_body text)
text-bytes text is = let few : length text ≤ 31 = is.fits in (omega (arith, few), written-bytes text is.text)

flag-small : (b : Bool) → flag b < 256
flag-small true = lit< tt
flag-small false = lit< tt

-- ---- companies, in a version whose greatest loans are told in bytes

abbrev TellsMosts : {V : Type 0} → (V → ℕ → List ℕ) → V → Type 0
TellsMosts tells version = (most : ℕ) → AreBytes (tells version most)

one-company : (version : _) (n : ℕ) (c : Company) → TellsMosts most_bytes version → n < 256 → IsCompany c
    → AreBytes (company_bytes version (n, c))
one-company version n c mosts low is =
    let money = i64 c.money in
    let loan = u32 c.loan in
    let most = most_bytes version c.most in
    let name = text_body c.name in
    let president = text_body c.president in
    let begun = money ++ loan in
    let first = join money loan (be-number w64 (cast_unsigned w64 c.money)) (be-number w32 c.loan) in
    let second = join begun most first (mosts c.most) in
    let third = join (begun ++ most) name second (text-bytes c.name is.name) in
    (low, join (begun ++ most ++ name) president third (text-bytes c.president is.president))

companies : (version : _) (n : ℕ) (places : List (Option Company)) → TellsMosts most_bytes version → n + length places ≤ 256
    → ((k : ℕ) (c : Company) → company_at places k ≡ Some c → IsCompany c)
    → AreBytes (flat_map (company_bytes version) (live_from n places))
companies version n [] mosts few are = tt
companies version n (None ∷ places) mosts few are =
    companies version (n + 1) places mosts (omega (arith, few)) (λ k c is. are (suc k) c is)
companies version n (Some c ∷ places) mosts few are =
    join (company_bytes version (n, c)) (flat_map (company_bytes version) (live_from (n + 1) places))
    (one-company version n c mosts (omega (arith, few)) (are 0 c refl))
    (companies version (n + 1) places mosts (omega (arith, few)) (λ k d is. are (suc k) d is))

live-few : (n : ℕ) (places : List (Option Company)) → length (live_from n places) ≤ length places
live-few n [] = omega arith
live-few n (None ∷ places) = let l = live-few (n + 1) places in omega (arith, l)
live-few n (Some c ∷ places) = let l = live-few (n + 1) places in omega (arith, l)

-- ---- signs

-- a place where a company lives is there
there : (places : List (Option Company)) (n : ℕ) → IsSome (company_at places n) → n < length places
there [] n is = absurd (false≢true is)
there (p ∷ places) zero is = omega arith
there (p ∷ places) (suc n) is = let l = there places n is in omega (arith, l)

one-sign : (places : List (Option Company)) (g : Sign) → length places ≤ 256 → IsSign places g → AreBytes (sign_bytes g)
one-sign places g few is =
    let l = there places g.owner is.owner in
    let id = u16 g.id in
    let tile = u32 g.tile in
    join id (g.owner ∷ (tile ++ text_body g.text)) (be-number w16 g.id) (
      omega (arith, l, few),
      join tile (text_body g.text)
          (be-number w32 g.tile) (text-bytes g.text is.text),
    )

signs : (places : List (Option Company)) (gs : List Sign) → length places ≤ 256 → AllByRecursion (IsSign places) gs
    → AreBytes (flat_map sign_bytes gs)
signs places [] few a = tt
signs places (g ∷ gs) few a = join (sign_bytes g) (flat_map sign_bytes gs) (one-sign places g few a.0) (signs places gs few a.1)

-- ---- chunks

tag-bytes : (c : Chunk) → AreBytes (tag_of c)
tag-bytes GAME = literal (tag_of GAME) refl
tag-bytes RAND = literal (tag_of RAND) refl
tag-bytes CMPY = literal (tag_of CMPY) refl
tag-bytes SIGN = literal (tag_of SIGN) refl
tag-bytes ENDC = literal (tag_of ENDC) refl

body-bytes : (version : _) (c : Chunk) (w : WorldState) → TellsMosts most_bytes version → IsSound w
    → AreBytes (body_of version c (part_of c w))
body-bytes version GAME w mosts is = let low : w.part < 74 = is.part in
    join (u32 w.day) (w.part ∷ flag w.paused ∷ []) (be-number w32 w.day) (omega (arith, low), (flag-small w.paused, tt))
body-bytes version RAND w mosts is = join (u32 w.words.0) (u32 w.words.1) (be-number w32 w.words.0) (be-number w32 w.words.1)
body-bytes version CMPY w mosts is =
    let places : length w.companies ≡ 15 = is.places in
    let l = live-few 0 w.companies in
    (omega (arith, l, places), companies version 0 w.companies mosts (omega (arith, places)) is.companies)
body-bytes version SIGN w mosts is =
    let places : length w.companies ≡ 15 = is.places in
    join (u16 (length w.signs)) (flat_map sign_bytes w.signs) (be-number w16 (length w.signs))
    (signs w.companies w.signs (omega (arith, places)) (recursion_from_All (IsSign w.companies) w.signs is.signs))
body-bytes version ENDC w mosts is = tt

chunk-bytes : (version : _) (c : Chunk) (w : WorldState) → TellsMosts most_bytes version → IsSound w
    → AreBytes (chunk version c (part_of c w))
chunk-bytes version c w mosts is =
    let body = body_of version c (part_of c w) in
    join (tag_of c ++ u32 (length body)) body (join (tag_of c) (u32 (length body)) (tag-bytes c) (be-number w32 (length body)))
    (body-bytes version c w mosts is)

whole : (version : _) (w : WorldState) → TellsMosts most_bytes version → IsSound w → AreBytes (spelled version w)
whole version w mosts is =
    let of : Chunk → List ℕ = λ c. chunk version c (part_of c w) in
    let begun : List ℕ = head version ++ of GAME in
    let more : List ℕ = begun ++ of RAND in
    let most : List ℕ = more ++ of CMPY in
    let tag = join map_tag (u32 (number_of version)) (literal map_tag refl) (be-number w32 (number_of version)) in
    let first = join (head version) (of GAME) tag (chunk-bytes version GAME w mosts is) in
    let second = join begun (of RAND) first (chunk-bytes version RAND w mosts is) in
    let third = join more (of CMPY) second (chunk-bytes version CMPY w mosts is) in
    join (most ++ of SIGN) (of ENDC) (join most (of SIGN) third (chunk-bytes version SIGN w mosts is))
    (chunk-bytes version ENDC w mosts is)

so-some : {V : Type 0} (o : Option V) (P Q : V → Type 0) → ((v : V) → P v → Q v) → IfSome o P → IfSome o Q
so-some None P Q so a = tt
so-some (Some v) P Q so a = so v a

-- a map is written in the version whose number this is
pub map-bytes : (w : WorldState) → IsSound w → AreBytes (map_of w)
map-bytes w is = so-some (version_with 0x00020000) (λ v. TellsMosts most_bytes v) (λ v. AreBytes (spelled v w))
    (λ v mosts. whole v w mosts is) (λ most. be-number w32 most)
