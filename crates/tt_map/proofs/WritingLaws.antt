-- The companies that are written one after another.
use Rattle.std.proofs.Common.{
  ◌≡◌,
  ℕ,
  suc,
  ◌+◌,
  ◌<◌,
  ◌≤◌,
  true,
  false,
  List,
  [],
  ◌∷◌,
  ◌++◌,
  length,
  take,
  refl,
  sym,
  ap,
  ◌∙◌,
  append_assoc,
  arith,
}
use Rattle.std.specs.Prelude.{Option, Some, None}
use Rattle.std.specs.Option.{is_some}
use Rattle.std.proofs.lemmas.Bool.{false≢true}
use Rattle.std.specs.List.{flat_map}
use Rattle.std.proofs.lemmas.Grind.{flat_map-append}
use Rattle.std.proofs.lemmas.List.{length-append, length-take, take_more}
use Rattle.tt_world.specs.World.{WorldState, company_at}
use Rattle.tt_world.specs.Sound.{IsSound}
use Rattle.tt_world.specs.declared.company.Company.{Company}
use Rattle.tt_map.specs.declared.version.Version.TheVariants.{Second}
use Rattle.tt_map.specs.Layout.{
  u32,
  live_from,
  company_bytes,
  Chunk,
  GAME,
  RAND,
  CMPY,
  SIGN,
  ENDC,
  Part,
  tag_of,
  body_of,
  part_of,
  chunk,
  head,
  map_tag,
  number_of,
  map_of,
}
use Rattle.tt_map.proofs.BodyLaws.{body_length}
use Rattle.tt_map.proofs.ChunkLaws.{four_of}

live_from-append : (n : ℕ) (xs ys : List (Option Company)) → live_from n (xs ++ ys) ≡ live_from n xs ++ live_from (n + length xs) ys
live_from-append n [] ys = let same : n ≡ n + 0 = omega arith in ap (λ (k : ℕ). live_from k ys) same
live_from-append n (None ∷ xs) ys =
    let same : n + 1 + length xs ≡ n + suc (length xs) = omega arith in
    live_from-append (n + 1) xs ys ∙ ap (λ (k : ℕ). live_from (n + 1) xs ++ live_from k ys) same
live_from-append n (Some c ∷ xs) ys =
    let same : n + 1 + length xs ≡ n + suc (length xs) = omega arith in
    ap (λ (l : List (ℕ × Company)). (n, c) ∷ l) (live_from-append (n + 1) xs ys ∙ ap (λ (k : ℕ). live_from (n + 1) xs
    ++ live_from k ys) same)

live_more : (places : List (Option Company)) (n : ℕ) (o : Option Company) → n < length places → o ≡ company_at places n
    → live_from 0 (take (n + 1) places) ≡ live_from 0 (take n places) ++ live_from n (o ∷ [])
live_more places n o lt is =
    let size : 0 + length (take n places) ≡ n = omega (arith, length-take n places) in
    ap (λ (l : List (Option Company)). live_from 0 l) (take_more places n None lt ∙ ap (λ (x : Option Company). take n places
    ++ x ∷ []) (sym is))
    ∙ live_from-append 0 (take n places) (o ∷ [])
    ∙ ap (λ (k : ℕ). live_from 0 (take n places) ++ live_from k (o ∷ [])) size

-- one place more is written
pub one_place : (places : List (Option Company)) (n : ℕ) (o : Option Company) → n < length places → o ≡ company_at places n
    → flat_map (company_bytes Second) (live_from 0 (take (n + 1) places)) ≡ flat_map (company_bytes Second) (live_from 0 (take n places))
    ++ flat_map (company_bytes Second) (live_from n (o ∷ []))
one_place places n o lt is =
    ap (λ (l : List (ℕ × Company)). flat_map (company_bytes Second) l) (live_more places n o lt is)
    ∙ flat_map-append (company_bytes Second) (live_from 0 (take n places)) (live_from n (o ∷ []))

length_more : (places : List (Option Company)) (n : ℕ) (o : Option Company) → n < length places → o ≡ company_at places n
    → length (live_from 0 (take (n + 1) places)) ≡ length (live_from 0 (take n places)) + length (live_from n (o ∷ []))
length_more places n o lt is = ap length (live_more places n o lt is) ∙ length-append (live_from 0 (take n places)) (live_from n (o ∷ []))

one_if : (o : Option Company) (n : ℕ) → is_some o ≡ true → length (live_from n (o ∷ [])) ≡ 1
one_if None n e = absurd (false≢true e)
one_if (Some c) n e = refl

none_if : (o : Option Company) (n : ℕ) → is_some o ≡ false → length (live_from n (o ∷ [])) ≡ 0
none_if None n e = refl
none_if (Some c) n e = absurd (false≢true (sym e))

pub count_with : (places : List (Option Company)) (n : ℕ) → n < length places → is_some (company_at places n) ≡ true
    → length (live_from 0 (take (n + 1) places)) ≡ length (live_from 0 (take n places)) + 1
count_with places n lt e = length_more places n (company_at places n) lt refl ∙ ap (λ (k : ℕ). length (live_from 0 (take n places)) + k)
    (one_if (company_at places n) n e)

pub count_without : (places : List (Option Company)) (n : ℕ) → n < length places → is_some (company_at places n) ≡ false
    → length (live_from 0 (take (n + 1) places)) ≡ length (live_from 0 (take n places)) + 0
count_without places n lt e = length_more places n (company_at places n) lt refl ∙ ap (λ (k : ℕ). length (live_from 0 (take n places)) + k)
    (none_if (company_at places n) n e)

-- ---- lengths

pub companies_fit : (w : WorldState) → IsSound w → length (body_of Second CMPY w.companies) ≤ 1216
companies_fit w h =
    body_length Second CMPY w w.companies (record { places = h.places; each = h.companies; names = h.names; mosts = λ n c at. tt })

pub signs_fit : (w : WorldState) → IsSound w → length (body_of Second SIGN w.signs) ≤ 39002
signs_fit w h = body_length Second SIGN w w.signs (record { few = h.few; rising = h.rising; each = h.signs })

pub chunk_length : (c : Chunk) (v : Part c) → length (chunk Second c v) ≡ 8 + length (body_of Second c v)
chunk_length c v = omega (
  arith,
  four_of c,
  length-append (tag_of c ++ u32 (length (body_of Second c v))) (body_of Second c v),
  length-append (tag_of c) (u32 (length (body_of Second c v))),
)

pub six_lengths : (h a b c d e : List ℕ) → length (h ++ a ++ b ++ c ++ d ++ e) ≡ length h + length a + length b + length c + length d
    + length e
six_lengths h a b c d e = simp length-append

pub map_length : (w : WorldState) → IsSound w → length (map_of w) ≤ 40280
map_length w h =
    let companies = companies_fit w h in
    let signs = signs_fit w h in
    omega (
      arith,
      six_lengths (head Second) (chunk Second GAME (part_of GAME w)) (chunk Second RAND (part_of RAND w))
          (chunk Second CMPY (part_of CMPY w)) (chunk Second SIGN (part_of SIGN w)) (chunk Second ENDC (part_of ENDC w)),
      chunk_length GAME (part_of GAME w),
      chunk_length RAND (part_of RAND w),
      chunk_length CMPY w.companies,
      chunk_length SIGN w.signs,
      chunk_length ENDC tt,
    )

-- ---- what writers in order wrote

-- three of them
pub three_wrote : (x o p q a b c : List ℕ) → o ≡ x ++ a → p ≡ o ++ b → q ≡ p ++ c → q ≡ x ++ (a ++ b ++ c)
three_wrote x o p q a b c f g h = h ∙ ap (λ (y : List ℕ). y ++ c) (g ∙ ap (λ (y : List ℕ). y ++ b) f) ∙ simp append_assoc

-- four of them
pub four_wrote : (x o p q r a b c d : List ℕ) → o ≡ x ++ a → p ≡ o ++ b → q ≡ p ++ c → r ≡ q ++ d → r ≡ x ++ (a ++ b ++ c ++ d)
four_wrote x o p q r a b c d f g h k = k ∙ ap (λ (y : List ℕ). y ++ d) (three_wrote x o p q a b c f g h) ∙ append_assoc x (a ++ b ++ c) d

pub with_bytes : (o : List ℕ) {a b : List ℕ} → a ≡ b → o ++ a ≡ o ++ b
with_bytes o e = ap (λ (y : List ℕ). o ++ y) e

-- a chunk with that body
put : (c : Chunk) → List ℕ → List ℕ
put c body = tag_of c ++ u32 (length body) ++ body

put_is : (c : Chunk) (v : Part c) (body : List ℕ) → body ≡ body_of Second c v → put c body ≡ chunk Second c v
unfolding put
put_is c v body e = ap (λ (y : List ℕ). tag_of c ++ u32 (length y) ++ y) e

-- one writer more
then : (o p x a b : List ℕ) → p ≡ o ++ a → o ≡ x → a ≡ b → p ≡ x ++ b
then o p x a b wrote before same = wrote ∙ ap (λ (y : List ℕ). y ++ a) before ∙ ap (λ (y : List ℕ). x ++ y) same

-- all that write a map
pub map_wrote : (w : WorldState) (o0 o1 o2 o3 o4 o5 o6 o7 game rand cmpy sign : List ℕ) → o0 ≡ [] → o1 ≡ o0 ++ map_tag → o2 ≡ o1
    ++ u32 (number_of Second)
    → game ≡ body_of Second GAME (part_of GAME w) → rand ≡ body_of Second RAND (part_of RAND w)
    → cmpy ≡ body_of Second CMPY (part_of CMPY w) → sign ≡ body_of Second SIGN (part_of SIGN w)
    → o3 ≡ o2 ++ (tag_of GAME ++ u32 (length game) ++ game) → o4 ≡ o3 ++ (tag_of RAND ++ u32 (length rand) ++ rand) → o5 ≡ o4
    ++ (tag_of CMPY ++ u32 (length cmpy) ++ cmpy)
    → o6 ≡ o5 ++ (tag_of SIGN ++ u32 (length sign) ++ sign) → o7 ≡ o6 ++ (tag_of ENDC ++ u32 0 ++ []) → o7 ≡ map_of w
unfolding put
map_wrote w o0 o1 o2 o3 o4 o5 o6 o7 game rand cmpy sign e0 e1 e2 eg er ec es e3 e4 e5 e6 e7 =
    let b2 : o2 ≡ head Second =
    then o1 o2 map_tag (u32 (number_of Second)) (u32 (number_of Second)) e2 (then o0 o1 [] map_tag map_tag e1 e0 refl) refl in
    let b3 = then o2 o3 (head Second) (put GAME game) (chunk Second GAME (part_of GAME w)) e3 b2 (put_is GAME (part_of GAME w) game eg) in
    let b4 = then o3 o4 (head Second ++ chunk Second GAME (part_of GAME w)) (put RAND rand) (chunk Second RAND (part_of RAND w)) e4 b3
    (put_is RAND (part_of RAND w) rand er) in
    let b5 = then o4 o5 (head Second ++ chunk Second GAME (part_of GAME w) ++ chunk Second RAND (part_of RAND w)) (put CMPY cmpy)
    (chunk Second CMPY (part_of CMPY w)) e5 b4 (put_is CMPY (part_of CMPY w) cmpy ec) in
    let b6 = then o5 o6 (head Second ++ chunk Second GAME (part_of GAME w) ++ chunk Second RAND (part_of RAND w)
    ++ chunk Second CMPY (part_of CMPY w)) (put SIGN sign) (chunk Second SIGN (part_of SIGN w)) e6 b5 (put_is SIGN (part_of SIGN w)
    sign es) in
    then o6 o7 (head Second ++ chunk Second GAME (part_of GAME w) ++ chunk Second RAND (part_of RAND w)
    ++ chunk Second CMPY (part_of CMPY w) ++ chunk Second SIGN (part_of SIGN w)) (put ENDC []) (chunk Second ENDC (part_of ENDC w)) e7
    b6 (put_is ENDC (part_of ENDC w) [] refl)
