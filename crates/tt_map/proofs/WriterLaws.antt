-- A map is its pieces, one after another; and what is written of it so far.
use Rattle.std.proofs.Common.{
  ◌≡◌,
  ◌≢◌,
  ℕ,
  suc,
  ◌+◌,
  ◌-◌,
  ◌<◌,
  ◌≤◌,
  Bool,
  true,
  false,
  List,
  [],
  ◌∷◌,
  ◌++◌,
  length,
  take,
  drop,
  min,
  refl,
  sym,
  ap,
  ◌∙◌,
  append_assoc,
  arith,
  zero,
}
use Rattle.std.specs.Prelude.{Option, Some, None, nat_lt, if◌then◌else◌}
use Rattle.std.specs.List.{flat_map}
use Rattle.std.proofs.lemmas.Grind.{flat_map-append}
use Rattle.std.proofs.lemmas.List.{
  append-nil,
  length-append,
  length-take,
  length-drop,
  take-append-drop,
  drop-drop,
  drop_more,
  drop_all,
  get_or_past,
  drop_at,
  drop-append-le,
  take-append-le,
  take_at,
}
use Rattle.std.proofs.lemmas.Bool.{false≢true}
use Rattle.tt_frame.proofs.TestLaws.{lt_of_test, test_of_lt, le_of_no_test, no_test_of_le}
use Rattle.tt_world.specs.World.{WorldState, company_at}
use Rattle.tt_world.specs.Sound.{IsSound}
use Rattle.tt_world.specs.declared.company.Company.{Company}
use Rattle.tt_world.specs.declared.sign.Sign.{Sign}
use Rattle.tt_map.specs.declared.version.Version.TheVariants.{Second}
use Rattle.tt_map.specs.declared.place.Place.{Place}
use Rattle.tt_map.specs.declared.place.Place.TheVariants.{Front, CompanyAt, Between, SignAt, Back, Over}
use Rattle.tt_map.specs.Layout.{
  u16,
  u32,
  live_from,
  company_bytes,
  sign_bytes,
  GAME,
  RAND,
  CMPY,
  SIGN,
  ENDC,
  tag_of,
  body_of,
  part_of,
  chunk,
  head,
  map_of,
}
use Rattle.tt_map.specs.Writing.{Writing, unwritten, begun, size_given, wrote, all_given, after_all, signs_on, from, piece_at, next, IsAt}
use Rattle.tt_map.proofs.WritingLaws.{six_lengths, chunk_length}

-- ---- places

if_true : {X : Type 0} (b : Bool) (x y : X) → b ≡ true → x ≡ (if b then x else y)
if_true true x y e = refl
if_true false x y e = absurd (false≢true e)

if_false : {X : Type 0} (b : Bool) (x y : X) → b ≡ false → y ≡ (if b then x else y)
if_false true x y e = absurd (false≢true (sym e))
if_false false x y e = refl

pub next_company : (w : WorldState) (n : ℕ) → n < 15 → CompanyAt (n + 1) ≡ next w (CompanyAt n)
next_company w n lt = if_true (nat_lt n 15) (CompanyAt (n + 1)) Between (test_of_lt n 15 lt)

pub past_company : (w : WorldState) (n : ℕ) → 15 ≤ n → Between ≡ next w (CompanyAt n)
past_company w n le = if_false (nat_lt n 15) (CompanyAt (n + 1)) Between (no_test_of_le n 15 le)

pub next_sign : (w : WorldState) (i : ℕ) → i < length w.signs → SignAt (i + 1) ≡ next w (SignAt i)
next_sign w i lt = if_true (nat_lt i (length w.signs)) (SignAt (i + 1)) Back (test_of_lt i (length w.signs) lt)

pub past_sign : (w : WorldState) (i : ℕ) → length w.signs ≤ i → Back ≡ next w (SignAt i)
past_sign w i le = if_false (nat_lt i (length w.signs)) (SignAt (i + 1)) Back (no_test_of_le i (length w.signs) le)

-- how far a place is from the end
abbrev pub rank : WorldState → Place → ℕ
rank w Front = 40 + length w.signs
rank w (CompanyAt n) = (15 - n) + 4 + length w.signs
rank w Between = 3 + length w.signs
rank w (SignAt i) = (length w.signs - i) + 2
rank w Back = 1
rank w Over = 0

rank_company : (w : WorldState) (n : ℕ) (b : Bool) → nat_lt n 15 ≡ b → rank w (if b then CompanyAt (n + 1) else Between) < rank w
    (CompanyAt n)
rank_company w n true e = let lt = lt_of_test n 15 e in omega arith
rank_company w n false e = let le = le_of_no_test n 15 e in omega arith

rank_sign : (w : WorldState) (i : ℕ) (b : Bool) → nat_lt i (length w.signs) ≡ b → rank w (if b then SignAt (i + 1) else Back) < rank w
    (SignAt i)
rank_sign w i true e = let lt = lt_of_test i (length w.signs) e in omega arith
rank_sign w i false e = let le = le_of_no_test i (length w.signs) e in omega arith

pub rank_falls : (w : WorldState) (p : Place) → p ≢ Over → rank w (next w p) < rank w p
rank_falls w Front over = omega arith
rank_falls w (CompanyAt n) over = rank_company w n (nat_lt n 15) refl
rank_falls w Between over = omega arith
rank_falls w (SignAt i) over = rank_sign w i (nat_lt i (length w.signs)) refl
rank_falls w Back over = omega arith
rank_falls w Over over = absurd (over refl)

-- ---- a place's piece, and then the rest

assoc : (a b c : List ℕ) → (a ++ b) ++ c ≡ a ++ (b ++ c)
assoc a b c = append_assoc a b c

front_joins : (h a b t l f s e : List ℕ) (n : ℕ) → h ++ a ++ b ++ (t ++ l ++ (n ∷ f)) ++ s ++ e ≡ (h ++ a ++ b ++ t ++ l ++ (n ∷ []))
    ++ (f ++ (s ++ e))
front_joins h a b t l f s e n = simp append_assoc

three_joins : (t l u f e : List ℕ) → (t ++ l ++ (u ++ f)) ++ e ≡ (t ++ l ++ u) ++ (f ++ e)
three_joins t l u f e = simp append_assoc

live_first : (n : ℕ) (o : Option Company) (os : List (Option Company)) → live_from n (o ∷ os) ≡ live_from n (o ∷ []) ++ live_from (n + 1) os
live_first n None os = refl
live_first n (Some c) os = refl

company_first : (w : WorldState) (n : ℕ) → n < length w.companies → (rest : List ℕ)
    → flat_map (company_bytes Second) (live_from n (drop n w.companies)) ++ rest
    ≡ flat_map (company_bytes Second) (live_from n (company_at w.companies n ∷ []))
    ++ (flat_map (company_bytes Second) (live_from (n + 1) (drop (n + 1) w.companies)) ++ rest)
company_first w n lt rest =
    let o = company_at w.companies n in
    let os = drop (n + 1) w.companies in
    ap (λ (l : List (Option Company)). flat_map (company_bytes Second) (live_from n l) ++ rest) (drop_more w.companies n None lt)
    ∙ ap (λ (l : List (ℕ × Company)). flat_map (company_bytes Second) l ++ rest) (live_first n o os)
    ∙ ap (λ (l : List ℕ). l ++ rest) (flat_map-append (company_bytes Second) (live_from n (o ∷ [])) (live_from (n + 1) os))
    ∙ assoc (flat_map (company_bytes Second) (live_from n (o ∷ []))) (flat_map (company_bytes Second) (live_from (n + 1) os)) rest

no_company : (w : WorldState) (n : ℕ) → length w.companies ≤ n → (rest : List ℕ)
    → flat_map (company_bytes Second) (live_from n (drop n w.companies))
    ++ rest ≡ flat_map (company_bytes Second) (live_from n (company_at w.companies n ∷ [])) ++ rest
no_company w n le rest =
    ap (λ (l : List (Option Company)). flat_map (company_bytes Second) (live_from n l) ++ rest) (drop_all n w.companies le)
    ∙ ap (λ (o : Option Company). flat_map (company_bytes Second) (live_from n (o ∷ [])) ++ rest) (sym (get_or_past w.companies n None le))

sign_first : (w : WorldState) (i : ℕ) (rest : List ℕ)
    → flat_map sign_bytes (drop i w.signs) ++ rest ≡ flat_map sign_bytes (take 1 (drop i w.signs))
    ++ (flat_map sign_bytes (drop (i + 1) w.signs) ++ rest)
sign_first w i rest =
    ap (λ (l : List Sign). flat_map sign_bytes l ++ rest) (sym (take-append-drop 1 (drop i w.signs)))
    ∙ ap (λ (l : List ℕ). l ++ rest) (flat_map-append sign_bytes (take 1 (drop i w.signs)) (drop 1 (drop i w.signs)))
    ∙ assoc (flat_map sign_bytes (take 1 (drop i w.signs))) (flat_map sign_bytes (drop 1 (drop i w.signs))) rest
    ∙ ap (λ (l : List Sign). flat_map sign_bytes (take 1 (drop i w.signs)) ++ (flat_map sign_bytes l ++ rest)) (drop-drop 1 i w.signs)

no_sign : (w : WorldState) (i : ℕ) → length w.signs ≤ i → (rest : List ℕ) → flat_map sign_bytes (drop i w.signs)
    ++ rest ≡ flat_map sign_bytes (take 1 (drop i w.signs)) ++ rest
no_sign w i le rest =
    let none = drop_all i w.signs le in
    ap (λ (l : List Sign). flat_map sign_bytes l ++ rest) none ∙ ap (λ (l : List Sign). flat_map sign_bytes (take 1 l) ++ rest) (sym none)

company_piece : (w : WorldState) → IsSound w → (n : ℕ) (b : Bool) → nat_lt n 15 ≡ b → from w (CompanyAt n) ≡ piece_at w (CompanyAt n)
    ++ from w (if b then CompanyAt (n + 1) else Between)
company_piece w h n true e = let lt = lt_of_test n 15 e in company_first w n (omega (arith, h.places)) (signs_on w)
company_piece w h n false e = no_company w n (let le = le_of_no_test n 15 e in omega (arith, h.places)) (signs_on w)

sign_piece : (w : WorldState) (i : ℕ) (b : Bool) → nat_lt i (length w.signs) ≡ b → from w (SignAt i) ≡ piece_at w (SignAt i)
    ++ from w (if b then SignAt (i + 1) else Back)
sign_piece w i true e = sign_first w i (chunk Second ENDC tt)
sign_piece w i false e = no_sign w i (le_of_no_test i (length w.signs) e) (chunk Second ENDC tt)

pub piece_first : (w : WorldState) → IsSound w → (p : Place) → from w p ≡ piece_at w p ++ from w (next w p)
piece_first w h Front =
    front_joins (head Second) (chunk Second GAME (part_of GAME w)) (chunk Second RAND (part_of RAND w)) (tag_of CMPY)
    (u32 (length (body_of Second CMPY w.companies)))
    (flat_map (company_bytes Second) (live_from 0 w.companies)) (chunk Second SIGN w.signs) (chunk Second ENDC tt)
    (length (live_from 0 w.companies))
piece_first w h (CompanyAt n) = company_piece w h n (nat_lt n 15) refl
piece_first w h Between = three_joins (tag_of SIGN) (u32 (length (body_of Second SIGN w.signs))) (u16 (length w.signs))
    (flat_map sign_bytes w.signs) (chunk Second ENDC tt)
piece_first w h (SignAt i) = sign_piece w i (nat_lt i (length w.signs)) refl
piece_first w h Back = sym (append-nil (chunk Second ENDC tt))
piece_first w h Over = refl

pub map_size : (w : WorldState) → length (map_of w) ≡ 62 + length (body_of Second CMPY w.companies) + length (body_of Second SIGN w.signs)
map_size w =
    omega (
      arith,
      six_lengths (head Second) (chunk Second GAME (part_of GAME w)) (chunk Second RAND (part_of RAND w))
          (chunk Second CMPY (part_of CMPY w)) (chunk Second SIGN (part_of SIGN w)) (chunk Second ENDC (part_of ENDC w)),
      chunk_length GAME (part_of GAME w),
      chunk_length RAND (part_of RAND w),
      chunk_length CMPY w.companies,
      chunk_length SIGN w.signs,
      chunk_length ENDC tt,
    )

-- ---- the cursor

-- so many bytes more of a piece
pub went_on : (w : WorldState) → IsSound w → (written : ℕ) (p : Place) (within n : ℕ) → IsAt w written p within
    → n ≤ length (piece_at w p) - within → IsAt w (written + n) p (within + n)
went_on w h written p within n at le =
    let left = ap length at.rest in
    let whole = ap length (piece_first w h p) in
    record {
      inside = omega (arith, at.inside);
      few =
          omega (
            arith,
            at.inside,
            at.few,
            left,
            whole,
            length-append (piece_at w p) (from w (next w p)),
            length-drop within (from w p),
            length-drop written (map_of w),
          );
      rest = sym (drop-drop n within (from w p)) ∙ ap (λ (l : List ℕ). drop n l) at.rest ∙ drop-drop n written (map_of w);
    }

-- the piece is written
pub went_over : (w : WorldState) → IsSound w → (written : ℕ) (p : Place) (within : ℕ) → IsAt w written p within
    → within ≡ length (piece_at w p) → IsAt w written (next w p) 0
went_over w h written p within at e = record {
  inside = omega arith;
  few = at.few;
  rest = sym (drop_at (piece_at w p) (from w (next w p)) within (sym e)) ∙ ap (λ (l : List ℕ). drop within l) (sym (piece_first w h p))
      ∙ at.rest;
}

-- ---- the bytes

abbrev none : List ℕ
none = []

take_none : (m : ℕ) → take m none ≡ []
take_none zero = refl
take_none (suc m) = refl

take_both : (n m : ℕ) (xs : List ℕ) → take (n + m) xs ≡ take n xs ++ take m (drop n xs)
take_both zero m xs = let e : zero + m ≡ m = omega arith in ap (λ (k : ℕ). take k xs) e
take_both (suc n) m [] = take_none (suc n + m) ∙ sym (take_none m)
take_both (suc n) m (x ∷ xs) = let e : suc n + m ≡ suc (n + m) = omega arith in rw e (ap (λ (l : List ℕ). x ∷ l) (take_both n m xs))

joined_length : (r room : List ℕ) (k : ℕ) → k ≤ length r → k ≤ length room → length (take k r ++ drop k room) ≡ length room
joined_length r room k low high = omega (arith, length-append (take k r) (drop k room), length-take k r, length-drop k room)

none_left : (k : ℕ) → 0 - k ≡ 0
none_left k = omega arith

more_bytes : (r out0 out more rest : List ℕ) (f n : ℕ) → f ≤ length r → out ≡ take f r ++ drop f out0 → more ≡ take f out ++ take n rest
    ++ drop (f + n) out → take n rest ≡ take n (drop f r)
    → more ≡ take (f + n) r ++ drop (f + n) out0
more_bytes r out0 out more rest f n le was is same =
    let size : length (take f r) ≡ f = omega (arith, length-take f r) in
    let first : take f out ≡ take f r = ap (λ (l : List ℕ). take f l) was ∙ take_at (take f r) (drop f out0) f size in
    let last : drop f out ≡ drop f out0 = ap (λ (l : List ℕ). drop f l) was ∙ drop_at (take f r) (drop f out0) f size in
    let behind : drop (f + n) out ≡ drop (f + n) out0 = sym (drop-drop n f out) ∙ ap (λ (l : List ℕ). drop n l) last ∙ drop-drop n f out0 in
    is
    ∙ ap (λ (l : List ℕ). l ++ take n rest ++ drop (f + n) out) first
    ∙ ap (λ (l : List ℕ). take f r ++ l ++ drop (f + n) out) same
    ∙ ap (λ (l : List ℕ). take f r ++ take n (drop f r) ++ l) behind
    ∙ ap (λ (l : List ℕ). l ++ drop (f + n) out0) (sym (take_both f n r))

-- so many bytes are put into the room, and the cursor stands there
pub record IsWriting (w : WorldState) (start : ℕ) (room : List ℕ) (written : ℕ) (p : Place) (within : ℕ) (out : List ℕ) (filled : ℕ) : Type
    0 where
  pub at : IsAt w written p within
  pub count : written ≡ start + filled
  pub fits : filled ≤ length room
  pub size : length out ≡ length room
  pub bytes : out ≡ take filled (drop start (map_of w)) ++ drop filled room

pub begins : (w : WorldState) (start : ℕ) (room : List ℕ) (p : Place) (within : ℕ) → IsAt w start p within
    → IsWriting w start room start p within room 0
begins w start room p within at = record { at = at; count = omega arith; fits = omega arith; size = refl; bytes = refl }

pub one_more : (w : WorldState) → IsSound w → (start : ℕ) (room : List ℕ) (written : ℕ) (p : Place) (within : ℕ) (out : List ℕ)
    (filled : ℕ) (rest more : List ℕ) (n : ℕ)
    → IsWriting w start room written p within out filled
    → rest ≡ drop within (piece_at w p)
    → n ≡ min (length rest) (length out - filled)
    → more ≡ take filled out ++ take n rest ++ drop (filled + n) out
    → IsWriting w start room (written + n) p (within + n) more (filled + n)
one_more w h start room written p within out filled rest more n is piece few put =
    let r = drop start (map_of w) in
    let size : length rest ≡ length (piece_at w p) - within = ap length piece ∙ length-drop within (piece_at w p) in
    let at = went_on w h written p within n is.at (omega (arith, size, few)) in
    let here : drop filled r ≡ drop within (piece_at w p) ++ from w (next w p) =
    drop-drop filled start (map_of w)
    ∙ ap (λ (k : ℕ). drop k (map_of w)) (sym is.count)
    ∙ sym is.at.rest
    ∙ ap (λ (l : List ℕ). drop within l) (piece_first w h p)
    ∙ drop-append-le within (piece_at w p) (from w (next w p)) is.at.inside in
    let same : take n rest ≡ take n (drop filled r) =
    ap (λ (l : List ℕ). take n l) piece
    ∙ sym (take-append-le n (drop within (piece_at w p)) (from w (next w p)) (omega (arith, few, ap length piece)))
    ∙ ap (λ (l : List ℕ). take n l) (sym here) in
    let bytes = more_bytes r room out more rest filled n (omega (arith, is.count, is.at.few, length-drop start (map_of w))) is.bytes put
    same in
    record {
      at = at;
      count = omega (arith, is.count);
      fits = omega (arith, few, is.fits, is.size);
      size = ap length bytes ∙ joined_length r room (filled + n) (omega (arith, at.few, is.count, length-drop start (map_of w)))
          (omega (arith, few, is.fits, is.size));
      bytes = bytes;
    }

pub one_over : (w : WorldState) → IsSound w → (start : ℕ) (room : List ℕ) (written : ℕ) (p : Place) (within : ℕ) (out : List ℕ) (filled : ℕ)
    → IsWriting w start room written p within out filled → within ≡ length (piece_at w p) → IsWriting w start room written (next w p) 0 out
    filled
one_over w h start room written p within out filled is e =
    record { at = went_over w h written p within is.at e; count = is.count; fits = is.fits; size = is.size; bytes = is.bytes }

-- at the end nothing is left
pub ended : (w : WorldState) (written : ℕ) (p : Place) (within : ℕ) → IsAt w written p within → p ≡ Over → written ≡ length (map_of w)
ended w written p within at e =
    let nothing : length (drop within (from w p)) ≡ 0 =
    ap (λ (q : Place). length (drop within (from w q))) e ∙ length-drop within [] ∙ none_left within in
    omega (arith, nothing, ap length at.rest, length-drop written (map_of w), at.few)

fills : (filled start room written whole : ℕ) → filled ≡ room → written ≡ start + filled → written ≤ whole
    → filled ≡ min room (whole - start)
fills filled start room written whole e count few = omega arith

empties : (filled start room written whole : ℕ) → written ≡ whole → written ≡ start + filled → filled ≤ room
    → filled ≡ min room (whole - start)
empties filled start room written whole e count fits = omega arith

-- the count of a writing that filled the room, or came to the end
pub filled_up : (w : WorldState) (start : ℕ) (room : List ℕ) (written : ℕ) (p : Place) (within : ℕ) (out : List ℕ) (filled : ℕ)
    → IsWriting w start room written p within out filled → filled ≡ length room → filled ≡ min (length room) (length (map_of w) - start)
filled_up w start room written p within out filled is e = fills filled start (length room) written (length (map_of w)) e is.count is.at.few

pub wrote_all : (w : WorldState) (start : ℕ) (room : List ℕ) (written : ℕ) (p : Place) (within : ℕ) (out : List ℕ) (filled : ℕ)
    → IsWriting w start room written p within out filled → p ≡ Over → filled ≡ min (length room) (length (map_of w) - start)
wrote_all w start room written p within out filled is e =
    empties filled start (length room) written (length (map_of w)) (ended w written p within is.at e) is.count is.fits

-- ---- writes one after another

-- what writes give, and what is left behind them, is what was left before them
pub given_then_left : (rooms : List ℕ) (writing : Writing) → unwritten writing ≡ all_given rooms writing
    ++ unwritten (after_all rooms writing)
given_then_left [] writing = refl
given_then_left (room ∷ rooms) writing =
    let n = size_given room writing in
    let rest = unwritten writing in
    let later : drop n rest ≡ all_given rooms (wrote room writing) ++ unwritten (after_all rooms (wrote room writing)) =
    drop-drop n writing.written (map_of writing.world) ∙ given_then_left rooms (wrote room writing) in
    sym (take-append-drop n rest)
    ∙ ap (λ (l : List ℕ). take n rest ++ l) later
    ∙ sym (append_assoc (take n rest) (all_given rooms (wrote room writing)) (unwritten (after_all rooms (wrote room writing))))

pub front_given : (w : WorldState) (rooms : List ℕ) → map_of w ≡ all_given rooms (begun w) ++ unwritten (after_all rooms (begun w))
front_given w rooms = given_then_left rooms (begun w)

no_bytes : (l : List ℕ) → length l ≡ 0 → l ≡ []
no_bytes [] e = refl
no_bytes (b ∷ l) e = absurd (omega arith)

pub all_is_given : (w : WorldState) (rooms : List ℕ) → length (unwritten (after_all rooms (begun w))) ≡ 0
    → all_given rooms (begun w) ≡ map_of w
all_is_given w rooms e =
    sym (append-nil (all_given rooms (begun w)))
    ∙ ap (λ (l : List ℕ). all_given rooms (begun w) ++ l) (sym (no_bytes (unwritten (after_all rooms (begun w))) e))
    ∙ sym (front_given w rooms)
