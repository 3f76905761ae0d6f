-- A field that is read is the field that was spelled, and what is spelled is read again, whatever follows.
use Rattle.std.proofs.Common.{◌≡◌, ℕ, zero, suc, ◌+◌, ◌^◌, ◌<◌, ◌≤◌, Bool, true, false, cond, ltb, eqb, eq-eqb, List, [], ◌∷◌, ◌++◌, length}
use Rattle.std.proofs.Common.{take, drop, Option, Some, None, Result, Ok, Err, refl, sym, ap, subst, ◌∙◌, append_assoc, arith, inl, inr}
use Rattle.std.specs.Prelude.{◌&&◌, option_map, nat_le, ◌==◌}
use Rattle.std.specs.List.{list_all}
use Rattle.std.specs.Str.{is_utf8}
use Rattle.std.specs.Int.{Width, w8, w16, w32, w64, byte_len, from_le_bytes, to_le_bytes}
use Rattle.std.proofs.lemmas.Bool.{cases_lt, ltb-false, le-ltb, eqb-true}
use Rattle.std.proofs.lemmas.List.{take_at, drop_at, take-append-drop, length-append, length-take, get_or-drop, get_or-take, get_or_past}
use Rattle.std.proofs.lemmas.Nat.{le_bytes_2, le_bytes_4, le_bytes_8, from_le_bytes-to_le_bytes_2, from_le_bytes-to_le_bytes_4}
use Rattle.std.proofs.lemmas.Nat.{from_le_bytes-to_le_bytes_8}
use Rattle.std.proofs.Math.Nat.{mod-eq_of_lt}
use Rattle.tt_frame.specs.Packet.{IsBytes}
use Rattle.tt_frame.specs.Unread.{Unread, skip}
use Rattle.tt_frame.specs.Text.{is_text, is_digest, is_shown, is_hex_digit}
use Rattle.tt_frame.specs.Reading.{◌>>=◌, number_at, within_at, truth_at, fixed_at, before_zero, kept, kept_or_none, text_at, digest_at}
use Rattle.tt_frame.specs.Reading.{optional_digest_at, raw_at}
use Rattle.tt_frame.specs.FieldForms.{CountWidth, byte, word, count_width, count_limit, Field, u8, u16, u32, u64, within, truth, text}
use Rattle.tt_frame.specs.FieldForms.{digest, optional_digest, raw, Value, spelled, Fits, field_at, optional_bytes, truth_number}
use Rattle.tt_frame.proofs.TestLaws.{and_both}
use Rattle.tt_frame.proofs.TextLaws.{length_of_text, length_of_digest}

pub IsBytes-drop : (n : ℕ) (bytes : List ℕ) → IsBytes bytes → IsBytes (drop n bytes)
IsBytes-drop n bytes h i = rw get_or-drop (h (n + i))

IsBytes-take : (n : ℕ) (bytes : List ℕ) → IsBytes bytes → IsBytes (take n bytes)
IsBytes-take n bytes h i =
    elim (cases_lt i n) [
      | inl lt ↦ rw (get_or-take n bytes i 0 lt) (h i)
      | inr le ↦ rw (get_or_past (take n bytes) i 0 (omega (arith, length-take n bytes))) (omega arith)
    ]

-- the value of a step that did not fail
pub bind_ok : {A B : Type 0} (r : Result A ℕ) (f : A → Result B ℕ) (y : B) → (r >>= f) ≡ Ok y → (x : A) × (r ≡ Ok x) × (f x ≡ Ok y)
bind_ok (Ok x) f y e = (x, refl, e)
bind_ok (Err d) f y e = absurd cc

-- a test that did not fail
pub guard_ok : {A : Type 0} (b : Bool) (d : ℕ) (x y : A) → cond b (Err d) (Ok x) ≡ Ok y → (b ≡ false) × (x ≡ y)
guard_ok true d x y e = absurd cc
guard_ok false d x y e = (refl, cc)

pub passed_ok : {A : Type 0} (b : Bool) (d : ℕ) (x y : A) → cond b (Ok x) (Err d) ≡ Ok y → (b ≡ true) × (x ≡ y)
passed_ok true d x y e = (refl, cc)
passed_ok false d x y e = absurd cc

abbrev done : {A : Type 0} → A → Result A ℕ
done x = Ok x

pub ok_is : {A : Type 0} (x y : A) → done x ≡ done y → x ≡ y
ok_is x y e = cc

abbrev pub unread : ℕ → List ℕ → Unread
unread at rest = record { at = at; rest = rest }

-- the reader went from s to t over this text
pub record Takes (s : Unread) (bytes : List ℕ) (t : Unread) : Type 0 where
  pub parts : s.rest ≡ bytes ++ t.rest
  pub place : t.at ≡ s.at + length bytes
  pub rest_fits : IsBytes t.rest

pub Takes-then : (s : Unread) (x : List ℕ) (t : Unread) (y : List ℕ) (u : Unread) → Takes s x t → Takes t y u → Takes s (x ++ y) u
Takes-then s x t y u p q = record {
  parts = p.parts ∙ ap (λ (r : List ℕ). x ++ r) q.parts ∙ sym (append_assoc x y u.rest);
  place = omega (arith, p.place, q.place, length-append x y);
  rest_fits = q.rest_fits;
}

-- skipping the front is taking it
Takes-skip : (n : ℕ) (s : Unread) → n ≤ length s.rest → IsBytes s.rest → Takes s (take n s.rest) (skip n s)
Takes-skip n s le fits = record {
  parts = sym (take-append-drop n s.rest);
  place = omega (arith, length-take n s.rest);
  rest_fits = IsBytes-drop n s.rest fits;
}

-- ---- numbers

pub record IsWide (w : Width) (limit : ℕ) : Type 0 where
  pub len : (n : ℕ) → length (to_le_bytes w n) ≡ byte_len w
  pub back : (bytes : List ℕ) → length bytes ≡ byte_len w → IsBytes bytes → to_le_bytes w (from_le_bytes w bytes) ≡ bytes
  pub again : (n : ℕ) → n < limit → from_le_bytes w (to_le_bytes w n) ≡ n
  pub below : (bytes : List ℕ) → IsBytes bytes → from_le_bytes w bytes < limit

back8 : (bytes : List ℕ) → length bytes ≡ 1 → IsBytes bytes → to_le_bytes w8 (from_le_bytes w8 bytes) ≡ bytes
back8 [] e fits = absurd (omega arith)
back8 (b ∷ []) e fits = ap (λ (c : ℕ). c ∷ []) (mod-eq_of_lt (fits 0))
back8 (b ∷ c ∷ bs) e fits = absurd (omega arith)

pub wide8 : IsWide w8 (2 ^ 8)
wide8 = record {
  len = λ n. refl;
  back = back8;
  again = λ n lt. mod-eq_of_lt lt;
  below = λ bytes fits. fits 0;
}

pub wide16 : IsWide w16 (2 ^ 16)
wide16 = record {
  len = λ n. refl;
  back = λ bytes len fits. le_bytes_2 bytes _ len fits refl;
  again = λ n lt. from_le_bytes-to_le_bytes_2 n lt;
  below = λ bytes fits. omega (arith, fits 0, fits 1);
}

pub wide32 : IsWide w32 (2 ^ 32)
wide32 = record {
  len = λ n. refl;
  back = λ bytes len fits. le_bytes_4 bytes _ len fits refl;
  again = λ n lt. from_le_bytes-to_le_bytes_4 n lt;
  below = λ bytes fits. omega (arith, fits 0, fits 1, fits 2, fits 3);
}

pub wide64 : IsWide w64 (2 ^ 64)
wide64 = record {
  len = λ n. refl;
  back = λ bytes len fits. le_bytes_8 bytes _ len fits refl;
  again = λ n lt. from_le_bytes-to_le_bytes_8 n lt;
  below = λ bytes fits. omega (arith, fits 0, fits 1, fits 2, fits 3, fits 4, fits 5, fits 6, fits 7);
}

number_takes : (w : Width) (limit : ℕ) (wide : IsWide w limit) (s : Unread) (n : ℕ) (t : Unread) → IsBytes s.rest
    → number_at w s ≡ Ok (n, t) → Takes s (to_le_bytes w n) t × (n < limit)
unfolding number_at
number_takes w limit wide s n t fits e =
    let k = byte_len w in
    let front = take k s.rest in
    let g = guard_ok (ltb (length s.rest) k) s.at (from_le_bytes w front, skip k s) (n, t) e in
    let long : k ≤ length s.rest = ltb-false _ _ g.0 in
    let front_fits = IsBytes-take k s.rest fits in
    let same : to_le_bytes w (from_le_bytes w front) ≡ front = wide.back front (omega (arith, length-take k s.rest)) front_fits in
    subst (λ (p : ℕ × Unread). Takes s (to_le_bytes w p.0) p.1 × (p.0 < limit)) g.1 (
      rw same (Takes-skip k s long fits),
      wide.below front front_fits,
    )

number_again : (w : Width) (limit : ℕ) (wide : IsWide w limit) (n at : ℕ) (after : List ℕ) → n < limit
    → number_at w (unread at (to_le_bytes w n ++ after)) ≡ Ok (n, unread (at + length (to_le_bytes w n)) after)
unfolding number_at
number_again w limit wide n at after lt =
    let len = wide.len n in
    let long : ltb (length (to_le_bytes w n ++ after)) (byte_len w) ≡ false =
    le-ltb _ _ (omega (arith, length-append (to_le_bytes w n) after)) in
    rw (long, take_at (to_le_bytes w n) after (byte_len w) len, drop_at (to_le_bytes w n) after (byte_len w) len, wide.again n lt, len) refl

-- the widths of counts
pub wide_count : (w : CountWidth) → IsWide (count_width w) (count_limit w)
wide_count byte = wide8
wide_count word = wide16

within_takes : (w : Width) (limit : ℕ) (wide : IsWide w limit) (max : ℕ) (s : Unread) (n : ℕ) (t : Unread) → IsBytes s.rest
    → within_at w max s ≡ Ok (n, t) → Takes s (to_le_bytes w n) t × ((n ≤ max) × (n < limit))
unfolding within_at
within_takes w limit wide max s n t fits e =
    let b = bind_ok (number_at w s) (λ x. cond (ltb max x.0) (Err s.at) (Ok x)) (n, t) e in
    let g = guard_ok (ltb max b.0.0) s.at b.0 (n, t) b.2 in
    let le : b.0.0 ≤ max = ltb-false _ _ g.0 in
    let taken = number_takes w limit wide s b.0.0 b.0.1 fits b.1 in
    subst (λ (p : ℕ × Unread). Takes s (to_le_bytes w p.0) p.1 × ((p.0 ≤ max) × (p.0 < limit))) g.1 (taken.0, (le, taken.1))

within_again : (w : Width) (limit : ℕ) (wide : IsWide w limit) (max n at : ℕ) (after : List ℕ) → n ≤ max → n < limit
    → within_at w max (unread at (to_le_bytes w n ++ after)) ≡ Ok (n, unread (at + length (to_le_bytes w n)) after)
unfolding within_at
within_again w limit wide max n at after le lt =
    let small : ltb max n ≡ false = le-ltb _ _ le in
    ap (λ (r : Result (ℕ × Unread) ℕ). r >>= λ x. cond (ltb max x.0) (Err at) (Ok x)) (number_again w limit wide n at after lt)
    ∙ rw small refl

pub fixed_takes : (b : ℕ) (s t : Unread) → IsBytes s.rest → fixed_at b s ≡ Ok t → Takes s (b ∷ []) t
unfolding fixed_at
fixed_takes b s t fits e =
    let x = bind_ok (number_at w8 s) (λ n. cond (eqb n.0 b) (Ok n.1) (Err s.at)) t e in
    let g = passed_ok (eqb x.0.0 b) s.at x.0.1 t x.2 in
    let taken = number_takes w8 (2 ^ 8) wide8 s x.0.0 x.0.1 fits x.1 in
    let n : to_le_bytes w8 x.0.0 ≡ b ∷ [] = ap (λ (c : ℕ). c ∷ []) (mod-eq_of_lt taken.1 ∙ eqb-true _ _ g.0) in
    subst (λ (u : Unread). Takes s (b ∷ []) u) g.1 (subst (λ (bytes : List ℕ). Takes s bytes x.0.1) n taken.0)

pub fixed_again : (b at : ℕ) (after : List ℕ) → fixed_at b (unread at (b ∷ after)) ≡ Ok (unread (at + 1) after)
unfolding fixed_at number_at
fixed_again b at after =
    let long : ltb (length (b ∷ after)) 1 ≡ false = le-ltb _ _ (omega arith) in
    let same : eqb b b ≡ true = eq-eqb b b refl in
    rw (long, same) refl

truth_is : (n : ℕ) → n ≤ 1 → truth_number (n == 1) ≡ n
truth_is zero le = refl
truth_is (suc zero) le = refl
truth_is (suc (suc n)) le = absurd (omega arith)

truth_takes : (s : Unread) (b : Bool) (t : Unread) → IsBytes s.rest → truth_at s ≡ Ok (b, t) → Takes s (to_le_bytes w8 (truth_number b)) t
unfolding truth_at
truth_takes s b t fits e =
    let x = bind_ok (within_at w8 1 s) (λ x. Ok (x.0 == 1, x.1)) (b, t) e in
    let taken = within_takes w8 (2 ^ 8) wide8 1 s x.0.0 x.0.1 fits x.1 in
    subst (λ (p : Bool × Unread). Takes s (to_le_bytes w8 (truth_number p.0)) p.1) (ok_is (x.0.0 == 1, x.0.1) (b, t) x.2)
    (rw (truth_is x.0.0 taken.1.0) taken.0)

truth_again : (b : Bool) (at : ℕ) (after : List ℕ) → truth_at (unread at (to_le_bytes w8 (truth_number b) ++ after)) ≡ Ok (
  b,
  unread (at + length (to_le_bytes w8 (truth_number b))) after,
)
unfolding truth_at
truth_again true at after = ap (λ (r : Result (ℕ × Unread) ℕ). r >>= λ x. Ok (x.0 == 1, x.1)) (within_again w8 (2 ^ 8) wide8 1 1 at after
    (omega arith) (omega arith))
truth_again false at after = ap (λ (r : Result (ℕ × Unread) ℕ). r >>= λ x. Ok (x.0 == 1, x.1)) (within_again w8 (2 ^ 8) wide8 1 0 at after
    (omega arith) (omega arith))

-- ---- texts

behind_parts : (b : ℕ) (o : Option (List ℕ)) (x : List ℕ) → option_map (λ (s : List ℕ). b ∷ s) o ≡ Some x → (y : List ℕ) × (o ≡ Some y)
    × (b ∷ y ≡ x)
behind_parts b None x e = absurd cc
behind_parts b (Some y) x e = (y, refl, cc)

-- what is before the zero, and behind it
before_zero_takes : (max : ℕ) (bs x : List ℕ) → before_zero max bs ≡ Some x → (bs ≡ x ++ 0 ∷ drop (length x + 1) bs)
    × (length x + 1 ≤ length bs)
unfolding before_zero
before_zero_takes max [] x e = absurd cc
before_zero_takes max (zero ∷ bs) x e =
    let here : [] ≡ x = cc in
    subst (λ (y : List ℕ). (0 ∷ bs ≡ y ++ 0 ∷ drop (length y + 1) (0 ∷ bs)) × (length y + 1 ≤ length (0 ∷ bs))) here (refl, omega arith)
before_zero_takes zero (suc b ∷ bs) x e = absurd cc
before_zero_takes (suc max) (suc b ∷ bs) x e =
    let o = behind_parts (suc b) (before_zero max bs) x e in
    let ih = before_zero_takes max bs o.0 o.1 in
    let k : length (suc b ∷ o.0) + 1 ≡ suc (length o.0 + 1) = omega arith in
    subst (λ (y : List ℕ). (suc b ∷ bs ≡ y ++ 0 ∷ drop (length y + 1) (suc b ∷ bs)) × (length y + 1 ≤ length (suc b ∷ bs))) o.2
    (ap (λ (r : List ℕ). suc b ∷ r) ih.0 ∙ ap (λ (n : ℕ). suc b ∷ (o.0 ++ 0 ∷ drop n (suc b ∷ bs))) (sym k), omega (arith, ih.1))

before_zero_again : (p : ℕ → Bool) (max : ℕ) (x after : List ℕ) → p 0 ≡ false → list_all p x ≡ true → length x ≤ max
    → before_zero max ((x ++ 0 ∷ []) ++ after) ≡ Some x
unfolding before_zero
before_zero_again p max [] after z ok le = refl
before_zero_again p max (zero ∷ x) after z ok le = absurd (let both = (and_both (p 0) (list_all p x) ok).0 in cc)
before_zero_again p zero (suc b ∷ x) after z ok le = absurd (omega arith)
before_zero_again p (suc max) (suc b ∷ x) after z ok le =
    ap (option_map (λ (s : List ℕ). suc b ∷ s)) (before_zero_again p max x after z (and_both (p (suc b)) (list_all p x) ok).1 (omega arith))

kept_takes : (good : List ℕ → Bool) (max : ℕ) (s : Unread) (x : List ℕ) (t : Unread) → IsBytes s.rest
    → kept good (before_zero max s.rest) s ≡ Ok (x, t) → Takes s (x ++ 0 ∷ []) t × (good x ≡ true)
kept_takes good max s x t fits e = found (before_zero max s.rest) refl e
  where
    found : (o : Option (List ℕ)) → before_zero max s.rest ≡ o → kept good o s ≡ Ok (x, t) → Takes s (x ++ 0 ∷ []) t × (good x ≡ true)
    found None is e = absurd cc
    found (Some y) is e =
        let z = before_zero_takes max s.rest y is in
        let g = passed_ok (good y) s.at (y, skip (length y + 1) s) (x, t) e in
        let taken : Takes s (y ++ 0 ∷ []) (skip (length y + 1) s) = record {
          parts = z.0 ∙ sym (append_assoc y (0 ∷ []) (drop (length y + 1) s.rest));
          place = omega (arith, length-append y (0 ∷ []));
          rest_fits = IsBytes-drop (length y + 1) s.rest fits;
        } in
        subst (λ (p : List ℕ × Unread). Takes s (p.0 ++ 0 ∷ []) p.1 × (good p.0 ≡ true)) g.1 (taken, g.0)

skip_text : (x : List ℕ) (at : ℕ) (after : List ℕ) → skip (length x + 1) (unread at ((x ++ 0 ∷ []) ++ after)) ≡ unread (at + length (x
    ++ 0 ∷ [])) after
skip_text x at after =
    let n : length (x ++ 0 ∷ []) ≡ length x + 1 = omega (arith, length-append x (0 ∷ [])) in
    rw (n, drop_at (x ++ 0 ∷ []) after (length x + 1) n) refl

kept_again : (good : List ℕ → Bool) (max : ℕ) (x : List ℕ) (at : ℕ) (after : List ℕ) → before_zero max ((x ++ 0 ∷ []) ++ after) ≡ Some x
    → good x ≡ true → kept good (before_zero max ((x ++ 0 ∷ []) ++ after)) (unread at ((x ++ 0 ∷ []) ++ after)) ≡ Ok (
      x,
      unread (at + length (x ++ 0 ∷ [])) after,
    )
kept_again good max x at after is ok = rw (is, ok, skip_text x at after) refl

text_before : (m : ℕ) (x after : List ℕ) → is_text m x ≡ true → before_zero m ((x ++ 0 ∷ []) ++ after) ≡ Some x
unfolding is_text
text_before m x after ok = before_zero_again is_shown m x after refl (and_both (nat_le (length x) m) (list_all is_shown x)
    (and_both (nat_le (length x) m && list_all is_shown x) (is_utf8 x) ok).0).1 (length_of_text m x ok)

digest_before : (x after : List ℕ) → is_digest x ≡ true → before_zero 32 ((x ++ 0 ∷ []) ++ after) ≡ Some x
unfolding is_digest
digest_before x after ok = before_zero_again is_hex_digit 32 x after refl (and_both (length x == 32) (list_all is_hex_digit x) ok).1
    (omega (arith, length_of_digest x ok))

-- ---- bytes as they are

raw_takes : (n : ℕ) (s : Unread) (x : List ℕ) (t : Unread) → IsBytes s.rest → raw_at n s ≡ Ok (x, t) → Takes s x t × (length x ≡ n)
unfolding raw_at
raw_takes n s x t fits e =
    let g = guard_ok (ltb (length s.rest) n) s.at (take n s.rest, skip n s) (x, t) e in
    let long : n ≤ length s.rest = ltb-false _ _ g.0 in
    subst (λ (p : List ℕ × Unread). Takes s p.0 p.1 × (length p.0 ≡ n)) g.1 (Takes-skip n s long fits, omega (arith, length-take n s.rest))

raw_again : (n : ℕ) (x : List ℕ) (at : ℕ) (after : List ℕ) → length x ≡ n
    → raw_at n (unread at (x ++ after)) ≡ Ok (x, unread (at + length x) after)
unfolding raw_at
raw_again n x at after len =
    let long : ltb (length (x ++ after)) n ≡ false = le-ltb _ _ (omega (arith, length-append x after)) in
    rw (long, take_at x after n len, drop_at x after n len, len) refl

-- ---- a digest or none

optional_takes : (s : Unread) (x : Option (List ℕ)) (t : Unread) → IsBytes s.rest → optional_digest_at s ≡ Ok (x, t)
    → Takes s (optional_bytes x ++ 0 ∷ []) t × Fits optional_digest x
unfolding optional_digest_at
optional_takes s x t fits e = found (before_zero 32 s.rest) refl e
  where
    taken_text : (y : List ℕ) → before_zero 32 s.rest ≡ Some y → Takes s (y ++ 0 ∷ []) (skip (length y + 1) s)
    taken_text y is =
        let z = before_zero_takes 32 s.rest y is in
        record {
          parts = z.0 ∙ sym (append_assoc y (0 ∷ []) (drop (length y + 1) s.rest));
          place = omega (arith, length-append y (0 ∷ []));
          rest_fits = IsBytes-drop (length y + 1) s.rest fits;
        }

    found : (o : Option (List ℕ)) → before_zero 32 s.rest ≡ o → kept_or_none o s ≡ Ok (x, t) → Takes s (optional_bytes x ++ 0 ∷ []) t
        × Fits optional_digest x
    found None is e = absurd cc
    found (Some []) is e =
        subst (λ (p : Option (List ℕ) × Unread). Takes s (optional_bytes p.0 ++ 0 ∷ []) p.1 × Fits optional_digest p.0)
        (ok_is (None, skip 1 s) (x, t) e) (taken_text [] is, tt)
    found (Some (b ∷ bs)) is e =
        let g = passed_ok (is_digest (b ∷ bs)) s.at (Some (b ∷ bs), skip (length (b ∷ bs) + 1) s) (x, t) e in
        subst (λ (p : Option (List ℕ) × Unread). Takes s (optional_bytes p.0 ++ 0 ∷ []) p.1 × Fits optional_digest p.0) g.1
        (taken_text (b ∷ bs) is, g.0)

optional_again : (x : Option (List ℕ)) (at : ℕ) (after : List ℕ) → Fits optional_digest x
    → optional_digest_at (unread at ((optional_bytes x ++ 0 ∷ []) ++ after)) ≡ Ok (
      x,
      unread (at + length (optional_bytes x ++ 0 ∷ []))
          after,
    )
unfolding optional_digest_at before_zero
optional_again None at after fits = refl
optional_again (Some []) at after fits = absurd (let l = length_of_digest [] fits in omega (arith, l))
optional_again (Some (b ∷ bs)) at after fits =
    rw (digest_before (b ∷ bs) after fits, fits, skip_text (b ∷ bs) at after) refl

-- ---- any field

pub field_takes : (f : Field) (s : Unread) (x : Value f) (t : Unread) → IsBytes s.rest → field_at f s ≡ Ok (x, t) → Takes s (spelled f x) t
    × Fits f x
unfolding text_at digest_at
field_takes u8 s x t fits e = number_takes w8 (2 ^ 8) wide8 s x t fits e
field_takes u16 s x t fits e = number_takes w16 (2 ^ 16) wide16 s x t fits e
field_takes u32 s x t fits e = number_takes w32 (2 ^ 32) wide32 s x t fits e
field_takes u64 s x t fits e = number_takes w64 (2 ^ 64) wide64 s x t fits e
field_takes (within w max) s x t fits e = within_takes (count_width w) (count_limit w) (wide_count w) max s x t fits e
field_takes truth s x t fits e = (truth_takes s x t fits e, tt)
field_takes (text n) s x t fits e = kept_takes (is_text n) n s x t fits e
field_takes digest s x t fits e = kept_takes is_digest 32 s x t fits e
field_takes optional_digest s x t fits e = optional_takes s x t fits e
field_takes (raw n) s x t fits e = raw_takes n s x t fits e

pub field_again : (f : Field) (x : Value f) (at : ℕ) (after : List ℕ) → Fits f x → field_at f (unread at (spelled f x ++ after)) ≡ Ok (
  x,
  unread (at + length (spelled f x)) after,
)
unfolding text_at digest_at
field_again u8 x at after fits = number_again w8 (2 ^ 8) wide8 x at after fits
field_again u16 x at after fits = number_again w16 (2 ^ 16) wide16 x at after fits
field_again u32 x at after fits = number_again w32 (2 ^ 32) wide32 x at after fits
field_again u64 x at after fits = number_again w64 (2 ^ 64) wide64 x at after fits
field_again (within w max) x at after fits = within_again (count_width w) (count_limit w) (wide_count w) max x at after fits.0 fits.1
field_again truth x at after fits = truth_again x at after
field_again (text n) x at after fits = kept_again (is_text n) n x at after (text_before n x after fits) fits
field_again digest x at after fits = kept_again is_digest 32 x at after (digest_before x after fits) fits
field_again optional_digest x at after fits = optional_again x at after fits
field_again (raw n) x at after fits = raw_again n x at after fits
