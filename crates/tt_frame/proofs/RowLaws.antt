-- What reading a row gives is spelled so, and what is spelled so is read.
use Rattle.std.proofs.Common.{◌≡◌, ℕ, zero, suc, ◌+◌, ◌<◌, ◌≤◌, Bool, true, false, cond, ltb, eqb, List, [], ◌∷◌, ◌++◌, length, Result, Ok}
use Rattle.std.proofs.Common.{refl, sym, ap, subst, ◌∙◌, append_assoc, arith, ◌⊎◌, inl, inr}
use Rattle.std.specs.Prelude.{◌||◌}
use Rattle.std.specs.Int.{w8, to_le_bytes}
use Rattle.std.proofs.lemmas.Bool.{ltb-false, le-ltb, eqb-true}
use Rattle.std.proofs.lemmas.List.{nil_from_length, length-append}
use Rattle.tt_frame.specs.Packet.{IsBytes}
use Rattle.tt_frame.specs.Unread.{Unread}
use Rattle.tt_frame.specs.Reading.{◌>>=◌, within_at, fixed_at}
use Rattle.tt_frame.specs.FieldForms.{Named, count_width, count_limit, within, up_to, Value, spelled, field_at}
use Rattle.tt_frame.specs.ItemForms.{Item, item_spelled, ItemFits, item_at, items_spelled, ItemsFit, items_at, marked_spelled, marked_at}
use Rattle.tt_frame.specs.Rows.{Row, unknown, end, rest, ◌▸◌, fixed, counted, marked, Maker, RowSpells, row_at}
use Rattle.tt_frame.proofs.FieldLaws.{bind_ok, guard_ok, passed_ok, ok_is, unread, Takes, Takes-then, field_takes, field_again, fixed_takes}
use Rattle.tt_frame.proofs.FieldLaws.{fixed_again}

-- ---- items

pub item_takes : (fs : List Named) (s : Unread) (x : Item fs) (t : Unread) → IsBytes s.rest → item_at fs s ≡ Ok (x, t)
    → Takes s (item_spelled fs x) t × ItemFits fs x
item_takes [] s x t fits e =
    subst (λ (p : Unit {0} × Unread). Takes s [] p.1 × Unit {0}) (ok_is (tt, s) (x, t) e) (
      record {
        parts = refl;
        place = omega arith;
        rest_fits = fits;
      },
      tt,
    )
item_takes (f ∷ fs) s x t fits e =
    let a = bind_ok (field_at f.field s) (λ v. item_at fs v.1 >>= λ y. Ok ((v.0, y.0), y.1)) (x, t) e in
    let b = bind_ok (item_at fs a.0.1) (λ y. Ok ((a.0.0, y.0), y.1)) (x, t) a.2 in
    let first = field_takes f.field s a.0.0 a.0.1 fits a.1 in
    let second = item_takes fs a.0.1 b.0.0 b.0.1 first.0.rest_fits b.1 in
    let made : Item (f ∷ fs) × Unread = ((a.0.0, b.0.0), b.0.1) in
    subst (λ (p : Item (f ∷ fs) × Unread). Takes s (item_spelled (f ∷ fs) p.0) p.1 × ItemFits (f ∷ fs) p.0) (ok_is made (x, t) b.2)
    (Takes-then s (spelled f.field a.0.0) a.0.1 (item_spelled fs b.0.0) b.0.1 first.0 second.0, (first.1, second.1))

item_again : (fs : List Named) (x : Item fs) (at : ℕ) (after : List ℕ) → ItemFits fs x
    → item_at fs (unread at (item_spelled fs x ++ after)) ≡ Ok (x, unread (at + length (item_spelled fs x)) after)
item_again [] x at after fits = ap (λ (n : ℕ). Ok (tt, unread n after)) (omega arith)
item_again (f ∷ fs) x at after fits =
    let regrouped = append_assoc (spelled f.field x.0) (item_spelled fs x.1) after in
    let n : (at + length (spelled f.field x.0)) + length (item_spelled fs x.1) ≡ at + length (spelled f.field x.0 ++ item_spelled fs x.1) =
    omega (arith, length-append (spelled f.field x.0) (item_spelled fs x.1)) in
    ap (λ (bs : List ℕ). item_at (f ∷ fs) (unread at bs)) regrouped
    ∙ ap (λ (r : Result (Value f.field × Unread) ℕ). r >>= λ v. item_at fs v.1 >>= λ y. Ok ((v.0, y.0), y.1)) (field_again f.field x.0 at
    (item_spelled fs x.1 ++ after) fits.0)
    ∙ ap (λ (r : Result (Item fs × Unread) ℕ). r >>= λ y. Ok ((x.0, y.0), y.1)) (item_again fs x.1 (at + length (spelled f.field x.0))
    after fits.1)
    ∙ ap (λ (k : ℕ). Ok (x, unread k after)) n

pub items_take : (fs : List Named) (n : ℕ) (s : Unread) (xs : List (Item fs)) (t : Unread) → IsBytes s.rest → items_at fs n s ≡ Ok (xs, t)
    → Takes s (items_spelled fs xs) t × ItemsFit fs xs × (length xs ≡ n)
unfolding items_at
items_take fs zero s xs t fits e =
    subst (λ (p : List (Item fs) × Unread). Takes s (items_spelled fs p.0) p.1 × ItemsFit fs p.0
    × (length p.0 ≡ 0)) (ok_is ([], s) (xs, t) e) (record { parts = refl; place = omega arith; rest_fits = fits }, tt, refl)
items_take fs (suc n) s xs t fits e =
    let a = bind_ok (item_at fs s) (λ v. items_at fs n v.1 >>= λ y. Ok (v.0 ∷ y.0, y.1)) (xs, t) e in
    let b = bind_ok (items_at fs n a.0.1) (λ y. Ok (a.0.0 ∷ y.0, y.1)) (xs, t) a.2 in
    let first = item_takes fs s a.0.0 a.0.1 fits a.1 in
    let second = items_take fs n a.0.1 b.0.0 b.0.1 first.0.rest_fits b.1 in
    let made : List (Item fs) × Unread = (a.0.0 ∷ b.0.0, b.0.1) in
    subst (λ (p : List (Item fs) × Unread). Takes s (items_spelled fs p.0) p.1 × ItemsFit fs p.0 × (length p.0 ≡ suc n))
    (ok_is made (xs, t) b.2)
    (Takes-then s (item_spelled fs a.0.0) a.0.1 (items_spelled fs b.0.0) b.0.1 first.0 second.0, (first.1, second.1), ap suc second.2)

items_again : (fs : List Named) (xs : List (Item fs)) (at : ℕ) (after : List ℕ) → ItemsFit fs xs
    → items_at fs (length xs) (unread at (items_spelled fs xs ++ after)) ≡ Ok (xs, unread (at + length (items_spelled fs xs)) after)
unfolding items_at
items_again fs [] at after fits = ap (λ (n : ℕ). Ok ([], unread n after)) (omega arith)
items_again fs (x ∷ xs) at after fits =
    let one = item_spelled fs x in
    let more = items_spelled fs xs in
    let n : (at + length one) + length more ≡ at + length (one ++ more) = omega (arith, length-append one more) in
    ap (λ (bs : List ℕ). items_at fs (suc (length xs)) (unread at bs)) (append_assoc one more after)
    ∙ ap (λ (r : Result (Item fs × Unread) ℕ). r >>= λ v. items_at fs (length xs) v.1 >>= λ y. Ok (v.0 ∷ y.0, y.1))
    (item_again fs x at (more ++ after) fits.0)
    ∙ ap (λ (r : Result (List (Item fs) × Unread) ℕ). r >>= λ y. Ok (x ∷ y.0, y.1)) (items_again fs xs (at + length one) after fits.1)
    ∙ ap (λ (k : ℕ). Ok (x ∷ xs, unread k after)) n

-- ---- items behind marks

pub chosen : {A : Type 0} (b : Bool) (x y z : Result A ℕ) → cond b x y ≡ z → ((b ≡ true) × (x ≡ z)) ⊎ ((b ≡ false) × (y ≡ z))
chosen true x y z e = inl (refl, e)
chosen false x y z e = inr (refl, e)

pub is_one : (n : ℕ) → n ≤ 1 → eqb n 0 ≡ false → n ≡ 1
is_one zero le e = absurd cc
is_one (suc zero) le e = refl
is_one (suc (suc n)) le e = absurd (omega arith)

pub marked_take : (fs : List Named) (n : ℕ) (s : Unread) (xs : List (Item fs)) (t : Unread) → IsBytes s.rest
    → marked_at fs n s ≡ Ok (xs, t) → Takes s (marked_spelled fs xs) t × ItemsFit fs xs × (length xs ≤ n)
unfolding marked_at
marked_take fs zero s xs t fits e =
    let a = bind_ok (within_at w8 0 s) (λ m. Ok ([], m.1)) (xs, t) e in
    let first = field_takes (up_to 0) s a.0.0 a.0.1 fits a.1 in
    let z : a.0.0 ≡ 0 = omega (arith, first.1.0) in
    subst (λ (p : List (Item fs) × Unread). Takes s (marked_spelled fs p.0) p.1 × ItemsFit fs p.0
    × (length p.0 ≤ 0)) (ok_is ([], a.0.1) (xs, t) a.2)
    (subst (λ (k : ℕ). Takes s (to_le_bytes w8 k) a.0.1) z first.0, tt, omega arith)
marked_take fs (suc n) s xs t fits e =
    let a = bind_ok (within_at w8 1 s) (λ m. cond (eqb m.0 0) (Ok ([], m.1)) (item_at fs m.1 >>= λ x. marked_at fs n x.1 >>= λ ys. Ok
    (x.0 ∷ ys.0, ys.1))) (xs, t) e in
    let first = field_takes (up_to 1) s a.0.0 a.0.1 fits a.1 in
    elim (chosen (eqb a.0.0 0) (Ok ([], a.0.1)) (item_at fs a.0.1 >>= λ x. marked_at fs n x.1 >>= λ ys. Ok (x.0 ∷ ys.0, ys.1)) (Ok (xs, t))
    a.2) [
      | inl h ↦
          subst (λ (p : List (Item fs) × Unread). Takes s (marked_spelled fs p.0) p.1 × ItemsFit fs p.0 × (length p.0 ≤ suc n))
          (ok_is ([], a.0.1) (xs, t) h.1)
          (subst (λ (k : ℕ). Takes s (to_le_bytes w8 k) a.0.1) (eqb-true _ _ h.0) first.0, tt, omega arith)
      | inr h ↦
          let mark : Takes s (1 ∷ []) a.0.1 = subst (λ (k : ℕ). Takes s (to_le_bytes w8 k) a.0.1) (is_one a.0.0 first.1.0 h.0) first.0 in
          let b = bind_ok (item_at fs a.0.1) (λ x. marked_at fs n x.1 >>= λ ys. Ok (x.0 ∷ ys.0, ys.1)) (xs, t) h.1 in
          let c = bind_ok (marked_at fs n b.0.1) (λ ys. Ok (b.0.0 ∷ ys.0, ys.1)) (xs, t) b.2 in
          let second = item_takes fs a.0.1 b.0.0 b.0.1 mark.rest_fits b.1 in
          let third = marked_take fs n b.0.1 c.0.0 c.0.1 second.0.rest_fits c.1 in
          let two = Takes-then s (1 ∷ []) a.0.1 (item_spelled fs b.0.0) b.0.1 mark second.0 in
          let made : List (Item fs) × Unread = (b.0.0 ∷ c.0.0, c.0.1) in
          subst (λ (p : List (Item fs) × Unread). Takes s (marked_spelled fs p.0) p.1 × ItemsFit fs p.0 × (length p.0 ≤ suc n))
          (ok_is made (xs, t) c.2) (
            Takes-then s (1 ∷ item_spelled fs b.0.0) b.0.1 (marked_spelled fs c.0.0) c.0.1 two third.0,
            (second.1, third.1),
            omega (arith, third.2),
          )
    ]

marked_again : (fs : List Named) (n : ℕ) (xs : List (Item fs)) (at : ℕ) (after : List ℕ) → length xs ≤ n → ItemsFit fs xs
    → marked_at fs n (unread at (marked_spelled fs xs ++ after)) ≡ Ok (xs, unread (at + length (marked_spelled fs xs)) after)
unfolding marked_at
marked_again fs zero [] at after le fits =
    ap (λ (o : Result (ℕ × Unread) ℕ). o >>= λ m. Ok ([], m.1)) (field_again (up_to 0) 0 at after (omega arith, omega arith))
marked_again fs (suc n) [] at after le fits =
    ap (λ (o : Result (ℕ × Unread) ℕ). o >>= λ m. cond (eqb m.0 0) (Ok ([], m.1)) (item_at fs m.1 >>= λ x. marked_at fs n x.1 >>= λ ys. Ok
    (x.0 ∷ ys.0, ys.1))) (field_again (up_to 1) 0 at after (omega arith, omega arith))
marked_again fs zero (x ∷ xs) at after le fits = absurd (omega arith)
marked_again fs (suc n) (x ∷ xs) at after le fits =
    let one = item_spelled fs x in
    let more = marked_spelled fs xs in
    let k : ((at + 1) + length one) + length more ≡ at + length ((1 ∷ one) ++ more) = omega (arith, length-append one more) in
    ap (λ (bs : List ℕ). marked_at fs (suc n) (unread at bs)) (ap (λ (bs : List ℕ). 1 ∷ bs) (append_assoc one more after))
    ∙ ap (λ (o : Result (ℕ × Unread) ℕ). o >>= λ m. cond (eqb m.0 0) (Ok ([], m.1)) (item_at fs m.1 >>= λ y. marked_at fs n y.1 >>= λ ys.
    Ok (y.0 ∷ ys.0, ys.1))) (field_again (up_to 1) 1 at (one ++ (more ++ after)) (omega arith, omega arith))
    ∙ ap (λ (o : Result (Item fs × Unread) ℕ). o >>= λ y. marked_at fs n y.1 >>= λ ys. Ok (y.0 ∷ ys.0, ys.1)) (item_again fs x (at + 1)
    (more ++ after) fits.0)
    ∙ ap (λ (o : Result (List (Item fs) × Unread) ℕ). o >>= λ ys. Ok (x ∷ ys.0, ys.1)) (marked_again fs n xs ((at + 1) + length one) after
    (omega arith) fits.1)
    ∙ ap (λ (j : ℕ). Ok (x ∷ xs, unread j after)) k

-- ---- rows

pub row_takes : {M : Type 0} (r : Row) (make : Maker r M) (s : Unread) (m : M) → IsBytes s.rest → row_at r make s ≡ Ok m
    → RowSpells r make m s.rest
row_takes unknown make s m fits e = absurd cc
row_takes {M} end make s m fits e =
    let g = passed_ok (eqb (length s.rest) 0) s.at make m e in
    (sym g.1, nil_from_length s.rest (eqb-true _ _ g.0))
row_takes {M} (rest low high) make s m fits e =
    let g = guard_ok (ltb (length s.rest) low || ltb high (length s.rest)) s.at (make s.rest) m e in
    let w = neither (ltb (length s.rest) low) (ltb high (length s.rest)) g.0 in
    (sym g.1, ltb-false _ _ w.0, ltb-false _ _ w.1)
  where
    neither : (a b : Bool) → (a || b) ≡ false → (a ≡ false) × (b ≡ false)
    neither true b e = absurd cc
    neither false b e = (refl, e)
row_takes {M} (f ▸ r) make s m fits e =
    let a = bind_ok (field_at f.field s) (λ x. row_at r (make x.0) x.1) m e in
    let first = field_takes f.field s a.0.0 a.0.1 fits a.1 in
    (a.0.0, (a.0.1.rest, (first.1, first.0.parts, row_takes r (make a.0.0) a.0.1 m first.0.rest_fits a.2)))
row_takes {M} (fixed b r) make s m fits e =
    let a = bind_ok (fixed_at b s) (λ t. row_at r make t) m e in
    let first = fixed_takes b s a.0 fits a.1 in
    (a.0.rest, (first.parts, row_takes r make a.0 m first.rest_fits a.2))
row_takes {M} (counted w max fs r) make s m fits e =
    let a = bind_ok (field_at (within w max) s) (λ n. items_at fs n.0 n.1 >>= λ xs. row_at r (make xs.0) xs.1) m e in
    let b = bind_ok (items_at fs a.0.0 a.0.1) (λ xs. row_at r (make xs.0) xs.1) m a.2 in
    let first = field_takes (within w max) s a.0.0 a.0.1 fits a.1 in
    let second = items_take fs a.0.0 a.0.1 b.0.0 b.0.1 first.0.rest_fits b.1 in
    let both = Takes-then s (to_le_bytes (count_width w) a.0.0) a.0.1 (items_spelled fs b.0.0) b.0.1 first.0 second.0 in
    let n = sym second.2 in (
      b.0.0,
      (
        b.0.1.rest,
        (
          subst (λ (k : ℕ). (k ≤ max) × (k < count_limit w)) n first.1,
          second.1,
          subst (λ (k : ℕ). s.rest ≡ (to_le_bytes (count_width w) k ++ items_spelled fs b.0.0) ++ b.0.1.rest) n both.parts,
          row_takes r (make b.0.0) b.0.1 m second.0.rest_fits b.2,
        ),
      ),
    )
row_takes {M} (marked max fs r) make s m fits e =
    let a = bind_ok (marked_at fs max s) (λ xs. row_at r (make xs.0) xs.1) m e in
    let first = marked_take fs max s a.0.0 a.0.1 fits a.1 in
    (a.0.0, (a.0.1.rest, (first.2, first.1, first.0.parts, row_takes r (make a.0.0) a.0.1 m first.0.rest_fits a.2)))

pub row_again : {M : Type 0} (r : Row) (make : Maker r M) (m : M) (at : ℕ) (body : List ℕ) → RowSpells r make m body
    → row_at r make (unread at body) ≡ Ok m
row_again unknown make m at body h = absurd h
row_again {M} end make m at body h = rw h.1 (ap Ok (sym h.0))
row_again {M} (rest low high) make m at body h =
    let a : ltb (length body) low ≡ false = le-ltb _ _ h.1 in
    let b : ltb high (length body) ≡ false = le-ltb _ _ h.2 in
    rw (a, b) (ap Ok (sym h.0))
row_again {M} (f ▸ r) make m at body (x, (after, (fits, parts, more))) =
    ap (λ (bs : List ℕ). row_at (f ▸ r) make (unread at bs)) parts
    ∙ ap (λ (o : Result (Value f.field × Unread) ℕ). o >>= λ v. row_at r (make v.0) v.1) (field_again f.field x at after fits)
    ∙ row_again r (make x) m (at + length (spelled f.field x)) after more
row_again {M} (fixed b r) make m at body (after, (parts, more)) =
    ap (λ (bs : List ℕ). row_at (fixed b r) make (unread at bs)) parts
    ∙ ap (λ (o : Result Unread ℕ). o >>= λ t. row_at r make t) (fixed_again b at after)
    ∙ row_again r make m (at + 1) after more
row_again {M} (counted w max fs r) make m at body (xs, (after, (fits, items_fit, parts, more))) =
    let count = to_le_bytes (count_width w) (length xs) in
    let items = items_spelled fs xs in
    ap (λ (bs : List ℕ). row_at (counted w max fs r) make (unread at bs)) (parts ∙ append_assoc count items after)
    ∙ ap (λ (o : Result (ℕ × Unread) ℕ). o >>= λ n. items_at fs n.0 n.1 >>= λ ys. row_at r (make ys.0) ys.1) (field_again (within w max)
    (length xs) at (items ++ after) fits)
    ∙ ap (λ (o : Result (List (Item fs) × Unread) ℕ). o >>= λ ys. row_at r (make ys.0) ys.1) (items_again fs xs (at + length count) after
    items_fit)
    ∙ row_again r (make xs) m ((at + length count) + length items) after more
row_again {M} (marked max fs r) make m at body (xs, (after, (few, items_fit, parts, more))) =
    ap (λ (bs : List ℕ). row_at (marked max fs r) make (unread at bs)) parts
    ∙ ap (λ (o : Result (List (Item fs) × Unread) ℕ). o >>= λ ys. row_at r (make ys.0) ys.1) (marked_again fs max xs at after few items_fit)
    ∙ row_again r (make xs) m (at + length (marked_spelled fs xs)) after more
