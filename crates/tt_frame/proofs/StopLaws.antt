-- Where reading fails, the row stops: up to there the fields stand, and there the next one doesn't.
use Rattle.std.proofs.Common.{◌≡◌, ℕ, zero, suc, ◌+◌, Bool, true, false, cond, ltb, eqb, List, [], ◌∷◌, length, take, Option, Some, None}
use Rattle.std.proofs.Common.{Result, Ok, Err, refl, sym, ap, subst, ◌∙◌, arith, ◌⊎◌, ◌↔◌, inl, inr}
use Rattle.std.specs.Prelude.{◌||◌, ◌==◌}
use Rattle.std.specs.Int.{w8, w16, w32, w64, byte_len, from_le_bytes, to_le_bytes, Width}
use borrow.Author.Tests.{ltb-true}
use Rattle.tt_frame.specs.Packet.{IsBytes}
use Rattle.tt_frame.specs.Unread.{Unread, skip, GoesOver}
use Rattle.tt_frame.specs.Text.{is_text, is_digest}
use Rattle.tt_frame.specs.Reading.{◌>>=◌, number_at, within_at, truth_at, fixed_at, before_zero, kept, kept_or_none, text_at, digest_at}
use Rattle.tt_frame.specs.Reading.{optional_digest_at, raw_at}
use Rattle.tt_frame.specs.FieldForms.{Named, count_width, Field, u8, u16, u32, u64, within, up_to, truth, text, digest, optional_digest}
use Rattle.tt_frame.specs.FieldForms.{raw, Value, spelled, Fits, field_at}
use Rattle.tt_frame.specs.ItemForms.{item_spelled, item_at, items_spelled, items_at, marked_spelled, marked_at}
use Rattle.tt_frame.specs.Rows.{Row, unknown, end, rest, ◌▸◌, fixed, counted, marked, Maker, row_at}
use Rattle.tt_frame.specs.Stops.{FieldStops, FixedStops, ItemStops, ItemsStop, MarkedStops, RowStops}
use Rattle.tt_frame.proofs.FieldLaws.{unread, Takes, field_takes, field_again, fixed_takes, fixed_again}
use Rattle.tt_frame.proofs.RowLaws.{item_takes, items_take, marked_take, is_one, chosen}

same_err : {A B : Type 0} (d e : ℕ) (r : Result A ℕ) (o : Result B ℕ) → r ≡ Err d → o ≡ Err d → o ≡ Err e → r ≡ Err e
same_err d e r o a b c =
    let h : Err d ≡ Err e = sym b ∙ c in
    let same : d ≡ e = cc in
    a ∙ ap Err same

bind_err : {A B : Type 0} (r : Result A ℕ) (f : A → Result B ℕ) (e : ℕ) → (r >>= f) ≡ Err e → (r ≡ Err e)
    ⊎ ((x : A) × ((r ≡ Ok x) × (f x ≡ Err e)))
bind_err (Ok x) f e h = inr (x, (refl, h))
bind_err {A} {B} (Err d) f e h = inl (same_err d e (Err d) ((Err d) >>= f) refl refl h)

guard_err : {A : Type 0} (b : Bool) (d e : ℕ) (x : A) → cond b (Err d) (Ok x) ≡ Err e → (b ≡ true) × (e ≡ d)
guard_err true d e x h = (refl, cc)
guard_err false d e x h = absurd cc

passed_err : {A : Type 0} (b : Bool) (d e : ℕ) (x : A) → cond b (Ok x) (Err d) ≡ Err e → (b ≡ false) × (e ≡ d)
passed_err true d e x h = absurd cc
passed_err false d e x h = (refl, cc)

number_place : (w : Width) (s : Unread) (at : ℕ) → number_at w s ≡ Err at → at ≡ s.at
unfolding number_at
number_place w s at e =
    (guard_err (ltb (length s.rest) (byte_len w)) s.at at (from_le_bytes w (take (byte_len w) s.rest), skip (byte_len w) s) e).1

within_place : (w : Width) (max : ℕ) (s : Unread) (at : ℕ) → within_at w max s ≡ Err at → at ≡ s.at
unfolding within_at
within_place w max s at e =
    elim (bind_err (number_at w s) (λ x. cond (ltb max x.0) (Err s.at) (Ok x)) at e) [
      | inl h ↦ number_place w s at h
      | inr p ↦ (guard_err (ltb max p.0.0) s.at at p.0 p.1.1).1
    ]

fixed_place : (b : ℕ) (s : Unread) (at : ℕ) → fixed_at b s ≡ Err at → at ≡ s.at
unfolding fixed_at
fixed_place b s at e =
    elim (bind_err (number_at w8 s) (λ n. cond (eqb n.0 b) (Ok n.1) (Err s.at)) at e) [
      | inl h ↦ number_place w8 s at h
      | inr p ↦ (passed_err (eqb p.0.0 b) s.at at p.0.1 p.1.1).1
    ]

truth_place : (s : Unread) (at : ℕ) → truth_at s ≡ Err at → at ≡ s.at
unfolding truth_at
truth_place s at e =
    elim (bind_err (within_at w8 1 s) (λ x. Ok (x.0 == 1, x.1)) at e) [
      | inl h ↦ within_place w8 1 s at h
      | inr p ↦ absurd (let h = p.1.1 in cc)
    ]

kept_place : (good : List ℕ → Bool) (o : Option (List ℕ)) (s : Unread) (at : ℕ) → kept good o s ≡ Err at → at ≡ s.at
kept_place good None s at e = cc
kept_place good (Some x) s at e = (passed_err (good x) s.at at (x, skip (length x + 1) s) e).1

kept_or_none_place : (o : Option (List ℕ)) (s : Unread) (at : ℕ) → kept_or_none o s ≡ Err at → at ≡ s.at
kept_or_none_place None s at e = cc
kept_or_none_place (Some []) s at e = absurd cc
kept_or_none_place (Some (b ∷ x)) s at e = (passed_err (is_digest (b ∷ x)) s.at at (Some (b ∷ x), skip (length (b ∷ x) + 1) s) e).1

raw_place : (n : ℕ) (s : Unread) (at : ℕ) → raw_at n s ≡ Err at → at ≡ s.at
unfolding raw_at
raw_place n s at e = (guard_err (ltb (length s.rest) n) s.at at (take n s.rest, skip n s) e).1

field_place : (f : Field) (s : Unread) (at : ℕ) → field_at f s ≡ Err at → at ≡ s.at
unfolding text_at digest_at optional_digest_at
field_place u8 s at e = number_place w8 s at e
field_place u16 s at e = number_place w16 s at e
field_place u32 s at e = number_place w32 s at e
field_place u64 s at e = number_place w64 s at e
field_place (within w max) s at e = within_place (count_width w) max s at e
field_place truth s at e = truth_place s at e
field_place (text n) s at e = kept_place (is_text n) (before_zero n s.rest) s at e
field_place digest s at e = kept_place is_digest (before_zero 32 s.rest) s at e
field_place optional_digest s at e = kept_or_none_place (before_zero 32 s.rest) s at e
field_place (raw n) s at e = raw_place n s at e

never : {A : Type 0} (x : A) (at : ℕ) (r : Result A ℕ) → r ≡ Err at → r ≡ Ok x → ⊥
never x at r e o = let h : Err at ≡ Ok x = sym e ∙ o in cc

field_stops : (f : Field) (s : Unread) (at : ℕ) → field_at f s ≡ Err at → FieldStops f s at
field_stops f s at e = (
  field_place f s at e,
  λ x after fits parts. never (x, unread (s.at + length (spelled f x)) after) at (field_at f s) e
      (ap (λ (bs : List ℕ). field_at f (unread s.at bs)) parts ∙ field_again f x s.at after fits),
)

fixed_stops : (b : ℕ) (s : Unread) (at : ℕ) → fixed_at b s ≡ Err at → FixedStops b s at
fixed_stops b s at e = (
  fixed_place b s at e,
  λ after parts. never (unread (s.at + 1) after) at (fixed_at b s) e (ap (λ (bs : List ℕ). fixed_at b (unread s.at bs)) parts
      ∙ fixed_again b s.at after),
)

goes : (s : Unread) (bytes : List ℕ) (t : Unread) → Takes s bytes t → GoesOver s bytes t
goes s bytes t taken = record { parts = taken.parts; place = taken.place }

-- ---- reading a field is exact, both ways

pub field_there : (f : Field) (s t : Unread) (x : Value f) → IsBytes s.rest → (field_at f s ≡ Ok (x, t)) ↔ (Fits f x
    × GoesOver s (spelled f x) t)
field_there f s t x fits = (
  λ e. let taken = field_takes f s x t fits e in (taken.1, goes s (spelled f x) t taken.0),
  λ there.
      ap (λ (bs : List ℕ). field_at f (unread s.at bs)) there.1.parts
      ∙ field_again f x s.at t.rest there.0
      ∙ ap (λ (n : ℕ). Ok (x, unread n t.rest)) (sym there.1.place),
)

absent_is : (f : Field) (s : Unread) (at : ℕ) (r : Result (Value f × Unread) ℕ) → IsBytes s.rest → field_at f s ≡ r → FieldStops f s at
    → r ≡ Err at
absent_is f s at (Ok x) fits e stops =
    let taken = field_takes f s x.0 x.1 fits e in
    absurd (stops.1 x.0 x.1.rest taken.1 taken.0.parts)
absent_is f s at (Err d) fits e stops = ap (λ (n : ℕ). Err n) (field_place f s d e ∙ sym stops.0)

pub field_absent : (f : Field) (s : Unread) (at : ℕ) → IsBytes s.rest → (field_at f s ≡ Err at) ↔ FieldStops f s at
field_absent f s at fits = (λ e. field_stops f s at e, λ stops. absent_is f s at (field_at f s) fits refl stops)

-- ---- where items and rows stop

item_stops : (fs : List Named) (s : Unread) (at : ℕ) → IsBytes s.rest → item_at fs s ≡ Err at → ItemStops fs s at
item_stops [] s at fits e = absurd cc
item_stops (f ∷ fs) s at fits e =
    elim (bind_err (field_at f.field s) (λ v. item_at fs v.1 >>= λ y. Ok ((v.0, y.0), y.1)) at e) [
      | inl h ↦ inl (field_stops f.field s at h)
      | inr p ↦
          let taken = field_takes f.field s p.0.0 p.0.1 fits p.1.0 in
          elim (bind_err (item_at fs p.0.1) (λ y. Ok ((p.0.0, y.0), y.1)) at p.1.1) [
            | inl h ↦ inr (
              p.0.0,
              (
                p.0.1,
                (
                  taken.1,
                  goes s (spelled f.field p.0.0) p.0.1 taken.0,
                  item_stops fs p.0.1 at taken.0.rest_fits
                      h,
                ),
              ),
            )
            | inr q ↦ absurd (let h = q.1.1 in cc)
          ]
    ]

items_stop : (fs : List Named) (n : ℕ) (s : Unread) (at : ℕ) → IsBytes s.rest → items_at fs n s ≡ Err at → ItemsStop fs n s at
unfolding items_at
items_stop fs zero s at fits e = absurd cc
items_stop fs (suc n) s at fits e =
    elim (bind_err (item_at fs s) (λ v. items_at fs n v.1 >>= λ y. Ok (v.0 ∷ y.0, y.1)) at e) [
      | inl h ↦ inl (item_stops fs s at fits h)
      | inr p ↦
          let taken = item_takes fs s p.0.0 p.0.1 fits p.1.0 in
          elim (bind_err (items_at fs n p.0.1) (λ y. Ok (p.0.0 ∷ y.0, y.1)) at p.1.1) [
            | inl h ↦ inr (
              p.0.0,
              (
                p.0.1,
                (
                  taken.1,
                  goes s (item_spelled fs p.0.0) p.0.1 taken.0,
                  items_stop fs n p.0.1 at
                      taken.0.rest_fits h,
                ),
              ),
            )
            | inr q ↦ absurd (let h = q.1.1 in cc)
          ]
    ]

marked_stops : (fs : List Named) (n : ℕ) (s : Unread) (at : ℕ) → IsBytes s.rest → marked_at fs n s ≡ Err at → MarkedStops fs n s at
unfolding marked_at
marked_stops fs zero s at fits e =
    elim (bind_err (within_at w8 0 s) (λ m. Ok ([], m.1)) at e) [
      | inl h ↦ field_stops (up_to 0) s at h
      | inr p ↦ absurd (let h = p.1.1 in cc)
    ]
marked_stops fs (suc n) s at fits e =
    elim (bind_err (within_at w8 1 s) (λ m. cond (eqb m.0 0) (Ok ([], m.1)) (item_at fs m.1 >>= λ x. marked_at fs n x.1 >>= λ ys. Ok
    (x.0 ∷ ys.0, ys.1))) at e) [
      | inl h ↦ inl (field_stops (up_to 1) s at h)
      | inr p ↦
          elim (chosen (eqb p.0.0 0) (Ok ([], p.0.1)) (item_at fs p.0.1 >>= λ x. marked_at fs n x.1 >>= λ ys. Ok (x.0 ∷ ys.0, ys.1))
          (Err at) p.1.1) [
            | inl h ↦ absurd (let g = h.1 in cc)
            | inr h ↦
                let count = field_takes (up_to 1) s p.0.0 p.0.1 fits p.1.0 in
                let mark : Takes s (1 ∷ []) p.0.1 =
                subst (λ (k : ℕ). Takes s (to_le_bytes w8 k) p.0.1) (is_one p.0.0 count.1.0 h.0) count.0 in
                inr (
                  p.0.1,
                  (
                    goes s (1 ∷ []) p.0.1 mark,
                    elim (bind_err (item_at fs p.0.1) (λ x. marked_at fs n x.1 >>= λ ys. Ok (x.0 ∷ ys.0, ys.1)) at h.1) [
                      | inl g ↦ inl (item_stops fs p.0.1 at mark.rest_fits g)
                      | inr q ↦
                          let taken = item_takes fs p.0.1 q.0.0 q.0.1 mark.rest_fits q.1.0 in
                          elim (bind_err (marked_at fs n q.0.1) (λ ys. Ok (q.0.0 ∷ ys.0, ys.1)) at q.1.1) [
                            | inl g ↦ inr (
                              q.0.0,
                              (
                                q.0.1,
                                (
                                  taken.1,
                                  goes p.0.1 (item_spelled fs q.0.0) q.0.1 taken.0,
                                  marked_stops fs n q.0.1 at taken.0.rest_fits g,
                                ),
                              ),
                            )
                            | inr z ↦ absurd (let g = z.1.1 in cc)
                          ]
                    ],
                  ),
                )
          ]
    ]

either_over : (a b : Bool) → (a || b) ≡ true → (a ≡ true) ⊎ (b ≡ true)
either_over true b e = inl refl
either_over false b e = inr e

pub row_stops : (M : Type 0) (r : Row) (make : Maker r M) (s : Unread) (at : ℕ) → IsBytes s.rest → row_at r make s ≡ Err at
    → RowStops r s at
row_stops M unknown make s at fits e = cc
row_stops M end make s at fits e =
    let g = passed_err (eqb (length s.rest) 0) s.at at make e in
    (g.1, grind (arith, g.0))
row_stops M (rest low high) make s at fits e =
    let g = guard_err (ltb (length s.rest) low || ltb high (length s.rest)) s.at at (make s.rest) e in (
      g.1,
      elim (either_over (ltb (length s.rest) low) (ltb high (length s.rest)) g.0) [
        | inl h ↦ inl (ltb-true _ _ h)
        | inr h ↦ inr (ltb-true _ _ h)
      ],
    )
row_stops M (f ▸ r) make s at fits e =
    elim (bind_err (field_at f.field s) (λ x. row_at r (make x.0) x.1) at e) [
      | inl h ↦ inl (field_stops f.field s at h)
      | inr p ↦
          let taken = field_takes f.field s p.0.0 p.0.1 fits p.1.0 in
          inr (
            p.0.0,
            (
              p.0.1,
              (
                taken.1,
                goes s (spelled f.field p.0.0) p.0.1 taken.0,
                row_stops M r (make p.0.0) p.0.1 at taken.0.rest_fits
                    p.1.1,
              ),
            ),
          )
    ]
row_stops M (fixed b r) make s at fits e =
    elim (bind_err (fixed_at b s) (λ t. row_at r make t) at e) [
      | inl h ↦ inl (fixed_stops b s at h)
      | inr p ↦
          let taken = fixed_takes b s p.0 fits p.1.0 in
          inr (p.0, (goes s (b ∷ []) p.0 taken, row_stops M r make p.0 at taken.rest_fits p.1.1))
    ]
row_stops M (counted w max fs r) make s at fits e =
    elim (bind_err (field_at (within w max) s) (λ n. items_at fs n.0 n.1 >>= λ xs. row_at r (make xs.0) xs.1) at e) [
      | inl h ↦ inl (field_stops (within w max) s at h)
      | inr p ↦
          let count = field_takes (within w max) s p.0.0 p.0.1 fits p.1.0 in
          inr (
            p.0.0,
            (
              p.0.1,
              (
                count.1,
                goes s (to_le_bytes (count_width w) p.0.0) p.0.1 count.0,
                elim (bind_err (items_at fs p.0.0 p.0.1) (λ xs. row_at r (make xs.0) xs.1) at p.1.1) [
                  | inl h ↦ inl (items_stop fs p.0.0 p.0.1 at count.0.rest_fits h)
                  | inr q ↦
                      let taken = items_take fs p.0.0 p.0.1 q.0.0 q.0.1 count.0.rest_fits q.1.0 in
                      inr (
                        q.0.0,
                        (
                          q.0.1,
                          (
                            taken.1,
                            goes p.0.1 (items_spelled fs q.0.0) q.0.1 taken.0,
                            row_stops M r (make q.0.0) q.0.1 at
                                taken.0.rest_fits q.1.1,
                          ),
                        ),
                      )
                ],
              ),
            ),
          )
    ]
row_stops M (marked max fs r) make s at fits e =
    elim (bind_err (marked_at fs max s) (λ xs. row_at r (make xs.0) xs.1) at e) [
      | inl h ↦ inl (marked_stops fs max s at fits h)
      | inr p ↦
          let taken = marked_take fs max s p.0.0 p.0.1 fits p.1.0 in
          inr (
            p.0.0,
            (
              p.0.1,
              (
                taken.1,
                goes s (marked_spelled fs p.0.0) p.0.1 taken.0,
                row_stops M r (make p.0.0) p.0.1 at
                    taken.0.rest_fits p.1.1,
              ),
            ),
          )
    ]
