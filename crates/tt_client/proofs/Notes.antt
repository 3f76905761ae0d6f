-- Words that are noted by frame: where one's own is alone, no other was told.
use Rattle.std.proofs.Common.{◌≡◌, ℕ, suc, ◌≤◌, Bool, true, false, cond, List, [], ◌∷◌, ◌++◌, Option, Some, None, refl, sym, ap, ◌∙◌, arith}
use Rattle.std.specs.Prelude.{◌==◌, not, ◌&&◌}
use Rattle.std.specs.Ordering.{is_eq, nat_cmp}
use Rattle.std.specs.Cmp.{nat_cmp_is}
use Rattle.std.specs.declared.cmp.Ordering.TheVariants.{Less}
use Rattle.std.specs.BTreeMap.{get, is_at}
use Rattle.tt_lockstep.specs.Shown.{SyncPoint}
use Rattle.tt_client.specs.declared.noted.Noted.{Noted}
use Rattle.tt_client.specs.declared.noted.Noted.TheVariants.{One, Several}
use Rattle.tt_client.specs.Frames.{first_other}
use Rattle.tt_client.specs.Notes.{AreNoted, KeepsNotes, Notes, is_alone, is_among}

-- a word that was told is one's own, where that one is alone
alike : (told : Option Noted) (mine word : ℕ) → is_among told word ≡ true → is_alone told mine ≡ true → mine ≡ word
alike None mine word among alone = cc among
alike (Some (One first)) mine word among alone = grind (arith, among, alone)
alike (Some Several) mine word among alone = cc alone

-- none differs, where one's own is alone
pub none_other : (f mine : ℕ) (noted : Notes) (ss : List SyncPoint) → AreNoted f noted ss → is_alone (get nat_cmp noted f) mine ≡ true
    → first_other f mine ss ≡ None
none_other f mine noted [] all alone = refl
none_other f mine noted (s ∷ ss) all alone =
    let rest = none_other f mine noted ss all.1 alone in
    let by : (b : Bool) → (s.frame == f) ≡ b → cond (b && not (mine == s.word)) (Some s.word) (first_other f mine ss) ≡ None =
    λ b. elim b as (λ b. (s.frame == f) ≡ b → cond (b && not (mine == s.word)) (Some s.word) (first_other f mine ss) ≡ None) [
      | true ↦ λ is.
          let at : s.frame ≡ f = grind (arith, is) in
          let among = all.0 (omega (arith, at)) in
          let told : is_alone (get nat_cmp noted s.frame) mine ≡ true = ap (λ g. is_alone (get nat_cmp noted g) mine) at ∙ alone in
          let same : mine ≡ s.word = alike (get nat_cmp noted s.frame) mine s.word among told in
          let no : (mine == s.word) ≡ true = grind (arith, same) in
          ap (λ b. cond (not b) (Some s.word) (first_other f mine ss)) no ∙ rest
      | false ↦ λ is. rest
    ] in by (s.frame == f) refl

-- a frame is none of the later ones
pub apart : (f g : ℕ) → suc f ≤ g → is_at (nat_cmp f) g ≡ false
apart f g le = ap (λ o. is_eq o) (sym (nat_cmp_is f g Less le))

-- behind a frame, what was noted of it is not needed
pub noted_next : (f : ℕ) (old new : Notes) (ss : List SyncPoint)
    → ((g : ℕ) → suc f ≤ g → get nat_cmp new g ≡ get nat_cmp old g) → AreNoted f old ss → AreNoted (suc f) new ss
noted_next f old new [] same all = tt
noted_next f old new (s ∷ ss) same all =
    (λ le. ap (λ o. is_among o s.word) (same s.frame le) ∙ all.0 (omega (arith, le)), noted_next f old new ss same all.1)

-- more was noted, and words of later frames are asked for
pub noted_still : (f g : ℕ) (old new : Notes) (ss : List SyncPoint) → f ≤ g → KeepsNotes old new → AreNoted f old ss
    → AreNoted g new ss
noted_still f g old new [] le keeps all = tt
noted_still f g old new (s ∷ ss) le keeps all =
    (λ from. keeps s.frame s.word (all.0 (omega (arith, le, from))), noted_still f g old new ss le keeps all.1)

pub noted_append : (f : ℕ) (noted : Notes) (xs ys : List SyncPoint) → AreNoted f noted xs → AreNoted f noted ys
    → AreNoted f noted (xs ++ ys)
noted_append f noted [] ys one two = two
noted_append f noted (x ∷ xs) ys one two = (one.0, noted_append f noted xs ys one.1 two)
