-- Bytes that tell no world from which a game may start.
use Rattle.std.proofs.Common.{◌≡◌, ℕ, ◌≤◌, ◌<◌, ◌↔◌, List, length, sym, ◌∙◌, subst, arith, Result, Ok, Err}
use Rattle.tt_world.specs.World.{WorldState}
use Rattle.tt_map.specs.Maps.{IsMap}
use Rattle.tt_map.specs.declared.bad.MapBad.{MapBad}
use Rattle.tt_map.specs.declared.bad.MapBad.TheVariants as bad
use Rattle.tt_log.specs.Saved.{IsSaved, most_saved, last_start_day}
use Rattle.tt_server.specs.Saved.{IsNoSaved}

abbrev told : WorldState → Result WorldState MapBad
told w = Ok w

abbrev failed : MapBad → Result WorldState MapBad
failed why = Err why

-- what a decoder answers, unless memory is out: a world exactly where the bytes are its map
abbrev pub Decodes : List ℕ → Result WorldState MapBad → Type 0
Decodes bytes result = (result ≡ Err bad.Memory → ⊥) → (w : WorldState) → (result ≡ Ok w) ↔ IsMap bytes w

same_bad : (a b : MapBad) → failed a ≡ failed b → a ≡ b
same_bad a b e = cc

same_world : (v w : WorldState) → told v ≡ told w → v ≡ w
same_world v w e = cc

no_world : (w : WorldState) (why : MapBad) → told w ≡ failed why → ⊥
no_world w why e = absurd cc

-- where it answers a fault
pub no_map : (bytes : List ℕ) (result : Result WorldState MapBad) (why : MapBad) → length bytes ≤ most_saved → result ≡ Err why
    → (why ≡ bad.Memory → ⊥) → Decodes bytes result → IsNoSaved bytes
no_map bytes result why few e other map =
    let answered : result ≡ Err bad.Memory → ⊥ = λ m. other (same_bad why bad.Memory (sym e ∙ m)) in
    record {
      few = few;
      none = λ (saved : IsSaved bytes). no_world saved.world why (sym ((map answered saved.world).1 saved.is) ∙ e);
    }

-- where it answers a world of a later day
pub too_late : (bytes : List ℕ) (result : Result WorldState MapBad) (w : WorldState) → length bytes ≤ most_saved → result ≡ Ok w
    → last_start_day < w.day → Decodes bytes result → IsNoSaved bytes
too_late bytes result w few e late map =
    let answered : result ≡ Err bad.Memory → ⊥ = λ m. no_world w bad.Memory (sym e ∙ m) in
    record { few = few; none = λ (saved : IsSaved bytes). later saved (sym ((map answered saved.world).1 saved.is) ∙ e) }
  where
    later : (saved : IsSaved bytes) → told saved.world ≡ told w → ⊥
    later saved same =
        let day : w.day ≤ last_start_day = subst (λ (v : WorldState). v.day ≤ last_start_day) (same_world saved.world w same) saved.day in
        absurd (omega (arith, day, late))
