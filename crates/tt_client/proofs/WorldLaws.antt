-- A decoder of maps answers what the reading of their bytes gives.
use Rattle.std.proofs.Common.{◌≡◌, ◌≢◌, ◌↔◌, List, ℕ, zero, suc, [], ◌∷◌, ◌++◌, Result, Ok, Err, refl, sym, ap, ◌∙◌}
use Rattle.std.specs.Result.{result_ok}
use Rattle.tt_frame.specs.Packet.{IsBytes}
use Rattle.tt_world.specs.World.{WorldState}
use Rattle.tt_map.specs.Maps.{IsMap}
use Rattle.tt_map.specs.Reading.{map_in}
use Rattle.tt_map.specs.declared.bad.MapBad.{MapBad}
use Rattle.tt_map.specs.declared.bad.MapBad.TheVariants as bad
use Rattle.tt_map.proofs.MapLaws.{exactly, map_is_read}

abbrev pub R : Type 0
R = Result WorldState MapBad

by_both : (r m : R) → ((w : WorldState) → r ≡ Ok w → m ≡ Ok w) → ((w : WorldState) → m ≡ Ok w → r ≡ Ok w) → result_ok r ≡ result_ok m
by_both (Ok w) m there back = ap (λ (r : R). result_ok r) (sym (there w refl))
by_both (Err e) (Ok w) there back = absurd (let no : (let r : R = Err e in r) ≡ Ok w = back w refl in cc)
by_both (Err e) (Err f) there back = refl

pub decoded : (bytes all : List ℕ) (r : R) → bytes ≡ all → IsBytes bytes → r ≢ Err bad.Memory
    → (r ≢ Err bad.Memory → (w : WorldState) → (r ≡ Ok w) ↔ IsMap bytes w) → result_ok r ≡ result_ok (map_in all)
decoded bytes all r same fits answered map =
    by_both r (map_in bytes) (λ w e. map_is_read bytes w ((map answered w).0 e))
    (λ w e. (map answered w).1 ((exactly bytes (map_in bytes) (Ok w) fits refl).0 e))
    ∙ ap (λ (xs : List ℕ). result_ok (map_in xs)) same

pub ok_answered : (r : R) (w : WorldState) → r ≡ Ok w → r ≢ Err bad.Memory
ok_answered r w is e = let no : (let r : R = Ok w in r) ≡ Err bad.Memory = sym is ∙ e in absurd cc

pub err_answered : (r : R) (b : MapBad) → r ≡ Err b → (b ≡ bad.Memory → ⊥) → r ≢ Err bad.Memory
err_answered r b is other e = let same : (let r : R = Err b in r) ≡ Err bad.Memory = sym is ∙ e in let b_is : b ≡ bad.Memory = cc in other
    b_is

pub bytes_both : (xs ys : List ℕ) → IsBytes xs → IsBytes ys → IsBytes (xs ++ ys)
bytes_both [] ys a b i = b i
bytes_both (x ∷ xs) ys a b zero = a zero
bytes_both (x ∷ xs) ys a b (suc i) = bytes_both xs ys (λ j. a (suc j)) b i
