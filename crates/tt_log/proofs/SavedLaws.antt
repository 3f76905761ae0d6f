-- The map of a saved game is read where its bytes tell one, and nothing else is.
use Rattle.std.proofs.Common.{◌≡◌, ◌≢◌, ◌↔◌, ℕ, ◌≤◌, List, length, true, false, Result, Ok, Err, Some, refl, sym, ap, ◌∙◌}
use Rattle.std.specs.Prelude.{nat_le, ◌&&◌}
use Rattle.std.proofs.lemmas.Bool.{and_parts, false≢true}
use Rattle.tt_frame.specs.Packet.{IsBytes}
use Rattle.tt_frame.proofs.TestLaws.{le_of_test, test_of_le}
use Rattle.tt_world.specs.World.{WorldState}
use Rattle.tt_map.specs.Maps.{IsMap}
use Rattle.tt_map.specs.Reading.{map_in}
use Rattle.tt_map.specs.declared.bad.MapBad.{MapBad}
use Rattle.tt_map.specs.declared.bad.MapBad.TheVariants as bad
use Rattle.tt_map.proofs.MapLaws.{exactly, map_is_read}
use Rattle.tt_log.specs.Saved.{most_saved, last_start_day, IsSaved}
use Rattle.tt_log.specs.Rows.{may_start, saved_within}
use Rattle.tt_log.proofs.ValueLaws.{if_some}

pub starts : (bytes : List ℕ) (w : WorldState) → IsMap bytes w → nat_le w.day last_start_day ≡ may_start (map_in bytes)
starts bytes w is = ap (λ (r : Result WorldState MapBad). may_start r) (sym (map_is_read bytes w is))

starts_not_by : (r : Result WorldState MapBad) → ((w : WorldState) → r ≡ Ok w → false ≡ true) → false ≡ may_start r
starts_not_by (Ok w) never = absurd (false≢true (never w refl))
starts_not_by (Err told) never = refl

abbrev failed : MapBad → Result WorldState MapBad
failed told = Err told

same_bad : (a b : MapBad) → failed a ≡ failed b → a ≡ b
same_bad a b e = cc

no_world : (w : WorldState) (told : MapBad) → Ok w ≡ failed told → false ≡ true
no_world w told e = absurd cc

-- bytes that are no map start no game
pub starts_not : (bytes : List ℕ) → IsBytes bytes → ((w : WorldState) → IsMap bytes w → false ≡ true) → false ≡ may_start (map_in bytes)
starts_not bytes fits never = starts_not_by (map_in bytes) (λ w e. never w ((exactly bytes (map_in bytes) (Ok w) fits refl).0 e))

-- a decoder that answers something else than want of memory was handed no map
pub bad_starts_not : (bytes : List ℕ) (result : Result WorldState MapBad) (told : MapBad) → IsBytes bytes → result ≡ Err told
    → told ≢ bad.Memory
    → (result ≢ Err bad.Memory → (w : WorldState) → (result ≡ Ok w) ↔ IsMap bytes w) → false ≡ may_start (map_in bytes)
bad_starts_not bytes result told fits is other map =
    let answered : result ≢ Err bad.Memory = λ e. other (same_bad told bad.Memory (sym is ∙ e)) in
    starts_not bytes fits (λ w found. no_world w told (sym ((map answered w).1 found) ∙ is))

started_by : (bytes : List ℕ) (r : Result WorldState MapBad) → IsBytes bytes → length bytes ≤ most_saved → map_in bytes ≡ r
    → may_start r ≡ true → IsSaved bytes
started_by bytes (Ok w) fits few read e =
    record { few = few; world = w; is = (exactly bytes (map_in bytes) (Ok w) fits refl).0 read; day = le_of_test w.day last_start_day e }
started_by bytes (Err told) fits few read e = absurd (false≢true e)

pub saved_found : (bytes : List ℕ) → IsSaved bytes → saved_within bytes ≡ Some bytes
saved_found bytes is =
    let day = test_of_le is.world.day last_start_day is.day in
    let starts = sym (starts bytes is.world is.is) ∙ day in
    rw (test_of_le (length bytes) most_saved is.few, starts) refl

pub saved_back : (bytes kept : List ℕ) → IsBytes bytes → saved_within bytes ≡ Some kept → (bytes ≡ kept) × IsSaved bytes
saved_back bytes kept fits e =
    let got = if_some (nat_le (length bytes) most_saved && may_start (map_in bytes)) bytes kept e in
    let parts = and_parts (nat_le (length bytes) most_saved) (may_start (map_in bytes)) got.0 in
    (got.1, started_by bytes (map_in bytes) fits (le_of_test (length bytes) most_saved parts.0) refl parts.1)
