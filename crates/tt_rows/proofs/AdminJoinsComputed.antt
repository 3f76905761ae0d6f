-- Both sides compute.
use Rattle.std.specs.Prelude.{refl}
use Rattle.tt_frame.specs.Reading.{number_at, within_at, truth_at, fixed_at, before_zero, text_at, digest_at, optional_digest_at, raw_at}
use Rattle.tt_frame.specs.ItemForms.{items_at, marked_at}
use Rattle.tt_frame.specs.Text.{is_text, is_digest}
use Rattle.std.specs.Str.{is_utf8, chars}
use Rattle.std.specs.Fmt.{digits}
use lib.Utf8.{encode}
use Rattle.md5.specs.Md5.{block_words, rounds, compress, hash_after, digest_bytes, md5}
use Rattle.hex.specs.Hex.{encode_with}
use Rattle.tt_world.specs.Commands.{new_id, new_name}
use Rattle.tt_log.specs.Rows.{word_at, rest_at, number_in, number_at as line_number_at}
use Rattle.tt_rows.proofs.AllTold.{all_told}
use Rattle.tt_rows.specs.Games.{ComesTo}
use Rattle.tt_rows.specs.AdminJoinsGames.{another_password, before_joining, doors_apart, greeted_and_answered, greeted_elsewhere}
use Rattle.tt_rows.specs.AdminJoinsGames.{joins_twice, just_in_time, leaves, names_wanted, no_password_set, packets_of_servers}
use Rattle.tt_rows.specs.AdminJoinsGames.{sixteen_aside, slow_to_join, spells_nothing, streams_break}

pub computed : ComesTo greeted_and_answered
    × ComesTo joins_twice
    × ComesTo names_wanted
    × ComesTo no_password_set
    × ComesTo another_password
    × ComesTo before_joining
    × ComesTo leaves
    × ComesTo packets_of_servers
    × ComesTo spells_nothing
    × ComesTo streams_break
    × ComesTo sixteen_aside
    × ComesTo slow_to_join
    × ComesTo just_in_time
    × ComesTo greeted_elsewhere
    × ComesTo doors_apart
unfolding number_at within_at truth_at fixed_at before_zero text_at digest_at optional_digest_at raw_at items_at marked_at is_text
    is_digest is_utf8 chars encode digits block_words rounds compress hash_after digest_bytes md5 encode_with new_id new_name
    word_at rest_at number_in line_number_at
computed = (
  ((refl, refl, tt), refl, refl, refl),
  ((refl, refl, (refl, refl, tt)), refl, refl, refl),
  ((refl, refl, (refl, refl, (refl, refl, tt))), refl, refl, refl),
  ((refl, refl, (refl, refl, tt)), refl, refl, refl),
  (all_told another_password 1 another_password.conns refl, refl, refl, refl),
  (all_told before_joining 1 before_joining.conns refl, refl, refl, refl),
  ((refl, refl, (refl, refl, (refl, refl, tt))), refl, refl, refl),
  ((refl, refl, (refl, refl, tt)), refl, refl, refl),
  (all_told spells_nothing 1 spells_nothing.conns refl, refl, refl, refl),
  ((refl, refl, (refl, refl, tt)), refl, refl, refl),
  (all_told sixteen_aside 1 sixteen_aside.conns refl, refl, refl, refl),
  ((refl, refl, (refl, refl, (refl, refl, tt))), refl, refl, refl),
  ((refl, refl, tt), refl, refl, refl),
  ((refl, refl, (refl, refl, tt)), refl, refl, refl),
  (all_told doors_apart 1 doors_apart.conns refl, refl, refl, refl),
)
